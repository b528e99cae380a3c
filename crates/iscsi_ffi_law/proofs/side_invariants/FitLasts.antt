-- What holds of a side behind so many calls, with what is known of its replies and of the phases of its commands.
use Rattle.std.proofs.Common.{◌≡◌, ℕ, ◌+◌, true, false, List, None, refl}
use Rattle.iscsi_rules.specs.declared.event.Event.{Event}
use Rattle.iscsi_rules.specs.declared.event.Event.TheVariants.{Arrive, Done}
use Rattle.iscsi_rules.specs.rules.Settings.{are_distinct, is_known}
use Rattle.iscsi_rules.specs.rules.Trace.{is_closed}
use Rattle.iscsi_outbox_rules.specs.rules.Calls as outbox
use Rattle.iscsi_outbox_law.proofs.invariants.SoundCalls.{TakesNone}
use Rattle.iscsi_ffi_rules.specs.rules.Calls.{Interface}
use Rattle.iscsi_ffi_rules.specs.rules.Happening.{happening, other}
use Rattle.iscsi_ffi_rules.specs.rules.Run.{heard_in, is_lost, parting, refusal_of, tag_heard, word_at}
use Rattle.iscsi_ffi_rules.specs.rules.Sides.{Side, opened}
use Rattle.iscsi_ffi_law.specs.Sides.{AreBytes, asking}
use Rattle.iscsi_ffi_law.proofs.outbox_invariants.FitFollows.{IsTogether, together_other}
use Rattle.iscsi_ffi_law.proofs.side_invariants.FitHolds.{Holds, holds_begun, holds_heard, holds_walk}
use Rattle.iscsi_ffi_law.proofs.outbox_invariants.FitPhases.{AreFreed, freed_call, freed_event}
use Rattle.iscsi_ffi_law.proofs.session_invariants.FitReplied.{AreReplied, replied_event}
use Rattle.iscsi_ffi_law.proofs.side_invariants.FitWalks.{IsSimple, SideWalk}

pub record Lasts (i : Interface) (k : ℕ) (s : Side) : Type 0 where
  pub holds : Holds i k s
  pub replied : AreReplied s.both.event s.both.trace s.answers
  pub freed : AreFreed i.outbox s.both.trace s.both.box

pub lasts_begun : (i : Interface) → Lasts i 0 (opened i)
lasts_begun i = record {
  holds = holds_begun i;
  replied = λ e there. absurd (let no : ⊥ = cc in no);
  freed = record { homes = refl; low = tt; apart = refl; units = tt; dormant = λ c there. absurd there };
}

simple_takes : (c : outbox.Call) → IsSimple c → TakesNone c
simple_takes (outbox.Takes effects numbers) simple = absurd simple
simple_takes (outbox.Puts p) simple = tt
simple_takes (outbox.Stops ticket) simple = tt
simple_takes (outbox.Nexts conn) simple = tt
simple_takes (outbox.Writes conn) simple = tt
simple_takes (outbox.Hears conn exp_stat_sn tag) simple = tt
simple_takes (outbox.Joins conn stat_sn) simple = tt
simple_takes (outbox.Loses conn) simple = absurd simple
simple_takes (outbox.Clears unit) simple = tt

module _ (i : Interface) where
  -- by an event, whatever holds behind it
  lasts_event : (k : ℕ) (s : Side) (e : Event) → IsTogether i.outbox s.both → AreReplied s.both.event s.both.trace s.answers → AreFreed i.outbox s.both.trace s.both.box → Holds i k (happening i s e).side → Lasts i k (happening i s e).side
  lasts_event k s e together replied freed holds = record {
    holds = holds;
    replied = replied_event i.outbox.session s.both.event s.both.trace e s.answers together.forms replied;
    freed = freed_event i.outbox s.both.event s.both.trace e s.both.box together.forms freed;
  }

  lasts_other : (k : ℕ) (s : Side) (c : outbox.Call) → TakesNone c → Holds i k (other i s c) → AreReplied s.both.event s.both.trace s.answers → AreFreed i.outbox s.both.trace s.both.box → Lasts i k (other i s c)
  lasts_other k s c none holds replied freed = record { holds = holds; replied = replied; freed = freed_call i.outbox s.both.box c s.both.trace none freed }

  module _ (distinct : are_distinct i.outbox.session.conns ≡ true) where
    w : SideWalk i AreBytes (Holds i)
    w = holds_walk i distinct

    lasts_arrival : (k : ℕ) (s : Side) (cid : ℕ) (header : List ℕ) (cookie : ℕ) → refusal_of i s cid ≡ None → AreBytes header → Lasts i k s → Lasts i (k + 1) (happening i (asking (heard_in i s cid header) cookie) (Arrive cid header)).side
    lasts_arrival k s cid header cookie is bytes h =
        let g = holds_heard i distinct k s cid header h.holds in
        lasts_event (k + 1) (asking (heard_in i s cid header) cookie) (Arrive cid header) g.together h.replied (freed_call i.outbox s.both.box (outbox.Hears cid (word_at 28 header) (tag_heard header)) s.both.trace tt h.freed) (w.arrives k s cid header cookie is bytes h.holds)

    lasts_loss : (k : ℕ) (s : Side) (cid : ℕ) → is_known cid i.outbox.session.conns ≡ true → is_lost s cid ≡ false → is_closed cid s.both.trace ≡ false → Lasts i k s → Lasts i (k + 1) (happening i (other i s (outbox.Loses cid)) (Arrive cid (parting cid))).side
    lasts_loss k s cid known kept unclosed h =
        lasts_event (k + 1) (other i s (outbox.Loses cid)) (Arrive cid (parting cid)) (together_other i.outbox s.both (outbox.Loses cid) tt h.holds.together) h.replied (freed_call i.outbox s.both.box (outbox.Loses cid) s.both.trace tt h.freed) (w.loses k s cid known kept unclosed h.holds)

    pub lasts_walk : SideWalk i AreBytes (Lasts i)
    lasts_walk = record {
      completes = λ k s ticket status c is h. lasts_event k s (Done ticket status) h.holds.together h.replied h.freed (w.completes k s ticket status c is h.holds);
      arrives = lasts_arrival;
      loses = lasts_loss;
      loses_closed = λ k s cid known kept closed h. lasts_other (k + 1) s (outbox.Loses cid) tt (w.loses_closed k s cid known kept closed h.holds) h.replied h.freed;
      calls = λ k s c simple h. lasts_other (k + 1) s c (simple_takes c simple) (w.calls k s c simple h.holds) h.replied h.freed;
      clears = λ k s unit h. record { holds = w.clears k s unit h.holds; replied = h.replied; freed = h.freed };
      forgets = λ k s p h. record { holds = w.forgets k s p h.holds; replied = h.replied; freed = h.freed };
      beside = λ k s noted handed awake over h. record { holds = w.beside k s noted handed awake over h.holds; replied = h.replied; freed = h.freed };
      more = λ k s h. record { holds = w.more k s h.holds; replied = h.replied; freed = h.freed };
    }
