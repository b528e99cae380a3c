-- What the rules' side has as a connection is lost.
use Rattle.std.proofs.Common.{◌≡◌, ℕ, ◌+◌, cond, Bool, true, false, List, [], ◌∷◌, refl, subst}
use Rattle.iscsi_wire.specs.Fields.{request_of}
use Rattle.iscsi_rules.specs.declared.effect.Effect.{Effect}
use Rattle.iscsi_rules.specs.declared.event.Event.{Event}
use Rattle.iscsi_rules.specs.declared.event.Event.TheVariants.{Arrive}
use Rattle.iscsi_rules.specs.promises.Order.{in_parts}
use Rattle.iscsi_rules.specs.rules.Agenda.{arrival_of, items_of}
use Rattle.iscsi_rules.specs.rules.Run.{effects_of}
use Rattle.iscsi_rules.specs.rules.Trace.{Arrival, Command, live, was_free}
use Rattle.iscsi_rules.proofs.general.ElementLemmas.{In}
use Rattle.iscsi_rules.proofs.items.FormRuns.{event_going as event_forms}
use Rattle.iscsi_outbox_rules.specs.rules.Calls as outbox
use Rattle.iscsi_outbox_rules.specs.rules.Words.{contains}
use Rattle.iscsi_outbox_rules.proofs.closes.ClosedParts.{Parts, effects_each, event_parts}
use Rattle.iscsi_outbox_rules.proofs.room.RoomSends.{Formed, event_going}
use Rattle.iscsi_outbox_law.specs.private.Sound.{IsSound, NoneIsFresh}
use Rattle.iscsi_outbox_law.proofs.invariants.SoundRuns.{SoundItems}
use Rattle.iscsi_ffi_rules.specs.rules.Calls.{Interface}
use Rattle.iscsi_ffi_rules.specs.rules.Run.{is_lost, parting}
use Rattle.iscsi_ffi_rules.specs.rules.Sides.{Side}
use Rattle.iscsi_ffi_law.specs.Arrived.{AreLeavingFit, items_then}
use Rattle.iscsi_ffi_law.specs.Sides.{AreItemsFit, IsOpening}
use Rattle.iscsi_ffi_law.proofs.premises.FitFacts.{limits}
use Rattle.iscsi_ffi_law.proofs.side_invariants.FitHolds.{loss_read}
use Rattle.iscsi_ffi_law.proofs.session_invariants.FitLeaving.{arrival_fit, mid_begun}
use Rattle.iscsi_ffi_law.proofs.outbox_invariants.FitPhases.{freed_call}
use Rattle.iscsi_ffi_law.proofs.outbox_invariants.FitReached.{sound_event, sound_reached}
use Rattle.iscsi_ffi_law.proofs.side_invariants.FitSides.{IsGood, good_other}
use Rattle.iscsi_ffi_law.proofs.items.QuietBox.{empty_item}
use Rattle.iscsi_ffi_law.proofs.side_invariants.FitLasts.{Lasts}
use Rattle.iscsi_ffi_law.proofs.outbox_invariants.FitFollows.{IsTogether, together_other}
use Rattle.iscsi_ffi_rules.specs.rules.Happening.{other}
use Rattle.iscsi_rules.specs.rules.Settings.{is_known}
use Rattle.iscsi_ffi_law.proofs.arrivals.Turns.{becomes}

-- what is known of the commands that leave as a connection is lost
module _ (i : Interface) (opening : IsOpening i) (n : ℕ) (r : Side) (cid : ℕ) (l : Lasts i n r) (told_is : (c : Command) → In c (live r.both.trace) → contains r.told c.ticket ≡ was_free c r.both.trace) where
  abbrev s : Side
  s = other i r (outbox.Loses cid)

  abbrev e : Event
  e = Arrive cid (parting cid)

  abbrev each : List (List Effect)
  each = effects_each i.outbox.session s.both.trace (items_of i.outbox.session s.both.event s.both.trace e)

  abbrev whole : List (List Effect)
  whole = in_parts (effects_of i.outbox.session s.both.trace (items_of i.outbox.session s.both.event s.both.trace e))

  good : IsGood i.outbox (n + 1) s.both
  good = good_other i.outbox n r.both (outbox.Loses cid) refl l.holds.good

  together : IsTogether i.outbox s.both
  together = together_other i.outbox r.both (outbox.Loses cid) tt l.holds.together

  both : IsSound i.outbox s.both.box × NoneIsFresh s.both.box
  both = sound_reached i.outbox (limits i opening).distinct s.both good.reached

  parts : Parts i.outbox.session s.both.trace (items_of i.outbox.session s.both.event s.both.trace e)
  parts = event_parts i.outbox.session (Formed i.outbox.session (λ c. false)) (λ u item x. x) s.both.event s.both.trace e (event_going i.outbox.session (λ c. false) s.both.event s.both.trace e).each

  -- what holds of the parts holds of the items
  pub loss_items : AreItemsFit i.outbox s.both.box whole → AreItemsFit i.outbox s.both.box each
  loss_items x = by_lead parts.lead (subst (AreItemsFit i.outbox s.both.box) parts.are x)
    where
      by_lead : (v : Bool) → AreItemsFit i.outbox s.both.box (cond v ([] ∷ each) each) → AreItemsFit i.outbox s.both.box each
      by_lead true y = subst (λ b. AreItemsFit i.outbox b each) (empty_item i.outbox s.both.box both.0) y.1
      by_lead false y = y

  pub loss_leaves : AreItemsFit i.outbox s.both.box whole → AreLeavingFit i s (items_then i s cid (parting cid))
  loss_leaves items =
      let a : Arrival = arrival_of i.outbox.session s.both.event s.both.trace (request_of cid (parting cid)) in
      arrival_fit i s (s.both.event + 1) a refl together.forms (items_then i s cid (parting cid)) (becomes i.outbox.session s.both.trace a) (event_forms i.outbox.session s.both.event s.both.trace e together.forms) (loss_items items)
      (mid_begun i s l.replied (freed_call i.outbox r.both.box (outbox.Loses cid) r.both.trace tt l.freed) l.holds.told together.lives both.0 both.1 told_is)

  -- .. and that its box holds together before each item, and behind the last one
  pub loss_sound : is_known cid i.outbox.session.conns ≡ true → is_lost r cid ≡ false → SoundItems i.outbox s.both.box each
  loss_sound known kept = by_lead parts.lead (subst (SoundItems i.outbox s.both.box) parts.are (sound_event i.outbox (limits i opening).distinct s.both e (loss_read i (limits i opening).distinct n r cid known kept) good.reached))
    where
      by_lead : (v : Bool) → SoundItems i.outbox s.both.box (cond v ([] ∷ each) each) → SoundItems i.outbox s.both.box each
      by_lead true y = subst (λ b. SoundItems i.outbox b each) (empty_item i.outbox s.both.box both.0) y.1.1
      by_lead false y = y
