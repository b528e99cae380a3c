-- What is premised of the loss of an open connection holds.
use Rattle.std.proofs.Common.{◌≡◌, ℕ, ◌+◌, ◌==◌, ⊎_elim, nat_lt, true, false, List, [], ◌∷◌, length, count_by, filter_map, refl, ap, sym, subst, ◌∙◌, arith, eq-eqb}
use Rattle.iscsi_wire.specs.Fields.{cmd_sn, connection_of}
use Rattle.iscsi_wire.specs.Serial.{wire}
use Rattle.iscsi_rules.specs.promises.Replies.{replies_to}
use Rattle.iscsi_rules.specs.rules.Logout.{is_open}
use Rattle.iscsi_rules.specs.rules.Settings.{is_known}
use Rattle.iscsi_rules.specs.rules.Trace.{Arrival, Command, Mark, Trace, entered, is_closed, live, waiting, was_free}
use Rattle.iscsi_rules.proofs.promises.CloseRuns.{clear_of}
use Rattle.iscsi_rules.proofs.general.ElementLemmas.{In}
use Rattle.iscsi_rules.proofs.promises.ReplyForms.{comes_of, is_of}
use Rattle.iscsi_rules.proofs.promises.ReplyRuns.{becoming, becoming_once, one_most, standing, standing_once}
use Rattle.iscsi_rules.proofs.promises.ReplyTurns.{awaited, owed}
use Rattle.iscsi_outbox_rules.specs.rules.Calls as outbox
use Rattle.iscsi_outbox_rules.specs.rules.Run.{after_call}
use Rattle.iscsi_outbox_rules.specs.rules.Words.{contains}
use Rattle.iscsi_outbox_rules.proofs.closes.ClosedParts.{effects_each}
use Rattle.iscsi_outbox_law.specs.private.Pairs.{EachOf}
use Rattle.iscsi_outbox_law.proofs.invariants.SoundRuns.{SoundItems}
use Rattle.iscsi_ffi_rules.specs.rules.Calls.{Interface}
use Rattle.iscsi_ffi_rules.specs.rules.Happening.{other}
use Rattle.iscsi_ffi_rules.specs.rules.Run.{is_lost, parting}
use Rattle.iscsi_ffi_rules.specs.rules.Sides.{Side}
use Rattle.iscsi_ffi_law.specs.Arrived.{AreLeavingFit, emptying, items_then}
use Rattle.iscsi_ffi_law.specs.Fit.{IsFit, IsOrderly}
use Rattle.iscsi_ffi_law.specs.Lost.{IsLogoutFit, IsOpenLoss, IsPast}
use Rattle.iscsi_ffi_law.specs.Sides.{AreItemsFit, IsLossFit, IsOpening}
use Rattle.iscsi_ffi_law.proofs.side_invariants.FitLasts.{Lasts}
use Rattle.iscsi_ffi_law.proofs.session_invariants.FitLeaving.{unheld}
use Rattle.iscsi_ffi_law.proofs.losses.LossFit.{loss_items, loss_leaves, loss_sound}
use Rattle.iscsi_ffi_law.proofs.losses.LossItem.{emptied_as_came, one_item, the_item}
use Rattle.iscsi_ffi_law.proofs.general.Members.{any_counted, in_any, in_counted, in_each}

module _ (i : Interface) (n : ℕ) (r : Side) (lasts : Lasts i n r) where
  abbrev t : Trace
  t = r.both.trace

  past : (e : ℕ) → awaited e t ≡ 0 → IsPast t e
  past e none =
      let split : awaited e t ≡ count_by (is_of e) (waiting t) + count_by (is_of e) (owed t) = refl in
      let unowed : count_by (is_of e) (owed t) ≡ 0 = omega (arith, none, split) in
      let unwaiting : count_by (is_of e) (waiting t) ≡ 0 = omega (arith, none, split) in
      record { held = unheld e t unowed; waiting = any_counted (is_of e) (waiting t) ∙ ap (nat_lt 0) unwaiting }

  -- what was answered has its reply, or stands no more
  answered_past : (e : ℕ) → In e r.answers → IsPast t e
  answered_past e there =
      let split : standing e t ≡ length (replies_to e t) + count_by (comes_of e) (live t) + awaited e t = refl in
      past e (⊎_elim
      (λ some. let once = standing_once i.outbox.session e t r.both.event lasts.holds.together.forms in let most = one_most (nat_lt e r.both.event) in omega (arith, some, once, most, split))
      (λ none. let zero : standing e t ≡ 0 = none.1 in omega (arith, zero, split)) (lasts.replied e (in_any (λ (k : ℕ). k == e) r.answers e there (eq-eqb e e refl))))

  -- that of which the command entered executed
  entered_past : (c : Command) → In c (entered t) → IsPast t c.arrival.event
  entered_past c there =
      let e : ℕ = c.arrival.event in
      let split : becoming e t ≡ count_by (comes_of e) (entered t) + awaited e t = refl in
      let some = in_counted (comes_of e) (entered t) c there (eq-eqb e e refl) in
      let once = becoming_once i.outbox.session e t r.both.event lasts.holds.together.forms in
      let most = one_most (nat_lt e r.both.event) in
      past e (omega (arith, some, once, most, split))

  module _ (opening : IsOpening i) (told_is : (c : Command) → In c (live r.both.trace) → contains r.told c.ticket ≡ was_free c r.both.trace) (cid : ℕ) (known : is_known cid i.outbox.session.conns ≡ true) (kept : is_lost r cid ≡ false) (unclosed : is_closed cid r.both.trace ≡ false)
      (leaves : IsFit i r.both.box (after_call i.outbox r.both.box (outbox.Loses cid))) (orderly : IsOrderly r) (loss : IsLossFit i r cid) where
    abbrev x : Side
    x = other i r (outbox.Loses cid)

    logout : (item : List Mark) → items_then i x cid (parting cid) ≡ item ∷ [] → IsLogoutFit i x item
    logout item is = record {
      fit = (subst (λ items. AreItemsFit i.outbox x.both.box (effects_each i.outbox.session x.both.trace items)) is (loss_items i opening n r cid lasts told_is loss.fit.items)).0;
      leaves = (subst (AreLeavingFit i x) is (loss_leaves i opening n r cid lasts told_is loss.fit.items)).0;
      emptied = subst (λ ms. EachOf (λ (b : Arrival). wire b.number ≡ cmd_sn b.request) (filter_map emptying ms)) the_same (emptied_as_came i.outbox.session r.both.event r.both.trace cid known unclosed lasts.holds.turned.ahead lasts.holds.wires);
      behind = (subst (λ items. SoundItems i.outbox x.both.box (effects_each i.outbox.session x.both.trace items)) is (loss_sound i opening n r cid lasts told_is known kept)).1.1;
    }
      where
        the_same : the_item i.outbox.session r.both.event r.both.trace cid known unclosed lasts.holds.turned.ahead ≡ item
        the_same = (let both = sym (one_item i.outbox.session r.both.event r.both.trace cid known unclosed lasts.holds.turned.ahead) ∙ is in cc)

    pub loss_holds : IsOpenLoss i r cid
    loss_holds = record {
      leaves = leaves;
      orderly = orderly;
      known = known;
      kept = kept;
      unclosed = unclosed;
      before = (let h = lasts.holds in record { asked = h.asked; answers = h.answers; entered = h.earlier.entered_by; admitted = h.earlier.admitted; waiting = h.earlier.waits });
      answered = in_each (IsPast t) r.answers answered_past;
      entered_past = in_each (λ (c : Command). IsPast t c.arrival.event) (entered t) entered_past;
      waits = in_each (λ (a : Arrival). is_open i.outbox.session t (connection_of a.request) ≡ true) (waiting t) (clear_of i.outbox.session t lasts.holds.together.sounds).waits;
      ahead = lasts.holds.turned.ahead;
      event = loss;
      logout = logout;
    }
