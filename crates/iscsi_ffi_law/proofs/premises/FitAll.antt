-- Every side is fit, and so is every call.
use Rattle.std.proofs.Common.{ℕ, ◌+◌, ◌^◌, ◌≤◌, ◌<◌, not, cond, List, [], ◌∷◌, length, Some, None, ap, arith}
use Rattle.std.proofs.lemmas.Bool.{and_parts}
use Rattle.iscsi_rules.specs.declared.event.Event.TheVariants.{Arrive, Done}
use Rattle.iscsi_rules.specs.rules.Trace.{is_closed}
use Rattle.iscsi_outbox_rules.specs.rules.Calls as outbox
use Rattle.iscsi_outbox_rules.specs.rules.Words.{contains}
use Rattle.iscsi_ffi_rules.specs.declared.refusal.Refusal.TheVariants.{NotJoined, UnknownConnection}
use Rattle.iscsi_ffi_rules.specs.promises.Deeds.{side_after, side_of}
use Rattle.iscsi_ffi_rules.specs.rules.Calls.{Arrives, Call, Cleared, Clears, Completes, Hears, Interface, Joins, Loses, Nexts, Puts, Stops, Writes}
use Rattle.iscsi_ffi_rules.specs.rules.Clearing.{TASK_ABORTED}
use Rattle.iscsi_ffi_rules.specs.rules.Happening.{Told, happens, other, quiet}
use Rattle.iscsi_ffi_rules.specs.rules.Run.{Answered, Refused, after_call, answers, done, heard_in, is_going, is_lost, parting, stopped}
use Rattle.iscsi_ffi_rules.specs.rules.Sides.{Side, opened}
use Rattle.iscsi_ffi_law.specs.Sides.{AreBytes, AreFitFrom, IsCallFit, IsOfBytes, IsOpening, IsShort, asking}
use Rattle.iscsi_outbox_law.specs.private.Pairs.{EachOf}
use Rattle.iscsi_ffi_law.proofs.premises.FitFacts.{limits}
use Rattle.iscsi_ffi_law.proofs.side_invariants.FitHolds.{Holds, holds_begun, holds_walk}
use Rattle.iscsi_ffi_law.proofs.premises.FitPremises.{all_done, loss_fit, side_fit, taken_fit}
use Rattle.iscsi_ffi_law.proofs.side_invariants.FitWalks.{OfCall, going_there, no_fewer_then, on_call}

pub of_call : (c : Call) → IsOfBytes c → OfCall AreBytes c
of_call (Arrives cid header cookie) bytes = bytes
of_call (Completes ticket status) bytes = tt
of_call (Stops ticket) bytes = tt
of_call (Nexts cid) bytes = tt
of_call (Puts p cookie) bytes = tt
of_call (Writes cid) bytes = tt
of_call (Hears cid exp_stat_sn tag) bytes = tt
of_call (Joins cid stat_sn) bytes = tt
of_call (Loses cid) bytes = tt
of_call (Clears unit) bytes = tt
of_call (Cleared unit) bytes = tt

module _ (i : Interface) (opening : IsOpening i) where
  abbrev event_after : Answered → ℕ
  event_after a = a.told.side.both.event

  -- ---- in a call

  call_fit : (n : ℕ) (r : Side) (c : Call) → IsOfBytes c → Holds i n r → n + 2 < 2 ^ 63 → (after_call i r c).told.side.both.event ≤ 2 ^ 48 → (after_call i r c).told.side.both.event ≤ i.outbox.session.events → IsCallFit i r c
  call_fit n r (Arrives cid header cookie) bytes h few early left = λ is.
      let s : Side = heard_in i r cid header in
      let same = ap (λ x. event_after (elim x as (λ y. Answered) [ Some refusal ↦ answers r (Refused refusal) | None ↦ done (happens i (asking s cookie) (Arrive cid header)) ])) is in
      taken_fit i opening n r cid header cookie is bytes h few (omega (arith, same, early)) (omega (arith, same, left))
  call_fit n r (Completes ticket status) bytes h few early left = λ is.
      let there = going_there r ticket is in
      let st : ℕ = cond (contains r.marked ticket) TASK_ABORTED status in
      let same = ap (λ v. event_after (cond v (done (happens i r (Done ticket st))) (stopped i r ticket))) is in
      all_done i opening n r ticket st there.0 there.1 h (omega (arith, few)) (omega (arith, same, early)) (omega (arith, same, left))
  call_fit n r (Stops ticket) bytes h few early left = λ is.
      let there = going_there r ticket (and_parts (is_going r ticket) (contains r.marked ticket) is).0 in
      let same = ap (λ v. event_after (cond v (done (happens i r (Done ticket TASK_ABORTED))) (stopped i r ticket))) is in
      all_done i opening n r ticket TASK_ABORTED there.0 there.1 h (omega (arith, few)) (omega (arith, same, early)) (omega (arith, same, left))
  call_fit n r (Loses cid) bytes h few early left = λ known kept unclosed.
      let s : Side = other i r (outbox.Loses cid) in
      let lost : Told = happens i s (Arrive cid (parting cid)) in
      let first = ap (λ v. event_after (cond (not v) (answers r (Refused UnknownConnection)) (cond (is_lost r cid) (answers r (Refused NotJoined)) (done (cond (is_closed cid r.both.trace) (quiet s) lost))))) known in
      let second = ap (λ v. event_after (cond v (answers r (Refused NotJoined)) (done (cond (is_closed cid r.both.trace) (quiet s) lost)))) kept in
      let third = ap (λ v. event_after (done (cond v (quiet s) lost))) unclosed in
      loss_fit i opening n r cid known kept unclosed h few (omega (arith, first, second, third, early)) (omega (arith, first, second, third, left))
  call_fit n r (Nexts cid) bytes h few early left = tt
  call_fit n r (Puts p cookie) bytes h few early left = tt
  call_fit n r (Writes cid) bytes h few early left = tt
  call_fit n r (Hears cid exp_stat_sn tag) bytes h few early left = tt
  call_fit n r (Joins cid stat_sn) bytes h few early left = tt
  call_fit n r (Clears unit) bytes h few early left = tt
  call_fit n r (Cleared unit) bytes h few early left = tt

  -- ---- lists

  fit_from : (n : ℕ) (r : Side) (calls : List Call) → EachOf IsOfBytes calls → Holds i n r → n + length calls < 2 ^ 62 → (side_after i r calls).both.event ≤ 2 ^ 48 → (side_after i r calls).both.event ≤ i.outbox.session.events → AreFitFrom i r calls
  fit_from n r [] bytes h many few left = side_fit i opening n r h (omega (arith, many)) few
  fit_from n r (c ∷ cs) bytes h many few left =
      let r' : Side = (after_call i r c).told.side in
      let later = no_fewer_then i r' cs in (
        side_fit i opening n r h (omega (arith, many)) (omega (arith, few, no_fewer_then i r (c ∷ cs))),
        call_fit n r c bytes.0 h (omega (arith, many)) (omega (arith, few, later)) (omega (arith, left, later)),
        fit_from (n + 1) r' cs bytes.1 (on_call i (Holds i) (holds_walk i (limits i opening).distinct) n r c (of_call c bytes.0) h) (omega (arith, many)) few left,
      )

-- the options allow no more events than that
few_events : (i : Interface) → IsOpening i → (calls : List Call) → IsShort i calls → (side_of i calls).both.event ≤ 2 ^ 48
few_events i opening calls short = let most = (limits i opening).events in let some = short.events in omega (arith, most, some)

pub all_fit : (i : Interface) (calls : List Call) → IsOpening i → IsShort i calls → EachOf IsOfBytes calls → AreFitFrom i (opened i) calls
all_fit i calls opening short bytes = fit_from i opening 0 (opened i) calls bytes (holds_begun i) (let m = short.many in omega (arith, m)) (few_events i opening calls short) short.events
