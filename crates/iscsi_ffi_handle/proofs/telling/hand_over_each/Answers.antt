use Rattle.std.proofs.Common.{◌≡◌, ◌∙◌, ℕ, ◌+◌, ◌<◌, ◌≤◌, List, length, min, set, take, drop, Option, Some, None, refl, sym, ap, arith}
use Rattle.iscsi_ffi_rules.specs.declared.action.Action.{Action}
use Rattle.iscsi_requests.specs.Conns.{oldest}
use Rattle.iscsi_ffi.specs.Standing.{Sided, taken_one, waiting}
use Rattle.iscsi_ffi_handle.specs.declared.plain.PlainAction.{PlainAction}
use Rattle.iscsi_ffi_handle.specs.Telling.{room_in, taken_many, written_over}
use Rattle.iscsi_ffi_handle.proofs.TellLemmas.{all_taken, idle_many, many_next, next_over, none_left, waiting_many, whole_many, whole_taken}
use Rattle.iscsi_ffi_handle.proofs.telling.hand_over_each.Goals.{else-loop-index-test, then-loop-index-test+in_default}
use Rattle.iscsi_ffi_handle.proofs.telling.hand_over_each.Goals as goal

pub loop-index-init : goal.loop-index-init
loop-index-init c = record { side = refl; actions = refl; within = let z : 0 ≤ c.min-count.result = omega arith in z }

-- what is taken next
next_is : (n : ℕ) (now side : Sided) (o : Option Action) → now ≡ taken_many n side → oldest (waiting now) ≡ o → oldest (drop n (waiting side)) ≡ o
next_is n now side o is next = ap (λ (xs : List Action). oldest xs) (sym (ap waiting is ∙ waiting_many n side)) ∙ next

pub loop-index-preserved : goal.loop-index-preserved
loop-index-preserved c =
    let inv = c.loop-index.invariant in
    let n = c.loop-index.index in
    let side = c.args.side.now in
    let some = next_is n c.loop-index.side side (Some c.in-Some.action) inv.side (sym c.take_action.ensures.action ∙ c.in-Some.is) in
    let lt : n < length c.args.actions.now = omega (arith, c.loop-index-test.true, c.min-count.ensures, c.min-room.ensures) in
    record {
      side = c.take_action.ensures.state ∙ ap taken_one inv.side ∙ many_next n side;
      actions =
          ap (λ (xs : List PlainAction). set xs n c.plain_action.result) inv.actions
          ∙ ap (λ (a : PlainAction). set (written_over c.args.actions.now (take n (waiting side))) n a) c.plain_action.ensures
          ∙ next_over n (waiting side) c.args.actions.now c.in-Some.action some lt;
      within = let z : n + 1 ≤ c.min-count.result = omega (arith, c.loop-index-test.true) in z;
    }

pub returns-clause-side : goal.returns-clause-side
returns-clause-side c =
    let inv = c.loop-index.invariant in
    let n = c.loop-index.index in
    let side = c.args.side.now in
    let room = room_in c.args.actions.now in
    elim c.loop-index-test.branch [
      | else-loop-index-test w ↦
          let all : n ≡ min (length (waiting side)) room = omega (arith, w.loop-index-test.false, c.min-count.ensures, c.waiting.ensures, c.min-room.ensures, inv.within) in
          w.side-is ∙ inv.side ∙ whole_many n room side all
      | then-loop-index-test+in_default w ↦
          let none = none_left (waiting side) n (next_is n c.loop-index.side side None inv.side (sym w.take_action.ensures.action ∙ w.in_default.is)) in
          let more : length (waiting side) ≤ n + 1 = omega (arith, none) in
          let fits : n + 1 ≤ room = omega (arith, w.loop-index-test.true, c.min-count.ensures, c.min-room.ensures) in
          w.side-is ∙ w.take_action.ensures.state ∙ ap taken_one inv.side ∙ many_next n side ∙ idle_many (n + 1) room side more fits
    ]

pub returns-clause-actions : goal.returns-clause-actions
returns-clause-actions c =
    let inv = c.loop-index.invariant in
    let n = c.loop-index.index in
    let side = c.args.side.now in
    let room = room_in c.args.actions.now in
    let same : take n (waiting side) ≡ take room (waiting side) = elim c.loop-index-test.branch [
      | else-loop-index-test w ↦
          let all : n ≡ min (length (waiting side)) room = omega (arith, w.loop-index-test.false, c.min-count.ensures, c.waiting.ensures, c.min-room.ensures, inv.within) in
          whole_taken n room (waiting side) all
      | then-loop-index-test+in_default w ↦
          let none = none_left (waiting side) n (next_is n c.loop-index.side side None inv.side (sym w.take_action.ensures.action ∙ w.in_default.is)) in
          all_taken n room (waiting side) none (omega (arith, c.min-count.ensures, c.min-room.ensures, inv.within))
    ] in
    inv.actions ∙ ap (λ (xs : List Action). written_over c.args.actions.now xs) same

pub returns-clause-told : goal.returns-clause-told
returns-clause-told c =
    let side = c.args.side.now in
    let room = room_in c.args.actions.now in
    let many : c.min-count.result ≡ min (length (waiting side)) room = omega (arith, c.min-count.ensures, c.waiting.ensures, c.min-room.ensures) in
    let more = c.waiting-2.ensures ∙ ap (λ (v : Sided). min (length (waiting v)) 4294967295) (returns-clause-side c) in
    λ i. record { count = many i; waiting = more i }
