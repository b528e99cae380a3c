use Rattle.std.proofs.Common.{◌≡◌, ◌∙◌, List, length, min, set, drop, Some, sym, ap, arith, length-drop}
use Rattle.std.proofs.lemmas.Bool.{eqb-false}
use Rattle.iscsi_ffi_rules.specs.declared.action.Action.{Action}
use Rattle.iscsi_requests.specs.Conns.{oldest}
use Rattle.iscsi_ffi.specs.Standing.{waiting}
use Rattle.iscsi_ffi_handle.specs.declared.plain.PlainAction.{PlainAction}
use Rattle.iscsi_ffi_handle.specs.Telling.{room_in, side_after, written_over}
use Rattle.iscsi_ffi_handle.proofs.TellLemmas.{all_taken, idle_many, next_over, waiting_many}
use Rattle.iscsi_ffi_handle.proofs.telling.hand_over_some.Goals as goal

pub returns-in-Some-clause-side : goal.returns-in-Some-clause-side
returns-in-Some-clause-side c =
    let one = ap length c.in-Some.ensures.only in let room = eqb-false (length c.args.actions.now) 0 (sym c.is_empty.ensures ∙ c.if-is_empty.false) in
    c.in-Some.ensures.taken ∙ idle_many 1 (room_in c.args.actions.now) c.args.side.now (omega (arith, one)) (omega (arith, room))

pub returns-in-Some-clause-actions : goal.returns-in-Some-clause-actions
returns-in-Some-clause-actions c =
    let one = ap length c.in-Some.ensures.only in let room = eqb-false (length c.args.actions.now) 0 (sym c.is_empty.ensures ∙ c.if-is_empty.false) in
    let old = c.args.actions.now in let xs = waiting c.args.side.now in
    let some : oldest (drop 0 xs) ≡ Some c.in-Some.action = ap (λ (ys : List Action). oldest ys) c.in-Some.ensures.only in
    ap (λ (a : PlainAction). set old 0 a) c.write_action.ensures
    ∙ next_over 0 xs old c.in-Some.action some (omega (arith, room))
    ∙ ap (λ (ys : List Action). written_over old ys) (all_taken 1 (room_in old) xs (omega (arith, one)) (omega (arith, room)))

pub returns-in-Some-clause-told : goal.returns-in-Some-clause-told
returns-in-Some-clause-told c =
    let one = ap length c.in-Some.ensures.only in let room = eqb-false (length c.args.actions.now) 0 (sym c.is_empty.ensures ∙ c.if-is_empty.false) in
    let old = c.args.actions.now in let side = c.args.side.now in
    let rest : length (waiting (side_after old side)) ≡ length (drop 1 (waiting side)) =
    ap (λ v. length (waiting v)) (sym (idle_many 1 (room_in old) side (omega (arith, one)) (omega (arith, room)))) ∙ ap length (waiting_many 1 side) in
    let long = length-drop 1 (waiting side) in
    let count : 1 ≡ min (length (waiting side)) (room_in old) = omega (arith, one, room) in
    let more : 0 ≡ min (length (waiting (side_after old side))) 4294967295 = omega (arith, rest, long, one) in
    λ i. record { count = count i; waiting = more i }
