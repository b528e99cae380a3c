use Rattle.std.proofs.Common.{◌≡◌, ◌≤◌, ◌-◌, true, get_or, arith, rules}
use Rattle.iscsi_recording.specs.Fields.{is_digit}
use Rattle.iscsi_recording.proofs.Digits.{digit_small, has_room}
use Rattle.iscsi_recording.proofs.FrontLemmas.{number_step}
use Rattle.iscsi_recording.proofs.fronts.number_first.Goals as goal

pub overflow_mul-n : goal.overflow_mul-n
overflow_mul-n c =
    let room = has_room c.digits.n c.digits.i 0 c.digits.invariant.small (omega arith) (omega arith) in
    omega (arith, room)

pub overflow_add-n : goal.overflow_add-n
overflow_add-n c =
    let d = get_or c.args.bytes.now c.digits.i 0 in
    let small : d - 48 ≤ 9 = digit_small d (search rules) in
    let room = has_room c.digits.n c.digits.i (d - 48) c.digits.invariant.small (omega arith) small in
    omega (arith, room, c.from.ensures)

pub digits-preserved : goal.digits-preserved
digits-preserved c =
    let digit : is_digit (get_or c.args.bytes.now c.digits.i 0) ≡ true = search rules in
    rw c.from.ensures (number_step c.args.bytes.now c.digits.n c.digits.i (omega arith) digit c.digits.invariant)
