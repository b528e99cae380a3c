use Rattle.std.proofs.Common.{◌≤◌, ◌-◌, get_or, arith, rules}
use Rattle.iscsi_recording.proofs.Digits.{digit_small, has_room}
use Rattle.iscsi_recording.proofs.parse.few_digits.Goals as goal

pub overflow_mul-n : goal.overflow_mul-n
overflow_mul-n c =
    let room = has_room c.loop-d.n c.loop-d.d-index 0 c.loop-d.invariant.small (omega arith) (omega arith) in
    omega (arith, room)

pub overflow_add-n : goal.overflow_add-n
overflow_add-n c =
    let d = get_or c.args.text.now c.loop-d.d-index 0 in
    let small : d - 48 ≤ 9 = digit_small d (search rules) in
    let room = has_room c.loop-d.n c.loop-d.d-index (d - 48) c.loop-d.invariant.small (omega arith) small in
    omega (arith, room, c.from.ensures)
