use Rattle.std.proofs.Common.{sym, rules}
use Rattle.iscsi_recording.proofs.Digits.{too_great}
use Rattle.iscsi_recording.proofs.parse.many_digits.Goals as goal

pub returns-in_default : goal.returns-in_default
returns-in_default c =
    sym (too_great c.args.text.now c.loop-d.d-index c.loop-d.n c.args.max (search rules) (search rules) (sym c.in_default.ensures) c.loop-d.invariant.read)
