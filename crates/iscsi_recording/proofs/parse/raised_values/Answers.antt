use Rattle.std.proofs.Common.{arith}
use Rattle.iscsi_recording.proofs.DigitSteps.{value_step, all_read, one_unread}
use Rattle.iscsi_recording.proofs.parse.raised_values.Goals as goal

pub digits-preserved : goal.digits-preserved
digits-preserved c =
    rw c.min-least.ensures (value_step c.args.text.now c.digits.values c.digits.least c.digits.i c.raised_value-v.result (omega arith) c.raised_value-v.ensures c.digits.invariant)

pub returns-then-least-ge240 : goal.returns-then-least-ge240
returns-then-least-ge240 c = all_read c.args.text.now c.digits.values c.digits.least c.digits.i (omega arith) (omega arith) (omega arith) c.digits.invariant

pub returns-else-least-ge240 : goal.returns-else-least-ge240
returns-else-least-ge240 c = one_unread c.args.text.now c.digits.values c.digits.least c.digits.i (omega arith) (omega arith) (omega arith) c.digits.invariant
