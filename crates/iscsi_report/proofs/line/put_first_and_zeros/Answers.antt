use Rattle.std.proofs.Common.{ℕ, List, ◌++◌, take, ap, ◌∙◌, arith}
use Rattle.iscsi_report.proofs.DigitLanes.{with_zeros}
use Rattle.iscsi_report.proofs.line.put_first_and_zeros.Goals as goal

pub returns-clause-written : goal.returns-clause-written
returns-clause-written c = c.put_text.ensures.written ∙ ap (λ (l : List ℕ). take c.args.at c.args.line.now ++ l) (with_zeros c.args.digits (omega arith))
