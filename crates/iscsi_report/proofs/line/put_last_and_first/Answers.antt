use Rattle.std.proofs.Common.{ℕ, List, ◌++◌, take, ap, ◌∙◌, arith}
use Rattle.iscsi_report.proofs.DigitLanes.{with_others}
use Rattle.iscsi_report.proofs.line.put_last_and_first.Goals as goal

pub returns-clause-written : goal.returns-clause-written
returns-clause-written c = c.put_text.ensures.written ∙ ap (λ (l : List ℕ). take c.args.at c.args.line.now ++ l) (with_others c.args.digits c.args.others (omega arith) (omega arith))
