use Rattle.std.proofs.Common.{ℕ, List, ◌++◌, take, ap, ◌∙◌, arith}
use Rattle.iscsi_report.proofs.DigitLanes.{with_end}
use Rattle.iscsi_report.proofs.LineEnds.{front}
use Rattle.iscsi_report.proofs.line.put_eight_and_end.Goals as goal

pub returns-clause-written : goal.returns-clause-written
returns-clause-written c =
    front c.put_text.new.line c.args.line.now _ c.args.at 9 c.put_text.result c.put_text.ensures.written (omega arith) (omega arith) (omega arith)
    ∙ ap (λ (l : List ℕ). take c.args.at c.args.line.now ++ l) (with_end c.args.digits (omega arith))
