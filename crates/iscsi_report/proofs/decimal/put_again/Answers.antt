use Rattle.std.proofs.Common.{arith}
use Rattle.iscsi_report.proofs.LineEnds.{again}
use Rattle.iscsi_report.proofs.decimal.put_again.Goals as goal

pub returns-clause-written : goal.returns-clause-written
returns-clause-written c =
    again c.put_text.new.line c.args.line.now _ c.args.at c.args.from c.args.to _ c.put_text.result c.put_text.ensures.written (omega arith) (omega arith)
    c.copy_from_slice.ensures.after (omega arith) (omega arith) (omega arith)
