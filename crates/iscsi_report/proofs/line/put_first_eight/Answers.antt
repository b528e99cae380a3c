use Rattle.std.proofs.Common.{arith}
use Rattle.iscsi_report.proofs.LineEnds.{front}
use Rattle.iscsi_report.proofs.line.put_first_eight.Goals as goal

pub returns-clause-written : goal.returns-clause-written
returns-clause-written c = front c.put_text.new.line c.args.line.now c.args.digits c.args.at 8 c.put_text.result c.put_text.ensures.written (omega arith) (omega arith) (omega arith)
