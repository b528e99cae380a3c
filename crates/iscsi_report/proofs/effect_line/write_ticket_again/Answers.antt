use Rattle.std.proofs.Common.{arith, append_assoc}
use Rattle.iscsi_report.proofs.LineEnds.{kept}
use Rattle.iscsi_report.proofs.effect_line.write_ticket_again.Goals as goal

pub returns-clause-written : goal.returns-clause-written
returns-clause-written c =
    let same = kept c.put_text-at.new.line c.args.line.now _ c.args.at c.args.to c.put_text-at.result c.put_text-at.ensures.written (omega arith)
    (omega arith) (omega arith) in
    rw (c.put_text.ensures.written, c.put_again-at.ensures.written, same, c.put_text-at.ensures.written) (simp append_assoc)
