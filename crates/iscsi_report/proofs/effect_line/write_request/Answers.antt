use Rattle.std.proofs.Common.{append_assoc}
use Rattle.iscsi_report.proofs.DigitLanes.{numbers_of_header}
use Rattle.iscsi_report.proofs.effect_line.write_request.Goals as goal

pub returns-clause-written : goal.returns-clause-written
returns-clause-written c =
    let numbers = numbers_of_header c.bytes.result in
    rw (c.put_two_numbers.ensures.written, c.put_small_and_blank-at.ensures.written, c.put_text-at.ensures.written, numbers.0, numbers.1, c.conn.ensures, c.bytes.ensures) (simp append_assoc)
