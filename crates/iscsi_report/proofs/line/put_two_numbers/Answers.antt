use Rattle.std.proofs.Common.{append_assoc, arith}
use Rattle.iscsi_report.proofs.DigitLanes.{halves_said}
use Rattle.iscsi_report.proofs.line.put_two_numbers.Goals as goal

pub returns-clause-written : goal.returns-clause-written
returns-clause-written c =
    let said = halves_said c.digits_of.result.0 c.digits_of.result.1 c.args.bytes.now c.digits_of.ensures.len (omega arith) (λ i. (c.type_inv.bytes i).fits) c.digits_of.ensures.digits in
    rw (c.put_eight_and_end.ensures.written, c.put_text-at.ensures.written, c.put_first_eight-at.ensures.written, said.0, said.1) (simp append_assoc)
