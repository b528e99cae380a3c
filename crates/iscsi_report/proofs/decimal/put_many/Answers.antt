use Rattle.std.proofs.Common.{◌≤◌, ◌+◌, ◌-◌, drop, decimal, take, take-take, ap, ◌∙◌, arith}
use Rattle.std.proofs.lemmas.Fmt.{decimal_nonempty, length-decimal-le}
use Rattle.iscsi_report.proofs.LineEnds.{begun}
use Rattle.iscsi_report.proofs.decimal.put_many.Goals as goal

pub write_digits-start-requires : goal.write_digits-start-requires
write_digits-start-requires c = (omega (arith, length-decimal-le 20 c.args.n (omega arith) (omega arith) (omega arith)), omega arith)

pub returns-clause-end : goal.returns-clause-end
returns-clause-end c =
    let some = decimal_nonempty c.args.n (omega arith) in
    (omega arith, omega arith)

pub returns-clause-written : goal.returns-clause-written
returns-clause-written c =
    let k = 20 - c.write_digits-start.result in
    let short : k ≤ (c.write_digits-start.result + 20 - c.write_digits-start.result) = omega arith in
    begun c.put_text.new.line c.args.line.now _ (decimal c.args.n) _ c.args.at k c.put_text.result c.put_text.ensures.written (omega arith) (omega arith)
    (take-take k _ (drop c.write_digits-start.result c.write_digits-start.new.buf) short ∙ ap (take k) c.write_digits-start.ensures.written) (omega arith) (omega arith)
