use Rattle.std.proofs.Common.{decimal, refl, arith}
use Rattle.iscsi_report.proofs.DecimalLemmas.{decimal_four, put_both}
use Rattle.iscsi_report.proofs.decimal.put_eight.Goals as goal

pub returns-clause-written : goal.returns-clause-written
returns-clause-written c =
    let before = put_both c.put_pair-at.new.line c.put_four-at.new.line c.args.line.now _ _ _ c.args.at c.put_four-at.result c.put_pair-at.result
    c.put_pair-at.ensures.written c.put_four-at.ensures.written refl in
    put_both c.put_pair.new.line c.put_pair-at.new.line c.args.line.now _ _ (decimal c.args.n) c.args.at c.put_pair-at.result c.put_pair.result
    c.put_pair.ensures.written before (decimal_four c.args.n c.if-n-lt-FIVE_DIGITS.false (omega arith))
