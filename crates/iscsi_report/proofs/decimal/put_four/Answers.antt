use Rattle.std.proofs.Common.{decimal, arith}
use Rattle.iscsi_report.proofs.DecimalLemmas.{decimal_pair, put_both}
use Rattle.iscsi_report.proofs.decimal.put_four.Goals as goal

pub returns-clause-written : goal.returns-clause-written
returns-clause-written c =
    put_both c.put_pair.new.line c.put_two-at.new.line c.args.line.now _ _ (decimal c.args.n) c.args.at c.put_two-at.result c.put_pair.result
    c.put_pair.ensures.written c.put_two-at.ensures.written (decimal_pair c.args.n c.if-n-lt-THREE_DIGITS.false (omega arith))
