use Rattle.std.proofs.Common.{ℕ, List, ◌++◌, take, sym, ap, ◌∙◌, arith}
use Rattle.iscsi_report.proofs.DecimalLemmas.{decimal_two}
use Rattle.iscsi_report.proofs.decimal.put_two.Goals as goal

pub returns-clause-written : goal.returns-clause-written
returns-clause-written c =
    c.put_pair.ensures.written ∙ ap (λ (l : List ℕ). take c.args.at c.args.line.now ++ l) (sym (decimal_two c.args.n c.if-n-lt-TWO_DIGITS.false (omega arith)))
