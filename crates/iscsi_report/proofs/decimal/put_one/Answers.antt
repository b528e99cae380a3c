use Rattle.std.proofs.Common.{ℕ, List, ◌++◌, take, sym, ap, ◌∙◌, arith}
use Rattle.std.proofs.lemmas.Fmt.{decimal_digit}
use Rattle.iscsi_report.proofs.decimal.put_one.Goals as goal

pub returns-clause-written : goal.returns-clause-written
returns-clause-written c =
    c.put_text.ensures.written ∙ ap (λ (l : List ℕ). take c.args.at c.args.line.now ++ l) (sym (decimal_digit c.args.n (omega arith)))
