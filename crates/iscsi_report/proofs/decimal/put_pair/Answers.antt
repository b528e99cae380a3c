use Rattle.std.proofs.Common.{◌++◌, List, ℕ, take, ap, ◌∙◌, arith, refl}
use Rattle.iscsi_report.proofs.DecimalLemmas.{pair_of}
use Rattle.iscsi_report.proofs.decimal.put_pair.Goals as goal

pub returns-clause-written : goal.returns-clause-written
returns-clause-written c =
    c.put_text.ensures.written ∙ ap (λ (l : List ℕ). take c.args.at c.args.line.now ++ l) (pair_of c.args.n _ _ (omega arith) refl refl)
