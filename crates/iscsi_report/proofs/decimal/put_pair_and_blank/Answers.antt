use Rattle.std.proofs.Common.{◌++◌, List, ℕ, take, refl, ap, ◌∙◌, arith}
use Rattle.iscsi_report.proofs.DecimalLemmas.{pair_and_blank_of}
use Rattle.iscsi_report.proofs.LineEnds.{front}
use Rattle.iscsi_report.proofs.decimal.put_pair_and_blank.Goals as goal

pub returns-clause-written : goal.returns-clause-written
returns-clause-written c =
    front c.put_text.new.line c.args.line.now _ c.args.at 3 c.put_text.result c.put_text.ensures.written (omega arith) (omega arith) (omega arith)
    ∙ ap (λ (l : List ℕ). take c.args.at c.args.line.now ++ l) (pair_and_blank_of c.args.n _ _ _ 0 (omega arith) refl refl refl)
