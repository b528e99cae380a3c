use Rattle.std.proofs.Common.{ℕ, List, ◌++◌, take, ap, ◌∙◌}
use Rattle.iscsi_report.proofs.DigitLanes.{first_eight}
use Rattle.iscsi_report.proofs.line.put_digits.Goals as goal

pub returns-clause-written : goal.returns-clause-written
returns-clause-written c =
    let digits = rw c.to_be_bytes.ensures at c.digits_of.ensures.digits in
    c.put_first_eight.ensures.written
    ∙ ap (λ (l : List ℕ). take c.args.at c.args.line.now ++ l) (first_eight c.digits_of.result.0 c.digits_of.result.1 _ _ _ _ _ c.digits_of.ensures.len digits)
