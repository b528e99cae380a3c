use Rattle.std.proofs.Common.{ℕ, List, ◌++◌, take, drop, ap, ◌∙◌}
use Rattle.hex.specs.Hex.{encode_lower}
use Rattle.iscsi_report.proofs.DigitLanes.{digits_in_thirds}
use Rattle.iscsi_report.proofs.line.put_48.Goals as goal

pub returns-clause-written : goal.returns-clause-written
returns-clause-written c =
    let h : List ℕ = c.args.bytes.now in
    c.put_16.ensures.written
    ∙ ap (λ (l : List ℕ). l ++ encode_lower (take 16 (drop 32 h)))
    (c.put_16-at-2.ensures.written ∙ ap (λ (l : List ℕ). l ++ encode_lower (take 16 (drop 16 h))) c.put_16-at.ensures.written)
    ∙ digits_in_thirds h (take c.args.at c.args.line.now) c.requires.0
