use Rattle.std.proofs.Common.{ℕ, List, ◌++◌, take, slice_index, ap, ◌∙◌}
use Rattle.std.proofs.lemmas.Nat.{and_mask}
use Rattle.hex.specs.Hex.{lower_digits}
use Rattle.iscsi_report.proofs.LineLemmas.{kind}
use Rattle.iscsi_report.proofs.line.put_kind.Goals as goal

pub returns-clause-written : goal.returns-clause-written
returns-clause-written c =
    let opcode = c.digit-2.ensures ∙ ap (λ (k : ℕ). slice_index lower_digits k) (and_mask c.args.opcode 4) in
    let response = c.digit-4.ensures ∙ ap (λ (k : ℕ). slice_index lower_digits k) (and_mask c.args.response 4) in
    c.put_text.ensures.written
    ∙ ap (λ (l : List ℕ). take c.args.at c.args.line.now ++ l) (kind c.args.opcode c.args.response _ _ _ _ c.digit.ensures opcode c.digit-3.ensures response)
