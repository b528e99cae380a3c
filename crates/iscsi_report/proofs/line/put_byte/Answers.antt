use Rattle.std.proofs.Common.{◌≡◌, ℕ, List, [], ◌∷◌, ◌++◌, take, slice_index, refl, ap, ◌∙◌}
use Rattle.std.proofs.lemmas.Nat.{and_mask}
use Rattle.hex.specs.Hex.{encode_with, encode_lower, lower_digits}
use Rattle.iscsi_report.proofs.LineLemmas.{pair}
use Rattle.iscsi_report.proofs.line.put_byte.Goals as goal

pub returns-clause-written : goal.returns-clause-written
returns-clause-written c =
    let low = c.digit-2.ensures ∙ ap (λ (k : ℕ). slice_index lower_digits k) (and_mask c.args.byte 4) in
    c.put_text-2.ensures.written ∙ ap (λ (l : List ℕ). take c.args.at c.args.line.now ++ l) (pair c.args.byte _ _ c.digit.ensures low)

zero_pair : (b : ℕ) → b ≡ 0 → 48 ∷ 48 ∷ [] ≡ encode_lower (b ∷ [])
unfolding encode_with
zero_pair b is = rw is refl

pub returns-then-byte-eq0-clause-written : goal.returns-then-byte-eq0-clause-written
returns-then-byte-eq0-clause-written c =
    c.put_text.ensures.written ∙ ap (λ (l : List ℕ). take c.args.at c.args.line.now ++ l) (zero_pair c.args.byte c.if-byte-eq0.true)
