use Rattle.std.proofs.Common.{◌≡◌, ℕ, List, [], ◌∷◌, ◌+◌, ◌++◌, take, slice_index, refl, sym, ap, ◌∙◌, arith}
use Rattle.std.proofs.lemmas.Nat.{and_mask}
use Rattle.hex.specs.Hex.{encode_with, encode_lower, lower_digits}
use Rattle.iscsi_report.proofs.LineEnds.{before_last}
use Rattle.iscsi_report.proofs.LineLemmas.{pair}
use Rattle.iscsi_report.proofs.line.put_byte_and_end.Goals as goal

pub returns-clause-written : goal.returns-clause-written
returns-clause-written c =
    let low = c.digit-2.ensures ∙ ap (λ (k : ℕ). slice_index lower_digits k) (and_mask c.args.byte 4) in
    c.put_text.ensures.written ∙ ap (λ (l : List ℕ). take c.args.at c.args.line.now ++ (l ++ 10 ∷ [])) (pair c.args.byte _ _ c.digit.ensures low)

zero_pair : (b : ℕ) → b ≡ 0 → 48 ∷ 48 ∷ [] ≡ encode_lower (b ∷ [])
unfolding encode_with
zero_pair b is = rw is refl

pub returns-then-byte-eq0-clause-written : goal.returns-then-byte-eq0-clause-written
returns-then-byte-eq0-clause-written c =
    let line = c.put_word.new.line in
    let end : c.put_word.result ≡ c.args.at + 3 + 1 = omega arith in
    before_last line c.args.line.now (48 ∷ 48 ∷ 10 ∷ []) 10 c.args.at (c.args.at + 3) (ap (λ (m : ℕ). take m line) (sym end) ∙ c.put_word.ensures.written) (omega arith) (omega arith)
    ∙ ap (λ (l : List ℕ). take c.args.at c.args.line.now ++ (l ++ 10 ∷ [])) (zero_pair c.args.byte c.if-byte-eq0.true)
