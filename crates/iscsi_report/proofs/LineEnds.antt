-- What stands in a slice up to a place.
use Rattle.std.proofs.Common.{◌≡◌, ℕ, List, ◌+◌, ◌-◌, ◌≤◌, [], ◌∷◌, ◌++◌, length, take, drop, refl, sym, ap, ◌∙◌, arith, take-take}
use Rattle.std.proofs.Math.Seq.{take-append-add, drop-append_seam}
use Rattle.std.proofs.lemmas.List.{length-append, length-take, take_at, take-append-le, drop-take}

-- behind what stood there stands the front of the text that was written
pub front : (new old text : List ℕ) (at k end : ℕ) → take end new ≡ take at old ++ text → end ≡ at + length text → at ≤ length old → k ≤ length text
    → take (at + k) new ≡ take at old ++ take k text
front new old text at k end e long within le =
    let len : length (take at old) ≡ at = omega (arith, length-take at old) in
    sym (take-take (at + k) end new (omega arith)) ∙ ap (take (at + k)) e
    ∙ ap (λ (m : ℕ). take (m + k) (take at old ++ text)) (sym len) ∙ take-append-add (take at old) text k

-- the same, where a text begins the one that was written
pub begun : (new old text begin rest : List ℕ) (at k end : ℕ) → take end new ≡ take at old ++ text → end ≡ at + length text → at ≤ length old
    → take k text ≡ take k (begin ++ rest) → k ≤ length text → length begin ≡ k → take (at + k) new ≡ take at old ++ begin
begun new old text begin rest at k end e long within same le size =
    front new old text at k end e long within le ∙ ap (λ (l : List ℕ). take at old ++ l) (same ∙ take_at begin rest k size)

-- what stood before the place from which on a text was written stands there still
pub kept : (new old text : List ℕ) (at k end : ℕ) → take end new ≡ take at old ++ text → k ≤ at → at ≤ end → at ≤ length old → take k new ≡ take k old
kept new old text at k end e before le within =
    sym (take-take k end new (omega arith)) ∙ ap (take k) e
    ∙ take-append-le k (take at old) text (omega (arith, length-take at old)) ∙ take-take k at old before

-- what was written without its last byte
pub before_last : (new old text : List ℕ) (next at end : ℕ) → take (end + 1) new ≡ take at old ++ (text ++ next ∷ []) → at ≤ length old
    → end + 1 ≤ length new → take end new ≡ take at old ++ text
before_last new old text next at end e within le =
    let size : end + 1 ≡ at + length (text ++ next ∷ []) =
    omega (arith, ap length e, length-take (end + 1) new, length-take at old, length-append (take at old) (text ++ next ∷ [])) in
    let end_is : at + length text ≡ end = omega (arith, size, length-append text (next ∷ [])) in
    ap (λ (m : ℕ). take m new) (sym end_is)
    ∙ begun new old (text ++ next ∷ []) text (next ∷ []) at (length text) (end + 1) e size within refl (omega (arith, length-append text (next ∷ []))) refl

-- a text that was written from one place to another one
pub between : (new old text : List ℕ) (from to : ℕ) → take to new ≡ take from old ++ text → from ≤ length old → drop from (take to new) ≡ text
between new old text from to e within =
    let len : length (take from old) ≡ from = omega (arith, length-take from old) in
    ap (drop from) e ∙ ap (λ (m : ℕ). drop m (take from old ++ text)) (sym len) ∙ drop-append_seam (take from old) text

-- the same text, written again as the front of what stands from there on
pub again : (new old text : List ℕ) (at from to size end : ℕ) → take end new ≡ take at old ++ text → end ≡ at + length text → at ≤ length old
    → text ≡ take size (drop from old) → from ≤ to → to - from ≤ size → to - from ≤ length text
    → take (at + (to - from)) new ≡ take at old ++ drop from (take to old)
again new old text at from to size end e long within is le small few =
    let sum : from + (to - from) ≡ to = omega arith in
    front new old text at (to - from) end e long within few
    ∙ ap (λ (l : List ℕ). take at old ++ l) (ap (take (to - from)) is ∙ take-take (to - from) size (drop from old) small
    ∙ sym (drop-take from (to - from) old) ∙ ap (λ (m : ℕ). drop from (take m old)) sum)
