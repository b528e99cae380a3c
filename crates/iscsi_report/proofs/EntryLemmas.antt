-- The lines of the first effects, and those of the others.
use Rattle.std.proofs.Common.{◌≡◌, ℕ, List, ◌-◌, ◌++◌, length, take, drop, sym, ap, ◌∙◌, append_assoc, arith}
use Rattle.std.specs.List.{flat_map}
use Rattle.std.proofs.lemmas.Grind.{flat_map-append}
use Rattle.std.proofs.lemmas.List.{take_all, take-append-drop, length-drop}
use Rattle.iscsi_rules.specs.declared.effect.Effect.{Effect}
use Rattle.iscsi_rules.specs.declared.effect.Numbers.{Numbers}
use Rattle.iscsi_report.specs.Lines.{effect_line}

abbrev pub lines_of : Numbers → List Effect → List ℕ
lines_of n effects = flat_map (λ effect. effect_line effect n) effects

-- both are those of all
pub lines_of_both : (n : Numbers) (k : ℕ) (effects : List Effect) (before : List ℕ)
    → (before ++ lines_of n (take k effects)) ++ lines_of n (take (length effects - k) (drop k effects)) ≡ before ++ lines_of n effects
lines_of_both n k effects before =
    let rest : take (length effects - k) (drop k effects) ≡ drop k effects =
    take_all (length effects - k) (drop k effects) (omega (arith, length-drop k effects)) in
    append_assoc before (lines_of n (take k effects)) (lines_of n (take (length effects - k) (drop k effects)))
    ∙ ap (λ (l : List Effect). before ++ (lines_of n (take k effects) ++ lines_of n l)) rest
    ∙ ap (λ (l : List ℕ). before ++ l) (sym (flat_map-append (λ effect. effect_line effect n) (take k effects) (drop k effects)))
    ∙ ap (λ (l : List Effect). before ++ lines_of n l) (take-append-drop k effects)

-- text that stands behind the lines of the first ones
pub put_others : (n : Numbers) (k : ℕ) (effects : List Effect) (before front all : List ℕ) → front ≡ before ++ lines_of n (take k effects)
    → all ≡ front ++ lines_of n (take (length effects - k) (drop k effects)) → all ≡ before ++ lines_of n effects
put_others n k effects before front all first others =
    others ∙ ap (λ (l : List ℕ). l ++ lines_of n (take (length effects - k) (drop k effects))) first ∙ lines_of_both n k effects before
