-- The least number that isn't among some.
use Rattle.std.proofs.Common.{◌≡◌, ℕ, zero, suc, ◌+◌, ◌-◌, ◌<◌, ◌≤◌, ◌⊎◌, inl, inr, ⊎_elim, cond, true, false, List, [], ◌∷◌, length, map, refl, ap, sym, ◌∙◌, arith, eqb}
use Rattle.std.proofs.lemmas.Bool.{cases_eq, false≢true}
use Rattle.std.proofs.lemmas.Map.Steps.{le-length_from_below}
use Rattle.std.proofs.lemmas.List.{length-map}
use Rattle.std.specs.List.{list_any}
use Rattle.std.proofs.lemmas.Bool.Decides.{nat_tests}
use Rattle.iscsi_wire.specs.Serial.{number_of_first}
use Rattle.iscsi_rules.specs.rules.Settings.{Setting}
use Rattle.iscsi_rules.specs.rules.Trace.{Mark, Trace, after_items, contains, is_received, received, least_missing, expected}
use Rattle.iscsi_rules.specs.rules.Execution.{exp_of}
use Rattle.iscsi_rules.proofs.general.BoolLemmas.{or_first}
use Rattle.iscsi_rules.proofs.traces.TraceLemmas.{received-item}

module _ (ns : List ℕ) where
  -- all numbers before the answer are in the list
  pub least_missing_below : (fuel n k : ℕ) → n ≤ k → k < least_missing ns fuel n → contains ns k ≡ true
  least_missing_below zero n k low high = absurd (omega arith)
  least_missing_below (suc fuel) n k low high = grind (arith, least_missing_below fuel (n + 1) k)

  pub least_missing_low : (fuel n : ℕ) → n ≤ least_missing ns fuel n
  least_missing_low zero n = omega arith
  least_missing_low (suc fuel) n = elim (contains ns n) as (λ b. n ≤ cond b (least_missing ns fuel (n + 1)) n) [ true ↦ omega (arith, least_missing_low fuel (n + 1)) | false ↦ omega arith ]

  -- where the numbers from n on are in the list as far as m, and m isn't, the answer is m
  pub least_missing_is : (fuel n m : ℕ) → n ≤ m → ((k : ℕ) → n ≤ k → k < m → contains ns k ≡ true) → contains ns m ≡ false → m ≤ n + fuel → least_missing ns fuel n ≡ m
  least_missing_is zero n m low all gone short = omega arith
  least_missing_is (suc fuel) n m low all gone short = grind (arith, least_missing_is fuel (n + 1) m)

shift_in : (ns : List ℕ) (first q : ℕ) → contains ns (first + q) ≡ true → list_any (eqb q) (map (λ x. x - first) ns) ≡ true
shift_in [] first q h = absurd (false≢true h)
shift_in (x ∷ ns) first q h = grind (arith, shift_in ns first q)

-- as many numbers as a list has in a row
as_many : (ns : List ℕ) (first count : ℕ) → ((k : ℕ) → first ≤ k → k < first + count → contains ns k ≡ true) → count ≤ length ns
as_many ns first count all = omega (arith, le-length_from_below (map (λ x. x - first) ns) count (λ q l. shift_in ns first q (all (first + q) (omega arith) (omega arith))), length-map ns (λ x. x - first))

-- ExpCmdSN is m where all numbers before it are received, and m isn't
pub expected_is : (first m : ℕ) (t : Trace) → number_of_first first ≤ m → ((k : ℕ) → number_of_first first ≤ k → k < m → is_received t k ≡ true) → is_received t m ≡ false → expected first t ≡ m
expected_is first m t low all gone =
    least_missing_is (received t) (length (received t)) (number_of_first first) m low all gone (omega (arith, as_many (received t) (number_of_first first) (m - number_of_first first) (λ k l h. all k l (omega arith))))

-- all numbers before ExpCmdSN are received
pub expected_below : (first : ℕ) (t : Trace) (k : ℕ) → number_of_first first ≤ k → k < expected first t → is_received t k ≡ true
expected_below first t k low high = least_missing_below (received t) (length (received t)) (number_of_first first) k low high

pub expected_low : (first : ℕ) (t : Trace) → number_of_first first ≤ expected first t
expected_low first t = least_missing_low (received t) (length (received t)) (number_of_first first)

-- the answer isn't in the list, unless all fuel was used up
least_missing_gone : (ns : List ℕ) (fuel n : ℕ) → (contains ns (least_missing ns fuel n) ≡ false) ⊎ (least_missing ns fuel n ≡ n + fuel)
least_missing_gone ns zero n = inr (omega arith)
least_missing_gone ns (suc fuel) n =
    elim (contains ns n) as (λ b. contains ns n ≡ b → (contains ns (cond b (least_missing ns fuel (n + 1)) n) ≡ false) ⊎ (cond b (least_missing ns fuel (n + 1)) n ≡ n + suc fuel)) [
      | true ↦ λ there. ⊎_elim (λ gone. inl gone) (λ last. inr (omega (arith, last))) (least_missing_gone ns fuel (n + 1))
      | false ↦ λ gone. inl gone
    ] refl

-- ExpCmdSN isn't received
pub expected_gone : (first : ℕ) (t : Trace) → is_received t (expected first t) ≡ false
expected_gone first t =
    let ns : List ℕ = received t in
    let e : ℕ = expected first t in
    let start : ℕ = number_of_first first in
    ⊎_elim (λ gone. gone)
    (λ last. elim (is_received t e) as (λ b. is_received t e ≡ b → is_received t e ≡ false) [
      | true ↦ λ there. absurd (omega (arith, as_many ns start (suc (length ns)) (λ k low high. ⊎_elim (λ same. ap (is_received t) (same ∙ sym last) ∙ there) (λ apart. least_missing_below ns (length ns) start k low (omega (arith, last))) (cases_eq k (start + length ns)))))
      | false ↦ λ gone. gone
    ] refl)
    (least_missing_gone ns (length ns) start)

-- where all before m are received, and m is, ExpCmdSN is past m
pub expected_past : (first m : ℕ) (t : Trace) → ((k : ℕ) → number_of_first first ≤ k → k < m → is_received t k ≡ true) → is_received t m ≡ true → m < expected first t
expected_past first m t all there = grind (arith, nat_tests, expected_gone first t, expected_low first t)

-- ---- ExpCmdSN doesn't go back

pub exp_item : (o : Setting) (item : List Mark) (t : Trace) → exp_of o t ≤ exp_of o (item ∷ t)
exp_item o item t =
    grind (arith, nat_tests, received-item, or_first, expected_below, expected_low o.first (item ∷ t), expected_gone o.first (item ∷ t))

pub exp_items : (o : Setting) (items : List (List Mark)) (t : Trace) → exp_of o t ≤ exp_of o (after_items items t)
exp_items o [] t = omega arith
exp_items o (item ∷ items) t = omega (arith, exp_item o item t, exp_items o items (item ∷ t))
