-- The covered commands leave together.
use Rattle.std.proofs.Common.{◌≡◌, ◌≢◌, ◌∙◌, ◌≤◌, ◌||◌, not, cond, Bool, true, false, List, [], ◌∷◌, length, filter, All, refl, ap, sym, arith, ⊎_elim}
use Rattle.std.specs.List.{list_any}
use Rattle.std.proofs.lemmas.Bool.{cases_Bool, or_left}
use Rattle.std.proofs.lemmas.List.{length-map}
use Rattle.std.proofs.lemmas.List.Folds.{list_any_none}
use Rattle.iscsi_tasks.proofs.Names.{nat_tests, Task, Member, Members, tasks_in, after_moment, uncovered, list_staying, set_staying, IsSettled}
use Rattle.iscsi_tasks.proofs.ListLemmas.{list_any-map}
use Rattle.iscsi_tasks.proofs.MomentLemmas.{settled_after}

pub filter-shorter : {X : Type 0} (p : X → Bool) (xs : List X) → length (filter p xs) ≤ length xs
filter-shorter p [] = omega arith
filter-shorter p (x ∷ xs) = grind (arith, nat_tests, filter-shorter p xs)

-- where as many stay, none leaves, and else one does
pub all_stay : {X : Type 0} (p : X → Bool) (xs : List X) → length (filter (λ x. not (p x)) xs) ≡ length xs → list_any p xs ≡ false
all_stay p [] same = refl
all_stay p (x ∷ xs) same = ⊎_elim
    (λ yes.
    let less : length (filter (λ y. not (p y)) xs) ≡ length (x ∷ xs) = sym (ap (λ b. length (cond (not b) (x ∷ filter (λ y. not (p y)) xs) (filter (λ y. not (p y)) xs))) yes) ∙ same in
    let most : length (filter (λ y. not (p y)) xs) ≤ length xs = filter-shorter (λ y. not (p y)) xs in
    absurd (omega arith))
    (λ no.
    let one : length (x ∷ filter (λ y. not (p y)) xs) ≡ length (x ∷ xs) = sym (ap (λ b. length (cond (not b) (x ∷ filter (λ y. not (p y)) xs) (filter (λ y. not (p y)) xs))) no) ∙ same in
    ap (λ b. b || list_any p xs) no ∙ all_stay p xs (omega arith))
    (cases_Bool (p x))

pub none_leaves : {X : Type 0} (p : X → Bool) (xs : List X) → list_any p xs ≡ false → filter (λ x. not (p x)) xs ≡ xs
none_leaves p [] none = refl
none_leaves p (x ∷ xs) none = grind (arith, nat_tests, none_leaves p xs, or_left)

module _ (covers : Task → Bool) (list : List Member) where
  pub staying_cases : (P : List Member → Type 0) → (list_any (λ m. covers m.task) list ≡ false → P list) → (list_any (λ m. covers m.task) list ≡ true → P (after_moment (uncovered covers list))) → P (list_staying covers list)
  staying_cases P none some = grind (arith, nat_tests)

  -- what is left, by how many there are
  pub staying_same : (rest : List Member) → rest ≡ uncovered covers list → length rest ≡ length list → rest ≡ list_staying covers list
  staying_same rest is same = grind (arith, nat_tests, all_stay, none_leaves)

  pub staying_fewer : (rest : List Member) → rest ≡ uncovered covers list → length rest ≢ length list → after_moment rest ≡ list_staying covers list
  staying_fewer rest is fewer = staying_cases (λ l. after_moment rest ≡ l)
      (λ none. absurd (fewer (ap length (is ∙ none_leaves (λ (m : Member). covers m.task) list none))))
      (λ some. ap after_moment is)

  pub length-staying : length (list_staying covers list) ≤ length list
  length-staying = grind (arith, nat_tests, staying_cases, filter-shorter, length-map)

  pub settled-staying : IsSettled list → IsSettled (list_staying covers list)
  settled-staying settled = staying_cases IsSettled (λ none. settled) (λ some. settled_after (uncovered covers list))

pub staying_set : (covers : Task → Bool) (s : Members) → record s { list = list_staying covers s.list } ≡ set_staying covers s
staying_set covers s = grind (arith, nat_tests)

-- where none is covered, the set stays as it is
pub set_stays : (covers : Task → Bool) (s : Members) → All (λ t. covers t ≡ false) (tasks_in s) → set_staying covers s ≡ s
set_stays covers s none = grind (arith, nat_tests, list_any-map, list_any_none covers (tasks_in s) none)
