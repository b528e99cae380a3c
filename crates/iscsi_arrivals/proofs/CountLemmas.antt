-- How many of a list pass a test, up to a place in it.
use Rattle.std.proofs.Common.{◌≡◌, ℕ, ◌+◌, ◌-◌, ◌≤◌, ◌||◌, ⊎_elim, cond, Bool, true, false, List, [], ◌∷◌, ◌++◌, length, take, drop, count_by, nat_lt, nat_le, refl, ap, sym, subst, ◌∙◌, arith, lt-ltb, le-ltb}
use Rattle.std.specs.List.{list_all, list_any}
use Rattle.std.proofs.lemmas.Bool.{cases_lt, le-leb, lt-leb}
use Rattle.std.proofs.lemmas.List.{take-take}
use Rattle.std.proofs.lemmas.List.Sums.{sum_by-cons, sum_by-append, sum_by-take-drop, sum_by-take-le}

module _ {A : Type 0} (p : A → Bool) where
  pub count-cons : (x : A) (xs : List A) → count_by p (x ∷ xs) ≡ cond (p x) 1 0 + count_by p xs
  count-cons x xs = sum_by-cons (λ y. cond (p y) 1 0) x xs

  pub count-append : (xs ys : List A) → count_by p (xs ++ ys) ≡ count_by p xs + count_by p ys
  count-append xs ys = sum_by-append (λ y. cond (p y) 1 0) xs ys

  pub count-push : (xs : List A) (x : A) → count_by p (xs ++ x ∷ []) ≡ count_by p xs + cond (p x) 1 0
  count-push xs x = omega (arith, count-append xs (x ∷ []), count-cons x [])

  pub push_yes : (xs : List A) (x : A) → p x ≡ true → count_by p (xs ++ x ∷ []) ≡ count_by p xs + 1
  push_yes xs x is = count-push xs x ∙ ap (λ (v : Bool). count_by p xs + cond v 1 0) is

  pub push_no : (xs : List A) (x : A) → p x ≡ false → count_by p (xs ++ x ∷ []) ≡ count_by p xs
  push_no xs x isnt =
      let more : count_by p (xs ++ x ∷ []) ≡ count_by p xs + 0 = count-push xs x ∙ ap (λ (v : Bool). count_by p xs + cond v 1 0) isnt in
      omega (arith, more)

  pub count_rest : (xs : List A) (n : ℕ) → count_by p (take n xs) + count_by p (drop n xs) ≡ count_by p xs
  count_rest xs n = sum_by-take-drop (λ y. cond (p y) 1 0) xs n

  pub count_within : (n : ℕ) (xs : List A) → count_by p (take n xs) ≤ count_by p xs
  count_within n xs = sum_by-take-le (λ y. cond (p y) 1 0) xs n

  pub count_mono : (m n : ℕ) (xs : List A) → m ≤ n → count_by p (take m xs) ≤ count_by p (take n xs)
  count_mono m n xs le = subst (λ (ys : List A). count_by p ys ≤ count_by p (take n xs)) (take-take m n xs le) (count_within m (take n xs))

  -- one passes just where their count isn't 0
  pub any-count : (xs : List A) → list_any p xs ≡ nat_lt 0 (count_by p xs)
  any-count [] = refl
  any-count (x ∷ xs) =
      let rest : list_any p xs ≡ nat_lt 0 (count_by p xs) = any-count xs in
      let here : (p x || list_any p xs) ≡ nat_lt 0 (cond (p x) 1 0 + count_by p xs) = elim (p x) as (λ v. (v || list_any p xs) ≡ nat_lt 0 (cond v 1 0 + count_by p xs)) [
        | true ↦ sym (lt-ltb 0 (1 + count_by p xs) (omega arith))
        | false ↦ rest ∙ ap (nat_lt 0) (let same : count_by p xs ≡ 0 + count_by p xs = omega arith in same)
      ] in
      here ∙ ap (nat_lt 0) (sym (count-cons x xs))

-- ---- tests of numbers

pub lt_rest : (a c b : ℕ) → a + c ≡ b → nat_lt 0 c ≡ nat_lt a b
lt_rest a c b whole =
    ⊎_elim (λ some. lt-ltb 0 c some ∙ sym (lt-ltb a b (omega (arith, some, whole))))
    (λ none. le-ltb 0 c none ∙ sym (le-ltb a b (omega (arith, none, whole)))) (cases_lt 0 c)

pub le_rest : (c a b : ℕ) → c ≡ a - b → nat_le c 0 ≡ nat_le a b
le_rest c a b rest =
    ⊎_elim (λ more. lt-leb c 0 (omega (arith, more, rest)) ∙ sym (lt-leb a b more))
    (λ all. le-leb c 0 (omega (arith, all, rest)) ∙ sym (le-leb a b all)) (cases_lt b a)

-- there is none
pub no_one : {A : Type 0} (xs : List A) → list_all (λ (x : A). false) xs ≡ nat_le (length xs) 0
no_one [] = refl
no_one (x ∷ xs) = sym (lt-leb (length (x ∷ xs)) 0 (omega arith))
