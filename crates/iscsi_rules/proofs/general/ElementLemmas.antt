-- The elements of lists.
use Rattle.std.proofs.Common.{◌≡◌, ℕ, zero, suc, ◌+◌, ◌<◌, ◌≤◌, ◌⊎◌, inl, inr, ⊎_elim, Bool, true, List, [], ◌∷◌, ◌++◌, filter, Option, Some, ap, sym, ◌∙◌, arith}
use Rattle.std.specs.List.{list_any, flat_map, range_with_len, cons_option}
use Rattle.std.specs.Prelude.{Contains}
use Rattle.std.proofs.lemmas.Bool.{cases_eq}
use Rattle.iscsi_rules.specs.rules.Trace.{first_of}
use Rattle.iscsi_rules.proofs.general.BoolLemmas.{or_first, or_second}

-- x is an element
abbrev pub In : {A : Type 0} → A → List A → Type 0
In x [] = ⊥
In x (y ∷ ys) = (y ≡ x) ⊎ In x ys

pub in-filter : {A : Type 0} (p : A → Bool) (xs : List A) (x : A) → In x (filter p xs) → In x xs × (p x ≡ true)
in-filter p [] x h = absurd h
in-filter p (y ∷ ys) x h = grind (arith, in-filter p ys x)

pub filter-in : {A : Type 0} (p : A → Bool) (xs : List A) (x : A) → In x xs → p x ≡ true → In x (filter p xs)
filter-in p [] x h passes = absurd h
filter-in p (y ∷ ys) x h passes = grind (arith, filter-in p ys x)

pub in-append : {A : Type 0} (xs ys : List A) (x : A) → In x (xs ++ ys) → In x xs ⊎ In x ys
in-append [] ys x h = inr h
in-append (z ∷ xs) ys x h = ⊎_elim (λ same. inl (inl same)) (λ later. ⊎_elim (λ here. inl (inr here)) (λ there. inr there) (in-append xs ys x later)) h

pub append-in_first : {A : Type 0} (xs ys : List A) (x : A) → In x xs → In x (xs ++ ys)
append-in_first [] ys x h = absurd h
append-in_first (z ∷ xs) ys x h = ⊎_elim (λ same. inl same) (λ later. inr (append-in_first xs ys x later)) h

pub append-in_second : {A : Type 0} (xs ys : List A) (x : A) → In x ys → In x (xs ++ ys)
append-in_second [] ys x h = h
append-in_second (z ∷ xs) ys x h = inr (append-in_second xs ys x h)

pub flat_map-in : {A : Type 0} (f : ℕ → List A) (ns : List ℕ) (n : ℕ) (x : A) → In n ns → In x (f n) → In x (flat_map f ns)
flat_map-in f [] n x there h = absurd there
flat_map-in f (m ∷ ns) n x there h = grind (arith, flat_map-in f ns n x, append-in_first, append-in_second)

pub range-in : (a count n : ℕ) → a ≤ n → n < a + count → In n (range_with_len a count)
range-in a zero n low high = absurd (omega arith)
range-in a (suc count) n low high = ⊎_elim (λ same. inl (sym same)) (λ apart. inr (range-in (a + 1) count n (omega arith) (omega arith))) (cases_eq n a)

pub in-cons : {A : Type 0} (x : Option A) (xs : List A) (y : A) → In y (cons_option x xs) → (x ≡ Some y) ⊎ In y xs
in-cons x xs y h = grind arith

-- where an element passes, some does
pub in-any : {A : Type 0} (p : A → Bool) (xs : List A) (x : A) → In x xs → p x ≡ true → list_any p xs ≡ true
in-any p [] x h passes = absurd h
in-any p (y ∷ ys) x h passes = ⊎_elim (λ same. or_first (p y) (list_any p ys) (ap p same ∙ passes)) (λ later. or_second (p y) (list_any p ys) (in-any p ys x later passes)) h

-- std's word for it
pub in-contains : {A : Type 0} (xs : List A) (x : A) → Contains xs x → In x xs
in-contains [] x h = absurd (let none : h.0 < 0 = h.1 in omega arith)
in-contains (y ∷ xs) x h = grind (arith, in-contains xs x)

pub first-in : {A : Type 0} (xs : List A) (x : A) → first_of xs ≡ Some x → In x xs
first-in xs x h = grind arith
