-- Places of a list: what is read and written there, and the first one that passes a test.
use Rattle.std.proofs.Common.{Bool, List, [], refl, set, suc, true, zero, ℕ, ◌∷◌, ◌≡◌, ◌&&◌, ◌++◌, None, Option, Some, ap, drop, get_or, ◌∙◌, ◌<◌, arith, length, ◌≤◌, take, replicate, cond, option_map, position, find}
use Rattle.std.specs.List.{list_all}
use Rattle.std.proofs.lemmas.List.Folds.{list_all-append}
use Rattle.std.proofs.lemmas.List.{append-nil}
use Rattle.std.proofs.lemmas.Bool.Decides.{nat_tests}
use Rattle.iscsi_rules.proofs.general.BoolLemmas.{and_both, and_parts}

-- ---- what is written, and what moves up

pub all_set : {A : Type 0} (p : A → Bool) (ps : List A) (k : ℕ) (x : A) → list_all p ps ≡ true → p x ≡ true → list_all p (set ps k x) ≡ true
all_set p [] k x all now = refl
all_set p (y ∷ ps) zero x all now = and_both (p x) (list_all p ps) now (and_parts (p y) (list_all p ps) all).1
all_set p (y ∷ ps) (suc k) x all now = let h = and_parts (p y) (list_all p ps) all in and_both (p y) (list_all p (set ps k x)) h.0 (all_set p ps k x h.1 now)

pub all_shift : {A : Type 0} (p : Option A → Bool) (x : A) (ps : List (Option A)) → p None ≡ true → get_or ps 0 None ≡ Some x → list_all p ps ≡ true → (p (Some x) ≡ true) × (list_all p (drop 1 ps ++ None ∷ []) ≡ true)
all_shift p x [] none found all = absurd cc
all_shift p x (y ∷ ps) none found all = grind (arith, list_all-append)

pub some_within : {A : Type 0} (ps : List (Option A)) (k : ℕ) (x : A) → get_or ps k None ≡ Some x → k < length ps
some_within [] k x h = absurd cc
some_within (p ∷ ps) zero x h = omega arith
some_within (p ∷ ps) (suc k) x h = omega (arith, some_within ps k x h)

pub has_first : {A : Type 0} (ps : List (Option A)) (x : A) → get_or ps 0 None ≡ Some x → 0 < length ps
has_first [] x h = absurd cc
has_first (p ∷ ps) x h = omega arith

pub last_none : {A : Type 0} (xs : List (Option A)) (k : ℕ) → length xs ≤ k → get_or (xs ++ None ∷ []) k None ≡ None
last_none [] zero h = refl
last_none [] (suc k) h = refl
last_none (x ∷ xs) zero h = absurd (omega arith)
last_none (x ∷ xs) (suc k) h = last_none xs k (omega arith)

-- the events, once the first place has passed
abbrev pub passed_on : List ℕ → List ℕ
passed_on arrived = drop 1 arrived ++ 0 ∷ []

padded : (xs : List ℕ) (k : ℕ) → get_or (xs ++ 0 ∷ []) k 0 ≡ get_or xs k 0
padded [] zero = refl
padded [] (suc k) = refl
padded (x ∷ xs) zero = refl
padded (x ∷ xs) (suc k) = padded xs k

pub passed_at : (xs : List ℕ) (k : ℕ) → get_or (passed_on xs) k 0 ≡ get_or xs (suc k) 0
passed_at xs k = grind (arith, padded)

-- ---- the first ones

pub taken_at : {A : Type 0} (n : ℕ) (xs : List A) (k : ℕ) (d : A) → k < length (take n xs) → get_or (take n xs) k d ≡ get_or xs k d
taken_at zero xs k d lt = absurd (omega (arith, lt))
taken_at (suc n) [] k d lt = refl
taken_at (suc n) (x ∷ xs) zero d lt = refl
taken_at (suc n) (x ∷ xs) (suc k) d lt = taken_at n xs k d (omega (arith, lt))

drop_length : {A : Type 0} (xs : List A) → drop (length xs) xs ≡ []
drop_length [] = refl
drop_length (x ∷ xs) = drop_length xs

take_length : {A : Type 0} (xs : List A) → take (length xs) xs ≡ xs
take_length [] = refl
take_length (x ∷ xs) = ap (λ ys. x ∷ ys) (take_length xs)

-- what is written back where as many come back
pub written : {A : Type 0} (n : ℕ) (new old : List A) → length new ≡ length old → n ≡ length old → take n (new ++ drop (length new) old) ≡ new
written n new old same len = grind (arith, drop_length, append-nil, take_length)

-- ---- the same everywhere

pub nothing_at : {A : Type 0} (n k : ℕ) → get_or (replicate {A = Option A} n None) k None ≡ None
nothing_at zero k = refl
nothing_at (suc n) zero = refl
nothing_at (suc n) (suc k) = nothing_at n k

pub all_none : {A : Type 0} (p : Option A → Bool) (n : ℕ) → p None ≡ true → list_all p (replicate n None) ≡ true
all_none p zero h = refl
all_none p (suc n) h = ap (λ b. b && list_all p (replicate n None)) h ∙ all_none p n h

-- ---- the first place that passes

pub position-cons : {A : Type 0} (p : A → Bool) (x : A) (xs : List A) → position p (x ∷ xs) ≡ cond (p x) (Some 0) (option_map suc (position p xs))
position-cons p x xs = grind arith

pub found_there : {A : Type 0} (p : A → Bool) (xs : List A) (k : ℕ) (d : A) → position p xs ≡ Some k → find p xs ≡ Some (get_or xs k d)
found_there p [] k d h = absurd cc
found_there p (x ∷ xs) k d h = grind (arith, nat_tests, found_there p xs, position-cons p x xs)

pub found_nowhere : {A : Type 0} (p : A → Bool) (xs : List A) → position p xs ≡ None → find p xs ≡ None
found_nowhere p [] h = refl
found_nowhere p (x ∷ xs) h = grind (arith, found_nowhere p xs)
