-- Lists of connections and commands, and lists at large.
use Rattle.std.proofs.Common.{◌≡◌, ℕ, suc, ◌+◌, ◌<◌, ◌≤◌, ◌==◌, ◌&&◌, ◌||◌, not, cond, Bool, true, false, List, [], ◌∷◌, ◌++◌, length, map, filter, find, count_by, Some, None, refl, ap, ◌∙◌, arith, Option, is_some, All, zero, ◌-◌}
use Rattle.std.proofs.lemmas.Grind.{common_steps}
use Rattle.std.specs.List.{list_any, list_all, flat_map, position, position_or_len, cons_option, range_with_len}
use Rattle.std.proofs.lemmas.Bool.{false≢true}
use Rattle.std.specs.Prelude.{IsSome}
use Rattle.std.proofs.lemmas.List.Folds.{list_any-append}
use Rattle.std.proofs.lemmas.List.Sums.{sum_by-cons, sum_by-append}
use Rattle.iscsi_rules.specs.rules.Settings.{is_known}
use Rattle.iscsi_rules.specs.rules.Trace.{first_of}
use Rattle.std.proofs.lemmas.List.Elements.{All-head, All-tail, filter-append}
use Rattle.std.proofs.lemmas.List.{map-append}

-- ---- tests of lists

pub list_any-map : {A B : Type 0} (p : B → Bool) (f : A → B) (xs : List A) → list_any p (map f xs) ≡ list_any (λ x. p (f x)) xs
list_any-map p f [] = refl
list_any-map p f (x ∷ xs) = ap (λ b. p (f x) || b) (list_any-map p f xs)

pub any_same : {A : Type 0} (p q : A → Bool) (xs : List A) → ((x : A) → p x ≡ q x) → list_any p xs ≡ list_any q xs
any_same p q [] h = refl
any_same p q (x ∷ xs) h = ap (λ b. b || list_any p xs) (h x) ∙ ap (λ b. q x || b) (any_same p q xs h)

pub any_all : {A : Type 0} (f g p : A → Bool) (xs : List A) → list_all p xs ≡ true → ((x : A) → p x ≡ true → f x ≡ g x) → list_any f xs ≡ list_any g xs
any_all f g p [] all same = refl
any_all f g p (x ∷ xs) all same = grind (arith, any_all f g p xs)

pub any_filter : {A : Type 0} (p q : A → Bool) (xs : List A) → list_any p (filter q xs) ≡ list_any (λ x. q x && p x) xs
any_filter p q [] = refl
any_filter p q (x ∷ xs) = grind (arith, any_filter p q xs)

pub any_flat_map : {A B : Type 0} (p : B → Bool) (f : A → List B) (xs : List A) → list_any p (flat_map f xs) ≡ list_any (λ x. list_any p (f x)) xs
any_flat_map p f [] = refl
any_flat_map p f (x ∷ xs) = list_any-append p (f x) (flat_map f xs) ∙ ap (λ b. list_any p (f x) || b) (any_flat_map p f xs)

pub all_of_filter : {A : Type 0} (p : A → Bool) (xs : List A) → list_all p (filter p xs) ≡ true
all_of_filter p [] = refl
all_of_filter p (x ∷ xs) = grind (arith, all_of_filter p xs)

pub count_by-map : {A B : Type 0} (p : B → Bool) (f : A → B) (xs : List A) → count_by p (map f xs) ≡ count_by (λ x. p (f x)) xs
count_by-map p f [] = refl
count_by-map p f (x ∷ xs) = grind (arith, sum_by-cons (λ y. cond (p y) 1 0) (f x) (map f xs), count_by-map p f xs, sum_by-cons (λ y. cond (p (f y)) 1 0) x xs)

pub count_by-push : {A : Type 0} (p : A → Bool) (xs : List A) (x : A) → count_by p (xs ++ x ∷ []) ≡ count_by p xs + cond (p x) 1 0
count_by-push p xs x = grind (arith, sum_by-append)

-- fewer are counted of fewer
pub fewer_counted : {A : Type 0} (p q : A → Bool) (xs : List A) → count_by p (filter q xs) ≤ count_by p xs
fewer_counted p q [] = omega arith
fewer_counted p q (x ∷ xs) = grind (arith, common_steps, fewer_counted p q xs)

pub filter-shorter : {A : Type 0} (p : A → Bool) (xs : List A) → length (filter p xs) ≤ length xs
filter-shorter p [] = omega arith
filter-shorter p (x ∷ xs) = grind (arith, filter-shorter p xs)

-- where some element passes, there is a first that does
first_place : {A : Type 0} (p : A → Bool) (xs : List A) → list_any p xs ≡ true → position_or_len p xs < length xs
first_place p [] h = absurd (false≢true h)
first_place p (x ∷ xs) h = grind (arith, first_place p xs)

pub IsSome-position : {A : Type 0} (p : A → Bool) (xs : List A) → list_any p xs ≡ true → IsSome (position p xs)
IsSome-position p xs h = grind (arith, first_place)

-- the connections with these CIDs are the known ones
pub is_known-cids : (cid : ℕ) (xs ys : List (ℕ × ℕ)) → map (λ (c : ℕ × ℕ). c.0) xs ≡ map (λ (c : ℕ × ℕ). c.0) ys → is_known cid xs ≡ is_known cid ys
is_known-cids cid xs ys h = grind (arith, list_any-map (λ k. k == cid) (λ (c : ℕ × ℕ). c.0) xs, list_any-map (λ k. k == cid) (λ (c : ℕ × ℕ). c.0) ys)

-- ---- live commands

-- one of some that all pass
pub find-passes : {A : Type 0} (p q : A → Bool) (lives : List A) (l : A) → list_all q lives ≡ true → find p lives ≡ Some l → q l ≡ true
find-passes p q [] l all found = absurd cc
find-passes p q (x ∷ lives) l all found = grind (arith, find-passes p q lives l)

pub list_all-filter : {A : Type 0} (p q : A → Bool) (xs : List A) → list_all q xs ≡ true → list_all q (filter p xs) ≡ true
list_all-filter p q [] all = refl
list_all-filter p q (x ∷ xs) all = grind (arith, list_all-filter p q xs)

pub list_all-same : {A : Type 0} (p q : A → Bool) (xs : List A) → ((x : A) → p x ≡ q x) → list_all p xs ≡ list_all q xs
list_all-same p q [] h = refl
list_all-same p q (x ∷ xs) h = ap (λ b. b && list_all p xs) (h x) ∙ ap (λ b. q x && b) (list_all-same p q xs h)

-- ---- options

pub none_first : {A : Type 0} (x : Option A) → cons_option x [] ≡ [] → x ≡ None
none_first x h = grind arith

pub is_none : {A : Type 0} (x : Option A) → is_some x ≡ false → x ≡ None
is_none x h = grind arith

-- ---- maps and filters

-- functions that agree where a test passes
pub map_all : {A B : Type 0} (f g : A → B) (p : A → Bool) (xs : List A) → list_all p xs ≡ true → ((x : A) → p x ≡ true → f x ≡ g x) → map f xs ≡ map g xs
map_all f g p [] all same = refl
map_all f g p (x ∷ xs) all same = grind (arith, map_all f g p xs)

pub filter-map : {A B : Type 0} (p : B → Bool) (f : A → B) (xs : List A) → filter p (map f xs) ≡ map f (filter (λ x. p (f x)) xs)
filter-map p f [] = refl
filter-map p f (x ∷ xs) = grind (arith, filter-map p f xs)

pub map-map : {A B C : Type 0} (g : B → C) (f : A → B) (xs : List A) → map g (map f xs) ≡ map (λ x. g (f x)) xs
map-map g f [] = refl
map-map g f (x ∷ xs) = ap (λ ys. g (f x) ∷ ys) (map-map g f xs)

pub filter-swap : {A : Type 0} (p q : A → Bool) (xs : List A) → filter p (filter q xs) ≡ filter q (filter p xs)
filter-swap p q [] = refl
filter-swap p q (x ∷ xs) = grind (arith, filter-swap p q xs)

-- what is found passes
pub first_itself : {A : Type 0} (p : A → Bool) (xs : List A) (x : A) → first_of (filter p xs) ≡ Some x → p x ≡ true
first_itself p [] x found = absurd cc
first_itself p (y ∷ xs) x found = grind (arith, first_itself p xs x)

pub find-found : {A : Type 0} (p : A → Bool) (xs : List A) (x : A) → find p xs ≡ Some x → p x ≡ true
find-found p [] x h = absurd cc
find-found p (y ∷ xs) x h = grind (arith, find-found p xs x)

pub none_passes : {A : Type 0} (p : A → Bool) (xs : List A) → list_any p xs ≡ false → list_all (λ x. not (p x)) xs ≡ true
none_passes p [] h = refl
none_passes p (x ∷ xs) h = grind (arith, none_passes p xs)

pub none_both : {A : Type 0} (p q : A → Bool) (xs : List A) → list_any q xs ≡ false → list_any (λ x. p x && q x) xs ≡ false
none_both p q [] h = refl
none_both p q (x ∷ xs) h = grind (arith, none_both p q xs)

pub filter_here : {A : Type 0} (p q : A → Bool) (xs : List A) → All (λ x. p x ≡ q x) xs → filter p xs ≡ filter q xs
filter_here p q [] same = refl
filter_here p q (x ∷ xs) same = grind (arith, All-head (λ y. p y ≡ q y) x xs same, filter_here p q xs (All-tail (λ y. p y ≡ q y) x xs same))

pub filter_every : (p : ℕ → Bool) (ts : List ℕ) → list_all p ts ≡ true → filter p ts ≡ ts
filter_every p [] all = refl
filter_every p (t ∷ ts) all = grind (arith, filter_every p ts)

pub filter-flat_map : {A B : Type 0} (p : B → Bool) (f : A → List B) (xs : List A) → filter p (flat_map f xs) ≡ flat_map (λ x. filter p (f x)) xs
filter-flat_map p f [] = refl
filter-flat_map p f (x ∷ xs) = filter-append p (f x) (flat_map f xs) ∙ ap (λ ys. filter p (f x) ++ ys) (filter-flat_map p f xs)

pub map-flat_map : {A B C : Type 0} (g : B → C) (f : A → List B) (xs : List A) → map g (flat_map f xs) ≡ flat_map (λ x. map g (f x)) xs
map-flat_map g f [] = refl
map-flat_map g f (x ∷ xs) = map-append g (f x) (flat_map f xs) ∙ ap (λ ys. map g (f x) ++ ys) (map-flat_map g f xs)

pub none_left : {A : Type 0} (p : A → Bool) (xs : List A) → list_any p xs ≡ false → filter p xs ≡ []
none_left p [] none = refl
none_left p (x ∷ xs) none = grind (arith, none_left p xs)

pub none_out : {A : Type 0} (p : A → Bool) (xs : List A) → list_any p xs ≡ false → filter (λ x. not (p x)) xs ≡ xs
none_out p [] none = refl
none_out p (x ∷ xs) none = grind (arith, none_out p xs)

-- ---- a CID among those that pass

pub filtered_among : (p : ℕ → Bool) (c : ℕ) (cs : List ℕ) → list_any (λ k. k == c) (filter p cs) ≡ (list_any (λ k. k == c) cs && p c)
filtered_among p c [] = refl
filtered_among p c (k ∷ cs) = grind (arith, filtered_among p c cs)

-- ---- ranges of numbers

pub range-parts : (a m n : ℕ) → range_with_len a (m + n) ≡ range_with_len a m ++ range_with_len (a + m) n
range-parts a zero n = ap (range_with_len a) (let z : 0 + n ≡ n = omega arith in z) ∙ ap (λ k. range_with_len k n) (let z : a ≡ a + 0 = omega arith in z)
range-parts a (suc m) n =
    ap (range_with_len a) (let z : suc m + n ≡ suc (m + n) = omega arith in z)
    ∙ ap (λ ks. a ∷ ks) (range-parts (a + 1) m n ∙ ap (λ k. range_with_len (a + 1) m ++ range_with_len k n) (let z : a + 1 + m ≡ a + suc m = omega arith in z))

-- the units from one on
pub range_step : (u end : ℕ) → u < end → range_with_len u (end - u) ≡ u ∷ range_with_len (u + 1) (end - (u + 1))
range_step u end lt = ap (range_with_len u) (let z : end - u ≡ suc (end - (u + 1)) = omega (arith, lt) in z)

pub any_in_range : (f g : ℕ → Bool) (from n : ℕ) → ((j : ℕ) → from ≤ j → j < from + n → f j ≡ g j) → list_any f (range_with_len from n) ≡ list_any g (range_with_len from n)
any_in_range f g from zero same = refl
any_in_range f g from (suc n) same = grind (arith, any_in_range f g (from + 1) n)

pub flat_map_in_range : {A : Type 0} (f g : ℕ → List A) (from n : ℕ) → ((j : ℕ) → from ≤ j → j < from + n → f j ≡ g j) → flat_map f (range_with_len from n) ≡ flat_map g (range_with_len from n)
flat_map_in_range f g from zero same = refl
flat_map_in_range f g from (suc n) same = grind (arith, flat_map_in_range f g (from + 1) n)
