-- How many of a list pass tests, one weaker than the other.
use Rattle.std.proofs.Common.{◌≡◌, ℕ, ◌+◌, ◌≤◌, ◌==◌, ◌&&◌, not, cond, Bool, true, false, List, [], ◌∷◌, filter, count_by, refl, ap, sym, ◌∙◌, arith, length, ◌<◌, get_or, set, suc, zero, Some, find, ◌++◌, None, Option, drop, replicate}
use Rattle.std.proofs.lemmas.Grind.{common_steps}
use Rattle.std.proofs.lemmas.Bool.{false≢true}
use Rattle.std.proofs.lemmas.List.Sums.{sum_by-cons, sum_by-append}
use Rattle.iscsi_rules.specs.rules.Trace.{Command, is_among}
use Rattle.iscsi_rules.proofs.general.ElementLemmas.{In}
use Rattle.std.specs.List.{range_with_len}
use Rattle.std.proofs.lemmas.Bool.Decides.{nat_tests}

-- what a test counts for
abbrev pub one : Bool → ℕ
one b = cond b 1 0

pub count-cons : {A : Type 0} (p : A → Bool) (x : A) (xs : List A) → count_by p (x ∷ xs) ≡ one (p x) + count_by p xs
count-cons p x xs = sum_by-cons (λ y. cond (p y) 1 0) x xs

-- those of a part that pass
pub count-filter : {A : Type 0} (p q : A → Bool) (xs : List A) → count_by p (filter q xs) ≡ count_by (λ x. q x && p x) xs
count-filter p q [] = refl
count-filter p q (x ∷ xs) = grind (arith, common_steps, count-filter p q xs)

one_weaker : (b c : Bool) → (b ≡ true → c ≡ true) → one b ≤ one c
one_weaker b c h = grind arith

one_same : {A : Type 0} (p : A → Bool) (y x : A) (b : Bool) → y ≡ x → p x ≡ b → one (p y) ≡ one b
one_same p y x b same is = ap one (ap p same ∙ is)

-- a weaker test passes as many
pub count-weaker : {A : Type 0} (p q : A → Bool) (xs : List A) → ((x : A) → p x ≡ true → q x ≡ true) → count_by p xs ≤ count_by q xs
count-weaker p q [] h = omega arith
count-weaker p q (x ∷ xs) h = omega (arith, count-cons p x xs, count-cons q x xs, one_weaker (p x) (q x) (h x), count-weaker p q xs h)

-- and one more, where it alone passes an element
pub count-lost : {A : Type 0} (p q : A → Bool) (xs : List A) (x : A) → ((y : A) → p y ≡ true → q y ≡ true) → In x xs → p x ≡ false → q x ≡ true → count_by p xs + 1 ≤ count_by q xs
count-lost p q [] x h there none some = absurd there
count-lost p q (y ∷ xs) x h there none some = grind (arith, count-lost p q xs x, count-cons, count-weaker)

-- an element that passes counts
pub count-one : {A : Type 0} (p : A → Bool) (xs : List A) (x : A) → In x xs → p x ≡ true → 1 ≤ count_by p xs
count-one p [] x there passes = absurd there
count-one p (y ∷ xs) x there passes = grind (arith, count-one p xs x, count-cons)

split_one : (b c : Bool) → one (b && c) + one (not b && c) ≡ one c
split_one b c = grind arith

-- those that pass a second test, and those that don't
pub count-split : {A : Type 0} (p q : A → Bool) (xs : List A) → count_by (λ x. q x && p x) xs + count_by (λ x. not (q x) && p x) xs ≡ count_by p xs
count-split p q [] = refl
count-split p q (x ∷ xs) =
    omega (arith, count-cons p x xs, count-cons (λ y. q y && p y) x xs, count-cons (λ y. not (q y) && p y) x xs, split_one (q x) (p x), count-split p q xs)

-- ---- commands with a ticket

-- what is among some that are counted is counted
pub among_counted : (k : ℕ) (cs : List Command) → is_among k cs ≡ true → 1 ≤ count_by (λ (c : Command). c.ticket == k) cs
among_counted k [] h = absurd (false≢true h)
among_counted k (c ∷ cs) h = grind (arith, common_steps, among_counted k cs)

pub counted_among : (k : ℕ) (cs : List Command) → 1 ≤ count_by (λ (c : Command). c.ticket == k) cs → is_among k cs ≡ true
counted_among k [] h = absurd (omega arith)
counted_among k (c ∷ cs) h = grind (arith, counted_among k cs)

-- ---- one element after the other

-- one element more that counts
pub count_set : {A : Type 0} (p : A → Bool) (ps : List A) (k : ℕ) (x d : A) → k < length ps → p (get_or ps k d) ≡ false → p x ≡ true → count_by p (set ps k x) ≡ count_by p ps + 1
count_set p [] k x d lt before now = absurd (omega arith)
count_set p (y ∷ ps) zero x d lt before now = grind (arith, count-cons)
count_set p (y ∷ ps) (suc k) x d lt before now = grind (arith, count_set p ps k x d, count-cons)

-- ---- what is left out

pub at_most : {A : Type 0} (p : A → Bool) (ys : List A) → length (filter (λ z. not (p z)) ys) ≤ length ys
at_most p [] = omega arith
at_most p (z ∷ ys) = grind (arith, at_most p ys)

-- at least one command fewer
pub fewer : {A : Type 0} (p : A → Bool) (xs : List A) (x : A) → find p xs ≡ Some x → length (filter (λ y. not (p y)) xs) + 1 ≤ length xs
fewer p [] x h = absurd cc
fewer p (y ∷ xs) x h = grind (arith, fewer p xs x, at_most)

-- ---- places

pub count_shift : {A : Type 0} (p : Option A → Bool) (x : A) (ps : List (Option A)) → p None ≡ false → get_or ps 0 None ≡ Some x → count_by p (drop 1 ps ++ None ∷ []) + cond (p (Some x)) 1 0 ≡ count_by p ps
count_shift p x ps none found = grind (arith, nat_tests, count-cons, sum_by-append)

-- another element at a place
pub count_replaced : {A : Type 0} (p : A → Bool) (ps : List A) (k : ℕ) (x d : A) → k < length ps → count_by p (set ps k x) + cond (p (get_or ps k d)) 1 0 ≡ count_by p ps + cond (p x) 1 0
count_replaced p [] k x d lt = absurd (omega arith)
count_replaced p (y ∷ ps) zero x d lt = grind (arith, count-cons)
count_replaced p (y ∷ ps) (suc k) x d lt = grind (arith, count_replaced p ps k x d, count-cons)

-- at least the one that is found is left out
pub fewer_left : {A : Type 0} (p q : A → Bool) (xs : List A) (x : A) → find p xs ≡ Some x → q x ≡ true → length (filter (λ y. not (q y)) xs) + 1 ≤ length xs
fewer_left p q [] x found is = absurd cc
fewer_left p q (y ∷ xs) x found is = grind (arith, fewer_left p q xs x, at_most)

pub none_counted : {A : Type 0} (p : Option A → Bool) (n : ℕ) → p None ≡ false → count_by p (replicate n None) ≡ 0
none_counted p zero h = refl
none_counted p (suc n) h = grind (arith, none_counted p n)

pub count_places : {A : Type 0} (p : Option A → Bool) (q : ℕ → Bool) (ps : List (Option A)) (e : ℕ) → ((k : ℕ) → k < length ps → p (get_or ps k None) ≡ q (e + k)) → count_by p ps ≡ count_by q (range_with_len e (length ps))
count_places p q [] e h = refl
count_places p q (x ∷ ps) e h =
    sum_by-cons (λ y. cond (p y) 1 0) x ps
    ∙ ap (λ b. cond b 1 0 + count_by p ps) (h 0 (omega arith) ∙ ap q (let z : e + 0 ≡ e = omega arith in z))
    ∙ ap (λ n. cond (q e) 1 0 + n) (count_places p q ps (e + 1) (λ k lt. h (suc k) (omega arith) ∙ ap q (let z : e + suc k ≡ e + 1 + k = omega arith in z)))
    ∙ sym (sum_by-cons (λ n. cond (q n) 1 0) e (range_with_len (e + 1) (length ps)))
