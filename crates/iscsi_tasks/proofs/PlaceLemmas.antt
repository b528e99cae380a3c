-- The first place that passes a test, and places that are filled up to one.
use Rattle.std.proofs.Common.{◌≡◌, ℕ, suc, ◌<◌, ◌≤◌, nat_lt, cond, Bool, true, false, List, [], ◌∷◌, ◌++◌, length, map, take, drop, get_or, position, Some, None, All, refl, ap, sym, ◌∙◌, arith}
use Rattle.std.proofs.lemmas.Bool.{lt-ltb, le-ltb}
use Rattle.std.proofs.lemmas.List.{take-append-drop}
use Rattle.std.proofs.lemmas.List.Sums.{position_or_len_is, fails_before_first}
use Rattle.std.specs.List.{position_or_len}
use Rattle.iscsi_tasks.proofs.Names.{nat_tests, Member, enabled_now}

pub place_is : {X : Type 0} (p : X → Bool) (xs : List X) (k : ℕ) (d : X) → k < length xs → ((j : ℕ) → j < k → p (get_or xs j d) ≡ false) → p (get_or xs k d) ≡ true → position_or_len p xs ≡ k
place_is p xs k d within before here = position_or_len_is p xs k d (omega arith) before (λ l. here)

pub no_place : {X : Type 0} (p : X → Bool) (xs : List X) → ((j : ℕ) (d : X) → j < length xs → p (get_or xs j d) ≡ false) → position_or_len p xs ≡ length xs
no_place p [] none = refl
no_place p (x ∷ xs) none = position_or_len_is p (x ∷ xs) (length (x ∷ xs)) x (omega arith) (λ j l. none j x l) (λ l. absurd (omega arith))

pub position_of : {X : Type 0} (p : X → Bool) (xs : List X) (k : ℕ) → position_or_len p xs ≡ k → k < length xs → Some k ≡ position p xs
position_of p xs k is within = sym (ap (λ n. cond (nat_lt n (length xs)) (Some n) None) is ∙ ap (λ b. cond b (Some k) None) (lt-ltb k (length xs) within))

pub position_none : {X : Type 0} (p : X → Bool) (xs : List X) → position_or_len p xs ≡ length xs → None ≡ position p xs
position_none p xs is = sym (ap (λ n. cond (nat_lt n (length xs)) (Some n) None) is ∙ ap (λ b. cond b (Some (length xs)) None) (le-ltb (length xs) (length xs) (omega arith)))

-- enabled members stay as they are
pub map-enabled_now : (xs : List Member) (n : ℕ) → n ≤ length xs → ((k : ℕ) (d : Member) → k < n → (get_or xs k d).enabled ≡ true) → map enabled_now (take n xs) ≡ take n xs
map-enabled_now (x ∷ xs) (suc n) within enabled =
    ap (λ b. record { task = x.task; enabled = b; given = x.given } ∷ map enabled_now (take n xs)) (sym (enabled 0 x (omega arith)))
    ∙ ap (λ r. x ∷ r) (map-enabled_now xs n (omega arith) (λ k d l. enabled (suc k) d (omega arith)))
map-enabled_now xs n within enabled = grind (arith, nat_tests)

pub enabled_so_far : (xs : List Member) (n : ℕ) → n ≤ length xs → ((k : ℕ) (d : Member) → k < n → (get_or xs k d).enabled ≡ true) → xs ≡ map enabled_now (take n xs) ++ drop n xs
enabled_so_far xs n within enabled = sym (ap (λ r. r ++ drop n xs) (map-enabled_now xs n within enabled) ∙ take-append-drop n xs)

-- where no place is answered, none passes
pub none_at_position : {X : Type 0} (p : X → Bool) (xs : List X) → position p xs ≡ None → All (λ x. p x ≡ false) xs
none_at_position p xs none k d within = grind (arith, nat_tests, position_of, fails_before_first)
