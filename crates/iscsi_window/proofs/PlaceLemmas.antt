-- Places that are read and written, also beyond the last one.
use Rattle.std.proofs.Common.{◌++◌, Bool, cond, count_by, drop, replicate, is_some, false, ◌≡◌, ℕ, zero, suc, List, [], ◌∷◌, get_or, set, slice_get, Option, Some, None, ap, refl, arith}
use Rattle.std.specs.Option.{option_flatten}
use Rattle.std.proofs.lemmas.Bool.Decides.{nat_tests}
use Rattle.std.proofs.lemmas.List.{get_or_past, get_or-replicate, length-replicate, set_past, get_or_append_left, get_or_push, length_push}
use Rattle.std.proofs.lemmas.List.Sums.{sum_by-cons}
use Rattle.std.proofs.lemmas.Option.{unwrap_or-slice_get, slice_get-get_or}

pub option_flatten-slice_get : {X : Type 0} (xs : List (Option X)) (k : ℕ) → option_flatten (slice_get xs k) ≡ get_or xs k None
option_flatten-slice_get xs k = grind (arith, unwrap_or-slice_get xs k None)

pub past_from_slice_get : {X : Type 0} (xs : List X) (k : ℕ) (y : X) → slice_get xs k ≡ None → set xs k y ≡ xs
past_from_slice_get xs k y none = grind (arith, set_past xs k y, slice_get-get_or xs k y)

-- what stands at a place, written there, changes nothing
pub set_same : {X : Type 0} (xs : List X) (k : ℕ) (x : X) → slice_get xs k ≡ Some x → set xs k x ≡ xs
set_same [] k x read = cc
set_same (y ∷ xs) zero x read = cc
set_same (y ∷ xs) (suc k) x read = ap (λ zs. y ∷ zs) (set_same xs k x read)

pub none_there : {X : Type 0} (x : Option X) → is_some x ≡ false → x ≡ None
none_there x none = grind (arith, nat_tests)

pub nothing_at : {X : Type 0} (size k : ℕ) → get_or (let xs : List (Option X) = replicate size None in xs) k None ≡ None
nothing_at {X = X} size k = let none : Option X = None in grind (arith, get_or-replicate size k none none, get_or_past (replicate size none) k none, length-replicate size none)

-- none of them passes
pub none_pass : {X : Type 0} (p : Option X → Bool) → p None ≡ false → (size : ℕ) → 0 ≡ count_by p (replicate size None)
none_pass p fails zero = refl
none_pass p fails (suc size) = grind (arith, none_pass p fails size, sum_by-cons (λ x. cond (p x) 1 0) None (replicate size None))

-- the first place turns
pub passed : {X : Type 0} (xs : List (Option X)) (j : ℕ) → get_or (drop 1 xs ++ None ∷ []) j None ≡ get_or xs (suc j) None
passed xs j = grind (arith, nat_tests, get_or_append_left, get_or_push, get_or_past, length_push)
