-- Where a slot stands: in one list at most, and there once. And how long some lists are.
use Rattle.std.proofs.Common.{◌≡◌, ◌≢◌, ℕ, zero, suc, ◌+◌, ◌≤◌, List, [], ◌∷◌, length, map, get_or, replicate, Some, refl, ap, subst, arith, ⊎_elim}
use Rattle.std.proofs.lemmas.Bool.{cases_lt}
use Rattle.iscsi_slots.specs.Slots.{times}
use Rattle.iscsi_lists.specs.Lists.{Linked, AreApart, Listed, counted, last_of, linked_in, times_in, without}
use Rattle.iscsi_lists.proofs.WithoutLemmas.{length_without}
use Rattle.iscsi_lists.proofs.ReadLemmas.{end_there}

pub times_any : (s k : ℕ) (lists : List (List ℕ)) → times s (get_or lists k []) ≤ times_in s lists
times_any s zero [] = omega arith
times_any s (suc k) [] = omega arith
times_any s zero (xs ∷ lists) = omega arith
times_any s (suc k) (xs ∷ lists) = let rest = times_any s k lists in omega (arith, rest)

-- a slot that stands in one list stands in no other one
pub only_there : (s i k : ℕ) (lists : List (List ℕ)) → 1 ≤ times s (get_or lists i []) → times_in s lists ≤ 1 → k ≢ i → times s (get_or lists k []) ≡ 0
only_there s zero k [] there once other = absurd (omega (arith, there))
only_there s (suc i) k [] there once other = absurd (omega (arith, there))
only_there s zero zero (xs ∷ lists) there once other = absurd (other refl)
only_there s zero (suc k) (xs ∷ lists) there once other = let a = times_any s k lists in omega (arith, a, there, once)
only_there s (suc i) zero (xs ∷ lists) there once other = let a = times_any s i lists in omega (arith, a, there, once)
only_there s (suc i) (suc k) (xs ∷ lists) there once other = only_there s i k lists there (omega (arith, once)) (λ e. other (ap suc e))

pub in_once : {v : Linked} → AreApart v → (s : ℕ) → 1 ≤ times_in s v.lists → times_in s v.lists ≡ 1
in_once {v = v} apart s there =
    let some : 1 ≤ times s v.free + times_in s v.lists = omega (arith, there) in
    let one = apart.once s (apart.some s some) (apart.within s some) in omega (arith, one, there)

-- in one list at most, and there once
pub once_in : {v : Linked} → AreApart v → (s : ℕ) → times_in s v.lists ≤ 1
once_in {v = v} apart s = ⊎_elim
    (λ there. let one = in_once apart s (omega (arith, there)) in omega (arith, one))
    (λ none. omega (arith, none))
    (cases_lt 0 (times_in s v.lists))

pub last_there : (s : ℕ) (slots : List ℕ) → last_of slots ≡ Some s → 1 ≤ times s slots
last_there s [] e = absurd (cc)
last_there s (x ∷ slots) e = subst (λ n. 1 ≤ times n (x ∷ slots)) (cc) (end_there x slots)

pub nth_map : (s k : ℕ) (lists : List (List ℕ)) → get_or (map (without s) lists) k [] ≡ without s (get_or lists k [])
nth_map s zero [] = refl
nth_map s (suc k) [] = refl
nth_map s zero (xs ∷ lists) = refl
nth_map s (suc k) (xs ∷ lists) = nth_map s k lists

-- ---- how long they are

-- a free slot goes to a list, and the free ones are one fewer
pub fewer_free : {X : Type 0} (v : Listed X) → AreApart (linked_in v) → (s : ℕ) → last_of v.free ≡ Some s → times_in s v.lists ≡ 0 → length (without s v.free) + 1 ≡ length v.free
fewer_free v known s last fresh =
    let there = last_there s v.free last in
    let some : 1 ≤ times s v.free + times_in s v.lists = omega (arith, there) in
    let one = known.once s (known.some s some) (known.within s some) in
    let a = length_without s v.free in omega (arith, a, one, fresh)

pub counted_long : (n k : ℕ) → length (counted n k) ≡ k
counted_long n zero = refl
counted_long n (suc k) = ap suc (counted_long (suc n) k)

pub replicate_long : (n : ℕ) → length (replicate {A = List ℕ} n []) ≡ n
replicate_long zero = refl
replicate_long (suc n) = ap suc (replicate_long n)
