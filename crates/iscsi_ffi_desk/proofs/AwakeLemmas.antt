-- How many connections are to be told, as one is told or is to be told again.
use Rattle.std.proofs.Common.{◌≡◌, ℕ, zero, suc, ◌+◌, ◌<◌, ◌≤◌, Bool, true, false, List, [], ◌∷◌, length, get_or, set, replicate, refl, arith}
use Rattle.iscsi_ffi_desk.specs.Awake.{asleep_in}

pub none_asleep : (xs : List Bool) → asleep_in xs ≡ 0 → (k : ℕ) → k < length xs → get_or xs k false ≡ true
none_asleep [] none k within = absurd (omega (arith, within))
none_asleep (true ∷ xs) none zero within = refl
none_asleep (true ∷ xs) none (suc k) within = none_asleep xs (omega (arith, none)) k (omega (arith, within))
none_asleep (false ∷ xs) none k within = absurd (omega (arith, none))

pub few_asleep : (xs : List Bool) → asleep_in xs ≤ length xs
few_asleep [] = omega arith
few_asleep (true ∷ xs) = let rest = few_asleep xs in omega (arith, rest)
few_asleep (false ∷ xs) = let rest = few_asleep xs in omega (arith, rest)

pub all_asleep : (n : ℕ) → asleep_in (replicate n false) ≡ n
all_asleep zero = refl
all_asleep (suc n) = let rest = all_asleep n in omega (arith, rest)

pub one_woken : (xs : List Bool) (k : ℕ) → k < length xs → get_or xs k false ≡ false → asleep_in xs ≡ asleep_in (set xs k true) + 1
one_woken [] k within is = absurd (omega (arith, within))
one_woken (true ∷ xs) zero within is = absurd (let e : true ≡ false = is in cc)
one_woken (false ∷ xs) zero within is = omega arith
one_woken (b ∷ xs) (suc k) within is = let rest = one_woken xs k (omega (arith, within)) is in omega (arith, rest)

pub one_slept : (xs : List Bool) (k : ℕ) → k < length xs → get_or xs k false ≡ true → asleep_in (set xs k false) ≡ asleep_in xs + 1
one_slept [] k within is = absurd (omega (arith, within))
one_slept (true ∷ xs) zero within is = omega arith
one_slept (false ∷ xs) zero within is = absurd (let e : false ≡ true = is in cc)
one_slept (b ∷ xs) (suc k) within is = let rest = one_slept xs k (omega (arith, within)) is in omega (arith, rest)
