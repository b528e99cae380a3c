-- Digits of decimal numbers.
use Rattle.std.specs.Prelude.{◌≡◌, ℕ, ◌+◌, ◌/◌, ◌%◌, ◌^◌, ◌<◌, ◌≤◌, List, [], ◌∷◌, ◌++◌, take, decimal}

-- the digits of a number below 100, also where the first is 0
abbrev pub two_digits : ℕ → List ℕ
two_digits n = (48 + n / 10) ∷ (48 + n % 10) ∷ []

-- the first of these digits stand before the last one of ten numbers, from this one on
pub record AreTens (least : ℕ) (digits : List ℕ) (len : ℕ) : Type 0 where
  pub small : least < 10 ^ 15
  pub short : len ≤ 15
  pub written : (last : ℕ) → last < 10 → decimal (least + last) ≡ take len digits ++ (48 + last) ∷ []
