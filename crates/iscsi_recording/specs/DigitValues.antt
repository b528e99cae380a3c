-- Values of digits.
use Rattle.std.specs.Prelude.{◌≡◌, ℕ, zero, suc, ◌+◌, ◌-◌, ◌*◌, ◌<◌, List, [], ◌∷◌, length, map, slice_index, None, Some, MatchOption}
use Rattle.hex.specs.Hex.{hex_digit_value}

-- 240 more than the value of the digit c, or less than 240 where c is none
abbrev pub IsRaisedValue : ℕ → ℕ → Type 0
IsRaisedValue c v = MatchOption (hex_digit_value c) (v < 240) (λ w. v ≡ 240 + w)

-- one of the bytes is no digit
abbrev pub HasNonDigit : List ℕ → Type 0
HasNonDigit text = (k : ℕ) × (k < length text) × (hex_digit_value (slice_index text k) ≡ None)

-- each byte is the digit of its value, which is raised by 240
pub record AreRaisedValues (text values : List ℕ) : Type 0 where
  pub long : length values ≡ length text
  pub each : (k : ℕ) → k < length text → hex_digit_value (slice_index text k) ≡ Some (slice_index values k - 240)
  pub raised : (k : ℕ) → k < length text → 239 < slice_index values k

-- values that were raised by 240
abbrev pub lowered : List ℕ → List ℕ
lowered values = map (λ v. v - 240) values

-- the bytes of pairs of values
abbrev pub paired : List ℕ → List ℕ
paired [] = []
paired (high ∷ []) = []
paired (high ∷ low ∷ rest) = (high * 16 + low) ∷ paired rest

-- the number of the first k digits, whose values these are
abbrev pub number_of : List ℕ → ℕ → ℕ
number_of values zero = 0
number_of values (suc k) = number_of values k * 10 + slice_index values k
