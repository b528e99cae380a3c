-- What each byte is worth as a digit, by a table.
use Rattle.std.proofs.Common.{◌≡◌, ℕ, zero, suc, ◌+◌, ◌-◌, ◌%◌, ◌<◌, ◌&&◌, ◌==◌, nat_lt, Bool, true, max, inl, inr, Option, Some, None, refl, arith, bit_and}
use Rattle.std.specs.Prelude.{MatchOption}
use Rattle.std.proofs.lemmas.Bool.{and_parts, cases_lt, eqb-true, ltb-true}
use Rattle.hex.specs.Hex.{hex_digit_value}
use Rattle.iscsi_recording.specs.DigitValues.{IsRaisedValue}

-- the raised value as the code computes it
abbrev worth : ℕ → ℕ
worth c = max ((c + 198) % 256 - 6) ((bit_and ((c + 255) % 256) 223 + 186) % 256)

abbrev fits : Option ℕ → ℕ → Bool
fits None v = nat_lt v 240
fits (Some w) v = v == 240 + w

abbrev all_fit : ℕ → Bool
all_fit zero = true
all_fit (suc n) = fits (hex_digit_value n) (worth n) && all_fit n

fits-at : (n c : ℕ) → all_fit n ≡ true → c < n → fits (hex_digit_value c) (worth c) ≡ true
fits-at zero c h lt = absurd (omega arith)
fits-at (suc n) c h lt =
    let parts = and_parts (fits (hex_digit_value n) (worth n)) (all_fit n) h in
    elim (cases_lt c n) [
      | inl below ↦ fits-at n c parts.1 below
      | inr top ↦
          let e : c ≡ n = omega arith in
          rw e parts.0
    ]

from_fits : (o : Option ℕ) (v : ℕ) → fits o v ≡ true → MatchOption o (v < 240) (λ w. v ≡ 240 + w)
from_fits None v h = ltb-true v 240 h
from_fits (Some w) v h = eqb-true v (240 + w) h

pub is_raised : (c : ℕ) → c < 256 → IsRaisedValue c (worth c)
is_raised c h = from_fits (hex_digit_value c) (worth c) (fits-at 256 c refl h)
