-- Digits of a number.
use Rattle.std.proofs.Common.{◌≡◌, ℕ, suc, ◌+◌, ◌-◌, ◌*◌, ◌^◌, ◌<◌, ◌≤◌, Bool, true, false, cond, List, [], ◌∷◌, length, drop, get_or, drop-cons, Option, None, refl, sym, ap, ◌∙◌, arith}
use Rattle.std.specs.Prelude.{option_and_then}
use Rattle.std.proofs.Math.Nat.{pow-le-pow_right}
use Rattle.iscsi_recording.specs.Fields.{is_digit, digits_after, up_to}

up_to-over : (max n : ℕ) → max < n → up_to max n ≡ None
up_to-over max n h = grind arith

either_way : (b : Bool) (max : ℕ) (o : Option ℕ) → option_and_then (up_to max) o ≡ None → option_and_then (up_to max) (cond b o None) ≡ None
either_way true max o h = h
either_way false max o h = refl

-- a number that is too great stays so with more digits after it
pub digits_over : (ds : List ℕ) (max n : ℕ) → max < n → option_and_then (up_to max) (digits_after n ds) ≡ None
digits_over [] max n h = up_to-over max n h
digits_over (d ∷ ds) max n h =
    let more : max < n * 10 + (d - 48) = omega arith in
    either_way (is_digit d) max (digits_after (n * 10 + (d - 48)) ds) (digits_over ds max (n * 10 + (d - 48)) more)

over_max : (max n : ℕ) → up_to max n ≡ None → max < n
over_max max n h = grind arith

-- where a digit of the text passes the limit, the number does
pub too_great : (text : List ℕ) (i n max : ℕ) → i < length text → is_digit (get_or text i 0) ≡ true
    → up_to max (n * 10 + (get_or text i 0 - 48)) ≡ None
    → digits_after n (drop i text) ≡ digits_after 0 text → option_and_then (up_to max) (digits_after 0 text) ≡ None
too_great text i n max lt digit over same =
    let more = n * 10 + (get_or text i 0 - 48) in
    let step : digits_after n (drop i text) ≡ digits_after more (drop (suc i) text) =
    ap (digits_after n) (drop-cons text i 0 lt) ∙ ap (λ b. cond b (digits_after more (drop (suc i) text)) None) digit in
    ap (option_and_then (up_to max)) (sym same ∙ step) ∙ digits_over (drop (suc i) text) max more (over_max max more over)

pub digit_small : (d : ℕ) → is_digit d ≡ true → d - 48 ≤ 9
digit_small d h = grind arith

-- a number of 18 digits has room for one more below 2^64
pub has_room : (n i d : ℕ) → n < 10 ^ i → i < 19 → d ≤ 9 → n * 10 + d < 2 ^ 64
has_room n i d h lt small =
    let some : 0 < 10 = omega arith in
    let few : i ≤ 18 = omega arith in
    let most : 10 ^ i ≤ 10 ^ 18 = pow-le-pow_right {n = 10} some {i = i} {j = 18} few in
    omega (arith, most)
