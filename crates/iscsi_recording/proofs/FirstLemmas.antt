-- A number at the front of a line.
use Rattle.std.proofs.Common.{◌≡◌, ℕ, suc, ◌+◌, ◌-◌, ◌*◌, ◌^◌, ◌<◌, ◌≤◌, ◌==◌, true, false, cond, List, [], ◌∷◌, length, get_or, take, drop, not, Some, None, refl, sym, ap, ◌∙◌, arith}
use Rattle.std.specs.Prelude.{option_and_then}
use Rattle.std.specs.List.{before_first, after_first, prefix_len}
use Rattle.std.proofs.lemmas.List.{drop_more}
use native.Mathlib.Numerals.{unary_clauses}
use Rattle.iscsi_recording.proofs.Digits.{digit_small, has_room}
use Rattle.iscsi_recording.specs.Fields.{is_blank, is_digit, digits_after, up_to, decimal_of}

pub within : (max n : ℕ) → n ≤ max → up_to max n ≡ Some n
within max n h = grind arith

pub pow_grows : (i : ℕ) → 10 ^ (i + 1) ≡ 10 * 10 ^ i
pow_grows i = simp unary_clauses (omega arith)

-- n is the number of the first i bytes, which are digits
pub record Counted (bytes : List ℕ) (n i : ℕ) : Type 0 where
  pub read : digits_after n (before_first is_blank (drop i bytes)) ≡ digits_after 0 (before_first is_blank bytes)
  pub rest : after_first is_blank (drop i bytes) ≡ after_first is_blank bytes
  pub small : n < 10 ^ i

take_one : (k b : ℕ) (xs : List ℕ) → take (1 + k) (b ∷ xs) ≡ b ∷ take k xs
take_one k b xs = let same : 1 + k ≡ suc k = omega arith in ap (λ j. take j (b ∷ xs)) same

drop_one : (k b : ℕ) (xs : List ℕ) → drop (1 + k + 1) (b ∷ xs) ≡ drop (k + 1) xs
drop_one k b xs = let same : 1 + k + 1 ≡ suc (k + 1) = omega arith in ap (λ j. drop j (b ∷ xs)) same

before_first-other : (b : ℕ) (xs : List ℕ) → (b == 32) ≡ false → before_first is_blank (b ∷ xs) ≡ b ∷ before_first is_blank xs
before_first-other b xs h = ap (λ t. take (cond (not t) (1 + prefix_len (λ x. not (is_blank x)) xs) 0) (b ∷ xs)) h ∙ take_one (prefix_len (λ x. not (is_blank x)) xs) b xs

after_first-other : (b : ℕ) (xs : List ℕ) → (b == 32) ≡ false → after_first is_blank (b ∷ xs) ≡ after_first is_blank xs
after_first-other b xs h = ap (λ t. drop (cond (not t) (1 + prefix_len (λ x. not (is_blank x)) xs) 0 + 1) (b ∷ xs)) h ∙ drop_one (prefix_len (λ x. not (is_blank x)) xs) b xs

next_digit : (n d : ℕ) (xs : List ℕ) → is_digit d ≡ true → digits_after n (d ∷ xs) ≡ digits_after (n * 10 + (d - 48)) xs
next_digit n d xs h = ap (λ b. cond b (digits_after (n * 10 + (d - 48)) xs) None) h

digit-other : (d : ℕ) → is_digit d ≡ true → (d == 32) ≡ false
digit-other d h = grind arith

pub count_step : (bytes : List ℕ) (n i : ℕ) → i < length bytes → is_digit (get_or bytes i 0) ≡ true → Counted bytes n i
    → Counted bytes (n * 10 + (get_or bytes i 0 - 48)) (i + 1)
count_step bytes n i lt digit so =
    let d = get_or bytes i 0 in
    let other = digit-other d digit in
    let cons : drop i bytes ≡ d ∷ drop (i + 1) bytes = drop_more bytes i 0 lt in
    let few : d - 48 ≤ 9 = digit_small d digit in
    let grows : 10 ^ (i + 1) ≡ 10 * 10 ^ i = pow_grows i in
    let front : before_first is_blank (drop i bytes) ≡ d ∷ before_first is_blank (drop (i + 1) bytes) =
    ap (before_first is_blank) cons ∙ before_first-other d (drop (i + 1) bytes) other in
    record {
      read = sym (ap (digits_after n) front ∙ next_digit n d (before_first is_blank (drop (i + 1) bytes)) digit) ∙ so.read;
      rest = sym (ap (after_first is_blank) cons ∙ after_first-other d (drop (i + 1) bytes) other) ∙ so.rest;
      small = omega (arith, so.small, few, grows);
    }

pub led : (b : ℕ) (xs : List ℕ) (max : ℕ) → (b == 48) ≡ false → decimal_of max (b ∷ xs) ≡ option_and_then (up_to max) (digits_after 0 (b ∷ xs))
led b [] max h = refl
led b (e ∷ xs) max h = rw h refl

at_blank : (n : ℕ) (ds : List ℕ) → (digits_after n (before_first is_blank (32 ∷ ds)) ≡ Some n) × (after_first is_blank (32 ∷ ds) ≡ ds)
at_blank n ds = (refl, refl)

decimal_at : (bytes : List ℕ) (n max : ℕ) → 0 < length bytes → (get_or bytes 0 0 == 48) ≡ false → (get_or bytes 0 0 == 32) ≡ false → n ≤ max
    → digits_after 0 (before_first is_blank bytes) ≡ Some n → decimal_of max (before_first is_blank bytes) ≡ Some n
decimal_at [] n max lt zero blank le h = absurd (omega arith)
decimal_at (b ∷ bs) n max lt zero blank le h =
    ap (decimal_of max) (before_first-other b bs blank)
    ∙ led b (before_first is_blank bs) max zero
    ∙ ap (option_and_then (up_to max)) (sym (ap (digits_after 0) (before_first-other b bs blank)) ∙ h)
    ∙ within max n le

pub count_done : (bytes : List ℕ) (n i : ℕ) → i < length bytes → i < 19 → get_or bytes i 0 ≡ 32
    → (get_or bytes 0 0 ≡ 48 → ⊥) → (get_or bytes 0 0 ≡ 32 → ⊥) → Counted bytes n i
    → (decimal_of (2 ^ 64 - 1) (before_first is_blank bytes) ≡ Some n) × (drop (i + 1) bytes ≡ after_first is_blank bytes)
count_done bytes n i lt few blank lead first so =
    let zero : (get_or bytes 0 0 == 48) ≡ false = grind arith in
    let other : (get_or bytes 0 0 == 32) ≡ false = grind arith in
    let cons : drop i bytes ≡ 32 ∷ drop (i + 1) bytes = drop_more bytes i 0 lt ∙ ap (λ d. d ∷ drop (i + 1) bytes) blank in
    let ends = at_blank n (drop (i + 1) bytes) in
    let room = has_room n i 0 so.small few (omega arith) in
    let value : digits_after 0 (before_first is_blank bytes) ≡ Some n =
    sym so.read ∙ ap (λ l. digits_after n (before_first is_blank l)) cons ∙ ends.0 in (
      decimal_at bytes n (2 ^ 64 - 1) (omega arith) zero other (omega (arith, room)) value,
      sym ends.1 ∙ sym (ap (after_first is_blank) cons) ∙ so.rest,
    )
