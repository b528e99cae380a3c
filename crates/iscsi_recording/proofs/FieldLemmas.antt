-- What a written field holds, and how it is read.
use Rattle.std.proofs.Common.{◌≡◌, ℕ, zero, suc, ◌+◌, ◌-◌, ◌*◌, ◌/◌, ◌%◌, ◌^◌, ◌<◌, ◌≤◌, ◌==◌, Bool, true, false, cond, List, [], ◌∷◌, ◌++◌, length, take, drop, get_or, slice_index, Option, Some, None, refl, sym, subst, ap, ◌∙◌, arith}
use Rattle.std.specs.Prelude.{option_and_then, decimal}
use Rattle.std.specs.Fmt.{digit_glyph, digits_onto}
use Rattle.std.proofs.DigitsParse.{digits_onto-nil}
use Rattle.std.specs.List.{list_any, before_first, after_first, position_or_len}
use Rattle.std.proofs.lemmas.List.{take_at, drop_at, append_assoc, length_push}
use Rattle.std.specs.Int.{w32, from_be_bytes}
use Rattle.std.specs.Result.{result_ok}
use Rattle.std.proofs.lemmas.Fmt.{decimal_by_steps}
use Rattle.hex.specs.Hex.{IsBytes, encode_with, encode_lower, lower_digits}
use Rattle.hex.proofs.HexLemmas.{length-encode_with, decode_of-encode_lower, decode_sized-twice}
use Rattle.iscsi_wire.specs.Replies.{bytes_4}
use Rattle.iscsi_recording.specs.Reading.{is_end}
use Rattle.iscsi_recording.proofs.LineLemmas.{or_false, false_or}
use Rattle.iscsi_recording.specs.Fields.{is_blank, is_digit, digits_after, up_to, decimal_of, hex_of}

-- ---- a decimal number is read again

some_step : (b : Bool) (before after : Option ℕ) (v w : ℕ) → (before ≡ Some v → after ≡ Some w) → cond b before None ≡ Some v → cond b after None ≡ Some w
some_step true before after v w f h = f h
some_step false before after v w f h = cc

pub push : (ds : List ℕ) (a v d : ℕ) → is_digit d ≡ true → digits_after a ds ≡ Some v → digits_after a (ds ++ d ∷ []) ≡ Some (v * 10 + (d - 48))
push [] a v d t h =
    let same : a ≡ v = cc in
    ap (λ b. cond b (Some (a * 10 + (d - 48))) None) t ∙ ap (λ k. Some (k * 10 + (d - 48))) same
push (x ∷ xs) a v d t h =
    some_step (is_digit x) (digits_after (a * 10 + (x - 48)) xs) (digits_after (a * 10 + (x - 48)) (xs ++ d ∷ [])) v (v * 10 + (d - 48))
    (push xs (a * 10 + (x - 48)) v d t) h

digit : (k : ℕ) → k < 10 → is_digit (48 + k) ≡ true
digit k h = grind arith

-- these digits are read as n, and don't begin with 0 unless n is 0
record Prints (n : ℕ) (ds : List ℕ) : Type 0 where
  read : digits_after 0 ds ≡ Some n
  lead : 1 ≤ n → 49 ≤ get_or ds 0 0
  some : 0 < length ds
  zero_is : n ≡ 0 → length ds ≡ 1

one : (n : ℕ) → n < 10 → Prints n ((48 + n) ∷ [])
one n h =
    let value : 0 * 10 + (48 + n - 48) ≡ n = omega arith in
    record {
      read = ap (λ b. cond b (Some (0 * 10 + (48 + n - 48))) None) (digit n h) ∙ ap (λ k. Some k) value;
      lead = λ l. omega arith;
      some = omega arith;
      zero_is = λ z. refl;
    }

first_stays : (ds : List ℕ) (d : ℕ) → 0 < length ds → get_or (ds ++ d ∷ []) 0 0 ≡ get_or ds 0 0
first_stays [] d h = absurd (omega arith)
first_stays (x ∷ xs) d h = refl

longer : (ds : List ℕ) (d : ℕ) → 0 < length (ds ++ d ∷ [])
longer [] d = omega arith
longer (x ∷ xs) d = omega arith

more : (n : ℕ) (ds : List ℕ) → 10 ≤ n → Prints (n / 10) ds → Prints n (ds ++ (48 + n % 10) ∷ [])
more n ds big p =
    let small : n % 10 < 10 = omega arith in
    let value : n / 10 * 10 + (48 + n % 10 - 48) ≡ n = omega arith in
    let above : 1 ≤ n / 10 = omega arith in
    record {
      read = push ds 0 (n / 10) (48 + n % 10) (digit (n % 10) small) p.read ∙ ap (λ k. Some k) value;
      lead = λ l. rw (first_stays ds (48 + n % 10) p.some) (p.lead above);
      some = longer ds (48 + n % 10);
      zero_is = λ z. absurd (omega arith);
    }

within : (max n : ℕ) → n ≤ max → up_to max n ≡ Some n
within max n h = grind arith

read_back : (max n : ℕ) (ds : List ℕ) → n ≤ max → Prints n ds → decimal_of max ds ≡ Some n
read_back max n [] h p = absurd (let bad : 0 < 0 = p.some in omega arith)
read_back max n (d ∷ []) h p = ap (option_and_then (up_to max)) p.read ∙ within max n h
read_back max zero (d ∷ e ∷ ds) h p = absurd (let bad = p.zero_is refl in omega arith)
read_back max (suc n) (d ∷ e ∷ ds) h p =
    let high : 49 ≤ d = p.lead (omega arith) in
    let other : (d == 48) ≡ false = grind arith in
    ap (λ b. cond b None (option_and_then (up_to max) (digits_after 0 (d ∷ e ∷ ds)))) other
    ∙ (ap (option_and_then (up_to max)) p.read ∙ within max (suc n) h)

pub decimal_back : (max n : ℕ) → n ≤ max → n < 2 ^ 64 → decimal_of max (decimal n) ≡ Some n
decimal_back max n h small = read_back max n (decimal n) h (decimal_by_steps Prints one more n small)

-- ---- so are bytes

pub hex_back : (n : ℕ) (bytes : List ℕ) → length bytes ≡ n → IsBytes bytes → hex_of n (encode_lower bytes) ≡ Some bytes
hex_back n bytes len bs =
    let twice : length (encode_lower bytes) ≡ 2 * n = omega (arith, length-encode_with lower_digits bytes, len) in
    ap result_ok (decode_sized-twice (encode_lower bytes) n twice ∙ decode_of-encode_lower bytes bs)

pub bytes_4-bytes : (n : ℕ) → IsBytes (bytes_4 n)
bytes_4-bytes n zero = omega arith
bytes_4-bytes n (suc zero) = omega arith
bytes_4-bytes n (suc (suc zero)) = omega arith
bytes_4-bytes n (suc (suc (suc zero))) = omega arith
bytes_4-bytes n (suc (suc (suc (suc i)))) = omega arith

pub from_bytes_4 : (n : ℕ) → n < 2 ^ 32 → from_be_bytes w32 (bytes_4 n) ≡ n
from_bytes_4 n h = omega arith

-- ---- bytes that stand in no field

-- a test that the digits of numbers don't pass, nor 0
pub record Spares (p : ℕ → Bool) : Type 0 where
  pub decimals : (k : ℕ) → k < 10 → p (48 + k) ≡ false
  pub letters : list_any p lower_digits ≡ false
  pub nothing : p 0 ≡ false

glyph_spared : (p : ℕ → Bool) (d : ℕ) → Spares p → d < 10 → p (digit_glyph false d) ≡ false
glyph_spared p d s h = let is : digit_glyph false d ≡ 48 + d = grind arith in ap p is ∙ s.decimals d h

onto_spared : (p : ℕ → Bool) (k n : ℕ) (acc : List ℕ) → Spares p → list_any p acc ≡ false → list_any p (digits_onto k 10 false n acc) ≡ false
onto_spared p zero n acc s h = h
onto_spared p (suc k) n acc s h =
    let small : n % 10 < 10 = omega arith in
    let one_more : list_any p (digit_glyph false (n % 10) ∷ acc) ≡ false =
    false_or (p (digit_glyph false (n % 10))) (list_any p acc) (glyph_spared p (n % 10) s small) h in
    elim (n / 10 == 0) as (λ b. list_any p (cond b (digit_glyph false (n % 10) ∷ acc) (digits_onto k 10 false (n / 10) (digit_glyph false (n % 10) ∷ acc))) ≡ false) [
      | true ↦ one_more
      | false ↦ onto_spared p k (n / 10) (digit_glyph false (n % 10) ∷ acc) s one_more
    ]

-- no byte of a decimal number passes
pub decimal_spared : (p : ℕ → Bool) (n : ℕ) → Spares p → list_any p (decimal n) ≡ false
decimal_spared p n s = ap (list_any p) (sym (digits_onto-nil 10 false n)) ∙ onto_spared p 64 n [] s refl

onto_length : (k n : ℕ) (acc : List ℕ) → length (digits_onto k 10 false n acc) ≤ k + length acc
onto_length zero n acc = omega arith
onto_length (suc k) n acc =
    elim (n / 10 == 0) as (λ b. length (cond b (digit_glyph false (n % 10) ∷ acc) (digits_onto k 10 false (n / 10) (digit_glyph false (n % 10) ∷ acc))) ≤ suc k + length acc) [
      | true ↦ omega arith
      | false ↦ (let rest = onto_length k (n / 10) (digit_glyph false (n % 10) ∷ acc) in omega (arith, rest))
    ]

-- whatever the number, it has no more digits than these
pub decimal_length : (n : ℕ) → length (decimal n) ≤ 64
decimal_length n = let short : length (digits_onto 64 10 false n []) ≤ 64 = onto_length 64 n [] in subst (λ l. length l ≤ 64) (digits_onto-nil 10 false n) short

place_spared : (p : ℕ → Bool) (t : List ℕ) (k : ℕ) → list_any p t ≡ false → p 0 ≡ false → p (slice_index t k) ≡ false
place_spared p [] k h none = none
place_spared p (x ∷ t) zero h none = (or_false (p x) (list_any p t) h).0
place_spared p (x ∷ t) (suc k) h none = place_spared p t k (or_false (p x) (list_any p t) h).1 none

with_spared : (p : ℕ → Bool) (t bytes : List ℕ) → list_any p t ≡ false → p 0 ≡ false → list_any p (encode_with t bytes) ≡ false
unfolding encode_with
with_spared p t [] h none = refl
with_spared p t (b ∷ bytes) h none =
    false_or (p (slice_index t (b / 16))) _ (place_spared p t (b / 16) h none)
    (false_or (p (slice_index t (b % 16))) _ (place_spared p t (b % 16) h none) (with_spared p t bytes h none))

-- nor one of bytes in hexadecimal digits
pub hex_spared : (p : ℕ → Bool) (bytes : List ℕ) → Spares p → list_any p (encode_lower bytes) ≡ false
hex_spared p bytes s = with_spared p lower_digits bytes s.letters s.nothing

pub hex_length : (bytes : List ℕ) → length (encode_lower bytes) ≡ 2 * length bytes
hex_length bytes = length-encode_with lower_digits bytes

pub blanks_spared : Spares is_blank
blanks_spared = record { decimals = λ k h. grind arith; letters = refl; nothing = refl }

pub ends_spared : Spares is_end
ends_spared = record { decimals = λ k h. grind arith; letters = refl; nothing = refl }

-- ---- two fields, a blank between them

-- the first blank stands behind bytes none of which is one
blank_at : (xs ys : List ℕ) → list_any is_blank xs ≡ false → position_or_len is_blank (xs ++ 32 ∷ ys) ≡ length xs
blank_at [] ys h = refl
blank_at (x ∷ xs) ys h = let parts = or_false (is_blank x) (list_any is_blank xs) h in rw (parts.0, blank_at xs ys parts.1) (omega arith)

pub text_before : (ds text : List ℕ) → list_any is_blank ds ≡ false → before_first is_blank (ds ++ 32 ∷ text) ≡ ds
text_before ds text clear = ap (λ k. take k (ds ++ 32 ∷ text)) (blank_at ds text clear) ∙ take_at ds (32 ∷ text) (length ds) refl

pub text_after : (ds text : List ℕ) → list_any is_blank ds ≡ false → after_first is_blank (ds ++ 32 ∷ text) ≡ text
text_after ds text clear =
    ap (λ k. drop (k + 1) (ds ++ 32 ∷ text)) (blank_at ds text clear)
    ∙ ap (drop (length ds + 1)) (sym (append_assoc ds (32 ∷ []) text))
    ∙ drop_at (ds ++ 32 ∷ []) text (length ds + 1) (length_push ds 32)

pub field_before : (n : ℕ) (rest : List ℕ) → before_first is_blank (decimal n ++ 32 ∷ rest) ≡ decimal n
field_before n rest = text_before (decimal n) rest (decimal_spared is_blank n blanks_spared)

pub field_after : (n : ℕ) (rest : List ℕ) → after_first is_blank (decimal n ++ 32 ∷ rest) ≡ rest
field_after n rest = text_after (decimal n) rest (decimal_spared is_blank n blanks_spared)
