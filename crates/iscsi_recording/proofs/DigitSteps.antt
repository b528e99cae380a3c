-- Steps of the loops over digits and over their values.
use Rattle.std.proofs.Common.{◌≡◌, ℕ, zero, suc, ◌+◌, ◌-◌, ◌*◌, ◌/◌, ◌%◌, ◌<◌, ◌≤◌, min, true, List, [], ◌∷◌, length, slice_index, slice_set, Option, Some, None, Result, Ok, Err, is_some, refl, sym, ap, ◌∙◌, arith, inl, inr, get_or-set_other, get_or-set_same, below_more}
use Rattle.std.specs.Prelude.{MatchOption, IsOk}
use Rattle.std.specs.Result.{result_ok}
use Rattle.std.proofs.lemmas.List.{get_or-map, length-map, length-set}
use Rattle.std.proofs.lemmas.Bool.{cases_lt}
use Rattle.hex.specs.Hex.{decode_pairs, decode_sized, pair_value, hex_digit_value}
use Rattle.hex.specs.declared.error.FromHexError.{FromHexError}
use Rattle.hex.proofs.Pairs.{decode_pairs-ok_pair, decode_sized-pairs, cons_byte}
use Rattle.hex.proofs.HexLemmas.{IsOk-decode_sized}
use Rattle.iscsi_recording.specs.Fields.{is_digit}
use Rattle.iscsi_recording.specs.DigitValues.{IsRaisedValue, HasNonDigit, AreRaisedValues, lowered, paired}

-- ---- values of digits

-- the raised values so far, and the least of them
pub record Valued (text values : List ℕ) (least i : ℕ) : Type 0 where
  pub long : length values ≡ 96
  pub each : (k : ℕ) → k < i → IsRaisedValue (slice_index text k) (slice_index values k)
  pub above : (k : ℕ) → k < i → least ≤ slice_index values k
  pub none : least < 240 → (k : ℕ) × (k < i) × (slice_index values k < 240)

pub value_step : (text values : List ℕ) (least i v : ℕ) → i < 96 → IsRaisedValue (slice_index text i) v → Valued text values least i
    → Valued text (slice_set values i v) (min least v) (i + 1)
value_step text values least i v lt is so =
    let room : i < length values = omega (arith, so.long) in
    let here : slice_index (slice_set values i v) i ≡ v = get_or-set_same values i v 0 room in
    let other : (k : ℕ) → k < i → slice_index (slice_set values i v) k ≡ slice_index values k =
    λ k h. get_or-set_other values i k v 0 (omega arith) in
    record {
      long = length-set values i v ∙ so.long;
      each = below_more _ _ (λ k h. rw (other k h) (so.each k h)) (rw here is);
      above = below_more _ _ (λ k h. rw (other k h) (omega (arith, so.above k h))) (rw here (omega arith));
      none = λ small.
          elim (cases_lt v 240) [
            | inl less ↦ (i, omega arith, rw here less)
            | inr more ↦
                let w = so.none (omega arith) in
                (w.0, omega (arith, w.1), rw (other w.0 w.1) w.2)
          ];
    }

unread : (o : Option ℕ) (v : ℕ) → v < 240 → MatchOption o (v < 240) (λ w. v ≡ 240 + w) → o ≡ None
unread None v small is = refl
unread (Some w) v small is = absurd (omega arith)

read : (o : Option ℕ) (v : ℕ) → 239 < v → MatchOption o (v < 240) (λ w. v ≡ 240 + w) → o ≡ Some (v - 240)
read None v lt is = absurd (omega arith)
read (Some w) v lt is = let e : w ≡ v - 240 = omega arith in ap Some e

pub all_read : (text values : List ℕ) (least i : ℕ) → length text ≡ 96 → 96 ≤ i → 240 ≤ least → Valued text values least i → AreRaisedValues text values
all_read text values least i len end large so =
    record {
      long = so.long ∙ sym len;
      each = λ k h. read (hex_digit_value (slice_index text k)) (slice_index values k) (omega (arith, so.above k (omega arith))) (so.each k (omega arith));
      raised = λ k h. omega (arith, so.above k (omega arith));
    }

pub one_unread : (text values : List ℕ) (least i : ℕ) → length text ≡ 96 → i ≤ 96 → least < 240 → Valued text values least i → HasNonDigit text
one_unread text values least i len end small so =
    let w = so.none small in
    (w.0, omega (arith, w.1), unread (hex_digit_value (slice_index text w.0)) (slice_index values w.0) w.2 (so.each w.0 w.1))

-- a decimal digit's value
pub decimal_value : (c : ℕ) → is_digit c ≡ true → hex_digit_value c ≡ Some (c - 48)
decimal_value c h = grind (arith)

-- ---- values that were raised

pub lowered_at : (values : List ℕ) (k : ℕ) → k < length values → slice_index (lowered values) k ≡ slice_index values k - 240
lowered_at values k h = get_or-map (λ v. v - 240) values k 0 0 h

pub byte_of_raised : (h l : ℕ) → 239 < h → h < 256 → 239 < l → l < 256 → ((h + 256 * l) * 4097 % 65536 / 256 + 16) % 256 ≡ (h - 240) * 16 + (l - 240)
byte_of_raised h l a b c d = omega arith

-- ---- what is decoded

-- each byte is the digit of its value
record AreValues (text values : List ℕ) : Type 0 where
  long : length values ≡ length text
  each : (k : ℕ) → k < length text → hex_digit_value (slice_index text k) ≡ Some (slice_index values k)

are_values : (text values : List ℕ) → AreRaisedValues text values → AreValues text (lowered values)
are_values text values are =
    record {
      long = length-map values (λ v. v - 240) ∙ are.long;
      each = λ k h. are.each k h ∙ ap Some (sym (lowered_at values k (omega (arith, are.long))));
    }

decoded_pairs : (i : ℕ) (text values : List ℕ) → length text % 2 ≡ 0 → AreValues text values → decode_pairs i text ≡ Ok (paired values)
unfolding decode_pairs
decoded_pairs i [] [] even are = refl
decoded_pairs i [] (v ∷ values) even are = absurd (omega (arith, are.long))
decoded_pairs i (a ∷ []) values even are = absurd (omega arith)
decoded_pairs i (a ∷ b ∷ text) [] even are = absurd (omega (arith, are.long))
decoded_pairs i (a ∷ b ∷ text) (u ∷ []) even are = absurd (omega (arith, are.long))
decoded_pairs i (a ∷ b ∷ text) (u ∷ v ∷ values) even are =
    let first : hex_digit_value a ≡ Some u = are.each 0 (omega arith) in
    let second : hex_digit_value b ≡ Some v = are.each 1 (omega arith) in
    let pair : pair_value a b i ≡ Ok (u * 16 + v) = rw (first, second) refl in
    let rest : AreValues text values = record {
      long = omega (arith, are.long);
      each = λ k h. are.each (suc (suc k)) (omega arith);
    } in
    decode_pairs-ok_pair i a b (u * 16 + v) text pair
    ∙ ap (cons_byte (u * 16 + v)) (decoded_pairs (i + 2) text values (omega arith) rest)

decoded_all : (n : ℕ) (text values : List ℕ) → length text ≡ 2 * n → AreValues text values → result_ok (decode_sized text n) ≡ Some (paired values)
decoded_all n text values len are =
    ap result_ok (decode_sized-pairs text n (omega (arith, len)) (omega (arith, len)) ∙ decoded_pairs 0 text values (omega (arith, len)) are)

pub decoded : (text values : List ℕ) → length text ≡ 96 → AreRaisedValues text values → result_ok (decode_sized text 48) ≡ Some (paired (lowered values))
decoded text values len are = decoded_all 48 text (lowered values) len (are_values text values are)

-- of two digits
pub decoded_two : (high low u v : ℕ) → hex_digit_value high ≡ Some u → hex_digit_value low ≡ Some v → result_ok (decode_sized (high ∷ low ∷ []) 1) ≡ Some ((u * 16 + v) ∷ [])
decoded_two high low u v first second =
    decoded_all 1 (high ∷ low ∷ []) (u ∷ v ∷ []) refl (record {
      long = refl;
      each = λ k. elim k as (λ k. k < 2 → hex_digit_value (slice_index (high ∷ low ∷ []) k) ≡ Some (slice_index (u ∷ v ∷ []) k)) [
        | zero ↦ λ lt. first
        | suc j ↦ elim j as (λ j. suc j < 2 → hex_digit_value (slice_index (high ∷ low ∷ []) (suc j)) ≡ Some (slice_index (u ∷ v ∷ []) (suc j))) [
          | zero ↦ λ lt. second
          | suc i ↦ λ lt. absurd (omega arith)
        ]
      ];
    })

-- of two whose raised values are these
pub decoded_raised : (high low u v : ℕ) → IsRaisedValue high u → IsRaisedValue low v → 239 < u → 239 < v
    → result_ok (decode_sized (high ∷ low ∷ []) 1) ≡ Some (((u - 240) * 16 + (v - 240)) ∷ [])
decoded_raised high low u v first second a b =
    decoded_two high low (u - 240) (v - 240) (read (hex_digit_value high) u a first) (read (hex_digit_value low) v b second)

not_ok : (r : Result (List ℕ) FromHexError) → (IsOk r → ⊥) → result_ok r ≡ None
not_ok (Ok bytes) h = absurd (h refl)
not_ok (Err e) h = refl

pub not_decoded : (text : List ℕ) → HasNonDigit text → result_ok (decode_sized text 48) ≡ None
not_decoded text bad =
    not_ok (decode_sized text 48) (λ ok.
    let all = ((IsOk-decode_sized text 48).0 ok).1 in
    let digit : is_some (hex_digit_value (slice_index text bad.0)) ≡ true = all bad.0 0 bad.1 in
    cc (digit, bad.2))

pub other_length : (text : List ℕ) → (length text ≡ 96 → ⊥) → result_ok (decode_sized text 48) ≡ None
other_length text h = grind (arith)
