-- Hexadecimal digits by vectors, where each lane is a byte.
use Rattle.std.proofs.Common.{◌≡◌, ℕ, zero, suc, ◌+◌, ◌*◌, ◌/◌, ◌%◌, ◌^◌, ◌<◌, ◌≤◌, List, [], ◌∷◌, ◌++◌, map, length, take, drop, get_or, replicate, slice_index, bit_and, refl, sym, ap, ◌∙◌, arith, w8, Fits}
use Rattle.iscsi_report.proofs.LineLemmas.{encode_lower_append}
use Rattle.std.proofs.lemmas.List.{append_assoc, take_all, take-take, drop-take, length-take, get_or-take, get_or-drop, drop_all, take-append-le, drop-append-le, take-append-drop, drop-drop, length-drop, get_or-map, length-map, ext_get_or}
use Rattle.std.proofs.lemmas.Nat.{and_le_r, and_mask}
use Rattle.std.proofs.lemmas.Simd.{Each1-all, Each1-weaker, Each1-zip2, Each2-splat, below_from_Fits, length-zip2, zip2_splat, swz_l, SwzOk, SwzOk-from_below, length-swz_l, get_or-swz_l_below}
use lib.Lanes.{zip2, pick_l, Each1}
use Rattle.iscsi_wire.specs.Fields.{big_endian_from}
use Rattle.iscsi_wire.specs.Replies.{bytes_4}
use Rattle.iscsi_report.specs.Lines.{eight_digits}
use Rattle.hex.specs.Hex.{encode_with, encode_lower, lower_digits}

abbrev pub down : ℕ → ℕ → ℕ
down a b = a / 2 ^ b

pub lane_fits : (v : List ℕ) (i : ℕ) → Each1 (Fits w8) v → get_or v i 0 < 256
lane_fits [] i h = omega arith
lane_fits (x ∷ xs) zero h = h.0.fits
lane_fits (x ∷ xs) (suc i) h = lane_fits xs i h.1

pub high_ok : (v : List ℕ) → length v ≡ 16 → Each1 (Fits w8) v → SwzOk w8 16 16 0 (zip2 down v (replicate 16 4))
high_ok v long fits =
    let small = Each1-weaker (λ a. a < 256) (λ a. a / 16 < 16) (λ a h. omega arith) v (below_from_Fits w8 v fits) in
    SwzOk-from_below w8 16 1 16 0 (zip2 down v (replicate 16 4)) refl (omega (arith, length-zip2 down v (replicate 16 4) long))
    (Each1-zip2 down (λ j. j < 16) v (replicate 16 4) (Each2-splat (λ a b. down a b < 16) v 16 4 small))

pub low_ok : (v : List ℕ) → length v ≡ 16 → SwzOk w8 16 16 0 (zip2 bit_and v (replicate 16 15))
low_ok v long =
    let small = Each1-all (λ a. bit_and a 15 < 16) (λ a. omega (arith, and_le_r a 15)) v in
    SwzOk-from_below w8 16 1 16 0 (zip2 bit_and v (replicate 16 15)) refl (omega (arith, length-zip2 bit_and v (replicate 16 15) long))
    (Each1-zip2 bit_and (λ j. j < 16) v (replicate 16 15) (Each2-splat (λ a b. bit_and a b < 16) v 16 15 small))

-- the digits at places g x below 16
looked_up : (t : List ℕ) (g : ℕ → ℕ) (v js : List ℕ) → length v ≡ 16 → Each1 (Fits w8) v → js ≡ map g v → ((x : ℕ) → x < 256 → g x < 16)
    → swz_l w8 16 t 0 js ≡ map (λ x. get_or t (g x) 0) v
looked_up t g v js len fits e small =
    let long : length js ≡ 16 = ap length e ∙ length-map v g ∙ len in
    ext_get_or 0 _ _ (length-swz_l w8 16 t 0 js ∙ long ∙ sym (length-map v (λ x. get_or t (g x) 0) ∙ len)) (λ i h.
    let lt : i < 16 = omega (arith, length-swz_l w8 16 t 0 js) in
    let within : i < length v = omega (arith, len) in
    let is : get_or js i 0 ≡ g (get_or v i 0) = ap (λ l. get_or l i 0) e ∙ get_or-map g v i 0 0 within in
    let below : get_or js i 0 < 16 = omega (arith, small (get_or v i 0) (lane_fits v i fits)) in
    let same : 16 * ((0 + i) / 16) + get_or js i 0 ≡ get_or js i 0 = omega arith in
    get_or-swz_l_below w8 16 t 0 js i (omega arith) below
    ∙ ap (λ k. get_or t k 0) (same ∙ is) ∙ sym (get_or-map (λ x. get_or t (g x) 0) v i 0 0 within))

-- two functions of each element
pairs : (ℕ → ℕ) → (ℕ → ℕ) → List ℕ → List ℕ
pairs f g [] = []
pairs f g (x ∷ xs) = f x ∷ g x ∷ pairs f g xs

encode-pairs : (t v : List ℕ) → pairs (λ x. slice_index t (x / 16)) (λ x. slice_index t (bit_and x 15)) v ≡ encode_with t v
unfolding pairs encode_with
encode-pairs t [] = refl
encode-pairs t (x ∷ v) =
    let mask : bit_and x 15 ≡ x % 16 = and_mask x 4 in
    rw (encode-pairs t v, mask) refl

abbrev pub weave : List ℕ → List ℕ → List ℕ
weave xs ys = pick_l 0 (xs ++ ys) (0 ∷ 16 ∷ 1 ∷ 17 ∷ 2 ∷ 18 ∷ 3 ∷ 19 ∷ 4 ∷ 20 ∷ 5 ∷ 21 ∷ 6 ∷ 22 ∷ 7 ∷ 23 ∷ [])
    ++ pick_l 0 (xs ++ ys) (8 ∷ 24 ∷ 9 ∷ 25 ∷ 10 ∷ 26 ∷ 11 ∷ 27 ∷ 12 ∷ 28 ∷ 13 ∷ 29 ∷ 14 ∷ 30 ∷ 15 ∷ 31 ∷ [])

weave_maps : (f g : ℕ → ℕ) (v : List ℕ) → length v ≡ 16 → weave (map f v) (map g v) ≡ pairs f g v
unfolding pairs
weave_maps f g (a ∷ b ∷ c ∷ d ∷ e ∷ h ∷ i ∷ j ∷ k ∷ l ∷ m ∷ n ∷ o ∷ p ∷ q ∷ r ∷ []) len = refl
weave_maps f g _ len = absurd (omega arith)

-- the digits of 16 bytes
pub woven : (v : List ℕ) → length v ≡ 16 → Each1 (Fits w8) v
    → weave (swz_l w8 16 lower_digits 0 (zip2 down v (replicate 16 4))) (swz_l w8 16 lower_digits 0 (zip2 bit_and v (replicate 16 15))) ≡ encode_lower v
woven v long fits =
    let high = looked_up lower_digits (λ x. x / 16) v _ long fits (zip2_splat down v 16 4 long) (λ x h. omega arith) in
    let low = looked_up lower_digits (λ x. bit_and x 15) v _ long fits (zip2_splat bit_and v 16 15 long) (λ x h. omega (arith, and_le_r x 15)) in
    rw (high, low) (weave_maps (λ x. slice_index lower_digits (x / 16)) (λ x. slice_index lower_digits (bit_and x 15)) v long ∙ encode-pairs lower_digits v)

-- the digits of a number of four bytes are the first of those of 16 bytes
pub first_eight : (front back : List ℕ) (a b c d : ℕ) (rest : List ℕ) → length front ≡ 16 → front ++ back ≡ encode_lower (a ∷ b ∷ c ∷ d ∷ rest)
    → take 8 front ≡ encode_lower (a ∷ b ∷ c ∷ d ∷ [])
unfolding encode_with
first_eight front back a b c d rest len e = sym (take-append-le 8 front back (omega (arith, len))) ∙ ap (take 8) e

-- the digits of 16 bytes in halves: the first eight of each half are those of four bytes
halves : (front back v : List ℕ) → length front ≡ 16 → length v ≡ 16 → front ++ back ≡ encode_lower v
    → (take 8 front ≡ encode_lower (take 4 v)) × (take 8 back ≡ encode_lower (take 4 (drop 8 v)))
unfolding encode_with
halves front back (a ∷ b ∷ c ∷ d ∷ e ∷ f ∷ g ∷ h ∷ i ∷ j ∷ k ∷ l ∷ m ∷ n ∷ o ∷ p ∷ []) len long is =
    let v : List ℕ = a ∷ b ∷ c ∷ d ∷ e ∷ f ∷ g ∷ h ∷ i ∷ j ∷ k ∷ l ∷ m ∷ n ∷ o ∷ p ∷ [] in
    let s : front ≡ take 16 (encode_lower v) = sym (take-append-le 16 front back (omega (arith, len)) ∙ take_all 16 front (omega (arith, len))) ∙ ap (take 16) is in
    let t : back ≡ drop 16 (encode_lower v) = sym (drop-append-le 16 front back (omega (arith, len)) ∙ ap (λ (x : List ℕ). x ++ back) (drop_all 16 front (omega (arith, len)))) ∙ ap (drop 16) is in
    rw (s, t) (refl, refl)
halves front back _ len long is = absurd (omega arith)

in_thirds : (h : List ℕ) → length h ≡ 48 → take 16 h ++ (take 16 (drop 16 h) ++ take 16 (drop 32 h)) ≡ h
in_thirds h len =
    let last : take 16 (drop 32 h) ≡ drop 32 h = take_all 16 (drop 32 h) (omega (arith, length-drop 32 h)) in
    ap (λ (l : List ℕ). take 16 h ++ l) (ap (λ (l : List ℕ). take 16 (drop 16 h) ++ l) (last ∙ sym (drop-drop 16 16 h)) ∙ take-append-drop 16 (drop 16 h)) ∙ take-append-drop 16 h

-- the digits of a header, 16 bytes after 16 bytes
pub digits_in_thirds : (h e : List ℕ) → length h ≡ 48
    → ((e ++ encode_lower (take 16 h)) ++ encode_lower (take 16 (drop 16 h))) ++ encode_lower (take 16 (drop 32 h)) ≡ e ++ encode_lower h
digits_in_thirds h e len =
    let a : List ℕ = take 16 h in
    let b : List ℕ = take 16 (drop 16 h) in
    let c : List ℕ = take 16 (drop 32 h) in
    append_assoc (e ++ encode_lower a) (encode_lower b) (encode_lower c)
    ∙ append_assoc e (encode_lower a) (encode_lower b ++ encode_lower c)
    ∙ ap (λ (l : List ℕ). e ++ (encode_lower a ++ l)) (sym (encode_lower_append b c))
    ∙ ap (λ (l : List ℕ). e ++ l) (sym (encode_lower_append a (b ++ c)) ∙ ap encode_lower (in_thirds h len))

four_bytes : (bs : List ℕ) → length bs ≡ 4 → ((i : ℕ) → i < 4 → get_or bs i 0 < 256) → bytes_4 (big_endian_from 0 bs) ≡ bs
four_bytes (a ∷ b ∷ c ∷ d ∷ []) len small =
    let p : a < 256 = small 0 (omega arith) in
    let q : b < 256 = small 1 (omega arith) in
    let r : c < 256 = small 2 (omega arith) in
    let s : d < 256 = small 3 (omega arith) in
    let e : (256 * (256 * (256 * (256 * 0 + a) + b) + c) + d) / 16777216 % 256 ≡ a = omega (arith, p, q, r, s) in
    let f : (256 * (256 * (256 * (256 * 0 + a) + b) + c) + d) / 65536 % 256 ≡ b = omega (arith, p, q, r, s) in
    let g : (256 * (256 * (256 * (256 * 0 + a) + b) + c) + d) / 256 % 256 ≡ c = omega (arith, p, q, r, s) in
    let h : (256 * (256 * (256 * (256 * 0 + a) + b) + c) + d) % 256 ≡ d = omega (arith, p, q, r, s) in
    rw (e, f, g, h) refl
four_bytes _ len small = absurd (omega arith)

-- the digits of a number that stands in these four bytes
digits_of_field : (h : List ℕ) (from : ℕ) → from + 4 ≤ length h → ((i : ℕ) → get_or h i 0 < 256)
    → encode_lower (take 4 (drop from h)) ≡ eight_digits (big_endian_from 0 (take 4 (drop from h)))
digits_of_field h from within small =
    let long : length (take 4 (drop from h)) ≡ 4 = omega (arith, length-drop from h, length-take 4 (drop from h)) in
    ap encode_lower (sym (four_bytes (take 4 (drop from h)) long (λ i lt. rw (get_or-take 4 (drop from h) i 0 lt, get_or-drop from h i 0) (small (from + i)))))

-- the first eight of each half are the digits of the numbers that stand in these 16 bytes
pub halves_said : (front back v : List ℕ) → length front ≡ 16 → length v ≡ 16 → ((i : ℕ) → get_or v i 0 < 256) → front ++ back ≡ encode_lower (take 16 v)
    → (take 8 front ≡ eight_digits (big_endian_from 0 (take 4 v))) × (take 8 back ≡ eight_digits (big_endian_from 0 (take 4 (drop 8 v))))
halves_said front back v len long small is =
    let said = halves front back v len long (is ∙ ap encode_lower (take_all 16 v (omega (arith, long)))) in
    (said.0 ∙ digits_of_field v 0 (omega (arith, long)) small, said.1 ∙ digits_of_field v 8 (omega (arith, long)) small)

-- the tag and CmdSN of a header stand in its second third
pub numbers_of_header : (h : List ℕ) → (take 4 (take 16 (drop 16 h)) ≡ take 4 (drop 16 h)) × (take 4 (drop 8 (take 16 (drop 16 h))) ≡ take 4 (drop 24 h))
numbers_of_header h =
    (take-take 4 16 (drop 16 h) (omega arith), ap (take 4) (drop-take 8 8 (drop 16 h)) ∙ take-take 4 8 (drop 8 (drop 16 h)) (omega arith) ∙ ap (take 4) (drop-drop 8 16 h))

-- eight digits, and the end of the line
pub with_end : (v : List ℕ) → length v ≡ 16
    → take 9 (pick_l 0 (v ++ replicate 16 10) (0 ∷ 1 ∷ 2 ∷ 3 ∷ 4 ∷ 5 ∷ 6 ∷ 7 ∷ 16 ∷ 17 ∷ 18 ∷ 19 ∷ 20 ∷ 21 ∷ 22 ∷ 23 ∷ [])) ≡ take 8 v ++ 10 ∷ []
with_end (a ∷ b ∷ c ∷ d ∷ e ∷ f ∷ g ∷ h ∷ i ∷ j ∷ k ∷ l ∷ m ∷ n ∷ o ∷ p ∷ []) len = refl
with_end _ len = absurd (omega arith)

-- eight digits, and as many zeros
pub with_zeros : (v : List ℕ) → length v ≡ 16
    → pick_l 0 (v ++ replicate 16 48) (0 ∷ 1 ∷ 2 ∷ 3 ∷ 4 ∷ 5 ∷ 6 ∷ 7 ∷ 16 ∷ 17 ∷ 18 ∷ 19 ∷ 20 ∷ 21 ∷ 22 ∷ 23 ∷ []) ≡ take 8 v ++ replicate 8 48
with_zeros (a ∷ b ∷ c ∷ d ∷ e ∷ f ∷ g ∷ h ∷ i ∷ j ∷ k ∷ l ∷ m ∷ n ∷ o ∷ p ∷ []) len = refl
with_zeros _ len = absurd (omega arith)

-- the last eight of some, and the first eight of others
pub with_others : (v w : List ℕ) → length v ≡ 16 → length w ≡ 16
    → pick_l 0 (v ++ w) (8 ∷ 9 ∷ 10 ∷ 11 ∷ 12 ∷ 13 ∷ 14 ∷ 15 ∷ 16 ∷ 17 ∷ 18 ∷ 19 ∷ 20 ∷ 21 ∷ 22 ∷ 23 ∷ []) ≡ drop 8 v ++ take 8 w
with_others (a ∷ b ∷ c ∷ d ∷ e ∷ f ∷ g ∷ h ∷ i ∷ j ∷ k ∷ l ∷ m ∷ n ∷ o ∷ p ∷ []) (a' ∷ b' ∷ c' ∷ d' ∷ e' ∷ f' ∷ g' ∷ h' ∷ i' ∷ j' ∷ k' ∷ l' ∷ m' ∷ n' ∷ o' ∷ p' ∷ []) len len' = refl
with_others (a ∷ b ∷ c ∷ d ∷ e ∷ f ∷ g ∷ h ∷ i ∷ j ∷ k ∷ l ∷ m ∷ n ∷ o ∷ p ∷ []) _ len len' = absurd (omega arith)
with_others _ _ len len' = absurd (omega arith)
