-- Up to eight digits, read at once.
use Rattle.std.proofs.Common.{◌≡◌, ℕ, zero, suc, ◌+◌, ◌-◌, ◌*◌, ◌/◌, ◌%◌, ◌^◌, ◌<◌, ◌≤◌, Bool, true, false, cond, List, ◌∷◌, length, get_or, map, take, replicate, ltb, bit_and, inl, inr, refl, w8, w64, sym, ap, ◌∙◌, arith}
use Rattle.std.proofs.lemmas.Nat.{and_block, and_mask}
use Rattle.std.specs.Int.{bit_at, trailing_zeros}
use Rattle.std.proofs.lemmas.Bool.{cases_lt}
use Rattle.std.proofs.lemmas.Bool.Decides.{nat_tests}
use Rattle.std.proofs.lemmas.List.{get_or-take, length-take}
use Rattle.std.proofs.lemmas.Nat.Bits.{bit_at_and, bit_at_ones, bit_at_above, bit_at-lt, bit_at-trailing_zeros}
use Rattle.std.proofs.lemmas.Simd.{tops_compared, length-zip2, mask_l-mod, bit_mask_l, get_or-zip2, get_or-replicate}
use lib.Lanes.{number_l, zip2, mask_l, top}
use Rattle.iscsi_recording.specs.Fields.{is_digit}
use Rattle.iscsi_recording.specs.DigitValues.{number_of}
use Rattle.iscsi_recording.proofs.FrontLemmas.{Numbered, number_step}

-- ---- every second digit is added to ten times the one before it, and so on

low_byte : (high low mask : ℕ) → low < 65536 → bit_and (high * 65536 + low) (mask * 65536 + 255) ≡ bit_and high mask * 65536 + low % 256
low_byte high low mask small = and_block 16 high mask low 255 small (omega arith) ∙ ap (λ (k : ℕ). bit_and high mask * 65536 + k) (and_mask low 8)

pairs_kept : (a b c d e f g : ℕ) → a < 256 → b < 256 → c < 256 → d < 256 → e < 256 → f < 256 → g < 256
    → bit_and (((g * 65536 + (e + 256 * f)) * 65536 + (c + 256 * d)) * 65536 + (a + 256 * b)) 0x00ff00ff00ff00ff ≡ a + 65536 * (c + 65536 * (e + 65536 * g))
pairs_kept a b c d e f g p q r s t u v =
    let first = low_byte ((g * 65536 + (e + 256 * f)) * 65536 + (c + 256 * d)) (a + 256 * b) 0x00ff00ff00ff (omega arith) in
    let second = low_byte (g * 65536 + (e + 256 * f)) (c + 256 * d) 0x00ff00ff (omega arith) in
    let third = low_byte g (e + 256 * f) 0xff (omega arith) in
    let last = and_mask g 8 in
    omega (arith, first, second, third, last)

fours_kept : (a b c : ℕ) → a < 65536 → b < 65536 → c < 65536 → bit_and (c * 4294967296 + (a + 65536 * b)) 0x0000ffff0000ffff ≡ a + 4294967296 * c
fours_kept a b c p q r =
    let first = and_block 32 c 0xffff (a + 65536 * b) 0xffff (omega arith) (omega arith) in
    let low = and_mask (a + 65536 * b) 16 in
    let high = and_mask c 16 in
    omega (arith, first, low, high)

-- what is computed of eight digits
abbrev pub pairs_of : ℕ → ℕ
pairs_of x = bit_and (x * 2561 % 2 ^ 64 / 2 ^ 8) 0x00ff00ff00ff00ff

abbrev pub fours_of : ℕ → ℕ
fours_of x = bit_and (x * 6553601 % 2 ^ 64 / 2 ^ 16) 0x0000ffff0000ffff

abbrev pub joined : ℕ → ℕ
joined x = fours_of (pairs_of x) * 42949672960001 % 2 ^ 64 / 2 ^ 32

pairs_are : (x a b c d e f g h : ℕ) → a < 10 → b < 10 → c < 10 → d < 10 → e < 10 → f < 10 → g < 10 → h < 10
    → x ≡ a + 256 * (b + 256 * (c + 256 * (d + 256 * (e + 256 * (f + 256 * (g + 256 * h))))))
    → pairs_of x ≡ (10 * a + b) + 65536 * ((10 * c + d) + 65536 * ((10 * e + f) + 65536 * (10 * g + h)))
pairs_are x a b c d e f g h p q r s t u v w is =
    let sum : x * 2561 % 2 ^ 64 / 2 ^ 8 ≡ (((10 * g + h) * 65536 + ((10 * e + f) + 256 * (10 * f + g))) * 65536 + ((10 * c + d) + 256 * (10 * d + e))) * 65536
    + ((10 * a + b) + 256 * (10 * b + c)) = omega arith in
    ap (λ (y : ℕ). bit_and y 0x00ff00ff00ff00ff) sum
    ∙ pairs_kept (10 * a + b) (10 * b + c) (10 * c + d) (10 * d + e) (10 * e + f) (10 * f + g) (10 * g + h) (omega arith) (omega arith) (omega arith)
    (omega arith) (omega arith) (omega arith) (omega arith)

fours_are : (x a b c d : ℕ) → a < 100 → b < 100 → c < 100 → d < 100 → x ≡ a + 65536 * (b + 65536 * (c + 65536 * d))
    → fours_of x ≡ (100 * a + b) + 4294967296 * (100 * c + d)
fours_are x a b c d p q r s is =
    let sum : x * 6553601 % 2 ^ 64 / 2 ^ 16 ≡ (100 * c + d) * 4294967296 + ((100 * a + b) + 65536 * (100 * b + c)) = omega arith in
    ap (λ (y : ℕ). bit_and y 0x0000ffff0000ffff) sum ∙ fours_kept (100 * a + b) (100 * b + c) (100 * c + d) (omega arith) (omega arith) (omega arith)

halves_are : (x a b : ℕ) → a < 10000 → b < 10000 → x ≡ a + 4294967296 * b → x * 42949672960001 % 2 ^ 64 / 2 ^ 32 ≡ 10000 * a + b
halves_are x a b p q is = omega arith

joined_is : (x a b c d e f g h : ℕ) → a < 10 → b < 10 → c < 10 → d < 10 → e < 10 → f < 10 → g < 10 → h < 10
    → x ≡ a + 256 * (b + 256 * (c + 256 * (d + 256 * (e + 256 * (f + 256 * (g + 256 * h))))))
    → joined x ≡ 10000 * (100 * (10 * a + b) + (10 * c + d)) + (100 * (10 * e + f) + (10 * g + h))
joined_is x a b c d e f g h p q r s t u v w is =
    let pairs = pairs_are x a b c d e f g h p q r s t u v w is in
    let fours = fours_are (pairs_of x) (10 * a + b) (10 * c + d) (10 * e + f) (10 * g + h) (omega arith) (omega arith) (omega arith) (omega arith) pairs in
    halves_are (fours_of (pairs_of x)) (100 * (10 * a + b) + (10 * c + d)) (100 * (10 * e + f) + (10 * g + h)) (omega arith) (omega arith) fours

-- ---- the first digits of a word, behind zeros

abbrev pub top_of : ℕ → ℕ → ℕ
top_of n count = n % 2 ^ 64 * 2 ^ (64 - 8 * count) % 2 ^ 64

of_one : (a n : ℕ) → a < 10 → joined (top_of (a + 256 * n) 1) ≡ a
of_one a n p =
    joined_is _ 0 0 0 0 0 0 0 a (omega arith) (omega arith) (omega arith) (omega arith) (omega arith) (omega arith) (omega arith) p (omega arith) ∙ omega arith

of_two : (a b n : ℕ) → a < 10 → b < 10 → joined (top_of (a + 256 * (b + 256 * n)) 2) ≡ a * 10 + b
of_two a b n p q =
    joined_is _ 0 0 0 0 0 0 a b (omega arith) (omega arith) (omega arith) (omega arith) (omega arith) (omega arith) p q (omega arith) ∙ omega arith

of_three : (a b c n : ℕ) → a < 10 → b < 10 → c < 10 → joined (top_of (a + 256 * (b + 256 * (c + 256 * n))) 3) ≡ (a * 10 + b) * 10 + c
of_three a b c n p q r =
    joined_is _ 0 0 0 0 0 a b c (omega arith) (omega arith) (omega arith) (omega arith) (omega arith) p q r (omega arith) ∙ omega arith

of_four : (a b c d n : ℕ) → a < 10 → b < 10 → c < 10 → d < 10
    → joined (top_of (a + 256 * (b + 256 * (c + 256 * (d + 256 * n)))) 4) ≡ ((a * 10 + b) * 10 + c) * 10 + d
of_four a b c d n p q r s =
    joined_is _ 0 0 0 0 a b c d (omega arith) (omega arith) (omega arith) (omega arith) p q r s (omega arith) ∙ omega arith

of_five : (a b c d e n : ℕ) → a < 10 → b < 10 → c < 10 → d < 10 → e < 10
    → joined (top_of (a + 256 * (b + 256 * (c + 256 * (d + 256 * (e + 256 * n))))) 5) ≡ (((a * 10 + b) * 10 + c) * 10 + d) * 10 + e
of_five a b c d e n p q r s t = joined_is _ 0 0 0 a b c d e (omega arith) (omega arith) (omega arith) p q r s t (omega arith) ∙ omega arith

of_six : (a b c d e f n : ℕ) → a < 10 → b < 10 → c < 10 → d < 10 → e < 10 → f < 10
    → joined (top_of (a + 256 * (b + 256 * (c + 256 * (d + 256 * (e + 256 * (f + 256 * n)))))) 6) ≡ ((((a * 10 + b) * 10 + c) * 10 + d) * 10 + e) * 10 + f
of_six a b c d e f n p q r s t u = joined_is _ 0 0 a b c d e f (omega arith) (omega arith) p q r s t u (omega arith) ∙ omega arith

of_seven : (a b c d e f g n : ℕ) → a < 10 → b < 10 → c < 10 → d < 10 → e < 10 → f < 10 → g < 10
    → joined (top_of (a + 256 * (b + 256 * (c + 256 * (d + 256 * (e + 256 * (f + 256 * (g + 256 * n))))))) 7)
    ≡ (((((a * 10 + b) * 10 + c) * 10 + d) * 10 + e) * 10 + f) * 10 + g
of_seven a b c d e f g n p q r s t u v = joined_is _ 0 a b c d e f g (omega arith) p q r s t u v (omega arith) ∙ omega arith

of_eight : (a b c d e f g h n : ℕ) → a < 10 → b < 10 → c < 10 → d < 10 → e < 10 → f < 10 → g < 10 → h < 10
    → joined (top_of (a + 256 * (b + 256 * (c + 256 * (d + 256 * (e + 256 * (f + 256 * (g + 256 * (h + 256 * n)))))))) 8)
    ≡ ((((((a * 10 + b) * 10 + c) * 10 + d) * 10 + e) * 10 + f) * 10 + g) * 10 + h
of_eight a b c d e f g h n p q r s t u v w = joined_is _ a b c d e f g h p q r s t u v w (omega arith) ∙ omega arith

-- the number of the first of these digits
pub joined_first : (v : List ℕ) (count : ℕ) → length v ≡ 16 → 0 < count → count ≤ 8 → ((i : ℕ) → i < count → get_or v i 0 < 10)
    → joined (top_of (number_l 256 v) count) ≡ number_of v count
joined_first (a ∷ b ∷ c ∷ d ∷ e ∷ f ∷ g ∷ h ∷ rest) (suc zero) long some few small = of_one a _ (small 0 (omega arith)) ∙ omega arith
joined_first (a ∷ b ∷ c ∷ d ∷ e ∷ f ∷ g ∷ h ∷ rest) (suc (suc zero)) long some few small = of_two a b _ (small 0 (omega arith)) (small 1 (omega arith)) ∙ omega arith
joined_first (a ∷ b ∷ c ∷ d ∷ e ∷ f ∷ g ∷ h ∷ rest) (suc (suc (suc zero))) long some few small =
    of_three a b c _ (small 0 (omega arith)) (small 1 (omega arith)) (small 2 (omega arith)) ∙ omega arith
joined_first (a ∷ b ∷ c ∷ d ∷ e ∷ f ∷ g ∷ h ∷ rest) (suc (suc (suc (suc zero)))) long some few small =
    of_four a b c d _ (small 0 (omega arith)) (small 1 (omega arith)) (small 2 (omega arith)) (small 3 (omega arith)) ∙ omega arith
joined_first (a ∷ b ∷ c ∷ d ∷ e ∷ f ∷ g ∷ h ∷ rest) (suc (suc (suc (suc (suc zero))))) long some few small =
    of_five a b c d e _ (small 0 (omega arith)) (small 1 (omega arith)) (small 2 (omega arith)) (small 3 (omega arith)) (small 4 (omega arith)) ∙ omega arith
joined_first (a ∷ b ∷ c ∷ d ∷ e ∷ f ∷ g ∷ h ∷ rest) (suc (suc (suc (suc (suc (suc zero)))))) long some few small =
    of_six a b c d e f _ (small 0 (omega arith)) (small 1 (omega arith)) (small 2 (omega arith)) (small 3 (omega arith)) (small 4 (omega arith))
    (small 5 (omega arith)) ∙ omega arith
joined_first (a ∷ b ∷ c ∷ d ∷ e ∷ f ∷ g ∷ h ∷ rest) (suc (suc (suc (suc (suc (suc (suc zero))))))) long some few small =
    of_seven a b c d e f g _ (small 0 (omega arith)) (small 1 (omega arith)) (small 2 (omega arith)) (small 3 (omega arith)) (small 4 (omega arith))
    (small 5 (omega arith)) (small 6 (omega arith)) ∙ omega arith
joined_first (a ∷ b ∷ c ∷ d ∷ e ∷ f ∷ g ∷ h ∷ rest) (suc (suc (suc (suc (suc (suc (suc (suc zero)))))))) long some few small =
    of_eight a b c d e f g h _ (small 0 (omega arith)) (small 1 (omega arith)) (small 2 (omega arith)) (small 3 (omega arith)) (small 4 (omega arith))
    (small 5 (omega arith)) (small 6 (omega arith)) (small 7 (omega arith)) ∙ omega arith
joined_first _ _ long some few small = absurd (omega arith)

-- ---- the bits of the bytes that are no digits

pub lane : (v : List ℕ) (i : ℕ) → length v ≡ 16 → i < 16
    → bit_at (mask_l (map (top 7) (zip2 (λ a b. cond (ltb a b) 255 0) (replicate 16 9) v)) % 2 ^ 64) i ≡ cond (ltb 9 (get_or v i 0)) 1 0
lane v i len lt =
    let nines : List ℕ = replicate 16 9 in
    let same : length nines ≡ length v = omega arith in
    let long = length-zip2 ltb nines v same in
    ap (λ (n : ℕ). n / 2 ^ i % 2) (ap (λ (ms : List Bool). mask_l ms % 2 ^ 64) (tops_compared w8 ltb nines v) ∙ mask_l-mod (zip2 ltb nines v) 64 (omega arith))
    ∙ bit_mask_l (zip2 ltb nines v) i
    ∙ ap (λ (t : Bool). cond t 1 0) (get_or-zip2 ltb nines v i 0 0 false (omega arith) (omega arith))
    ∙ ap (λ (x : ℕ). cond (ltb x (get_or v i 0)) 1 0) (get_or-replicate 16 i 9 0 lt)

pub below_ten : (x : ℕ) → ◌≡◌ {A = ℕ} (cond (ltb 9 x) 1 0) 0 → x < 10
below_ten x h = grind (arith, nat_tests)

pub ten_or_more : (x : ℕ) → ◌≡◌ {A = ℕ} (cond (ltb 9 x) 1 0) 1 → 9 < x
ten_or_more x h = grind (arith, nat_tests)

-- the lowest bit, where the first byte is a digit
pub no_bit : (n x : ℕ) → (bit_at n 0 ≡ 1 → 9 < x) → x < 10 → bit_at n 0 ≡ 0
no_bit n x other digit =
    elim (cases_lt (bit_at n 0) 1) [
      | inl below ↦ omega arith
      | inr set ↦ (
          let one : bit_at n 0 ≡ 1 = omega (arith, bit_at-lt n 0) in
          let more = other one in
          absurd (omega arith)
          )
    ]

low_bit : (n i : ℕ) → i < 9 → bit_at (n % 512) i ≡ bit_at n i
low_bit n i lt =
    let is = ap (λ (m : ℕ). bit_at m i) (sym (and_mask n 9)) ∙ bit_at_and n 511 i in
    is ∙ omega (arith, bit_at_ones 9 i lt, bit_at-lt n i)

-- the lowest of nine bits
pub first_bit : (n : ℕ) → 0 < n % 512 → bit_at n 0 ≡ 0
    → (0 < trailing_zeros w64 (n % 512)) × (trailing_zeros w64 (n % 512) ≤ 8) × ((i : ℕ) → i < trailing_zeros w64 (n % 512) → bit_at n i ≡ 0)
first_bit n some clear =
    let t = trailing_zeros w64 (n % 512) in
    let lowest = bit_at-trailing_zeros w64 (n % 512) some (omega arith) in
    let one = lowest.1 in
    let few : t ≤ 8 = elim (cases_lt t 9) [ inl below ↦ omega arith | inr above ↦ absurd (omega (arith, bit_at_above (n % 512) 9 t (omega arith) above, one)) ] in
    let more : 0 < t = elim (cases_lt 0 t) [
      | inl above ↦ above
      | inr none ↦ (
          let zero_is : t ≡ 0 = omega arith in
          let bit = rw zero_is at one in
          absurd (omega (arith, low_bit n 0 (omega arith), bit, clear))
          )
    ] in
    (more, few, λ i lt. sym (low_bit n i (omega arith)) ∙ lowest.2 i lt)

-- ---- the values of bytes

pub value_at : (bytes : List ℕ) (i : ℕ) → 16 ≤ length bytes → i < 16
    → get_or (zip2 (λ a b. (a + (256 - b)) % 256) (take 16 (take 16 bytes)) (replicate 16 48)) i 0 ≡ (get_or bytes i 0 + 208) % 256
value_at bytes i long lt =
    let taken : i < length (take 16 (take 16 bytes)) = omega (arith, length-take 16 bytes, length-take 16 (take 16 bytes)) in
    get_or-zip2 (λ a b. (a + (256 - b)) % 256) (take 16 (take 16 bytes)) (replicate 16 48) i 0 0 0 taken lt
    ∙ ap (λ (b : ℕ). (get_or (take 16 (take 16 bytes)) i 0 + (256 - b)) % 256) (get_or-replicate 16 i 48 0 lt)
    ∙ ap (λ (a : ℕ). (a + 208) % 256) (get_or-take 16 (take 16 bytes) i 0 lt ∙ get_or-take 16 bytes i 0 lt)

abbrev pub value : ℕ → ℕ
value b = (b + 208) % 256

digit_of : (b : ℕ) → b < 256 → value b < 10 → (is_digit b ≡ true) × (value b ≡ b - 48)
digit_of b byte small =
    let low : 48 ≤ b = omega arith in
    let high : b ≤ 57 = omega arith in
    (grind arith, omega arith)

-- the number of the first bytes, which are digits
pub numbered : (bytes v : List ℕ) (k : ℕ) → k ≤ length bytes → ((i : ℕ) → get_or bytes i 0 < 256) → ((i : ℕ) → i < k → get_or v i 0 ≡ value (get_or bytes i 0))
    → ((i : ℕ) → i < k → get_or v i 0 < 10) → Numbered bytes (number_of v k) k
numbered bytes v zero within byte same small = record { read = refl; small = omega arith }
numbered bytes v (suc k) within byte same small =
    let before = numbered bytes v k (omega arith) byte (λ i h. same i (omega arith)) (λ i h. small i (omega arith)) in
    let is = same k (omega arith) in
    let low : value (get_or bytes k 0) < 10 = omega (arith, is, small k (omega arith)) in
    let digit = digit_of (get_or bytes k 0) (byte k) low in
    let more : k + 1 ≡ suc k = omega arith in
    let next : Numbered bytes (number_of v k * 10 + (get_or bytes k 0 - 48)) (suc k) =
    rw more at (number_step bytes (number_of v k) k (omega arith) digit.0 before) in
    rw (is ∙ digit.1) next
