-- Bytes of pairs of digits, 16 at once.
use Rattle.std.proofs.Common.{◌≡◌, ℕ, zero, suc, ◌+◌, ◌-◌, ◌*◌, ◌/◌, ◌%◌, ◌<◌, ◌≤◌, List, [], ◌∷◌, ◌++◌, length, length-append, get_or, take, drop, replicate, inl, inr, refl, sym, ap, ap₂, ◌∙◌, arith}
use Rattle.std.proofs.lemmas.Bool.{cases_lt}
use Rattle.std.proofs.lemmas.List.{get_or-map, length-map, get_or_append_left, get_or-append_right, drop_more, ext_get_or, get_or-take, get_or-drop}
use Rattle.std.proofs.lemmas.Simd.{length-zip2, get_or-zip2, get_or-replicate, get_or_wider, get_or_narrower}
use lib.Lanes.{number_l, digits_l, zip2, chunk, pick_l, Each1}
use Rattle.iscsi_recording.specs.DigitValues.{lowered, paired}
use Rattle.iscsi_recording.proofs.DigitSteps.{lowered_at, byte_of_raised}

each_from : (P : ℕ → Type 0) (xs : List ℕ) → ((i : ℕ) → i < length xs → P (get_or xs i 0)) → Each1 P xs
each_from P [] h = tt
each_from P (x ∷ xs) h = (h 0 (omega arith), each_from P xs (λ i lt. h (suc i) (omega arith)))

length-digits : (p n x : ℕ) → length (digits_l p n x) ≡ n
length-digits p zero x = refl
length-digits p (suc n) x = ap suc (length-digits p n (x / p))

-- two bytes as one number
word_at : (v : List ℕ) (k : ℕ) → k + 1 < length v → number_l 256 (chunk k 2 v) ≡ get_or v k 0 + 256 * get_or v (k + 1) 0
word_at v k lt =
    let a = drop_more v k 0 (omega arith) in
    let b = drop_more v (k + 1) 0 lt in
    rw (a, b) (omega arith)

-- pairs, each of which is multiplied
abbrev pub multiplied : List ℕ → List ℕ
multiplied v = zip2 (λ a b. a * b % 65536) (digits_l 65536 8 (number_l 256 v)) (replicate 8 4097)

abbrev pub weighed_of : List ℕ → List ℕ
weighed_of v = digits_l 256 16 (number_l 65536 (multiplied v))

multiplied_at : (v : List ℕ) (j : ℕ) → length v ≡ 16 → ((i : ℕ) → i < 16 → get_or v i 0 < 256) → j < 8
    → get_or (multiplied v) j 0 ≡ (get_or v (2 * j) 0 + 256 * get_or v (2 * j + 1) 0) * 4097 % 65536
multiplied_at v j len small lt =
    let words : List ℕ = digits_l 65536 8 (number_l 256 v) in
    let long : j < length words = omega (arith, length-digits 65536 8 (number_l 256 v)) in
    let each = each_from (λ x. x < 256) v (λ i h. small i (omega arith)) in
    let word : get_or words j 0 ≡ get_or v (2 * j) 0 + 256 * get_or v (2 * j + 1) 0 =
    get_or_wider 256 2 65536 8 v j refl each lt ∙ word_at v (2 * j) (omega arith) in
    get_or-zip2 (λ a b. a * b % 65536) words (replicate 8 4097) j 0 0 0 long lt
    ∙ ap₂ (λ (a b : ℕ). a * b % 65536) word (get_or-replicate 8 j 4097 0 lt)

pub weighed_at : (v : List ℕ) (j : ℕ) → length v ≡ 16 → ((i : ℕ) → i < 16 → get_or v i 0 < 256) → j < 8
    → get_or (weighed_of v) (2 * j + 1) 0 ≡ (get_or v (2 * j) 0 + 256 * get_or v (2 * j + 1) 0) * 4097 % 65536 / 256
weighed_at v j len small lt =
    let words : List ℕ = digits_l 65536 8 (number_l 256 v) in
    let same : length words ≡ 8 = length-digits 65536 8 (number_l 256 v) in
    let long = length-zip2 (λ a b. a * b % 65536) words (replicate 8 4097) same in
    let each = each_from (λ x. x < 65536) (multiplied v) (λ i h.
    let is = multiplied_at v i len small (omega arith) in rw is (omega arith)) in
    let is = multiplied_at v j len small lt in
    get_or_narrower 65536 2 256 16 (multiplied v) j 1 refl each (omega arith) (omega arith) ∙ rw is (omega arith)

pub length-weighed : (v : List ℕ) → length (weighed_of v) ≡ 16
length-weighed v = length-digits 256 16 (number_l 65536 (multiplied v))

-- every second place
odds : ℕ → ℕ → List ℕ
odds from zero = []
odds from (suc n) = from ∷ odds (from + 2) n

length-odds : (from n : ℕ) → length (odds from n) ≡ n
unfolding odds
length-odds from zero = refl
length-odds from (suc n) = ap suc (length-odds (from + 2) n)

odd_at : (from n j : ℕ) → j < n → get_or (odds from n) j 0 ≡ from + 2 * j
unfolding odds
odd_at from zero j lt = absurd (omega arith)
odd_at from (suc n) zero lt = omega arith
odd_at from (suc n) (suc j) lt = odd_at (from + 2) n j (omega arith) ∙ omega arith

abbrev pub seconds : List ℕ → List ℕ
seconds v = pick_l 0 v (1 ∷ 3 ∷ 5 ∷ 7 ∷ 9 ∷ 11 ∷ 13 ∷ 15 ∷ 17 ∷ 19 ∷ 21 ∷ 23 ∷ 25 ∷ 27 ∷ 29 ∷ 31 ∷ [])

seconds_at : (v : List ℕ) (j : ℕ) → j < 16 → get_or (seconds v) j 0 ≡ get_or v (2 * j + 1) 0
unfolding odds
seconds_at v j lt =
    get_or-map (λ k. get_or v k 0) (odds 1 16) j 0 0 (omega (arith, length-odds 1 16))
    ∙ ap (λ (k : ℕ). get_or v k 0) (odd_at 1 16 j lt ∙ omega arith)

-- sixteen bytes from a place on
pub part_at : (v : List ℕ) (from n i : ℕ) → n ≡ 16 → i < 16 → get_or (take 16 (take n (drop from v))) i 0 ≡ get_or v (from + i) 0
part_at v from n i is lt =
    get_or-take 16 (take n (drop from v)) i 0 lt ∙ get_or-take n (drop from v) i 0 (omega arith) ∙ get_or-drop from v i 0

pub part_small : (v : List ℕ) (from n i : ℕ) → n ≡ 16 → ((k : ℕ) → get_or v k 0 < 256) → i < 16 → get_or (take 16 (take n (drop from v))) i 0 < 256
part_small v from n i is small lt = rw (part_at v from n i is lt) (small (from + i))

-- of two bytes of a part
pub part_weighed : (v w : List ℕ) (from n : ℕ) → n ≡ 16
    → ((j : ℕ) → j < 8 → get_or w (2 * j + 1) 0 ≡ (get_or (take 16 (take n (drop from v))) (2 * j) 0 + 256 * get_or (take 16 (take n (drop from v))) (2 * j + 1) 0) * 4097 % 65536 / 256)
    → (j : ℕ) → j < 8 → get_or w (2 * j + 1) 0 ≡ (get_or v (from + 2 * j) 0 + 256 * get_or v (from + (2 * j + 1)) 0) * 4097 % 65536 / 256
part_weighed v w from n so is j lt =
    let a = part_at v from n (2 * j) so (omega arith) in
    let b = part_at v from n (2 * j + 1) so (omega arith) in
    is j lt ∙ ap₂ (λ (x y : ℕ). (x + 256 * y) * 4097 % 65536 / 256) a b

-- the bytes of 32 digits from a place on, whose raised values were weighed in two halves
pub joined_at : (values first second : List ℕ) (at j : ℕ) → 2 * at + 32 ≤ length values
    → ((k : ℕ) → k < length values → 239 < get_or values k 0) → ((k : ℕ) → get_or values k 0 < 256)
    → length first ≡ 16 → length second ≡ 16
    → ((j : ℕ) → j < 8 → get_or first (2 * j + 1) 0 ≡ (get_or values (2 * at + 2 * j) 0 + 256 * get_or values (2 * at + (2 * j + 1)) 0) * 4097 % 65536 / 256)
    → ((j : ℕ) → j < 8 → get_or second (2 * j + 1) 0 ≡ (get_or values (2 * at + 16 + 2 * j) 0 + 256 * get_or values (2 * at + 16 + (2 * j + 1)) 0) * 4097 % 65536 / 256)
    → j < 16
    → get_or (zip2 (λ a b. (a + b) % 256) (seconds (first ++ second)) (replicate 16 16)) j 0 ≡ (get_or values (2 * (at + j)) 0 - 240) * 16 + (get_or values (2 * (at + j) + 1) 0 - 240)
joined_at values first second at j room raised small long long₂ a b lt =
    let both : List ℕ = first ++ second in
    let half : get_or both (2 * j + 1) 0 ≡ (get_or values (2 * (at + j)) 0 + 256 * get_or values (2 * (at + j) + 1) 0) * 4097 % 65536 / 256 =
    elim (cases_lt j 8) [
      | inl low ↦ (
          let even : 2 * at + 2 * j ≡ 2 * (at + j) = omega arith in
          let odd : 2 * at + (2 * j + 1) ≡ 2 * (at + j) + 1 = omega arith in
          let is = a j low in
          get_or_append_left first second 0 (2 * j + 1) (omega arith) ∙ rw (even, odd) at is
          )
      | inr high ↦ (
          let k : ℕ = j - 8 in
          let place : 2 * j + 1 - 16 ≡ 2 * k + 1 = omega arith in
          let even : 2 * at + 16 + 2 * k ≡ 2 * (at + j) = omega arith in
          let odd : 2 * at + 16 + (2 * k + 1) ≡ 2 * (at + j) + 1 = omega arith in
          let is = b k (omega arith) in
          get_or-append_right first second 16 (2 * j + 1) 0 long (omega arith) ∙ ap (λ (i : ℕ). get_or second i 0) place ∙ rw (even, odd) at is
          )
    ] in
    let within : 2 * (at + j) + 1 < length values = omega arith in
    get_or-zip2 (λ a b. (a + b) % 256) (seconds both) (replicate 16 16) j 0 0 0 lt lt
    ∙ ap₂ (λ (x y : ℕ). (x + y) % 256) (seconds_at both j lt ∙ half) (get_or-replicate 16 j 16 0 lt)
    ∙ byte_of_raised _ _ (raised (2 * (at + j)) (omega arith)) (small (2 * (at + j))) (raised (2 * (at + j) + 1) within) (small (2 * (at + j) + 1))

-- ---- all 48

length-paired : (n : ℕ) (xs : List ℕ) → length xs ≡ 2 * n → length (paired xs) ≡ n
length-paired zero [] len = refl
length-paired zero (x ∷ xs) len = absurd (omega arith)
length-paired (suc n) [] len = absurd (omega arith)
length-paired (suc n) (x ∷ []) len = absurd (omega arith)
length-paired (suc n) (x ∷ y ∷ xs) len = ap suc (length-paired n xs (omega arith))

paired_at : (xs : List ℕ) (j : ℕ) → 2 * j + 1 < length xs → get_or (paired xs) j 0 ≡ get_or xs (2 * j) 0 * 16 + get_or xs (2 * j + 1) 0
paired_at [] j lt = absurd (omega arith)
paired_at (x ∷ []) j lt = absurd (omega arith)
paired_at (x ∷ y ∷ xs) zero lt = refl
paired_at (x ∷ y ∷ xs) (suc j) lt =
    let even : 2 * suc j ≡ suc (suc (2 * j)) = omega arith in
    let odd : 2 * suc j + 1 ≡ suc (suc (2 * j + 1)) = omega arith in
    rw (odd, even) (paired_at xs j (omega arith))

-- the byte of a pair of digits with raised values
abbrev pub byte_at : List ℕ → ℕ → ℕ
byte_at values j = (get_or values (2 * j) 0 - 240) * 16 + (get_or values (2 * j + 1) 0 - 240)

paired_byte : (values : List ℕ) (j : ℕ) → 2 * j + 1 < length values → get_or (paired (lowered values)) j 0 ≡ byte_at values j
paired_byte values j lt =
    paired_at (lowered values) j (omega (arith, length-map values (λ v. v - 240)))
    ∙ ap₂ (λ (x y : ℕ). x * 16 + y) (lowered_at values (2 * j) (omega arith)) (lowered_at values (2 * j + 1) lt)

-- three times 16 bytes
pub in_thirds : (values front middle back : List ℕ) → length values ≡ 96 → length front ≡ 16 → length middle ≡ 16 → length back ≡ 16
    → ((j : ℕ) → j < 16 → get_or front j 0 ≡ byte_at values (0 + j))
    → ((j : ℕ) → j < 16 → get_or middle j 0 ≡ byte_at values (16 + j))
    → ((j : ℕ) → j < 16 → get_or back j 0 ≡ byte_at values (32 + j))
    → front ++ (middle ++ back) ≡ paired (lowered values)
in_thirds values front middle back len f m b first second third =
    let long : length (front ++ (middle ++ back)) ≡ 48 = omega (arith, length-append front (middle ++ back), length-append middle back) in
    ext_get_or 0 _ _ (long ∙ sym (length-paired 48 (lowered values) (length-map values (λ v. v - 240) ∙ len))) (λ i lt.
    let is = paired_byte values i (omega arith) in
    elim (cases_lt i 16) [
      | inl low ↦ (
          let place : 0 + i ≡ i = omega arith in
          get_or_append_left front (middle ++ back) 0 i (omega arith) ∙ first i low ∙ ap (byte_at values) place ∙ sym is
          )
      | inr high ↦ (
          let behind = get_or-append_right front (middle ++ back) 16 i 0 f high in
          elim (cases_lt i 32) [
            | inl within ↦ (
                let place : 16 + (i - 16) ≡ i = omega arith in
                behind ∙ get_or_append_left middle back 0 (i - 16) (omega arith) ∙ second (i - 16) (omega arith)
                ∙ ap (byte_at values) place ∙ sym is
                )
            | inr above ↦ (
                let place : 32 + (i - 16 - 16) ≡ i = omega arith in
                behind ∙ get_or-append_right middle back 16 (i - 16) 0 m (omega arith) ∙ third (i - 16 - 16) (omega arith)
                ∙ ap (byte_at values) place ∙ sym is
                )
          ]
          )
    ])
