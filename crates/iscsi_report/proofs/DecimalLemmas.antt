-- Decimal digits, two at a time.
use Rattle.std.proofs.Common.{◌≡◌, ℕ, zero, suc, ◌+◌, ◌*◌, ◌/◌, ◌%◌, ◌^◌, ◌<◌, ◌≤◌, ◌&&◌, ◌==◌, Bool, true, inl, inr, List, [], ◌∷◌, ◌++◌, take, get_or, decimal, refl, sym, ap, ap₂, ◌∙◌, arith, append_assoc}
use Rattle.std.specs.Prelude.{codes}
use Rattle.std.proofs.lemmas.Bool.{and_parts, cases_lt, eqb-true}
use Rattle.std.proofs.lemmas.Fmt.{decimal_digit, decimal_step}
use Rattle.iscsi_report.specs.Decimals.{two_digits}

-- the two digits of each number below 100, and two blanks behind them
abbrev pub pairs : List ℕ
pairs = codes "00  01  02  03  04  05  06  07  08  09  10  11  12  13  14  15  16  17  18  19  20  21  22  23  24  25  26  27  28  29  30  31  32  33  34  35  36  37  38  39  40  41  42  43  44  45  46  47  48  49  50  51  52  53  54  55  56  57  58  59  60  61  62  63  64  65  66  67  68  69  70  71  72  73  74  75  76  77  78  79  80  81  82  83  84  85  86  87  88  89  90  91  92  93  94  95  96  97  98  99  "

abbrev has_digits : ℕ → Bool
has_digits n = (get_or pairs (4 * n) 0 == 48 + n / 10) && (get_or pairs (4 * n + 1) 0 == 48 + n % 10)

abbrev is_pair : ℕ → Bool
is_pair n = has_digits n && (get_or pairs (4 * n + 2) 0 == 32)

abbrev all_pairs : ℕ → Bool
all_pairs zero = true
all_pairs (suc n) = is_pair n && all_pairs n

pair_at : (k n : ℕ) → all_pairs k ≡ true → n < k → is_pair n ≡ true
pair_at zero n h lt = absurd (omega arith)
pair_at (suc k) n h lt =
    let parts = and_parts (is_pair k) (all_pairs k) h in
    elim (cases_lt n k) [ inl below ↦ pair_at k n parts.1 below | inr top ↦ (let e : n ≡ k = omega arith in rw e parts.0) ]

pub pair_of : (n place next : ℕ) → n < 100 → place ≡ 4 * n → next ≡ 4 * n + 1 → get_or pairs place 0 ∷ get_or pairs next 0 ∷ [] ≡ two_digits n
pair_of n place next lt is then =
    let pair = and_parts (has_digits n) (get_or pairs (4 * n + 2) 0 == 32) (pair_at 100 n refl lt) in
    let parts = and_parts (get_or pairs (4 * n) 0 == 48 + n / 10) (get_or pairs (4 * n + 1) 0 == 48 + n % 10) pair.0 in
    ap₂ (λ i j. get_or pairs i 0 ∷ get_or pairs j 0 ∷ []) is then ∙ ap₂ (λ a b. a ∷ b ∷ []) (eqb-true _ _ parts.0) (eqb-true _ _ parts.1)

-- and the blank behind them
pub pair_and_blank_of : (n place next third last : ℕ) → n < 100 → place ≡ 4 * n → next ≡ 4 * n + 1 → third ≡ 4 * n + 2
    → take 3 (get_or pairs place 0 ∷ get_or pairs next 0 ∷ get_or pairs third 0 ∷ last ∷ []) ≡ two_digits n ++ codes " "
pair_and_blank_of n place next third last lt is then behind =
    let pair = and_parts (has_digits n) (get_or pairs (4 * n + 2) 0 == 32) (pair_at 100 n refl lt) in
    let blank : get_or pairs third 0 ≡ 32 = ap (λ i. get_or pairs i 0) behind ∙ eqb-true _ _ pair.1 in
    ap₂ (λ (l : List ℕ) b. l ++ b ∷ []) (pair_of n place next lt is then) blank

-- a number of two digits
pub decimal_two : (n : ℕ) → 10 ≤ n → n < 100 → decimal n ≡ two_digits n
decimal_two n big small =
    decimal_step n big (omega arith) ∙ ap (λ l. l ++ (48 + n % 10) ∷ []) (decimal_digit (n / 10) (omega arith))

-- the last two digits of a greater one
pub decimal_pair : (n : ℕ) → 100 ≤ n → n < 2 ^ 64 → decimal n ≡ decimal (n / 100) ++ two_digits (n % 100)
decimal_pair n big small =
    let tens : n / 10 / 10 ≡ n / 100 = omega arith in
    let high : n / 10 % 10 ≡ n % 100 / 10 = omega arith in
    let low : n % 10 ≡ n % 100 % 10 = omega arith in
    decimal_step n (omega arith) small
    ∙ ap (λ l. l ++ (48 + n % 10) ∷ []) (decimal_step (n / 10) (omega arith) (omega arith))
    ∙ append_assoc (decimal (n / 10 / 10)) ((48 + n / 10 % 10) ∷ []) ((48 + n % 10) ∷ [])
    ∙ rw (tens, high, low) refl

-- and the last four
pub decimal_four : (n : ℕ) → 10000 ≤ n → n < 2 ^ 64
    → decimal n ≡ (decimal (n / 10000) ++ two_digits (n % 10000 / 100)) ++ two_digits (n % 10000 % 100)
decimal_four n big small =
    let front : n / 100 / 100 ≡ n / 10000 = omega arith in
    let high : n / 100 % 100 ≡ n % 10000 / 100 = omega arith in
    let low : n % 100 ≡ n % 10000 % 100 = omega arith in
    decimal_pair n (omega arith) small
    ∙ ap (λ l. l ++ two_digits (n % 100)) (decimal_pair (n / 100) (omega arith) (omega arith))
    ∙ rw (front, high, low) refl

-- a text put behind another one that was put
pub put_both : (new mid old first second both : List ℕ) (at middle end : ℕ) → take end new ≡ take middle mid ++ second
    → take middle mid ≡ take at old ++ first → both ≡ first ++ second → take end new ≡ take at old ++ both
put_both new mid old first second both at middle end e h is =
    e ∙ ap (λ l. l ++ second) h ∙ append_assoc (take at old) first second ∙ ap (λ l. take at old ++ l) (sym is)
