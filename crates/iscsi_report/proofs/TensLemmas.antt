-- The digits of a number but the last.
use Rattle.std.proofs.Common.{◌≡◌, ℕ, ◌+◌, ◌-◌, ◌/◌, ◌%◌, ◌^◌, ◌<◌, ◌≤◌, inl, inr, List, [], ◌∷◌, ◌++◌, length, take, drop, decimal, sym, ap, ap₂, ◌∙◌, arith, take-take, append_assoc}
use Rattle.std.proofs.lemmas.Bool.{cases_lt}
use Rattle.std.proofs.lemmas.Fmt.{decimal_digit, decimal_step, length-decimal-le}
use Rattle.std.proofs.lemmas.List.{take_at, drop-take, length-take, length-drop, length-append}
use Rattle.iscsi_report.specs.Decimals.{AreTens}
use Rattle.iscsi_report.proofs.LineEnds.{front}

-- a number is written by the digits that it has before its last, and its last
tens_first : (n last : ℕ) (digits : List ℕ) → n < 10 ^ 15 → digits ≡ decimal n → last < 10
    → decimal (n - n % 10 + last) ≡ take (length digits - 1) digits ++ (48 + last) ∷ []
tens_first n last digits small is low =
    elim (cases_lt n 10) [
      | inl one ↦ (
          let same : n - n % 10 + last ≡ last = omega arith in
          let only : digits ≡ (48 + n) ∷ [] = is ∙ decimal_digit n one in
          ap decimal same ∙ decimal_digit last low ∙ ap (λ (l : List ℕ). take (length l - 1) l ++ (48 + last) ∷ []) (sym only)
          )
      | inr more ↦ (
          let front : List ℕ = decimal (n / 10) in
          let parts : digits ≡ front ++ (48 + n % 10) ∷ [] = is ∙ decimal_step n more (omega arith) in
          let long : length front ≡ length digits - 1 = omega (arith, ap length parts, length-append front ((48 + n % 10) ∷ [])) in
          let begin : take (length digits - 1) digits ≡ front = ap (take (length digits - 1)) parts ∙ take_at front ((48 + n % 10) ∷ []) (length digits - 1) long in
          let tens : (n - n % 10 + last) / 10 ≡ n / 10 = omega arith in
          let ones : (n - n % 10 + last) % 10 ≡ last = omega arith in
          decimal_step (n - n % 10 + last) (omega arith) (omega arith)
          ∙ ap₂ (λ (m d : ℕ). decimal m ++ (48 + d) ∷ []) tens ones
          ∙ ap (λ (l : List ℕ). l ++ (48 + last) ∷ []) (sym begin)
          )
    ]

-- and these digits are those that stand at its front where it stands
pub tens_of : (line digits : List ℕ) (n from to size : ℕ) → digits ≡ take size (drop from line) → 16 ≤ size → n < 10 ^ 15 → from < to → to ≤ from + 20
    → to ≤ length line → drop from (take to line) ≡ decimal n → AreTens (n - n % 10) digits (to - from - 1)
tens_of line digits n from to size kept large small some few within is =
    let sum : from + (to - from) ≡ to = omega arith in
    let text : List ℕ = take (to - from) (drop from line) in
    let here : text ≡ decimal n = sym (drop-take from (to - from) line) ∙ ap (λ (m : ℕ). drop from (take m line)) sum ∙ is in
    let long : length text ≡ to - from = omega (arith, length-drop from line, length-take (to - from) (drop from line)) in
    let few : to - from ≤ 15 = omega (arith, long, ap length here, length-decimal-le 15 n (omega arith) small (omega arith)) in
    let less : length text - 1 ≡ to - from - 1 = omega arith in
    let begin : take (length text - 1) text ≡ take (to - from - 1) digits =
    ap (λ (k : ℕ). take k text) less
    ∙ take-take (to - from - 1) (to - from) (drop from line) (omega arith)
    ∙ sym (ap (take (to - from - 1)) kept ∙ take-take (to - from - 1) size (drop from line) (omega arith)) in
    record {
      small = omega arith;
      short = omega arith;
      written = λ last low. tens_first n last text small here low ∙ ap (λ (l : List ℕ). l ++ (48 + last) ∷ []) begin;
    }

-- no digits stand before the last one of a number below ten
pub no_tens : (digits : List ℕ) → AreTens 0 digits 0
no_tens digits =
    record {
      small = omega arith;
      short = omega arith;
      written = λ last low. (let none : 0 + last ≡ last = omega arith in ap decimal none ∙ decimal_digit last low);
    }

-- a number is so many above the least one
pub last_of : (n least : ℕ) → least < 10 ^ 15 → n < 2 ^ 64 → (n + (2 ^ 64 - least)) % 2 ^ 64 < 10 → least + (n + (2 ^ 64 - least)) % 2 ^ 64 ≡ n
last_of n least small fits low = omega arith

-- the digits that are kept, the last one behind them, and a byte
pub put_by_tens : (new mid old digits : List ℕ) (least len last next at middle end : ℕ) → AreTens least digits len → last < 10
    → take middle mid ≡ take at old ++ digits → middle ≡ at + length digits → at ≤ length old → len ≤ length digits
    → take end new ≡ take (at + len) mid ++ (48 + last) ∷ next ∷ [] → take end new ≡ take at old ++ (decimal (least + last) ++ next ∷ [])
put_by_tens new mid old digits least len last next at middle end tens low first long within few second =
    second
    ∙ ap (λ (l : List ℕ). l ++ (48 + last) ∷ next ∷ []) (front mid old digits at len middle first long within few)
    ∙ append_assoc (take at old) (take len digits) ((48 + last) ∷ next ∷ [])
    ∙ ap (λ (l : List ℕ). take at old ++ l) (sym (append_assoc (take len digits) ((48 + last) ∷ []) (next ∷ [])) ∙ ap (λ (l : List ℕ). l ++ next ∷ []) (sym (tens.written last low)))
