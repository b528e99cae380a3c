-- The digits of four numbers by vectors, and the line of a reply that has them.
use Rattle.std.proofs.Common.{◌≡◌, ℕ, ◌+◌, ◌*◌, ◌/◌, ◌%◌, ◌^◌, ◌<◌, List, [], ◌∷◌, ◌++◌, length, take, drop, get_or, codes, decimal, replicate, Option, None, refl, sym, ap, ap₂, ◌∙◌, arith, append_assoc}
use Rattle.std.proofs.Math.Seq.{drop-append_seam}
use Rattle.std.proofs.lemmas.List.{take_all, take-append-le}
use Rattle.std.proofs.lemmas.Simd.{get_or_narrower}
use lib.Lanes.{Each1, pick_l, number_l, digits_l}
use Rattle.hex.specs.Hex.{encode_with, encode_lower}
use Rattle.iscsi_wire.specs.Replies.{bytes_4}
use Rattle.iscsi_wire.specs.declared.reply.Sense.{Sense}
use Rattle.iscsi_wire.specs.declared.reply.Reply.{Reply}
use Rattle.iscsi_wire.specs.declared.reply.Reply.TheVariants.{Scsi, Task}
use Rattle.iscsi_rules.specs.declared.effect.Effect.TheVariants.{Send}
use Rattle.iscsi_rules.specs.declared.effect.Numbers.{Numbers}
use Rattle.iscsi_report.specs.Lines.{eight_digits, effect_line}

-- the bytes of a number, of which the lowest came first
word : (bytes : List ℕ) (n k : ℕ) → ((i : ℕ) → i < 4 → get_or bytes (k + i) 0 ≡ n / 256 ^ i % 256)
    → get_or bytes (k + 3) 0 ∷ get_or bytes (k + 2) 0 ∷ get_or bytes (k + 1) 0 ∷ get_or bytes k 0 ∷ [] ≡ bytes_4 n
word bytes n k lane =
    let a : get_or bytes (k + 3) 0 ≡ n / 16777216 % 256 = lane 3 (omega arith) in
    let b : get_or bytes (k + 2) 0 ≡ n / 65536 % 256 = lane 2 (omega arith) in
    let c : get_or bytes (k + 1) 0 ≡ n / 256 % 256 = lane 1 (omega arith) in
    let one : n / 1 % 256 ≡ n % 256 = omega arith in
    let d : get_or bytes (k + 0) 0 ≡ n % 256 = lane 0 (omega arith) ∙ one in
    let same : k + 0 ≡ k = omega arith in
    let e : get_or bytes k 0 ≡ n % 256 = sym (ap (λ (i : ℕ). get_or bytes i 0) same) ∙ d in
    rw (a, b, c, e) refl

-- and of four numbers
turned : (bytes : List ℕ) (a b c d : ℕ) → ((j i : ℕ) → i < 4 → j < 4 → get_or bytes (4 * j + i) 0 ≡ get_or (a ∷ b ∷ c ∷ d ∷ []) j 0 / 256 ^ i % 256)
    → pick_l 0 bytes (3 ∷ 2 ∷ 1 ∷ 0 ∷ 7 ∷ 6 ∷ 5 ∷ 4 ∷ 11 ∷ 10 ∷ 9 ∷ 8 ∷ 15 ∷ 14 ∷ 13 ∷ 12 ∷ []) ≡ bytes_4 a ++ (bytes_4 b ++ (bytes_4 c ++ bytes_4 d))
turned bytes a b c d lane =
    let first = word bytes a 0 (λ i h. lane 0 i h (omega arith)) in
    let second = word bytes b 4 (λ i h. lane 1 i h (omega arith)) in
    let third = word bytes c 8 (λ i h. lane 2 i h (omega arith)) in
    let fourth = word bytes d 12 (λ i h. lane 3 i h (omega arith)) in
    ap₂ (λ (x y : List ℕ). x ++ y) first (ap₂ (λ (x y : List ℕ). x ++ y) second (ap₂ (λ (x y : List ℕ). x ++ y) third fourth))

bytes_of_four : (a b c d : ℕ) → Each1 (λ x. x < 4294967296) (a ∷ b ∷ c ∷ d ∷ [])
    → pick_l 0 (digits_l 256 16 (number_l 4294967296 (a ∷ b ∷ c ∷ d ∷ []))) (3 ∷ 2 ∷ 1 ∷ 0 ∷ 7 ∷ 6 ∷ 5 ∷ 4 ∷ 11 ∷ 10 ∷ 9 ∷ 8 ∷ 15 ∷ 14 ∷ 13 ∷ 12 ∷ [])
    ≡ bytes_4 a ++ (bytes_4 b ++ (bytes_4 c ++ bytes_4 d))
bytes_of_four a b c d small =
    turned (digits_l 256 16 (number_l 4294967296 (a ∷ b ∷ c ∷ d ∷ []))) a b c d
    (λ j i low few. get_or_narrower 4294967296 4 256 16 (a ∷ b ∷ c ∷ d ∷ []) j i refl small low (omega arith))

pub length-eight : (n : ℕ) → length (eight_digits n) ≡ 8
unfolding encode_with
length-eight n = refl

-- the digits of such bytes in halves, each of which has two numbers
pub halves_of_four : (front back : List ℕ) (a b c d : ℕ) → length front ≡ 16 → a < 4294967296 → b < 4294967296 → c < 4294967296 → d < 4294967296
    → front ++ back ≡ encode_lower (pick_l 0 (digits_l 256 16 (number_l 4294967296 (a ∷ b ∷ c ∷ d ∷ []))) (3 ∷ 2 ∷ 1 ∷ 0 ∷ 7 ∷ 6 ∷ 5 ∷ 4 ∷ 11 ∷ 10 ∷ 9 ∷ 8 ∷ 15 ∷ 14 ∷ 13 ∷ 12 ∷ []))
    → (take 8 front ≡ eight_digits a) × (drop 8 front ≡ eight_digits b) × (back ≡ eight_digits c ++ eight_digits d)
unfolding encode_with
halves_of_four front back a b c d len p q r s is =
    let digits = is ∙ ap encode_lower (bytes_of_four a b c d (p, (q, (r, (s, tt))))) in
    let first : front ≡ take 16 (front ++ back) = sym (take-append-le 16 front back (omega (arith, len)) ∙ take_all 16 front (omega (arith, len))) in
    let last : back ≡ drop 16 (front ++ back) = sym (drop-append_seam front back) ∙ ap (λ (n : ℕ). drop n (front ++ back)) len in
    let two : front ≡ eight_digits a ++ eight_digits b = first ∙ ap (take 16) digits in
    (ap (take 8) two, ap (drop 8) two, last ∙ ap (drop 16) digits)

abbrev pub zeros : List ℕ
zeros = codes "000000000000000000000000\n"

-- the line of a reply that is a header alone, as it is put together
pub answer_text : (conn opcode response status itt stat exp max : ℕ)
    → codes "  send " ++ ((decimal conn ++ codes " ") ++ (encode_lower (opcode ∷ []) ++ (codes "80" ++ (encode_lower (response ∷ []) ++ (encode_lower (status ∷ [])
    ++ (take 24 zeros ++ (eight_digits itt ++ (take 8 zeros ++ (eight_digits stat ++ ((eight_digits exp ++ eight_digits max) ++ zeros))))))))))
    ≡ codes "  send " ++ (decimal conn ++ (codes " " ++ (encode_lower (opcode ∷ 0x80 ∷ response ∷ status ∷ replicate 12 0 ++ bytes_4 itt ++ replicate 4 0
    ++ bytes_4 stat ++ bytes_4 exp ++ bytes_4 max ++ replicate 12 0) ++ codes "\n")))
unfolding encode_with
answer_text conn opcode response status itt stat exp max = ap (λ (l : List ℕ). codes "  send " ++ l) (append_assoc (decimal conn) (codes " ") _)

-- and that of these replies, as the rules have it
abbrev answer_line : ℕ → ℕ → ℕ → ℕ → ℕ → ℕ → Numbers → List ℕ
answer_line conn opcode response status itt stat n = codes "  send " ++ (decimal conn ++ (codes " " ++ (encode_lower (opcode ∷ 0x80 ∷ response ∷ status
    ∷ replicate 12 0 ++ bytes_4 itt ++ replicate 4 0 ++ bytes_4 stat ++ bytes_4 n.exp ++ bytes_4 n.max ++ replicate 12 0) ++ codes "\n")))

pub response_line : (conn itt status stat : ℕ) (n : Numbers) (reply : Reply) (sense : Option Sense) → reply ≡ Scsi itt status sense → sense ≡ None
    → answer_line conn 0x21 0 status itt stat n ≡ effect_line (Send conn stat reply) n
response_line conn itt status stat n reply sense is none =
    rw (is, none) (ap (λ (l : List ℕ). codes "  send " ++ l) (sym (append_assoc (decimal conn) _ (codes "\n"))))

pub task_line : (conn itt response stat : ℕ) (n : Numbers) (reply : Reply) → reply ≡ Task itt response
    → answer_line conn 0x22 response 0 itt stat n ≡ effect_line (Send conn stat reply) n
task_line conn itt response stat n reply is =
    rw is (ap (λ (l : List ℕ). codes "  send " ++ l) (sym (append_assoc (decimal conn) _ (codes "\n"))))
