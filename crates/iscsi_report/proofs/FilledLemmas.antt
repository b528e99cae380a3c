-- Numbers that are filled in behind lines, or in the last one.
use Rattle.std.proofs.Common.{◌≡◌, ℕ, ◌+◌, ◌*◌, ◌≤◌, List, [], ◌∷◌, ◌++◌, length, take, drop, All, codes, decimal, replicate, refl, sym, ap, ap₂, ◌∙◌, arith, append_assoc, subst}
use Rattle.std.specs.Prelude.{Vec}
use Rattle.std.specs.declared.alloc.Global.{Global}
use Rattle.std.specs.Vec.{with_items}
use Rattle.std.specs.List.{flat_map}
use Rattle.std.proofs.Math.Seq.{drop-append_seam, drop-append-add}
use Rattle.std.proofs.lemmas.List.{length-append, length-take, length-drop, take-append-le, drop-append-le, take_at, take-append-drop, append-nil, with_items_is}
use Rattle.std.proofs.lemmas.List.Elements.{All-head, All-tail}
use Rattle.std.proofs.lemmas.Grind.{flat_map-append}
use Rattle.hex.specs.Hex.{encode_with, encode_lower}
use Rattle.iscsi_wire.specs.declared.reply.Reply.{Reply}
use Rattle.iscsi_wire.specs.Replies.{bytes_3, bytes_4, opcode_of, response_of, status_of, tag_of, transfer_tag_of, tail_of}
use Rattle.iscsi_rules.specs.declared.effect.Effect.{Effect}
use Rattle.iscsi_rules.specs.declared.effect.Effect.TheVariants.{Send}
use Rattle.iscsi_rules.specs.declared.effect.Numbers.{Numbers}
use Rattle.iscsi_report.specs.Lines.{effect_line}
use Rattle.iscsi_report.specs.Filled.{numbers_digits, overwritten, filled, numbers_from_end}

pub length-numbers : (n : Numbers) → length (numbers_digits n) ≡ 16
unfolding encode_with
length-numbers n = refl

pub length-overwritten : (xs : List ℕ) (p : ℕ) (d : List ℕ) → p + length d ≤ length xs → length (overwritten xs p d) ≡ length xs
length-overwritten xs p d within = grind (arith, length-append, length-take, length-drop)

overwritten-append : (xs ys : List ℕ) (p : ℕ) (d : List ℕ) → p + length d ≤ length xs → overwritten (xs ++ ys) p d ≡ overwritten xs p d ++ ys
overwritten-append xs ys p d within = grind (arith, append_assoc, take-append-le, drop-append-le)

pub filled-append : (n : Numbers) (ps xs ys : List ℕ) → All (λ p. p + 16 ≤ length xs) ps → filled n ps (xs ++ ys) ≡ filled n ps xs ++ ys
filled-append n [] xs ys within = refl
filled-append n (p ∷ ps) xs ys within =
    let d : List ℕ = numbers_digits n in
    let first : p + 16 ≤ length xs = All-head (λ q. q + 16 ≤ length xs) p ps within in
    let fits : p + length d ≤ length xs = omega (arith, first, length-numbers n) in
    let same : length (overwritten xs p d) ≡ length xs = length-overwritten xs p d fits in
    ap (filled n ps) (overwritten-append xs ys p d fits)
    ∙ filled-append n ps (overwritten xs p d) ys (subst (λ l. All (λ q. q + 16 ≤ l) ps) (sym same) (All-tail (λ q. q + 16 ≤ length xs) p ps within))

pub length-filled : (n : Numbers) (ps xs : List ℕ) → All (λ p. p + 16 ≤ length xs) ps → length (filled n ps xs) ≡ length xs
length-filled n [] xs within = refl
length-filled n (p ∷ ps) xs within =
    let d : List ℕ = numbers_digits n in
    let first : p + 16 ≤ length xs = All-head (λ q. q + 16 ≤ length xs) p ps within in
    let same : length (overwritten xs p d) ≡ length xs = length-overwritten xs p d (omega (arith, first, length-numbers n)) in
    length-filled n ps (overwritten xs p d) (subst (λ l. All (λ q. q + 16 ≤ l) ps) (sym same) (All-tail (λ q. q + 16 ≤ length xs) p ps within)) ∙ same

pub filled-push : (n : Numbers) (ps : List ℕ) (q : ℕ) (xs : List ℕ) → filled n (ps ++ q ∷ []) xs ≡ overwritten (filled n ps xs) q (numbers_digits n)
filled-push n [] q xs = refl
filled-push n (p ∷ ps) q xs = filled-push n ps q (overwritten xs p (numbers_digits n))

-- ---- the line of a reply, before its numbers and behind them

abbrev send_front : ℕ → ℕ → Reply → List ℕ
send_front conn stat reply = codes "  send " ++ (decimal conn ++ (codes " " ++ encode_lower (opcode_of reply ∷ 0x80 ∷ response_of reply ∷ status_of reply
    ∷ 0 ∷ bytes_3 (length (tail_of reply)) ++ replicate 8 0 ++ bytes_4 (tag_of reply) ++ bytes_4 (transfer_tag_of reply) ++ bytes_4 stat)))

abbrev send_back : Reply → List ℕ
send_back reply = encode_lower (replicate 12 0 ++ tail_of reply) ++ codes "\n"

send_line : (conn stat : ℕ) (reply : Reply) (n : Numbers) → effect_line (Send conn stat reply) n ≡ send_front conn stat reply ++ (numbers_digits n ++ send_back reply)
unfolding encode_with
send_line conn stat reply n =
    ap (λ (l : List ℕ). codes "  send " ++ l) (append_assoc (decimal conn) _ (codes "\n") ∙ sym (append_assoc (decimal conn) _ (numbers_digits n ++ send_back reply)))

length-encoded : (xs : List ℕ) → length (encode_lower xs) ≡ 2 * length xs
unfolding encode_with
length-encoded [] = refl
length-encoded (x ∷ xs) = let rest = length-encoded xs in omega (arith, rest)

length-back : (reply : Reply) → length (send_back reply) ≡ 25 + 2 * length (tail_of reply)
length-back reply = grind (arith, length-append, length-encoded (replicate 12 0 ++ tail_of reply))

overwritten-seam : (front old back d : List ℕ) (p : ℕ) → p ≡ length front → length old ≡ length d → overwritten (front ++ (old ++ back)) p d ≡ front ++ (d ++ back)
overwritten-seam front old back d p at same =
    rw (at, sym same) (ap₂ (λ (a b : List ℕ). a ++ (d ++ b)) (take_at front (old ++ back) (length front) refl)
    (drop-append-add front (old ++ back) (length old) ∙ drop-append_seam old back))

-- ---- one effect more

more_lines : (n : Numbers) (text : List ℕ) (es : List Effect) (e : Effect) → (text ++ flat_map (λ effect. effect_line effect n) es) ++ effect_line e n
    ≡ text ++ flat_map (λ effect. effect_line effect n) (es ++ e ∷ [])
more_lines n text es e =
    append_assoc text (flat_map (λ effect. effect_line effect n) es) (effect_line e n)
    ∙ ap (λ (l : List ℕ). text ++ l) (sym (flat_map-append (λ effect. effect_line effect n) es (e ∷ [])
    ∙ ap (λ (l : List ℕ). flat_map (λ effect. effect_line effect n) es ++ l) (append-nil (effect_line e n))))

pub reply_more : (n none : Numbers) (ps bytes new text : List ℕ) (es : List Effect) (conn stat place : ℕ) (reply : Reply) → All (λ p. p + 16 ≤ length bytes) ps
    → filled n ps bytes ≡ text ++ flat_map (λ effect. effect_line effect n) es → new ≡ bytes ++ effect_line (Send conn stat reply) none
    → place + numbers_from_end reply ≡ length new → filled n (ps ++ place ∷ []) new ≡ text ++ flat_map (λ effect. effect_line effect n) (es ++ Send conn stat reply ∷ [])
reply_more n none ps bytes new text es conn stat place reply within lines put at =
    let front : List ℕ = send_front conn stat reply in
    let back : List ℕ = send_back reply in
    let whole : new ≡ bytes ++ (front ++ (numbers_digits none ++ back)) = put ∙ ap (λ (l : List ℕ). bytes ++ l) (send_line conn stat reply none) in
    let long : length new ≡ length bytes + (length front + (16 + length back)) =
    ap length whole ∙ length-append bytes (front ++ (numbers_digits none ++ back)) ∙ ap (λ k. length bytes + k) (length-append front (numbers_digits none ++ back)
    ∙ ap (λ k. length front + k) (length-append (numbers_digits none) back ∙ ap (λ k. k + length back) (length-numbers none))) in
    let before : List ℕ = filled n ps bytes in
    let place_is : place ≡ length (before ++ front) = omega (arith, at, long, length-back reply, length-append before front, length-filled n ps bytes within) in
    filled-push n ps place new
    ∙ ap (λ (l : List ℕ). overwritten l place (numbers_digits n)) (ap (filled n ps) whole ∙ filled-append n ps bytes (front ++ (numbers_digits none ++ back)) within
    ∙ sym (append_assoc before front (numbers_digits none ++ back)))
    ∙ overwritten-seam (before ++ front) (numbers_digits none) back (numbers_digits n) place place_is (length-numbers none ∙ sym (length-numbers n))
    ∙ append_assoc before front (numbers_digits n ++ back) ∙ ap (λ (l : List ℕ). before ++ l) (sym (send_line conn stat reply n))
    ∙ ap (λ (l : List ℕ). l ++ effect_line (Send conn stat reply) n) lines ∙ more_lines n text es (Send conn stat reply)

pub effect_more : (n none : Numbers) (ps bytes new text : List ℕ) (es : List Effect) (e : Effect) → All (λ p. p + 16 ≤ length bytes) ps
    → filled n ps bytes ≡ text ++ flat_map (λ effect. effect_line effect n) es → new ≡ bytes ++ effect_line e none → effect_line e none ≡ effect_line e n
    → filled n ps new ≡ text ++ flat_map (λ effect. effect_line effect n) (es ++ e ∷ [])
effect_more n none ps bytes new text es e within lines put same =
    ap (filled n ps) put ∙ filled-append n ps bytes (effect_line e none) within ∙ ap₂ (λ (a b : List ℕ). a ++ b) lines same ∙ more_lines n text es e

abbrev pub no_numbers : Numbers
no_numbers = record { exp = 0; max = 0 }

-- a line without numbers more, behind the first bytes of a memory
pub plain_more : (n : Numbers) (ps memory new : List ℕ) (len : ℕ) (text : List ℕ) (es : List Effect) (e : Effect) → All (λ p. p + 16 ≤ len) ps → len ≤ length memory
    → filled n ps (take len memory) ≡ text ++ flat_map (λ effect. effect_line effect n) es → new ≡ take len memory ++ effect_line e no_numbers → effect_line e no_numbers ≡ effect_line e n
    → filled n ps new ≡ text ++ flat_map (λ effect. effect_line effect n) (es ++ e ∷ [])
plain_more n ps memory new len text es e within fits lines put same =
    let front : length (take len memory) ≡ len = omega (arith, length-take len memory, fits) in
    effect_more n no_numbers ps (take len memory) new text es e (subst (λ m. All (λ p. p + 16 ≤ m) ps) (sym front) within) lines put same

-- the same, once the line stands in the memory
pub line_put : (n : Numbers) (ps : List ℕ) (memory : Vec ℕ Global) (old new : List ℕ) (len end : ℕ) (text : List ℕ) (es : List Effect) (e : Effect) → All (λ p. p + 16 ≤ len) ps → len ≤ length old → old ≡ memory.items → length new ≡ memory.len
    → filled n ps (take len memory.items) ≡ text ++ flat_map (λ effect. effect_line effect n) es → take end new ≡ take len old ++ effect_line e no_numbers → effect_line e no_numbers ≡ effect_line e n
    → filled n ps (take end (with_items memory new).items) ≡ text ++ flat_map (λ effect. effect_line effect n) (es ++ e ∷ [])
line_put n ps memory old new len end text es e within fits is long lines put same =
    plain_more n ps old (take end (with_items memory new).items) len text es e within fits (rw is lines) (ap (take end) (with_items_is memory new long) ∙ put) same

-- how far a line reaches that was written
pub written_to : (new old line : List ℕ) (at end : ℕ) → take end new ≡ take at old ++ line → end ≤ length new → at ≤ length old → end ≡ at + length line
written_to new old line at end put within before =
    let same = ap length put in
    omega (arith, same, length-take end new, length-append (take at old) line, length-take at old)

-- a reply's line has its numbers
pub reply_long : (conn stat : ℕ) (reply : Reply) (n : Numbers) → numbers_from_end reply ≤ length (effect_line (Send conn stat reply) n)
reply_long conn stat reply n =
    let front : List ℕ = send_front conn stat reply in
    let back : List ℕ = send_back reply in
    omega (arith, ap length (send_line conn stat reply n), length-append front (numbers_digits n ++ back), length-append (numbers_digits n) back, length-numbers n, length-back reply)

-- what stands in front of further bytes is filled in alone
pub filled_front : (n : Numbers) (ps xs : List ℕ) (k : ℕ) → All (λ p. p + 16 ≤ k) ps → k ≤ length xs → take k (filled n ps xs) ≡ filled n ps (take k xs)
filled_front n ps xs k within le =
    let size : length (take k xs) ≡ k = omega (arith, length-take k xs) in
    let inside : All (λ p. p + 16 ≤ length (take k xs)) ps = subst (λ m. All (λ p. p + 16 ≤ m) ps) (sym size) within in
    ap (λ l. take k (filled n ps l)) (sym (take-append-drop k xs)) ∙ ap (take k) (filled-append n ps (take k xs) (drop k xs) inside)
    ∙ take_at (filled n ps (take k xs)) (drop k xs) k (length-filled n ps (take k xs) inside ∙ size)

-- there is room for them within the line
pub place_fits : (new old : List ℕ) (at end : ℕ) (e : Effect) (conn stat : ℕ) (reply : Reply) (n : Numbers) → take end new ≡ take at old ++ effect_line e n
    → e ≡ Send conn stat reply → end ≤ length new → at ≤ length old → at + numbers_from_end reply ≤ end
place_fits new old at end e conn stat reply n put is within before =
    omega (arith, written_to new old (effect_line e n) at end put within before, ap (λ x. length (effect_line x n)) is, reply_long conn stat reply n)
