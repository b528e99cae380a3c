-- Lines of a text of which the front has come.
use Rattle.std.proofs.Common.{◌≡◌, ℕ, zero, suc, ◌+◌, ◌<◌, ◌≤◌, Bool, true, false, cond, List, [], ◌∷◌, ◌++◌, length, get_or, take, drop, Result, refl, sym, ap, ◌∙◌, arith, append-nil, append_assoc, length-append, drop-cons, take-append-drop, add-one}
use Rattle.std.specs.Prelude.{◌||◌}
use Rattle.std.specs.List.{list_any}
use Rattle.std.proofs.lemmas.List.Folds.{list_any-append}
use Rattle.std.proofs.lemmas.Bool.{eqb-true}
use Rattle.iscsi_recording.specs.Recorded.{Recorded, read_line, read_end, read_lines, lines_of, onto_first, Fails, ◌>>=◌}
use Rattle.iscsi_recording.specs.Reading.{is_end}
use Rattle.iscsi_recording.specs.declared.fault.ReplayFault.{ReplayFault}
use Rattle.iscsi_recording.specs.declared.fault.ReplayFault.TheVariants.{BadLine, LineTooLong, TooManyLines, Read, NoMemory, NoConnection, Write, BadSettings, NoThread, Exhausted}

pub or_false : (a b : Bool) → (a || b) ≡ false → (a ≡ false) × (b ≡ false)
or_false true b h = cc
or_false false b h = (refl, h)

pub false_or : (a b : Bool) → a ≡ false → b ≡ false → (a || b) ≡ false
false_or true b h k = cc
false_or false b h k = k

-- no line ends in two texts, so none ends in both joined
pub no_end-append : (p q : List ℕ) → list_any is_end p ≡ false → list_any is_end q ≡ false → list_any is_end (p ++ q) ≡ false
no_end-append p q h k = list_any-append is_end p q ∙ false_or (list_any is_end p) (list_any is_end q) h k

is_false : (b : Bool) → (b ≡ true → ⊥) → b ≡ false
is_false true h = absurd (h refl)
is_false false h = refl

-- where no place of the front is a line end
pub no_end-take : (xs : List ℕ) (n : ℕ) → n ≤ length xs → ((k : ℕ) → 0 ≤ k → k < n → is_end (get_or xs k 0) ≡ true → ⊥)
    → list_any is_end (take n xs) ≡ false
no_end-take [] zero h none = refl
no_end-take [] (suc n) h none = absurd (omega arith)
no_end-take (x ∷ xs) zero h none = refl
no_end-take (x ∷ xs) (suc n) h none =
    false_or (is_end x) (list_any is_end (take n xs)) (is_false (is_end x) (none 0 (omega arith) (omega arith)))
    (no_end-take xs n (omega arith) (λ k low high. none (suc k) (omega arith) (omega arith)))

-- where no place is a line end
pub no_end-all : (xs : List ℕ) → ((k : ℕ) → 0 ≤ k → k < length xs → is_end (get_or xs k 0) ≡ true → ⊥) → list_any is_end xs ≡ false
no_end-all [] none = refl
no_end-all (x ∷ xs) none =
    false_or (is_end x) (list_any is_end xs) (is_false (is_end x) (none 0 (omega arith) (omega arith)))
    (no_end-all xs (λ k low high. none (suc k) (omega arith) (omega arith)))

-- a text is what stands before one of its line ends, that end, and what stands after it
pub split_at_end : (xs : List ℕ) (at : ℕ) (rest : List ℕ) → at < length xs → is_end (get_or xs at 0) ≡ true
    → take at xs ++ 10 ∷ (drop (at + 1) xs ++ rest) ≡ xs ++ rest
split_at_end xs at rest lt end =
    let byte : get_or xs at 0 ≡ 10 = eqb-true (get_or xs at 0) 10 end in
    let parts : take at xs ++ (get_or xs at 0 ∷ drop (suc at) xs) ≡ xs =
    ap (λ l. take at xs ++ l) (sym (drop-cons xs at 0 lt)) ∙ take-append-drop at xs in
    rw (add-one, ← byte) (sym (append_assoc (take at xs) (get_or xs at 0 ∷ drop (suc at) xs) rest) ∙ ap (λ l. l ++ rest) parts)

-- one byte of a line
one_byte : (b : ℕ) (bs : List ℕ) → is_end b ≡ false → lines_of (b ∷ bs) ≡ onto_first b (lines_of bs)
unfolding lines_of
one_byte b bs h = ap (λ t. cond t ([] ∷ lines_of bs) (onto_first b (lines_of bs))) h

end_byte : (bs : List ℕ) → lines_of (10 ∷ bs) ≡ [] ∷ lines_of bs
unfolding lines_of
end_byte bs = refl

-- a line and its end
pub whole_line : (p bs : List ℕ) → list_any is_end p ≡ false → lines_of (p ++ 10 ∷ bs) ≡ p ∷ lines_of bs
whole_line [] bs h = end_byte bs
whole_line (a ∷ p) bs h =
    let two = or_false (is_end a) (list_any is_end p) h in
    one_byte a (p ++ 10 ∷ bs) two.0 ∙ ap (onto_first a) (whole_line p bs two.1)

onto_some : (b : ℕ) (ls : List (List ℕ)) → (x : List ℕ) × (rest : List (List ℕ)) × (onto_first b ls ≡ (b ∷ x) ∷ rest)
onto_some b [] = ([], [], refl)
onto_some b (l ∷ ls) = (l, ls, refl)

-- a line that goes on
open_line : (p bs : List ℕ) → 0 < length p → list_any is_end p ≡ false
    → (x : List ℕ) × (ls : List (List ℕ)) × (lines_of (p ++ bs) ≡ (p ++ x) ∷ ls)
open_line [] bs lt h = absurd (omega arith)
open_line (a ∷ []) bs lt h =
    let two = or_false (is_end a) false h in
    let s = onto_some a (lines_of bs) in (s.0, s.1, one_byte a bs two.0 ∙ s.2)
open_line (a ∷ b ∷ p) bs lt h =
    let two = or_false (is_end a) (list_any is_end (b ∷ p)) h in
    let s = open_line (b ∷ p) bs (omega arith) two.1 in
    (s.0, s.1, one_byte a (b ∷ p ++ bs) two.0 ∙ ap (onto_first a) s.2)

-- the last line, which no end follows
last_line : (a : ℕ) (p : List ℕ) → list_any is_end (a ∷ p) ≡ false → lines_of (a ∷ p) ≡ (a ∷ p) ∷ []
unfolding lines_of
last_line a [] h = let two = or_false (is_end a) (list_any is_end []) h in one_byte a [] two.0
last_line a (b ∷ p) h =
    let two = or_false (is_end a) (list_any is_end (b ∷ p)) h in
    one_byte a (b ∷ p) two.0 ∙ ap (onto_first a) (last_line b p two.1)

read_cons : (n : ℕ) (r : Recorded) (lines : List (List ℕ)) (l : List ℕ) (ls : List (List ℕ)) → lines ≡ l ∷ ls
    → read_lines n r lines ≡ (read_line n r l >>= λ next. read_lines (n + 1) next ls)
unfolding read_lines
read_cons n r lines l ls e = ap (read_lines n r) e

-- a fault of the first step is one of the whole
pub fails_first : (e : ReplayFault) (r whole : Result Recorded ReplayFault) (f : Recorded → Result Recorded ReplayFault) → Fails e r
    → whole ≡ (r >>= f) → Fails e whole
fails_first (BadLine n) r whole f h is = is ∙ ap (λ s. s >>= f) h
fails_first (LineTooLong n) r whole f h is = is ∙ ap (λ s. s >>= f) h
fails_first TooManyLines r whole f h is = is ∙ ap (λ s. s >>= f) h
fails_first Read r whole f h is = h
fails_first NoMemory r whole f h is = tt
fails_first NoConnection r whole f h is = is ∙ ap (λ s. s >>= f) h
fails_first Write r whole f h is = h
fails_first BadSettings r whole f h is = h
fails_first NoThread r whole f h is = h
fails_first Exhausted r whole f h is = h

-- a line that ends
pub line_ends : (n : ℕ) (r : Recorded) (p last rest : List ℕ) → list_any is_end p ≡ false → list_any is_end last ≡ false
    → read_lines n r (lines_of (p ++ (last ++ 10 ∷ rest))) ≡ (read_line n r (p ++ last) >>= λ next. read_lines (n + 1) next (lines_of rest))
line_ends n r p last rest h k =
    read_cons n r _ (p ++ last) (lines_of rest)
    (ap lines_of (sym (append_assoc p last (10 ∷ rest))) ∙ whole_line (p ++ last) rest (no_end-append p last h k))

-- a fault that is due however the line goes on is one of the whole
pub fails_open : (e : ReplayFault) (n : ℕ) (r : Recorded) (p front rest : List ℕ) → 0 < length front → list_any is_end p ≡ false
    → list_any is_end front ≡ false → ((x : List ℕ) → Fails e (read_line n r ((p ++ front) ++ x)))
    → Fails e (read_lines n r (lines_of (p ++ (front ++ rest))))
fails_open e n r p front rest lt h k due =
    let some : 0 < length (p ++ front) = simp length-append (omega arith) in
    let s = open_line (p ++ front) rest some (no_end-append p front h k) in
    fails_first e (read_line n r ((p ++ front) ++ s.0)) _ (λ next. read_lines (n + 1) next s.1) (due s.0)
    (read_cons n r _ ((p ++ front) ++ s.0) s.1 (ap lines_of (sym (append_assoc p front rest)) ∙ s.2))

-- nothing more comes
pub nothing_more : (n : ℕ) (r : Recorded) (p : List ℕ) → p ≡ [] → read_lines n r (lines_of (p ++ [])) ≡ read_end r
unfolding lines_of read_lines
nothing_more n r p none = ap (λ q. read_lines n r (lines_of (q ++ []))) none

-- the last line, which no end follows
pub last_comes : (n : ℕ) (r : Recorded) (p : List ℕ) → 0 < length p → list_any is_end p ≡ false
    → read_lines n r (lines_of (p ++ [])) ≡ (read_line n r p >>= read_end)
unfolding read_lines
last_comes n r [] lt h = absurd (omega arith)
last_comes n r (a ∷ p) lt h =
    ap (λ q. read_lines n r (lines_of q)) (append-nil (a ∷ p)) ∙ ap (read_lines n r) (last_line a p h)

-- a step answers no failed read
pub not_read : (e : ReplayFault) (r : Result Recorded ReplayFault) → Fails e r → e ≡ Read → ⊥
not_read e r h is = rw is at h

-- nor a failed write
pub not_write : (e : ReplayFault) (r : Result Recorded ReplayFault) → Fails e r → e ≡ Write → ⊥
not_write e r h is = rw is at h

-- nor bad settings
pub not_settings : (e : ReplayFault) (r : Result Recorded ReplayFault) → Fails e r → e ≡ BadSettings → ⊥
not_settings e r h is = rw is at h
