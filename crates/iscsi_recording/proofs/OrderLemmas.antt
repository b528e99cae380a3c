-- The order in which a reading meets faults.
use Rattle.std.proofs.Common.{◌≡◌, ◌≢◌, ◌⊎◌, inl, inr, ℕ, ◌<◌, ◌≤◌, Bool, true, false, cond, List, [], ◌∷◌, ◌++◌, zero, suc, length, take, replicate, Option, Some, None, Result, Ok, Err, refl, sym, ap, ◌∙◌, subst, arith, append-nil, append_assoc, length-append, nat_lt, lt-ltb}
use Rattle.std.proofs.lemmas.List.{length-replicate}
use Rattle.std.specs.Prelude.{IfErr, ok_or, option_and_then}
use Rattle.std.specs.List.{list_any}
use Rattle.std.specs.Io.KnownBytes.{Consumes, IsAtEnd, Keeps}
use Rattle.std.proofs.KnownBytes.{Consumes-nil, Consumes-trans, Consumes-kept}
use Rattle.iscsi_recording.specs.Recorded.{Recorded, view, read_line, read_end, read_lines, read_of, lines_of, is_empty, take as take_said, Fails, ◌>>=◌}
use Rattle.iscsi_recording.specs.Grammar.{line_of}
use Rattle.iscsi_recording.specs.Reading.{is_end, IsReading, left_of, ReadsOn}
use Rattle.iscsi_recording.specs.Order.{IsDue, NoneIsDue, IsDueAtEnd, ComesInOrder, ReadsInOrder}
use Rattle.iscsi_recording.specs.declared.fault.ReplayFault.{ReplayFault}
use Rattle.iscsi_recording.specs.declared.fault.ReplayFault.TheVariants.{BadLine, LineTooLong, TooManyLines, Read, NoMemory, NoConnection, Write, BadSettings, NoThread, Exhausted}
use Rattle.iscsi_recording.specs.declared.reading.Reading.{Reading}
use Rattle.iscsi_recording.proofs.LineLemmas.{line_ends, fails_open, nothing_more}

-- the end of the input and a line that goes on give different answers, so no fault is certain between lines

-- a line past the last number
late_line : (n : ℕ) (r : Recorded) (l : List ℕ) → 1048576 < n → read_line n r l ≡ Err TooManyLines
unfolding read_line
late_line n r l late = rw (lt-ltb _ _ late) refl

-- a line past the last length
long_line : (n : ℕ) (r : Recorded) (l : List ℕ) → n ≤ 1048576 → 256 < length l → read_line n r l ≡ Err (LineTooLong n)
unfolding read_line
long_line n r l few long =
    let number : nat_lt 1048576 n ≡ false = grind arith in
    rw (number, lt-ltb _ _ long) refl

-- the end answers no fault of a line
end_alone : (r : Recorded) (f : ReplayFault) → read_end r ≡ Err f → f ≡ NoConnection
unfolding read_end
end_alone r f is = go (is_empty r.conns) is
  where
    go : (none : Bool) → cond none (Err NoConnection) (Ok r) ≡ Err f → f ≡ NoConnection
    go true h = cc
    go false h = cc

-- a line that ends isn't answered as one that is too long
ended_short : (o : Option Recorded) (n : ℕ) → (ok_or o (BadLine n) >>= λ next. read_end next) ≡ Err (LineTooLong n) → ⊥
ended_short None n h = cc
ended_short (Some r) n h = let other = end_alone r (LineTooLong n) h in cc

-- what a short line and its end come to
short_ends : (n : ℕ) (r : Recorded) (p : List ℕ) → n ≤ 1048576 → length p ≤ 256 → list_any is_end p ≡ false
    → read_lines n r (lines_of (p ++ 10 ∷ [])) ≡ (ok_or (option_and_then (take_said r) (line_of (p ++ []))) (BadLine n) >>= λ next. read_end next)
unfolding read_lines read_line lines_of
short_ends n r p few short one =
    let number : nat_lt 1048576 n ≡ false = grind arith in
    let fits : nat_lt 256 (length (p ++ [])) ≡ false = rw append-nil (grind arith) in
    line_ends n r p [] [] one refl ∙ rw (number, fits) refl

zeros_go_on : (n : ℕ) → list_any is_end (replicate n 0) ≡ false
zeros_go_on zero = refl
zeros_go_on (suc n) = zeros_go_on n

-- the first byte of a line past the last number
late_goes_on : (w : Reading) → 1048576 < w.line → IsReading w → left_of w (0 ∷ []) ≡ Err TooManyLines
late_goes_on w late ready =
    fails_open TooManyLines w.line (view w.so_far) w.pending.items (0 ∷ []) [] (omega arith) ready.one refl
    (λ x. late_line w.line (view w.so_far) _ late)

-- too many bytes of a line
long_goes_on : (w : Reading) → w.line ≤ 1048576 → IsReading w → left_of w (replicate 257 0 ++ []) ≡ Err (LineTooLong w.line)
long_goes_on w few ready =
    let zeros : List ℕ = replicate 257 0 in
    let n : length zeros ≡ 257 = length-replicate {A = ℕ} 257 0 in
    fails_open (LineTooLong w.line) w.line (view w.so_far) w.pending.items zeros [] (omega arith) ready.one (zeros_go_on 257)
    (λ x. long_line w.line (view w.so_far) _ few (omega (arith, length-append {A = ℕ})))

is_nil : (p : List ℕ) → (0 < length p → ⊥) → p ≡ []
is_nil [] h = refl
is_nil (x ∷ xs) h = absurd (h (omega arith))

-- no fault is certain by what a reading took
none_now : (w : Reading) → IsReading w → (f : ReplayFault) → ((more : List ℕ) → left_of w more ≡ Err f) → ⊥
none_now w ready f due = go (nat_lt 1048576 w.line) refl
  where
    go : (b : Bool) → nat_lt 1048576 w.line ≡ b → ⊥
    go true h =
        let late : 1048576 < w.line = grind arith in
        let none = is_nil w.pending.items (λ some. let few = ready.room some in omega arith) in
        let ended = end_alone (view w.so_far) f (sym (nothing_more w.line (view w.so_far) w.pending.items none) ∙ due []) in
        let open_is = sym (due (0 ∷ [])) ∙ late_goes_on w late ready in
        cc
    go false h =
        let few : w.line ≤ 1048576 = grind arith in
        let open_is : Err f ≡ Err (LineTooLong w.line) = sym (due (replicate 257 0 ++ [])) ∙ long_goes_on w few ready in
        let same : f ≡ LineTooLong w.line = cc in
        ended_short _ w.line (sym (short_ends w.line (view w.so_far) w.pending.items few ready.short ready.one) ∙ due (10 ∷ []) ∙ ap Err same)

-- nor by the bytes that it had seen since it was v
pub none_since : (v w : Reading) (seen : List ℕ) → IsReading w → ((more : List ℕ) → left_of w more ≡ left_of v (seen ++ more)) → NoneIsDue (left_of v) seen
none_since v w seen ready read f due = none_now w ready f (λ more. read more ∙ due more)

-- a chunk more
pub reads_more : (a b c : Option (List ℕ)) (v w x : Reading) (chunk : List ℕ) → ReadsOn a b v w → Consumes b c chunk
    → ((more : List ℕ) → left_of x more ≡ left_of w (chunk ++ more)) → ReadsOn a c v x
reads_more a b c v w x chunk h took read = record {
  front = h.front ++ chunk;
  seen = Consumes-trans a b c h.front chunk h.seen took;
  read = λ more. read more ∙ h.read (chunk ++ more) ∙ ap (left_of v) (sym (append_assoc h.front chunk more));
}

-- no byte more
pub reads_none : (a b c : Option (List ℕ)) (v w : Reading) (chunk : List ℕ) → ReadsOn a b v w → Consumes b c (take 0 chunk) → ReadsOn a c v w
reads_none a b c v w chunk h took = reads_more a b c v w w [] h took (λ more. refl)

-- ---- the answers

-- a read failed
pub read_in_order : (a b c : Option (List ℕ)) (v w : Reading) → IsReading w → ReadsOn a b v w → Keeps b c → ReadsInOrder (left_of v) (Err Read) a c
read_in_order a b c v w ready h kept =
    let none = none_since v w h.front ready h.read in
    record {
      before = h.front;
      last = [];
      seen = subst (Consumes a c) (sym (append-nil h.front)) (Consumes-kept a b c h.front h.seen kept);
      chunk = omega arith;
      early = none;
      order = subst (NoneIsDue (left_of v)) (sym (append-nil h.front)) none;
    }

-- a fault that is no matter of reading and writing
due_of : (reads : List ℕ → Result Recorded ReplayFault) (seen : List ℕ) (new : Option (List ℕ)) (e : ReplayFault)
    → ((more : List ℕ) → Fails e (reads (seen ++ more))) → ComesInOrder reads (Err e) seen new
due_of reads seen new (BadLine n) h = inl h
due_of reads seen new (LineTooLong n) h = inl h
due_of reads seen new TooManyLines h = inl h
due_of reads seen new Read h = absurd (h [])
due_of reads seen new NoMemory h = tt
due_of reads seen new NoConnection h = inl h
due_of reads seen new Write h = absurd (h [])
due_of reads seen new BadSettings h = absurd (h [])
due_of reads seen new NoThread h = absurd (h [])
due_of reads seen new Exhausted h = absurd (h [])

-- a chunk has a fault
pub fault_in_order : (a b c : Option (List ℕ)) (v w : Reading) (chunk : List ℕ) (e : ReplayFault) → IsReading w → ReadsOn a b v w → Consumes b c chunk
    → length chunk ≤ 65536 → ((more : List ℕ) → Fails e (left_of w (chunk ++ more))) → ReadsInOrder (left_of v) (Err e) a c
fault_in_order a b c v w chunk e ready h took few fails = record {
  before = h.front;
  last = chunk;
  seen = Consumes-trans a b c h.front chunk h.seen took;
  chunk = few;
  early = none_since v w h.front ready h.read;
  order = due_of (left_of v) (h.front ++ chunk) c e
      (λ more. subst (Fails e) (h.read (chunk ++ more) ∙ ap (left_of v) (sym (append_assoc h.front chunk more))) (fails more));
}

-- a fault of the last line, or that there is no connection
end_of : (reads : List ℕ → Result Recorded ReplayFault) (seen : List ℕ) (new : Option (List ℕ)) (e : ReplayFault)
    → Fails e (reads seen) → IsAtEnd new → ComesInOrder reads (Err e) seen new
end_of reads seen new (BadLine n) h ended = inr (record { fault = h; ended = ended })
end_of reads seen new (LineTooLong n) h ended = inr (record { fault = h; ended = ended })
end_of reads seen new TooManyLines h ended = inr (record { fault = h; ended = ended })
end_of reads seen new Read h ended = absurd h
end_of reads seen new NoMemory h ended = tt
end_of reads seen new NoConnection h ended = inr (record { fault = h; ended = ended })
end_of reads seen new Write h ended = absurd h
end_of reads seen new BadSettings h ended = absurd h
end_of reads seen new NoThread h ended = absurd h
end_of reads seen new Exhausted h ended = absurd h

-- the input was read to its end
pub end_in_order : (reads : List ℕ → Result Recorded ReplayFault) (a b : Option (List ℕ)) (v w : Reading) (answer : Result (Unit {0}) ReplayFault)
    → ((bytes : List ℕ) → left_of v bytes ≡ reads bytes) → IsReading w → ReadsOn a b v w
    → IfErr answer (λ e. Fails e (left_of w [])) → IsAtEnd b → ReadsInOrder reads answer a b
end_in_order reads a b v w answer same ready h fails ended = record {
  before = h.front;
  last = [];
  seen = subst (Consumes a b) (sym (append-nil h.front)) h.seen;
  chunk = omega arith;
  early = λ f due. none_since v w h.front ready h.read f (λ more. same (h.front ++ more) ∙ due more);
  order = of answer fails;
}
  where
    all : left_of w [] ≡ reads (h.front ++ [])
    all = h.read [] ∙ same (h.front ++ [])

    of : (answer : Result (Unit {0}) ReplayFault) → IfErr answer (λ e. Fails e (left_of w [])) → ComesInOrder reads answer (h.front ++ []) b
    of (Ok x) f = ended
    of (Err e) f = end_of reads (h.front ++ []) b e (subst (Fails e) all f) ended

-- no fault is certain, where reading gives the same in other words
none_as : (reads others : List ℕ → Result Recorded ReplayFault) (seen : List ℕ) → ((bytes : List ℕ) → reads bytes ≡ others bytes)
    → NoneIsDue reads seen → NoneIsDue others seen
none_as reads others seen same none f due = none f (λ more. same (seen ++ more) ∙ due more)

due_as : (reads others : List ℕ → Result Recorded ReplayFault) (seen : List ℕ) (new : Option (List ℕ)) (e : ReplayFault)
    → ((bytes : List ℕ) → reads bytes ≡ others bytes) → IsDue reads seen e ⊎ IsDueAtEnd reads seen new e → IsDue others seen e ⊎ IsDueAtEnd others seen new e
due_as reads others seen new e same (inl due) = inl (λ more. sym (same (seen ++ more)) ∙ due more)
due_as reads others seen new e same (inr h) = inr (record { fault = sym (same seen) ∙ h.fault; ended = h.ended })

comes_as : (reads others : List ℕ → Result Recorded ReplayFault) (answer : Result (Unit {0}) ReplayFault) (seen : List ℕ) (new : Option (List ℕ))
    → ((bytes : List ℕ) → reads bytes ≡ others bytes) → ComesInOrder reads answer seen new → ComesInOrder others answer seen new
comes_as reads others (Ok x) seen new same h = h
comes_as reads others (Err (BadLine n)) seen new same h = due_as reads others seen new (BadLine n) same h
comes_as reads others (Err (LineTooLong n)) seen new same h = due_as reads others seen new (LineTooLong n) same h
comes_as reads others (Err TooManyLines) seen new same h = due_as reads others seen new TooManyLines same h
comes_as reads others (Err Read) seen new same h = none_as reads others seen same h
comes_as reads others (Err NoMemory) seen new same h = tt
comes_as reads others (Err NoConnection) seen new same h = due_as reads others seen new NoConnection same h
comes_as reads others (Err Write) seen new same h = h
comes_as reads others (Err BadSettings) seen new same h = h
comes_as reads others (Err NoThread) seen new same h = h
comes_as reads others (Err Exhausted) seen new same h = h

-- the same order, where reading gives the same in other words
pub order_as : (reads others : List ℕ → Result Recorded ReplayFault) (answer : Result (Unit {0}) ReplayFault) (a b : Option (List ℕ))
    → ((bytes : List ℕ) → reads bytes ≡ others bytes) → ReadsInOrder reads answer a b → ReadsInOrder others answer a b
order_as reads others answer a b same h = record {
  before = h.before;
  last = h.last;
  seen = h.seen;
  chunk = h.chunk;
  early = none_as reads others h.before same h.early;
  order = comes_as reads others answer (h.before ++ h.last) b same h.order;
}

none_at_first : NoneIsDue read_of []
unfolding read_lines read_line lines_of read_end
none_at_first f due =
    let ended : f ≡ NoConnection = let h : Err NoConnection ≡ Err f = due [] in cc in
    let open_is : Err (BadLine 1) ≡ Err f = due (0 ∷ 10 ∷ []) in
    cc

first_in_order : (e : ReplayFault) (a : Option (List ℕ)) → ComesInOrder read_of (Err e) [] a → ReadsInOrder read_of (Err e) a a
first_in_order e a h = record { before = []; last = []; seen = Consumes-nil a; chunk = omega arith; early = none_at_first; order = h }

-- nothing was read
pub memory_at_first : (a : Option (List ℕ)) → ReadsInOrder read_of (Err NoMemory) a a
memory_at_first a = first_in_order NoMemory a tt

pub settings_at_first : (a : Option (List ℕ)) → ReadsInOrder read_of (Err BadSettings) a a
settings_at_first a = first_in_order BadSettings a refl

-- the answer of a report that is written once the input was read to its end
written_of : (answer : Result (Unit {0}) ReplayFault) (seen : List ℕ) (new : Option (List ℕ)) → IsAtEnd new → IfErr answer (λ e. e ≢ Write → e ≡ NoMemory)
    → ComesInOrder read_of answer seen new
written_of (Ok x) seen new h kinds = h
written_of (Err Write) seen new h kinds = h
written_of (Err NoMemory) seen new h kinds = tt
written_of (Err (BadLine n)) seen new h kinds = let other : BadLine n ≡ NoMemory = kinds (λ is. cc) in cc
written_of (Err (LineTooLong n)) seen new h kinds = let other : LineTooLong n ≡ NoMemory = kinds (λ is. cc) in cc
written_of (Err TooManyLines) seen new h kinds = let other : TooManyLines ≡ NoMemory = kinds (λ is. cc) in cc
written_of (Err Read) seen new h kinds = let other : Read ≡ NoMemory = kinds (λ is. cc) in cc
written_of (Err NoConnection) seen new h kinds = let other : NoConnection ≡ NoMemory = kinds (λ is. cc) in cc
written_of (Err BadSettings) seen new h kinds = let other : BadSettings ≡ NoMemory = kinds (λ is. cc) in cc
written_of (Err NoThread) seen new h kinds = let other : NoThread ≡ NoMemory = kinds (λ is. cc) in cc
written_of (Err Exhausted) seen new h kinds = let other : Exhausted ≡ NoMemory = kinds (λ is. cc) in cc
