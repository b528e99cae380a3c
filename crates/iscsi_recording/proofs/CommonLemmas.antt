-- A line of the common form, with its end.
use Rattle.std.proofs.Common.{◌≡◌, ℕ, ◌+◌, ◌≤◌, false, List, [], ◌++◌, length, take, drop, Some, refl, ap, ◌∙◌, arith, length-take, append_assoc, Result}
use Rattle.std.specs.Prelude.{ok_or, nat_lt}
use Rattle.iscsi_rules.specs.declared.event.Event.{Event}
use Rattle.iscsi_recording.specs.Grammar.{line_of}
use Rattle.iscsi_recording.specs.Recorded.{Recorded, view, read_line, read_lines, lines_of}
use Rattle.iscsi_recording.specs.Recorded as recorded
use Rattle.iscsi_recording.specs.Fronts.{FirstSays, TookFirst}
use Rattle.iscsi_recording.specs.Reading.{IsReading, HasTakenCommon, left_of}
use Rattle.iscsi_recording.specs.declared.fault.ReplayFault.{ReplayFault}
use Rattle.iscsi_recording.specs.declared.fault.ReplayFault.TheVariants.{BadLine}
use Rattle.iscsi_recording.specs.declared.line.Line.TheVariants as line
use Rattle.iscsi_recording.specs.declared.reading.Reading.{Reading}
use Rattle.iscsi_recording.proofs.LineLemmas.{split_at_end}
use Rattle.iscsi_recording.proofs.ReadingLemmas.{HasEnded, ended_ready, ended_left, ended_more}

read_event : (n : ℕ) (r : Recorded) (l : List ℕ) (e : Event) → n ≤ 1048576 → length l ≤ 256 → line_of l ≡ Some (line.Event e)
    → read_line n r l ≡ ok_or (recorded.take r (line.Event e)) (BadLine n)
unfolding read_line
read_event n r l e number short said =
    let few : nat_lt 1048576 n ≡ false = grind arith in
    let fits : nat_lt 256 (length l) ≡ false = grind arith in
    rw (few, fits, said) refl

the_line : (w : Reading) (bytes : List ℕ) (size : ℕ) (e : Event) → w.line ≤ 1048576 → w.pending.items ≡ [] → FirstSays bytes size e
    → read_line w.line (view w.so_far) (w.pending.items ++ take size bytes) ≡ ok_or (recorded.take (view w.so_far) (line.Event e)) (BadLine w.line)
the_line w bytes size e number fresh h =
    ap (λ p. read_line w.line (view w.so_far) (p ++ take size bytes)) fresh
    ∙ read_event w.line (view w.so_far) (take size bytes) e number (omega (arith, h.short, length-take size bytes)) h.said

pub common_taken : (w v : Reading) (bytes : List ℕ) (taken : ℕ) → IsReading w → w.line ≤ 1048576 → w.pending.items ≡ []
    → v.line ≡ w.line → v.pending.items ≡ [] → TookFirst (view w.so_far) (view v.so_far) bytes taken
    → HasTakenCommon w (record v { line = v.line + 1 }) bytes taken
common_taken w v bytes taken ready number fresh line pending h =
    let size = h.size in
    let says = h.says in
    let long = says.long in
    let whole : length (take size bytes) ≡ size = omega (arith, long, length-take size bytes) in
    let ended : HasEnded w v (w.pending.items ++ take size bytes) = record {
      step = the_line w bytes size h.event number fresh says ∙ ap (λ r. ok_or r (BadLine w.line)) h.took;
      line = line;
      pending = pending;
    } in
    let more = ended_more w v (take size bytes) ready ended in
    rw h.with_end (record {
      long = omega (arith, long);
      ready = ended_ready w v (w.pending.items ++ take size bytes) ready ended;
      fresh = pending;
      read = λ rest. ended_left w v (take size bytes) (drop (size + 1) bytes ++ rest) ready says.one ended ∙ ap (left_of w) (split_at_end bytes size rest long says.end);
      more = omega (arith, more, whole);
    })

-- where no line of the common form was taken, and the front of another is kept
pub kept_reads : (u v w : Reading) (left chunk : List ℕ) (n : List ℕ → Result Recorded ReplayFault) → v ≡ w
    → ((rest : List ℕ) → left_of w (left ++ rest) ≡ n (chunk ++ rest)) → u.line ≡ v.line → u.so_far ≡ v.so_far
    → u.pending.items ≡ v.pending.items ++ left → (rest : List ℕ) → left_of u rest ≡ n (chunk ++ rest)
kept_reads u v w left chunk n same reads line so_far pending rest =
    ap (λ k. read_lines k (view u.so_far) (lines_of (u.pending.items ++ rest))) line
    ∙ ap (λ s. read_lines v.line (view s) (lines_of (u.pending.items ++ rest))) so_far
    ∙ ap (λ p. read_lines v.line (view v.so_far) (lines_of (p ++ rest))) pending
    ∙ ap (λ l. read_lines v.line (view v.so_far) (lines_of l)) (append_assoc v.pending.items left rest)
    ∙ ap (λ r. left_of r (left ++ rest)) same
    ∙ reads rest
