-- A reading, line by line.
use Rattle.std.proofs.Common.{◌≡◌, ℕ, ◌+◌, ◌-◌, ◌<◌, ◌≤◌, false, List, [], ◌∷◌, ◌++◌, length, Result, Ok, Err, sym, ap, ◌∙◌, subst, arith, length-append}
use Rattle.std.specs.Prelude.{OnOk, IfErr}
use Rattle.std.specs.List.{list_any}
use Rattle.iscsi_recording.specs.Recorded.{Recorded, view, read_line, read_end, read_lines, lines_of, Fails, Steps, ◌>>=◌}
use Rattle.iscsi_recording.specs.Reading.{is_end, IsSoundIn, IsReading, left_of, weight}
use Rattle.iscsi_recording.specs.declared.fault.ReplayFault.{ReplayFault}
use Rattle.iscsi_recording.specs.declared.reading.Reading.{Reading}
use Rattle.iscsi_recording.proofs.LineLemmas.{line_ends, fails_first, last_comes}
use Rattle.iscsi_recording.proofs.RecordedLemmas.{of_more, line_keeps, IsTaken}

-- w took the line l, and v comes after it
pub record HasEnded (w v : Reading) (l : List ℕ) : Type 0 where
  pub step : read_line w.line (view w.so_far) l ≡ Ok (view v.so_far)
  pub line : v.line ≡ w.line
  pub pending : v.pending.items ≡ []

of_line : (w v : Reading) (l : List ℕ) → IsReading w → HasEnded w v l → IsTaken w.line l (view v.so_far)
of_line w v l ready h = line_keeps w.line (view w.so_far) (view v.so_far) l ready.first ready.sound h.step

pub ended_ready : (w v : Reading) (l : List ℕ) → IsReading w → HasEnded w v l → IsReading (record v { line = v.line + 1 })
ended_ready w v l ready h =
    let kept = of_line w v l ready h in
    let line = h.line in
    let number = kept.number in
    let first = ready.first in
    let none : length v.pending.items ≡ 0 = ap length h.pending in
    record {
      first = omega arith;
      last = omega arith;
      short = omega arith;
      room = λ some. absurd (omega arith);
      one = ap (list_any is_end) h.pending;
      sound = subst (λ n. IsSoundIn n (view v.so_far)) (let z : w.line ≡ v.line + 1 - 1 = omega arith in z) kept.sound;
    }

pub ended_left : (w v : Reading) (last rest : List ℕ) → IsReading w → list_any is_end last ≡ false → HasEnded w v (w.pending.items ++ last)
    → left_of (record v { line = v.line + 1 }) rest ≡ left_of w (last ++ 10 ∷ rest)
ended_left w v last rest ready one h =
    ap (λ p. read_lines (v.line + 1) (view v.so_far) (lines_of (p ++ rest))) h.pending
    ∙ ap (λ n. read_lines (n + 1) (view v.so_far) (lines_of rest)) h.line
    ∙ sym (line_ends w.line (view w.so_far) w.pending.items last rest ready.one one
    ∙ ap (λ s. s >>= λ next. read_lines (w.line + 1) next (lines_of rest)) h.step)

pub ended_more : (w v : Reading) (last : List ℕ) → IsReading w → HasEnded w v (w.pending.items ++ last)
    → weight w + length last + 1 ≤ weight (record v { line = v.line + 1 })
ended_more w v last ready h =
    let kept = of_line w v (w.pending.items ++ last) ready h in
    let short = simp length-append at kept.short in
    let line = h.line in
    let first = ready.first in
    omega arith

-- the last line, as an answer
pub last_ok : (w : Reading) (result : Result (Unit {0}) ReplayFault) (new : Recorded) → IsReading w → 0 < length w.pending.items
    → Steps result new (read_line w.line (view w.so_far) w.pending.items) → OnOk result (left_of w [] ≡ read_end new)
last_ok w (Ok x) new ready some h =
    last_comes w.line (view w.so_far) w.pending.items some ready.one ∙ ap (λ s. s >>= read_end) h
last_ok w (Err e) new ready some h = tt

pub last_sound : (w : Reading) (result : Result (Unit {0}) ReplayFault) (new : Recorded) → IsReading w
    → Steps result new (read_line w.line (view w.so_far) w.pending.items) → OnOk result (IsSoundIn 1048576 new)
last_sound w (Ok x) new ready h =
    let kept = line_keeps w.line (view w.so_far) new w.pending.items ready.first ready.sound h in
    of_more w.line 1048576 new kept.number kept.sound
last_sound w (Err e) new ready h = tt

pub last_err : (w : Reading) (result : Result (Unit {0}) ReplayFault) (new : Recorded) → IsReading w → 0 < length w.pending.items
    → Steps result new (read_line w.line (view w.so_far) w.pending.items) → IfErr result (λ e. Fails e (left_of w []))
last_err w (Ok x) new ready some h = tt
last_err w (Err e) new ready some h =
    fails_first e _ _ read_end h (last_comes w.line (view w.so_far) w.pending.items some ready.one)
