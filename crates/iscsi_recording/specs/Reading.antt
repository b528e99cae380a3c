-- A recording that is being read.
use Rattle.std.specs.Prelude.{[], ◌≡◌, ℕ, ◌+◌, ◌-◌, ◌*◌, ◌<◌, ◌≤◌, ◌==◌, Bool, true, false, List, ◌++◌, length, drop, Option, Result, Ok, Err, ⊤}
use Rattle.std.specs.List.{list_any, list_all}
use Rattle.std.specs.Io.KnownBytes.{Consumes}
use Rattle.iscsi_rules.specs.rules.Settings.{are_distinct}
use Rattle.iscsi_recording.specs.Recorded.{Recorded, view, belongs_to, read_lines, lines_of}
use Rattle.iscsi_recording.specs.declared.fault.ReplayFault.{ReplayFault}
use Rattle.iscsi_recording.specs.declared.fault.ReplayFault.TheVariants as fault
use Rattle.iscsi_recording.specs.declared.reading.Reading.{Reading}

abbrev pub is_end : ℕ → Bool
is_end b = b == 10

-- what a recording keeps that has so many lines
pub record IsSoundIn (lines : ℕ) (r : Recorded) : Type 0 where
  pub few : length r.conns ≤ 64
  pub distinct : are_distinct r.conns ≡ true
  pub known : list_all (belongs_to r.conns) r.events ≡ true
  pub events : length r.events ≤ lines

-- the reading is in line `line`, of which `pending` has come
pub record IsReading (w : Reading) : Type 0 where
  pub first : 1 ≤ w.line
  pub last : w.line ≤ 1048577
  pub short : length w.pending.items ≤ 256
  pub room : 0 < length w.pending.items → w.line ≤ 1048576
  pub one : list_any is_end w.pending.items ≡ false
  pub sound : IsSoundIn (w.line - 1) (view w.so_far)

-- what reading gives, if these bytes come yet
abbrev pub left_of : Reading → List ℕ → Result Recorded ReplayFault
left_of w bytes = read_lines w.line (view w.so_far) (lines_of (w.pending.items ++ bytes))

-- the most bytes that may have come
abbrev pub weight : Reading → ℕ
weight w = (w.line - 1) * 257 + length w.pending.items

-- w took the first line of these bytes, which is an event and with its end so many bytes long, and became v
pub record HasTakenCommon (w v : Reading) (bytes : List ℕ) (size : ℕ) : Type 0 where
  pub long : size ≤ length bytes
  pub ready : IsReading v
  pub fresh : v.pending.items ≡ []
  pub read : (rest : List ℕ) → left_of v (drop size bytes ++ rest) ≡ left_of w (bytes ++ rest)
  pub more : weight w + size ≤ weight v

-- the known bytes lost a front that was seen, and with it v became w: whatever comes yet is read to the same answer
pub record ReadsOn (old new : Option (List ℕ)) (v w : Reading) : Type 0 where
  pub front : List ℕ
  pub seen : Consumes old new front
  pub read : (more : List ℕ) → left_of w more ≡ left_of v (front ++ more)

-- the answer is what reading gives, unless a read answered an error or memory ran out
abbrev pub Answers : Result (Unit {0}) ReplayFault → Recorded → Result Recorded ReplayFault → Type 0
Answers (Ok x) new read = read ≡ Ok new
Answers (Err fault.Read) new read = ⊤
Answers (Err fault.NoMemory) new read = ⊤
Answers (Err fault.NoThread) new read = ⊥
Answers (Err fault.Exhausted) new read = ⊥
Answers (Err e) new read = read ≡ Err e
