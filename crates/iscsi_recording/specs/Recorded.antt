-- What a recording says, line by line.
use Rattle.std.specs.Prelude.{◌≡◌, ℕ, ◌+◌, ◌≤◌, ◌==◌, ◌||◌, not, nat_lt, Bool, true, false, if◌then◌else◌, List, [], ◌∷◌, ◌++◌, length, Option, Some, None, ok_or, option_and_then, Result, Ok, Err, ⊤}
use Rattle.std.specs.List.{list_all}
use Rattle.iscsi_rules.specs.declared.event.Event.{Event}
use Rattle.iscsi_rules.specs.declared.event.Event.TheVariants.{Arrive, Done}
use Rattle.iscsi_rules.specs.rules.Settings.{is_known, are_distinct}
use Rattle.iscsi_recording.specs.Grammar.{line_of}
use Rattle.iscsi_recording.specs.declared.line.Line.{Line}
use Rattle.iscsi_recording.specs.declared.line.Line.TheVariants as line
use Rattle.iscsi_recording.specs.declared.fault.ReplayFault.{ReplayFault}
use Rattle.iscsi_recording.specs.declared.fault.ReplayFault.TheVariants.{BadLine, LineTooLong, TooManyLines, Read, NoMemory, NoConnection, Write, BadSettings, NoThread, Exhausted}
use Rattle.iscsi_recording.specs.declared.recording.Recording.{Recording}

-- a recording without where it lies in memory
pub record Recorded : Type 0 where
  pub conns : List (ℕ × ℕ)  -- the CID and the first StatSN of each connection
  pub events : List Event

abbrev pub view : Recording → Recorded
view r = record { conns = r.conns; events = r.events }

abbrev pub nothing : Recorded
nothing = record { conns = []; events = [] }

abbrev pub is_empty : {A : Type 0} → List A → Bool
is_empty [] = true
is_empty (x ∷ xs) = false

-- an arrival comes on one of these connections
abbrev pub belongs_to : List (ℕ × ℕ) → Event → Bool
belongs_to conns (Arrive cid header) = is_known cid conns
belongs_to conns (Done ticket status) = true

-- a session of these connections that takes so many events takes each of these
pub record IsSoundWith (most : ℕ) (r : Recorded) : Type 0 where
  pub some : 1 ≤ length r.conns
  pub few : length r.conns ≤ 64
  pub distinct : are_distinct r.conns ≡ true
  pub known : list_all (belongs_to r.conns) r.events ≡ true
  pub events : length r.events ≤ most

-- a recording has no more lines than this
abbrev pub IsSound : Recorded → Type 0
IsSound r = IsSoundWith 1048576 r

-- the recording with what one more line says
abbrev pub take : Recorded → Line → Option Recorded
take r line.Passed = Some r
take r (line.Conn cid sn) =
    if not (is_empty r.events) || (is_known cid r.conns || not (nat_lt (length r.conns) 64)) then None
    else Some (record r { conns = r.conns ++ (cid, sn) ∷ [] })
take r (line.Event e) = if belongs_to r.conns e then Some (record r { events = r.events ++ e ∷ [] }) else None

infixl 10 ◌>>=◌
abbrev pub ◌>>=◌ : {A B : Type 0} → Result A ReplayFault → (A → Result B ReplayFault) → Result B ReplayFault
(Ok x) >>= f = f x
(Err e) >>= f = Err e

-- line n
unfoldable pub read_line : ℕ → Recorded → List ℕ → Result Recorded ReplayFault
read_line n r l =
    if nat_lt 1048576 n then Err TooManyLines
    else if nat_lt 256 (length l) then Err (LineTooLong n)
    else ok_or (option_and_then (take r) (line_of l)) (BadLine n)

-- the end of the input
unfoldable pub read_end : Recorded → Result Recorded ReplayFault
read_end r = if is_empty r.conns then Err NoConnection else Ok r

-- the lines from line n on
unfoldable pub read_lines : ℕ → Recorded → List (List ℕ) → Result Recorded ReplayFault
read_lines n r [] = read_end r
read_lines n r (l ∷ ls) = read_line n r l >>= λ next. read_lines (n + 1) next ls

abbrev pub onto_first : ℕ → List (List ℕ) → List (List ℕ)
onto_first b [] = (b ∷ []) ∷ []
onto_first b (l ∷ ls) = (b ∷ l) ∷ ls

-- the lines, each ended by a line feed, which the last may lack where it isn't empty
unfoldable pub lines_of : List ℕ → List (List ℕ)
lines_of [] = []
lines_of (b ∷ bs) = if b == 10 then [] ∷ lines_of bs else onto_first b (lines_of bs)

-- the recording that the bytes are, or the first fault
abbrev pub read_of : List ℕ → Result Recorded ReplayFault
read_of bytes = read_lines 1 nothing (lines_of bytes)

-- the error of a step says what reading gives, unless memory ran out
abbrev pub Fails : ReplayFault → Result Recorded ReplayFault → Type 0
Fails Read read = ⊥
Fails Write read = ⊥
Fails BadSettings read = ⊥
Fails NoThread read = ⊥
Fails Exhausted read = ⊥
Fails NoMemory read = ⊤
Fails e read = read ≡ Err e

-- what was answered is what reading gives, unless memory ran out
abbrev pub Steps : Result (Unit {0}) ReplayFault → Recorded → Result Recorded ReplayFault → Type 0
Steps (Ok x) new read = read ≡ Ok new
Steps (Err e) new read = Fails e read
