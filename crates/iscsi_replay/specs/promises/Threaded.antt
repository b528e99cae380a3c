-- What a replay with threads answers, and what it writes.
use Rattle.std.specs.Prelude.{◌≡◌, ◌⊎◌, ℕ, ◌<◌, ◌≤◌, true, List, [], length, map, slice_index, Option, Result, Ok, Err, Vec, ⊤}
use Rattle.std.specs.declared.alloc.Global.{Global}
use Rattle.std.specs.Io.KnownBytes.{Appends, Keeps}
use mathlib.Core.List.{IsPrefix}
use Rattle.iscsi_rules.specs.rules.Settings.{Setting}
use Rattle.iscsi_rules.specs.rules.Trace.{live}
use Rattle.iscsi_rules.specs.rules.Run.{run_of, trace_of}
use Rattle.iscsi_rules.specs.promises.Promises.{KeepsPromises}
use Rattle.iscsi_rules.specs.declared.event.Event.{Event}
use Rattle.iscsi_threads.specs.declared.fault.LoopFault.{LoopFault}
use Rattle.iscsi_threads.specs.declared.fault.LoopFault.TheVariants as loop
use Rattle.iscsi_threads.specs.rules.Journal.{cids_in, part, done, are_sources}
use Rattle.iscsi_threads.specs.rules.Jobs.{jobs}
use Rattle.iscsi_threads.specs.promises.Outcomes.{ticket_of}
use Rattle.iscsi_threads.specs.rules.Works.{ticket_answered}
use Rattle.iscsi_recording.specs.Recorded.{Recorded}
use Rattle.iscsi_replay.specs.promises.Replayed.{setting_with, report_by, CanStop, IsFaultOr}
use Rattle.iscsi_recording.specs.Writing.{AppendsFront}
use Rattle.iscsi_settings.specs.declared.settings.Settings.{Settings}
use Rattle.iscsi_recording.specs.declared.fault.ReplayFault.{ReplayFault}
use Rattle.iscsi_recording.specs.declared.fault.ReplayFault.TheVariants as fault

-- the options of a session with threads: an arrival and an answer for each line that a recording may have
abbrev pub setting_for_threads : Settings → List (ℕ × ℕ) → Setting
setting_for_threads s conns = setting_with 2097152 s conns

-- the headers of a list
abbrev pub headers : Vec (List ℕ) Global → List (List ℕ)
headers v = v.items

-- these are events that a session with threads may take of the recording's arrivals, each from its source
pub record ThreadsRan (s : Settings) (r : Recorded) (j : List Event) (from : List ℕ) : Type 0 where
  -- an event's source is the place of its connection, or a unit
  pub sourced : are_sources (cids_in r.conns) s.units j from ≡ true
  -- the same headers as in the recording arrived on each connection, in the same order
  pub parts : (i : ℕ) → i < length r.conns → part (slice_index (cids_in r.conns) i) j ≡ part (slice_index (cids_in r.conns) i) r.events
  -- no command is live at the end
  pub ended : live (trace_of (setting_for_threads s r.conns) j) ≡ []
  -- each unit answered the first of its jobs, in their order
  pub in_turn : (u : ℕ) → u < s.units → IsPrefix (map ticket_answered (done u j from)) (map ticket_of (jobs u (run_of (setting_for_threads s r.conns) j)))

-- a journal that threads made of a recording, as a recording of the same connections
pub record IsJournalOf (s : Settings) (r j : Recorded) : Type 0 where
  pub conns : j.conns ≡ r.conns
  pub few : length j.events ≤ 2097152
  pub sources : List ℕ
  pub ran : ThreadsRan s r j.events sources

-- the report of such a journal was written, which is that of a log that keeps all promises
pub record ReportsJournal (s : Settings) (r : Recorded) (old new : Option (List ℕ)) : Type 0 where
  pub journal : List Event
  pub sources : List ℕ
  pub ran : ThreadsRan s r journal sources
  pub keeps : KeepsPromises (setting_for_threads s r.conns) journal (run_of (setting_for_threads s r.conns) journal)
  pub written : Appends old new (report_by (setting_for_threads s r.conns) journal)

-- the bytes are a recording, and the report of a journal of it was written
abbrev pub ThreadsReported : Settings → Result Recorded ReplayFault → Option (List ℕ) → Option (List ℕ) → Type 0
ThreadsReported s (Ok r) old new = ReportsJournal s r old new
ThreadsReported s (Err e) old new = ⊥

-- a front of the report of such a journal was written
pub record ReportsFront (s : Settings) (r : Recorded) (old new : Option (List ℕ)) : Type 0 where
  pub journal : List Event
  pub sources : List ℕ
  pub ran : ThreadsRan s r journal sources
  pub written : AppendsFront old new (report_by (setting_for_threads s r.conns) journal)

-- nothing was written, or a front of the report of a journal, and nothing where the bytes are no recording
abbrev pub FrontOfThreads : Settings → Result Recorded ReplayFault → Option (List ℕ) → Option (List ℕ) → Type 0
FrontOfThreads s (Ok r) old new = Keeps old new ⊎ ReportsFront s r old new
FrontOfThreads s (Err e) old new = Keeps old new

-- headers of the recording and the answers to their commands gave all the events that a session with threads takes
pub record FillsJournal (s : Settings) (r : Recorded) : Type 0 where
  pub journal : List Event
  pub from : List ℕ
  pub full : length journal ≡ 2097152
  -- an event's source is the place of its connection, or a unit
  pub sourced : are_sources (cids_in r.conns) s.units journal from ≡ true
  -- the first of the recording's headers arrived on each connection, in the same order
  pub fronts : (i : ℕ) → i < length r.conns → IsPrefix (part (slice_index (cids_in r.conns) i) journal) (part (slice_index (cids_in r.conns) i) r.events)
  -- each unit answered the first of its jobs, in their order
  pub in_turn : (u : ℕ) → u < s.units → IsPrefix (map ticket_answered (done u journal from)) (map ticket_of (jobs u (run_of (setting_for_threads s r.conns) journal)))

-- what a refusal of the threads is in a replay, whose options are valid
abbrev pub IsFaultOf : LoopFault → ReplayFault → Type 0
IsFaultOf loop.BadOptions e = ⊥
IsFaultOf loop.NoMemory e = e ≡ fault.NoMemory
IsFaultOf loop.NoThread e = e ≡ fault.NoThread
IsFaultOf loop.Unposted e = e ≡ fault.NoThread
IsFaultOf loop.Exhausted e = e ≡ fault.Exhausted

-- what threads may stop for
abbrev pub ComesOfThreads : Settings → Recorded → ReplayFault → Type 0
ComesOfThreads s r fault.NoMemory = ⊤
ComesOfThreads s r fault.NoThread = ⊤
ComesOfThreads s r fault.Exhausted = FillsJournal s r
ComesOfThreads s r e = ⊥

-- why a replay with threads of bytes that are this recording may be refused
abbrev pub CanStopThreads : Settings → Recorded → ReplayFault → Type 0
CanStopThreads s r fault.NoThread = ⊤
CanStopThreads s r fault.Exhausted = FillsJournal s r
CanStopThreads s r e = CanStop e

-- the answer is that of the bytes, unless memory ran out, a read or a write failed, or threads stopped
abbrev pub ThreadsAnswerAs : Settings → Result Recorded ReplayFault → Result (Unit {0}) ReplayFault → Type 0
ThreadsAnswerAs s (Ok r) (Ok x) = ⊤
ThreadsAnswerAs s (Ok r) (Err e) = CanStopThreads s r e
ThreadsAnswerAs s (Err f) (Ok x) = ⊥
ThreadsAnswerAs s (Err f) (Err e) = IsFaultOr f e
