-- What a replay answers, and what it writes.
use Rattle.std.specs.Prelude.{◌≡◌, ℕ, List, Option, Result, Ok, Err, IfSome, IsOk, ⊤}
use Rattle.std.specs.Io.KnownBytes.{Appends, Keeps, IsAtEnd}
use Rattle.iscsi_rules.specs.rules.Settings.{Setting}
use Rattle.iscsi_rules.specs.declared.event.Event.{Event}
use Rattle.iscsi_rules.specs.declared.entry.Entry.{Entry}
use Rattle.iscsi_rules.specs.promises.Promises.{KeepsPromises}
use Rattle.iscsi_rules.specs.rules.Run.{run_of}
use Rattle.iscsi_report.specs.Lines.{report_from}
use Rattle.iscsi_recording.specs.Recorded.{Recorded, read_of}
use Rattle.iscsi_recording.specs.Writing.{AppendsFront}
use Rattle.iscsi_settings.specs.declared.settings.Settings.{Settings}
use Rattle.iscsi_recording.specs.declared.fault.ReplayFault.{ReplayFault}
use Rattle.iscsi_recording.specs.declared.fault.ReplayFault.TheVariants as fault

-- the options of a session that takes so many events
abbrev pub setting_with : ℕ → Settings → List (ℕ × ℕ) → Setting
setting_with most s conns = record {
  first = s.first;
  window = s.window;
  units = s.units;
  depth = s.depth;
  level = s.level;
  events = most;
  conns = conns;
}

-- the options of the session: a recording has no more lines
abbrev pub setting_for : Settings → List (ℕ × ℕ) → Setting
setting_for s conns = setting_with 1048576 s conns

-- the report of events
abbrev pub report_by : Setting → List Event → List ℕ
report_by o events = report_from events (run_of o events)

-- the report of a recording
abbrev pub report_of : Settings → Recorded → List ℕ
report_of s r = report_by (setting_for s r.conns) r.events

-- the bytes are a recording, and its report was written
abbrev pub Reported : Settings → Result Recorded ReplayFault → Option (List ℕ) → Option (List ℕ) → Type 0
Reported s (Ok r) old new = Appends old new (report_of s r)
Reported s (Err e) old new = ⊥

-- the report that was written is that of a log that keeps all promises
pub record ReportsPromises (o : Setting) (events : List Event) (old new : Option (List ℕ)) : Type 0 where
  pub log : List Entry
  pub keeps : KeepsPromises o events log
  pub written : Appends old new (report_from events log)

-- the bytes are a recording, and so it is with its report
abbrev pub KeepsWord : Settings → Result Recorded ReplayFault → Option (List ℕ) → Option (List ℕ) → Type 0
KeepsWord s (Ok r) old new = ReportsPromises (setting_for s r.conns) r.events old new
KeepsWord s (Err e) old new = ⊥

-- a front of the report was written, and nothing where the bytes are no recording
abbrev pub FrontReported : Settings → Result Recorded ReplayFault → Option (List ℕ) → Option (List ℕ) → Type 0
FrontReported s (Ok r) old new = AppendsFront old new (report_of s r)
FrontReported s (Err e) old new = Keeps old new

-- why a replay of bytes that are a recording may be refused
abbrev pub CanStop : ReplayFault → Type 0
CanStop fault.Read = ⊤
CanStop fault.NoMemory = ⊤
CanStop fault.Write = ⊤
CanStop e = ⊥

-- why a replay of bytes that have this fault may be refused
abbrev pub IsFaultOr : ReplayFault → ReplayFault → Type 0
IsFaultOr f fault.Read = ⊤
IsFaultOr f fault.NoMemory = ⊤
IsFaultOr f fault.NoThread = ⊥
IsFaultOr f fault.Exhausted = ⊥
IsFaultOr f e = e ≡ f

-- the answer is that of the bytes, unless memory ran out or a read or a write failed
abbrev pub AnswersAs : Result Recorded ReplayFault → Result (Unit {0}) ReplayFault → Type 0
AnswersAs (Ok r) (Ok x) = ⊤
AnswersAs (Ok r) (Err e) = CanStop e
AnswersAs (Err f) (Ok x) = ⊥
AnswersAs (Err f) (Err e) = IsFaultOr f e

-- the refusals that reading alone gives, and those of the settings and of threads: nothing is written before them. Want of
-- memory may come while the report is written, and a failed write comes only then.
abbrev pub ComesOfReading : ReplayFault → Type 0
ComesOfReading (fault.BadLine line) = ⊤
ComesOfReading (fault.LineTooLong line) = ⊤
ComesOfReading fault.TooManyLines = ⊤
ComesOfReading fault.Read = ⊤
ComesOfReading fault.NoMemory = ⊥
ComesOfReading fault.NoConnection = ⊤
ComesOfReading fault.Write = ⊥
ComesOfReading fault.BadSettings = ⊤
ComesOfReading fault.NoThread = ⊤
ComesOfReading fault.Exhausted = ⊤

-- the input was read to its end, and its bytes, where they are known, are a recording
pub record IsReadWhole (old new : Option (List ℕ)) : Type 0 where
  pub ended : IsAtEnd new
  pub read : IfSome old (λ bytes. IsOk (read_of bytes))
