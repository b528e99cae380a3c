-- What the program answers and writes, for the words of its command line.
use Rattle.std.specs.Prelude.{◌≡◌, ◌≢◌, ℕ, Bool, true, false, List, [], Option, None, Result, Ok, Err, OnOk, IfSome, ⊤}
use Rattle.clap.specs.Words.{Text, HasKind, fault_of, matches_of}
use Rattle.iscsi_settings.specs.Command.{replay_app, first_number, HasFlag, HasValues}
use Rattle.iscsi_recording.specs.Order.{ReadsInOrder}
use Rattle.iscsi_recording.specs.Recorded.{Recorded, read_of}
use Rattle.iscsi_replay.specs.promises.Replayed.{Reported, KeepsWord, FrontReported, AnswersAs, ComesOfReading}
use Rattle.iscsi_replay.specs.promises.Threaded.{ThreadsReported, ThreadsAnswerAs, FrontOfThreads}
use Rattle.iscsi_settings.specs.declared.settings.Settings.{Settings}
use Rattle.iscsi_recording.specs.declared.fault.ReplayFault.{ReplayFault}
use Rattle.iscsi_recording.specs.declared.fault.ReplayFault.TheVariants.{BadSettings}
use Rattle.iscsi_replay.specs.declared.stopping.Stop.{Stop}
use Rattle.iscsi_replay.specs.declared.stopping.Stop.TheVariants.{Fault, CommandLine, BadFirst, NotText}

-- what is reported, in threads or event by event
abbrev pub ReportedBy : (threads : Bool) → Settings → Result Recorded ReplayFault → (old new : Option (List ℕ)) → Type 0
ReportedBy false s read old new = Reported s read old new
ReportedBy true s read old new = ThreadsReported s read old new

-- event by event, the report is of a log that keeps all promises; of threads it isn't said
abbrev pub KeepsWordBy : (threads : Bool) → Settings → Result Recorded ReplayFault → (old new : Option (List ℕ)) → Type 0
KeepsWordBy false s read old new = KeepsWord s read old new
KeepsWordBy true s read old new = ⊤

-- the answer to the bytes, in threads or event by event
abbrev pub AnswersBy : (threads : Bool) → Settings → Result Recorded ReplayFault → Result (Unit {0}) ReplayFault → Type 0
AnswersBy false s read answer = AnswersAs read answer
AnswersBy true s read answer = ThreadsAnswerAs s read answer

-- what is written in any case, in threads or event by event
abbrev pub FrontBy : (threads : Bool) → Settings → Result Recorded ReplayFault → (old new : Option (List ℕ)) → Type 0
FrontBy false s read old new = FrontReported s read old new
FrontBy true s read old new = FrontOfThreads s read old new

-- the command line takes the words, and this is the replay with the settings that they give: the values of the options
-- settle each of them. It is in threads exactly where the words gave `--threads`.
-- `given` and `left` are the reader's bytes before and after, `old` and `new` the writer's.
pub record IsReplayAsTold (words : List Text) (answer : Result (Unit {0}) ReplayFault) (given left old new : Option (List ℕ)) : Type 0 where
  pub taken : fault_of replay_app words ≡ []
  pub settings : Settings
  pub values : HasValues (matches_of replay_app words) settings
  pub threads : Bool
  pub flag : HasFlag (matches_of replay_app words) threads
  pub valid : answer ≢ Err BadSettings
  pub report : OnOk answer (IfSome given (λ bytes. ReportedBy threads settings (read_of bytes) old new))
  pub promises : OnOk answer (IfSome given (λ bytes. KeepsWordBy threads settings (read_of bytes) old new))
  pub fault : IfSome given (λ bytes. AnswersBy threads settings (read_of bytes) answer)
  pub front : IfSome given (λ bytes. FrontBy threads settings (read_of bytes) old new)
  pub order : ReadsInOrder read_of answer given left

-- the program does as the words tell: it refuses those that the command line refuses, and those whose `--first` isn't eight
-- hexadecimal digits, and else it replays with their settings
abbrev pub IsAsTold : List Text → Result (Unit {0}) Stop → (given left old new : Option (List ℕ)) → Type 0
IsAsTold words (Ok x) given left old new = IsReplayAsTold words (Ok x) given left old new
IsAsTold words (Err (Fault fault)) given left old new = IsReplayAsTold words (Err fault) given left old new
IsAsTold words (Err (CommandLine error)) given left old new = HasKind (fault_of replay_app words) error
IsAsTold words (Err BadFirst) given left old new =
    (fault_of replay_app words ≡ []) × (first_number (matches_of replay_app words) ≡ None)
IsAsTold words (Err NotText) given left old new = ⊥

-- the words themselves stop the program
abbrev pub ComesOfWords : Stop → Type 0
ComesOfWords (Fault fault) = ⊥
ComesOfWords (CommandLine error) = ⊤
ComesOfWords BadFirst = ⊤
ComesOfWords NotText = ⊤

-- the words stop the program, or a refusal that reading gives
abbrev pub ComesBeforeReport : Stop → Type 0
ComesBeforeReport (Fault fault) = ComesOfReading fault
ComesBeforeReport (CommandLine error) = ⊤
ComesBeforeReport BadFirst = ⊤
ComesBeforeReport NotText = ⊤
