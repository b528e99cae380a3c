-- The exit status of the program.
use Rattle.std.specs.Prelude.{ℕ}
use Rattle.clap.specs.Words.{kind_of}
use Rattle.clap.specs.declared.error.kind.ErrorKind.{ErrorKind}
use Rattle.clap.specs.declared.error.kind.ErrorKind.TheVariants.{OutOfMemory, DisplayHelp, DisplayVersion}
use Rattle.iscsi_replay.specs.declared.stopping.Stop.{Stop}
use Rattle.iscsi_replay.specs.declared.stopping.Stop.TheVariants.{Fault, CommandLine, BadFirst, NotText}

-- for an error of the command line's parser
abbrev pub status_of_kind : ErrorKind → ℕ
status_of_kind OutOfMemory = 1
status_of_kind DisplayHelp = 0
status_of_kind DisplayVersion = 0
status_of_kind kind = 2

abbrev pub status_of : Stop → ℕ
status_of (Fault fault) = 1
status_of (CommandLine error) = status_of_kind (kind_of error)
status_of BadFirst = 2
status_of NotText = 2
