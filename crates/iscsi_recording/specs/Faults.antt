-- The lines of the faults, without their end.
use Rattle.std.specs.Prelude.{ℕ, List, ◌++◌, codes, decimal}
use Rattle.iscsi_recording.specs.declared.fault.ReplayFault.{ReplayFault}
use Rattle.iscsi_recording.specs.declared.fault.ReplayFault.TheVariants.{BadLine, LineTooLong, TooManyLines, Read, NoMemory, NoConnection, Write, BadSettings, NoThread, Exhausted}

abbrev pub fault_line : ReplayFault → List ℕ
fault_line (BadLine line) = codes "iscsi-replay: line " ++ decimal line ++ codes ": not a line of a recording"
fault_line (LineTooLong line) = codes "iscsi-replay: line " ++ decimal line ++ codes ": longer than 256 bytes"
fault_line TooManyLines = codes "iscsi-replay: more than 1048576 lines"
fault_line Read = codes "iscsi-replay: the input could not be read"
fault_line NoMemory = codes "iscsi-replay: out of memory"
fault_line NoConnection = codes "iscsi-replay: no connection line"
fault_line Write = codes "iscsi-replay: the output could not be written"
fault_line BadSettings = codes "iscsi-replay: a setting is out of range"
fault_line NoThread = codes "iscsi-replay: a worker could not be started"
fault_line Exhausted = codes "iscsi-replay: too many events"
