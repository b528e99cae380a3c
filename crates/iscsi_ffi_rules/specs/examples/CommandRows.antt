-- Worked lists: a command, from its start to the end of all that is kept of it.
use Rattle.std.specs.Prelude.{List, [], ◌∷◌, refl, None}
use Rattle.iscsi_wire.specs.declared.reply.Reply.TheVariants.{Scsi, Task}
use Rattle.iscsi_tasks.specs.Rules as Rules
use Rattle.iscsi_rules.specs.examples.Rows.{NO_TAG, command, function_now, nop_now, setting}
use Rattle.iscsi_ffi_rules.specs.declared.action.Action.TheVariants.{Stop, Ready, Forget}
use Rattle.iscsi_ffi_rules.specs.declared.action.StopReason.TheVariants.{Aborted}
use Rattle.iscsi_ffi_rules.specs.examples.Rows.{interface, Worked, Row, joins, arrives, completes, stops, is_stale, replies, none_goes, is_written, starts}

-- it is forgotten when its response is written
abbrev pub one_command_rows : List Row
one_command_rows =
    joins 1 1
    ∷ arrives 1 (command 0xa1 1) 7 (starts 1 7 ∷ [])
    ∷ none_goes 1
    ∷ completes 1 0 (Ready 1 ∷ [])
    ∷ replies 1 (Scsi 0xa1 0 None) 1 2 5 7
    ∷ none_goes 1
    ∷ is_written 1 (Forget 7 ∷ [])
    ∷ is_written 1 []
    ∷ []

pub one_command : Worked (interface (setting 1 4)) one_command_rows
unfolding Rules.bars_as
one_command = refl

-- one that an abort takes out is forgotten when it has stopped, and the abort when its answer is written
abbrev pub aborted_rows : List Row
aborted_rows =
    joins 1 1
    ∷ arrives 1 (command 0xa1 1) 7 (starts 1 7 ∷ [])
    ∷ arrives 1 (function_now 1 2 0xb1 0xa1 1) 8 (Stop 1 7 Aborted ∷ [])
    ∷ none_goes 1
    ∷ stops 1 (Ready 1 ∷ Forget 7 ∷ [])
    ∷ is_stale 1
    ∷ replies 1 (Task 0xb1 0) 1 2 5 8
    ∷ is_written 1 (Forget 8 ∷ [])
    ∷ []

pub aborted : Worked (interface (setting 1 4)) aborted_rows
unfolding Rules.bars_as
aborted = refl

-- a request that is held is kept; a duplicate and a NOP-Out without a tag are forgotten at once, and a held one that an abort takes out
abbrev pub held_rows : List Row
held_rows =
    joins 1 1
    ∷ arrives 1 (command 0xa2 2) 9 []
    ∷ arrives 1 (command 0xa2 2) 10 (Forget 10 ∷ [])
    ∷ arrives 1 (nop_now NO_TAG 1) 11 (Forget 11 ∷ [])
    ∷ arrives 1 (function_now 1 3 0xb1 0xa2 2) 12 (Ready 1 ∷ Forget 9 ∷ [])
    ∷ replies 1 (Task 0xb1 0) 1 1 4 12
    ∷ is_written 1 (Forget 12 ∷ [])
    ∷ []

pub held : Worked (interface (setting 1 4)) held_rows
unfolding Rules.bars_as
held = refl
