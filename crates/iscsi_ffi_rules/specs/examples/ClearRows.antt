-- Worked lists: another session's reset.
use Rattle.std.specs.Prelude.{List, [], ◌∷◌, refl, None}
use Rattle.iscsi_wire.specs.declared.reply.Reply.TheVariants.{Scsi, Task}
use Rattle.iscsi_tasks.specs.declared.task.Attr.TheVariants.{Simple}
use Rattle.iscsi_tasks.specs.Rules as Rules
use Rattle.iscsi_rules.specs.examples.Rows.{command, command_to, function_now, management, setting}
use Rattle.iscsi_ffi_rules.specs.declared.action.Action.TheVariants.{Start, Stop, Ready, Forget}
use Rattle.iscsi_ffi_rules.specs.declared.action.StopReason.TheVariants.{Cleared}
use Rattle.iscsi_ffi_rules.specs.examples.Rows.{interface, Worked, Row, joins, arrives, stops, is_reset, replies, is_written, starts}

-- a command that was told to start is told to stop, and completed as it has; one behind it is completed as its turn comes, and never
-- started; a HEAD OF QUEUE command that comes meanwhile finds the unit busy; one that comes behind is started
abbrev pub cleared_rows : List Row
cleared_rows =
    joins 1 1
    ∷ arrives 1 (command 0xa1 1) 7 (starts 1 7 ∷ [])
    ∷ arrives 1 (command_to 0 2 0xa2 2) 8 []
    ∷ is_reset 0 (Stop 1 7 Cleared ∷ [])
    ∷ arrives 1 (command_to 0 3 0xa3 3) 9 (Ready 1 ∷ [])
    ∷ arrives 1 (command 0xa4 4) 10 []
    ∷ stops 1 (Start 4 0 Simple 10 ∷ [])
    ∷ replies 1 (Scsi 0xa3 0x08 None) 1 5 7 9
    ∷ replies 1 (Scsi 0xa1 0x40 None) 2 5 7 7
    ∷ []

pub is_cleared : Worked (interface (setting 1 4)) cleared_rows
unfolding Rules.bars_as
is_cleared = refl

-- one that was told to stop by it, and that an abort takes out then, isn't told so again
abbrev pub aborted_too_rows : List Row
aborted_too_rows =
    joins 1 1
    ∷ arrives 1 (command 0xa1 1) 7 (starts 1 7 ∷ [])
    ∷ is_reset 0 (Stop 1 7 Cleared ∷ [])
    ∷ arrives 1 (function_now 1 2 0xb1 0xa1 1) 8 []
    ∷ stops 1 (Ready 1 ∷ Forget 7 ∷ [])
    ∷ replies 1 (Task 0xb1 0) 1 2 5 8
    ∷ is_written 1 (Forget 8 ∷ [])
    ∷ []

pub is_aborted_too : Worked (interface (setting 1 4)) aborted_too_rows
unfolding Rules.bars_as
is_aborted_too = refl

-- one that is marked, and a HEAD OF QUEUE command, become enabled by one event: the second finds the unit busy, though the first is
-- completed before it
abbrev pub busy_still_rows : List Row
busy_still_rows =
    joins 1 1
    ∷ arrives 1 (command 0xa1 1) 7 (starts 1 7 ∷ [])
    ∷ arrives 1 (command_to 0 2 0xa2 2) 8 []
    ∷ is_reset 0 (Stop 1 7 Cleared ∷ [])
    ∷ arrives 1 (command_to 0 3 0xa4 4) 10 []
    ∷ arrives 1 (management 0x02 1 3 0xb1 0xa1 1 0) 9 (Ready 1 ∷ [])
    ∷ replies 1 (Scsi 0xa2 0x40 None) 1 5 12 8
    ∷ replies 1 (Scsi 0xa4 0x08 None) 2 5 12 10
    ∷ stops 1 (Forget 7 ∷ [])
    ∷ []

pub is_busy_still : Worked (interface (setting 1 8)) busy_still_rows
unfolding Rules.bars_as
is_busy_still = refl
