-- Worked lists: late words, what is refused, and what is heard.
use Rattle.std.specs.Prelude.{false, List, [], ◌∷◌, refl, None}
use Rattle.iscsi_wire.specs.declared.reply.Reply.TheVariants.{Scsi, Task, Nop}
use Rattle.iscsi_wire.specs.Replies.{NO_TAG}
use Rattle.iscsi_tasks.specs.Rules as Rules
use Rattle.iscsi_rules.specs.examples.Rows.{command, function_now, nop_now, of_two, setting}
use Rattle.iscsi_ffi_rules.specs.declared.action.Action.TheVariants.{Stop, Ready, Forget}
use Rattle.iscsi_ffi_rules.specs.declared.action.StopReason.TheVariants.{Aborted, Cleared}
use Rattle.iscsi_ffi_rules.specs.declared.refusal.Refusal.TheVariants.{UnknownConnection, NotJoined}
use Rattle.iscsi_ffi_rules.specs.rules.Calls.{Completes, Hears, Joins, Loses}
use Rattle.iscsi_ffi_rules.specs.examples.Rows.{interface, Worked, Row, row, IsTaken, IsRefused, IsStale, IsJoined, joins, arrives, completes, is_lost, is_reset, replies, none_goes, is_written, starts}

-- a completion of a command that an abort took out says that it stopped; behind that it says nothing
abbrev pub late_rows : List Row
late_rows =
    joins 1 1
    ∷ arrives 1 (command 0xa1 1) 7 (starts 1 7 ∷ [])
    ∷ arrives 1 (function_now 1 2 0xb1 0xa1 1) 8 (Stop 1 7 Aborted ∷ [])
    ∷ completes 1 0 (Ready 1 ∷ Forget 7 ∷ [])
    ∷ row (Completes 1 0) IsStale []
    ∷ replies 1 (Task 0xb1 0) 1 2 5 8
    ∷ is_written 1 (Forget 8 ∷ [])
    ∷ []

pub late : Worked (interface (setting 1 4)) late_rows
unfolding Rules.bars_as
late = refl

-- of a command that another session's reset takes out the status isn't looked at, and a second reset tells nothing more
abbrev pub marked_rows : List Row
marked_rows =
    joins 1 1
    ∷ arrives 1 (command 0xa1 1) 7 (starts 1 7 ∷ [])
    ∷ is_reset 0 (Stop 1 7 Cleared ∷ [])
    ∷ is_reset 0 []
    ∷ completes 1 0 (Ready 1 ∷ [])
    ∷ replies 1 (Scsi 0xa1 0x40 None) 1 2 5 7
    ∷ is_written 1 (Forget 7 ∷ [])
    ∷ []

pub marked : Worked (interface (setting 1 4)) marked_rows
unfolding Rules.bars_as
marked = refl

-- a connection joins once, and is lost once
abbrev pub refused_rows : List Row
refused_rows =
    joins 1 1
    ∷ row (Joins 1 5) (IsJoined false) []
    ∷ row (Loses 3) (IsRefused UnknownConnection) []
    ∷ is_lost 1 []
    ∷ row (Loses 1) (IsRefused NotJoined) []
    ∷ row (Joins 1 1) (IsJoined false) []
    ∷ []

pub refused : Worked (interface (setting 1 4)) refused_rows
unfolding Rules.bars_as
refused = refl

-- what a header acknowledges that isn't given lets an answer go elsewhere
abbrev pub heard_rows : List Row
heard_rows =
    joins 1 1
    ∷ joins 2 1
    ∷ arrives 1 (nop_now 0xc1 1) 7 (Ready 1 ∷ [])
    ∷ replies 1 (Nop 0xc1) 1 1 4 7
    ∷ arrives 2 (function_now 2 1 0xb1 0 0) 8 []
    ∷ is_written 1 (Forget 7 ∷ [])
    ∷ row (Hears 1 2 NO_TAG) IsTaken (Ready 2 ∷ [])
    ∷ replies 2 (Task 0xb1 0) 1 1 4 8
    ∷ []

pub heard : Worked (interface (of_two 4)) heard_rows
unfolding Rules.bars_as
heard = refl

-- a connection that gave nothing is told again, and one that didn't isn't
abbrev pub told_again_rows : List Row
told_again_rows =
    joins 1 1
    ∷ arrives 1 (nop_now 0xc1 1) 7 (Ready 1 ∷ [])
    ∷ replies 1 (Nop 0xc1) 1 1 4 7
    ∷ is_written 1 (Forget 7 ∷ [])
    ∷ arrives 1 (nop_now 0xc2 1) 8 []
    ∷ replies 1 (Nop 0xc2) 2 1 4 8
    ∷ none_goes 1
    ∷ arrives 1 (nop_now 0xc3 1) 9 (Ready 1 ∷ [])
    ∷ replies 1 (Nop 0xc3) 3 1 4 9
    ∷ []

pub told_again : Worked (interface (setting 1 4)) told_again_rows
unfolding Rules.bars_as
told_again = refl
