-- Worked lists: what is never told, Logouts, and what is refused.
use Rattle.std.specs.Prelude.{true, List, [], ◌∷◌, refl, None}
use Rattle.iscsi_wire.specs.declared.reply.Reply.TheVariants.{Scsi, Task, Logout}
use Rattle.iscsi_tasks.specs.Rules as Rules
use Rattle.iscsi_rules.specs.examples.Rows.{command, function_now, logout_now, setting}
use Rattle.iscsi_ffi_rules.specs.declared.action.Action.TheVariants.{Stop, Reset, Ready, Close, Forget}
use Rattle.iscsi_ffi_rules.specs.declared.action.StopReason.TheVariants.{Aborted, LoggedOut}
use Rattle.iscsi_ffi_rules.specs.declared.refusal.Refusal.TheVariants.{Exhausted, UnknownConnection}
use Rattle.iscsi_ffi_rules.specs.rules.Calls.{Interface, Arrives, Cleared, Nexts}
use Rattle.iscsi_ffi_rules.specs.examples.Rows.{interface, Worked, Row, row, IsTaken, IsRefused, NothingMore, joins, arrives, completes, stops, replies, none_goes, is_written, starts}

-- a Logout of the session: what it takes out stops, a function that waits is forgotten though nothing answers it, and the connection
-- is to be closed when the answer is written
abbrev pub logout_rows : List Row
logout_rows =
    joins 1 1
    ∷ arrives 1 (command 0xa1 1) 7 (starts 1 7 ∷ [])
    ∷ arrives 1 (function_now 2 3 0xb1 0 0) 8 []
    ∷ arrives 1 (logout_now 0 0xc1 2 0) 9 (Stop 1 7 LoggedOut ∷ Forget 8 ∷ [])
    ∷ none_goes 1
    ∷ stops 1 (Ready 1 ∷ Forget 7 ∷ [])
    ∷ replies 1 (Logout 0xc1 0) 1 2 5 9
    ∷ none_goes 1
    ∷ is_written 1 (Close 1 ∷ Forget 9 ∷ [])
    ∷ row (Nexts 1) NothingMore []
    ∷ []

pub logout : Worked (interface (setting 1 4)) logout_rows
unfolding Rules.bars_as
logout = refl

-- a command that is enabled and leaves in one event is told neither as started nor as stopped
abbrev pub unstarted_rows : List Row
unstarted_rows =
    joins 1 1
    ∷ arrives 1 (function_now 2 2 0xb1 0 0) 8 []
    ∷ arrives 1 (command 0xa1 1) 9 (Ready 1 ∷ Forget 9 ∷ [])
    ∷ replies 1 (Task 0xb1 0) 1 2 5 8
    ∷ []

pub unstarted : Worked (interface (setting 1 4)) unstarted_rows
unfolding Rules.bars_as
unstarted = refl

-- the same side, of units that other sessions have, too
abbrev pub shared : Interface → Interface
shared i = record i { outbox = record i.outbox { shared = true } }

-- a reset is told, and answered when the other sessions' commands have stopped, too
abbrev pub shared_rows : List Row
shared_rows =
    joins 1 1
    ∷ arrives 1 (command 0xa1 1) 7 (starts 1 7 ∷ [])
    ∷ arrives 1 (function_now 5 2 0xb1 0 0) 8 (Stop 1 7 Aborted ∷ Reset 0 5 ∷ [])
    ∷ stops 1 (Forget 7 ∷ [])
    ∷ none_goes 1
    ∷ row (Cleared 0) IsTaken (Ready 1 ∷ [])
    ∷ replies 1 (Task 0xb1 0) 1 2 5 8
    ∷ []

pub is_shared : Worked (shared (interface (setting 1 4))) shared_rows
unfolding Rules.bars_as
is_shared = refl

-- 76 events are kept back: one request is taken here, and its command may complete
abbrev pub exhausted_rows : List Row
exhausted_rows =
    joins 1 1
    ∷ row (Arrives 2 (command 0xa1 1) 6) (IsRefused UnknownConnection) []
    ∷ arrives 1 (command 0xa1 1) 7 (starts 1 7 ∷ [])
    ∷ row (Arrives 1 (command 0xa2 2) 8) (IsRefused Exhausted) []
    ∷ completes 1 0 (Ready 1 ∷ [])
    ∷ replies 1 (Scsi 0xa1 0 None) 1 2 5 7
    ∷ []

pub exhausted : Worked (interface (record (setting 1 4) { events = 77 })) exhausted_rows
unfolding Rules.bars_as
exhausted = refl
