-- Worked lists: connections that are lost or closed, and the target's own PDUs.
use Rattle.std.specs.Prelude.{List, [], ◌∷◌, refl, Some, None}
use Rattle.iscsi_tasks.specs.Rules as Rules
use Rattle.iscsi_rules.specs.examples.Rows.{command, logout_now, of_two, setting}
use Rattle.iscsi_outbox_rules.specs.rules.Boxes.{Notices, Owns}
use Rattle.iscsi_outbox_rules.specs.examples.Rows.{data_of, message}
use Rattle.iscsi_ffi_rules.specs.declared.action.Action.TheVariants.{Stop, Ready, Close, Forget}
use Rattle.iscsi_ffi_rules.specs.declared.action.StopReason.TheVariants.{Lost}
use Rattle.iscsi_ffi_rules.specs.declared.refusal.Refusal.TheVariants.{NotJoined}
use Rattle.iscsi_ffi_rules.specs.rules.Calls.{Arrives, Nexts}
use Rattle.iscsi_ffi_rules.specs.examples.Rows.{interface, Worked, Row, row, IsRefused, IsBlocked, joins, arrives, stops, is_lost, puts, goes, is_written, starts}

-- what came on a lost connection stops, and is forgotten. Nothing more is taken there; the other connection shows MaxCmdSN anew
abbrev pub lost_rows : List Row
lost_rows =
    joins 1 1
    ∷ joins 2 1
    ∷ arrives 1 (command 0xa1 1) 7 (starts 1 7 ∷ [])
    ∷ arrives 1 (command 0xa3 3) 8 []
    ∷ arrives 2 (command 0xa2 2) 9 (starts 2 9 ∷ starts 3 8 ∷ [])
    ∷ is_lost 1 (Stop 1 7 Lost ∷ Stop 3 8 Lost ∷ Ready 2 ∷ [])
    ∷ goes 2 Notices 1 4 6 None
    ∷ stops 3 (Forget 8 ∷ [])
    ∷ stops 1 (Forget 7 ∷ [])
    ∷ row (Arrives 1 (command 0xa4 4) 10) (IsRefused NotJoined) []
    ∷ []

pub lost : Worked (interface (of_two 4)) lost_rows
unfolding Rules.bars_as
lost = refl

-- an own PDU that is of no command has a word of its own; data of a command has that of its request. So many are handed out and not
-- written, and no more
abbrev pub own_rows : List Row
own_rows =
    joins 1 1
    ∷ puts (message 1) 5 (Ready 1 ∷ [])
    ∷ puts (message 1) 6 []
    ∷ arrives 1 (command 0xa1 1) 7 (starts 1 7 ∷ [])
    ∷ puts (data_of 1) 0 []
    ∷ goes 1 (Owns (message 1)) 1 2 4 (Some 5)
    ∷ goes 1 (Owns (message 1)) 2 2 4 (Some 6)
    ∷ row (Nexts 1) IsBlocked []
    ∷ is_written 1 (Forget 5 ∷ [])
    ∷ goes 1 (Owns (data_of 1)) 3 2 4 (Some 7)
    ∷ is_written 1 (Forget 6 ∷ [])
    ∷ is_written 1 []
    ∷ []

pub own : Worked (interface (setting 1 4)) own_rows
unfolding Rules.bars_as
own = refl

-- a Logout closes another connection, on which one own PDU is being written and another one waits: that goes out no more, so its word
-- comes back; the word of the first one comes back once it is written
abbrev pub cut_rows : List Row
cut_rows =
    joins 1 1
    ∷ joins 2 1
    ∷ puts (message 2) 5 (Ready 2 ∷ [])
    ∷ puts (message 2) 6 []
    ∷ goes 2 (Owns (message 2)) 1 1 4 (Some 5)
    ∷ arrives 1 (logout_now 1 0xc1 1 2) 9 (Ready 1 ∷ Close 2 ∷ Forget 6 ∷ [])
    ∷ is_written 2 (Forget 5 ∷ [])
    ∷ []

pub cut : Worked (interface (of_two 4)) cut_rows
unfolding Rules.bars_as
cut = refl
