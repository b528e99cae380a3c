-- Worked recordings: the queries of protocol level 2 (RFC 7144).
use Rattle.std.specs.Prelude.{◌≡◌, List, [], ◌∷◌, refl, None}
use Rattle.iscsi_wire.specs.declared.reply.Reply.TheVariants.{Scsi, Task, Reject}
use Rattle.iscsi_wire.specs.Fields.{request_of}
use Rattle.iscsi_tasks.specs.declared.task.Attr.TheVariants.{Simple}
use Rattle.iscsi_tasks.specs.Rules as Rules
use Rattle.iscsi_rules.specs.declared.effect.Effect.TheVariants.{Deliver, Immediate, Enter, Enable, Leave, Send, Ignore}
use Rattle.iscsi_rules.specs.declared.effect.Why.TheVariants.{Stale}
use Rattle.iscsi_rules.specs.declared.event.Event.{Event}
use Rattle.iscsi_rules.specs.declared.event.Event.TheVariants.{Arrive, Done}
use Rattle.iscsi_rules.specs.rules.Run.{run_of}
use Rattle.iscsi_rules.specs.examples.Rows.{Worked, command, command_now, management, function_now, setting, entry, turn, at_once, is_held, done, entered}

-- the queries of level 2 change nothing; other functions are answered by their numbers
abbrev pub queries : List Event
queries =
    Arrive 1 (command 0xa1 1)
    ∷ Arrive 1 (function_now 9 2 0xb1 0xa1 1)
    ∷ Arrive 1 (function_now 9 2 0xb2 0xa9 1)
    ∷ Arrive 1 (function_now 10 2 0xb3 0 0)
    ∷ Arrive 1 (function_now 8 2 0xb4 0 0)
    ∷ Arrive 1 (function_now 3 2 0xb5 0 0)
    ∷ Arrive 1 (management 0x42 1 2 0xb6 0xa1 1 1)
    ∷ Arrive 1 (function_now 1 2 0xffff_ffff 0xa1 1)
    ∷ Arrive 1 (function_now 1 2 0xb7 0xa1 1)
    ∷ Done 1 0
    ∷ Arrive 1 (function_now 10 2 0xb8 0 0)
    ∷ []

pub queries_log : run_of (record (setting 1 32) { level = 2 }) queries ≡
    entry 2 0x20 (Deliver (request_of 1 (command 0xa1 1)) ∷ Enter 1 0 Simple ∷ Enable 1 0 ∷ [])
    ∷ entry 2 0x20 (Immediate (request_of 1 (function_now 9 2 0xb1 0xa1 1)) ∷ Send 1 1 (Task 0xb1 7) ∷ [])
    ∷ entry 2 0x20 (Immediate (request_of 1 (function_now 9 2 0xb2 0xa9 1)) ∷ Send 1 2 (Task 0xb2 0) ∷ [])
    ∷ entry 2 0x20 (Immediate (request_of 1 (function_now 10 2 0xb3 0 0)) ∷ Send 1 3 (Task 0xb3 7) ∷ [])
    ∷ entry 2 0x20 (Immediate (request_of 1 (function_now 8 2 0xb4 0 0)) ∷ Send 1 4 (Task 0xb4 4) ∷ [])
    ∷ entry 2 0x20 (Immediate (request_of 1 (function_now 3 2 0xb5 0 0)) ∷ Send 1 5 (Task 0xb5 5) ∷ [])
    ∷ entry 2 0x20 (Immediate (request_of 1 (management 0x42 1 2 0xb6 0xa1 1 1)) ∷ Send 1 6 (Task 0xb6 2) ∷ [])
    ∷ entry 2 0x20 (Immediate (request_of 1 (function_now 1 2 0xffff_ffff 0xa1 1)) ∷ Send 1 7 (Reject 9 (function_now 1 2 0xffff_ffff 0xa1 1)) ∷ [])
    ∷ entry 2 0x21 (Immediate (request_of 1 (function_now 1 2 0xb7 0xa1 1)) ∷ Leave 1 0 ∷ Send 1 8 (Task 0xb7 0) ∷ [])
    ∷ entry 2 0x21 (Ignore Stale ∷ [])
    ∷ entry 2 0x21 (Immediate (request_of 1 (function_now 10 2 0xb8 0 0)) ∷ Send 1 9 (Task 0xb8 0) ∷ [])
    ∷ []
unfolding Rules.bars_as
queries_log = refl

-- at level 1 there are none
pub no_queries : Worked (setting 1 32) (
    turn 1 (command 0xa1 1) 2 0x20 (entered 1 0 Simple)
    ∷ at_once 1 (function_now 9 2 0xb1 0xa1 1) 2 0x20 (Send 1 1 (Task 0xb1 5) ∷ [])
    ∷ at_once 1 (function_now 10 2 0xb2 0xa1 1) 2 0x20 (Send 1 2 (Task 0xb2 5) ∷ [])
    ∷ [])
unfolding Rules.bars_as
no_queries = refl

-- QUERY TASK finds no command that is held, and QUERY TASK SET none that left. A query of an absent unit, and functions above level 2
pub level_two : Worked (record (setting 1 32) { level = 2 }) (
    turn 1 (command 0xa1 1) 2 0x20 (entered 1 0 Simple)
    ∷ at_once 1 (function_now 9 2 0xb1 0xa1 1) 2 0x20 (Send 1 1 (Task 0xb1 7) ∷ [])
    ∷ at_once 1 (function_now 9 4 0xb4 0xa9 3) 2 0x20 (Send 1 2 (Task 0xb4 0) ∷ [])
    ∷ done 1 0 2 0x21 (Leave 1 0 ∷ Send 1 3 (Scsi 0xa1 0 None) ∷ [])
    ∷ turn 1 (management 0x02 10 2 0xb5 0xffff_ffff 0 0) 3 0x22 (Send 1 4 (Task 0xb5 0) ∷ [])
    ∷ at_once 1 (management 0x42 9 3 0xb6 0xa1 1 1) 3 0x22 (Send 1 5 (Task 0xb6 2) ∷ [])
    ∷ is_held 1 (command 0xa4 4) 3 0x22
    ∷ at_once 1 (function_now 9 5 0xb7 0xa4 4) 3 0x22 (Send 1 6 (Task 0xb7 0) ∷ [])
    ∷ at_once 1 (function_now 10 0x30 0xb8 0 0) 3 0x22 (Send 1 7 (Task 0xb8 0) ∷ [])
    ∷ at_once 1 (function_now 11 3 0xb9 0 0) 3 0x22 (Send 1 8 (Task 0xb9 5) ∷ [])
    ∷ [])
unfolding Rules.bars_as
level_two = refl

-- a query concerns one unit; its number plays no part, and neither do those of the commands
pub queries_of_a_unit : Worked (record (setting 1 4) { units = 2; level = 2 }) (
    at_once 1 (command_now 0 1 0xa1 0x77) 1 4 (entered 1 0 Simple)
    ∷ at_once 1 (management 0x42 9 0 0xb1 0xa1 0 0) 1 4 (Send 1 1 (Task 0xb1 7) ∷ [])
    ∷ at_once 1 (management 0x42 9 0x99 0xb2 0xa1 0 1) 1 4 (Send 1 2 (Task 0xb2 0) ∷ [])
    ∷ at_once 1 (management 0x42 10 0x99 0xb3 0 0 0) 1 4 (Send 1 3 (Task 0xb3 7) ∷ [])
    ∷ at_once 1 (management 0x42 10 0x99 0xb4 0 0 1) 1 4 (Send 1 4 (Task 0xb4 0) ∷ [])
    ∷ turn 1 (management 0x02 9 1 0xb5 0xa1 0 0) 2 5 (Send 1 5 (Task 0xb5 7) ∷ [])
    ∷ turn 1 (management 0x02 10 2 0xb6 0 0 0) 3 6 (Send 1 6 (Task 0xb6 7) ∷ [])
    ∷ [])
unfolding Rules.bars_as
queries_of_a_unit = refl
