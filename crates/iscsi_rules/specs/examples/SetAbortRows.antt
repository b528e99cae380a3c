-- Worked recordings: ABORT TASK SET, CLEAR TASK SET and LOGICAL UNIT RESET, and how they wait.
use Rattle.std.specs.Prelude.{◌≡◌, List, [], ◌∷◌, refl, None}
use Rattle.iscsi_wire.specs.declared.reply.Reply.TheVariants.{Scsi, Task, Nop, Reject}
use Rattle.iscsi_wire.specs.Fields.{request_of}
use Rattle.iscsi_tasks.specs.declared.task.Attr.TheVariants.{Simple, Ordered}
use Rattle.iscsi_tasks.specs.Rules as Rules
use Rattle.iscsi_rules.specs.declared.effect.Effect.TheVariants.{Deliver, Immediate, Wait, Enter, Enable, Leave, Send, Ignore}
use Rattle.iscsi_rules.specs.declared.effect.Why.TheVariants.{Stale}
use Rattle.iscsi_rules.specs.declared.event.Event.{Event}
use Rattle.iscsi_rules.specs.declared.event.Event.TheVariants.{Arrive, Done}
use Rattle.iscsi_rules.specs.rules.Run.{run_of}
use Rattle.iscsi_rules.specs.examples.Rows.{Worked, head, command, command_to, command_now, nop, management, function_now, setting, of_two, entry, turn, at_once, is_held, waits, done, entered}

-- LOGICAL UNIT RESET takes commands of any number, greater ones too. The late answer is passed over
abbrev pub reset : List Event
reset =
    Arrive 1 (command 0xa1 1)
    ∷ Arrive 1 (head 0x41 0x81 0xa2 9)
    ∷ Arrive 1 (function_now 5 1 0xb1 0 0)
    ∷ Done 2 0
    ∷ []

pub reset_log : run_of (setting 1 4) reset ≡
    entry 2 4 (Deliver (request_of 1 (command 0xa1 1)) ∷ Enter 1 0 Simple ∷ Enable 1 0 ∷ [])
    ∷ entry 2 4 (Immediate (request_of 1 (head 0x41 0x81 0xa2 9)) ∷ Enter 2 0 Simple ∷ Enable 2 0 ∷ [])
    ∷ entry 2 5 (Immediate (request_of 1 (function_now 5 1 0xb1 0 0)) ∷ Leave 1 0 ∷ Leave 2 0 ∷ Send 1 1 (Task 0xb1 0) ∷ [])
    ∷ entry 2 5 (Ignore Stale ∷ [])
    ∷ []
unfolding Rules.bars_as
reset_log = refl

-- ABORT TASK SET, numbered: commands of another unit and of a greater number stay
abbrev pub set_abort : List Event
set_abort =
    Arrive 1 (command 0xa1 1)
    ∷ Arrive 1 (command_to 1 1 0xa2 2)
    ∷ Arrive 1 (head 0x41 0x81 0xa3 9)
    ∷ Arrive 1 (management 0x02 2 3 0xb1 0 0 0)
    ∷ Done 2 0
    ∷ Done 3 0
    ∷ []

pub set_abort_log : run_of (record (setting 1 8) { units = 2 }) set_abort ≡
    entry 2 8 (Deliver (request_of 1 (command 0xa1 1)) ∷ Enter 1 0 Simple ∷ Enable 1 0 ∷ [])
    ∷ entry 3 8 (Deliver (request_of 1 (command_to 1 1 0xa2 2)) ∷ Enter 2 1 Simple ∷ Enable 2 1 ∷ [])
    ∷ entry 3 8 (Immediate (request_of 1 (head 0x41 0x81 0xa3 9)) ∷ Enter 3 0 Simple ∷ Enable 3 0 ∷ [])
    ∷ entry 4 10 (Deliver (request_of 1 (management 0x02 2 3 0xb1 0 0 0)) ∷ Leave 1 0 ∷ Send 1 1 (Task 0xb1 0) ∷ [])
    ∷ entry 4 11 (Leave 2 1 ∷ Send 1 2 (Scsi 0xa2 0 None) ∷ [])
    ∷ entry 4 11 (Leave 3 0 ∷ Send 1 3 (Scsi 0xa3 0 None) ∷ [])
    ∷ []
unfolding Rules.bars_as
set_abort_log = refl

-- CLEAR TASK SET does what ABORT TASK SET does: lower numbers leave, numbered or immediate. With none there the response is the same
pub clear_task_set : Worked (setting 1 4) (
    turn 1 (command 0xa1 1) 2 4 (entered 1 0 Simple)
    ∷ at_once 1 (command_now 0 1 0xa2 1) 2 4 (entered 2 0 Simple)
    ∷ at_once 1 (command_now 0 1 0xa3 9) 2 4 (entered 3 0 Simple)
    ∷ at_once 1 (function_now 4 2 0xb1 0 0) 2 5 (Leave 1 0 ∷ Leave 2 0 ∷ Send 1 1 (Task 0xb1 0) ∷ [])
    ∷ at_once 1 (function_now 4 2 0xb2 0 0) 2 5 (Send 1 2 (Task 0xb2 0) ∷ [])
    ∷ turn 1 (management 0x02 4 2 0xb3 0 0 0) 3 6 (Send 1 3 (Task 0xb3 0) ∷ [])
    ∷ [])
unfolding Rules.bars_as
clear_task_set = refl

-- a numbered command of the function's own number stays
pub own_number_stays : Worked (setting 1 4) (
    turn 1 (command 0xa1 1) 2 4 (entered 1 0 Simple)
    ∷ at_once 1 (function_now 2 1 0xb1 0 0) 2 4 (Send 1 1 (Task 0xb1 0) ∷ [])
    ∷ done 1 0 2 5 (Leave 1 0 ∷ Send 1 2 (Scsi 0xa1 0 None) ∷ [])
    ∷ [])
unfolding Rules.bars_as
own_number_stays = refl

-- of the immediate commands of its own number a set abort takes those that arrived before it, though it executes later
abbrev pub equal_numbers : List Event
equal_numbers =
    Arrive 1 (head 0x41 0x81 0xa1 2)
    ∷ Arrive 1 (function_now 2 2 0xb1 0 0)
    ∷ Arrive 1 (head 0x41 0x81 0xa2 2)
    ∷ Arrive 1 (command 0xa3 1)
    ∷ []

pub equal_numbers_log : run_of (setting 1 4) equal_numbers ≡
    entry 1 4 (Immediate (request_of 1 (head 0x41 0x81 0xa1 2)) ∷ Enter 1 0 Simple ∷ Enable 1 0 ∷ [])
    ∷ entry 1 4 (Wait (request_of 1 (function_now 2 2 0xb1 0 0)) ∷ [])
    ∷ entry 1 4 (Immediate (request_of 1 (head 0x41 0x81 0xa2 2)) ∷ Enter 2 0 Simple ∷ Enable 2 0 ∷ [])
    ∷ entry 2 5 (
    Deliver (request_of 1 (command 0xa3 1)) ∷ Enter 3 0 Simple ∷ Enable 3 0
    ∷ Immediate (request_of 1 (function_now 2 2 0xb1 0 0)) ∷ Leave 1 0 ∷ Leave 3 0 ∷ Send 1 1 (Task 0xb1 0) ∷ [])
    ∷ []
unfolding Rules.bars_as
equal_numbers_log = refl

-- an immediate command of a lower number leaves also where it entered while the function waited; one of the same number stays then
pub entered_meanwhile : Worked (setting 1 4) (
    waits 1 (function_now 2 2 0xb1 0 0) 1 4
    ∷ at_once 1 (command_now 0 1 0xa1 1) 1 4 (entered 1 0 Simple)
    ∷ at_once 1 (command_now 0 1 0xa2 2) 1 4 (entered 2 0 Simple)
    ∷ turn 1 (nop 0xb2 1) 2 5 (Send 1 1 (Nop 0xb2) ∷ Immediate (request_of 1 (function_now 2 2 0xb1 0 0)) ∷ Leave 1 0 ∷ Send 1 2 (Task 0xb1 0) ∷ [])
    ∷ [])
unfolding Rules.bars_as
entered_meanwhile = refl

-- LOGICAL UNIT RESET waits too. It takes out neither held requests nor commands of other units
pub reset_waits : Worked (record (setting 1 4) { units = 2 }) (
    waits 1 (function_now 5 2 0xb1 0 0) 1 4
    ∷ is_held 1 (command 0xa3 3) 1 4
    ∷ turn 1 (command 0xa1 1) 2 5 (
    Enter 1 0 Simple ∷ Enable 1 0
    ∷ Immediate (request_of 1 (function_now 5 2 0xb1 0 0)) ∷ Leave 1 0 ∷ Send 1 1 (Task 0xb1 0) ∷ [])
    ∷ turn 1 (command 0xa2 2) 4 5 (Enter 2 0 Simple ∷ Enable 2 0 ∷ Deliver (request_of 1 (command 0xa3 3)) ∷ Enter 3 0 Simple ∷ Enable 3 0 ∷ [])
    ∷ at_once 1 (management 0x42 5 1 0xb2 0 0 1) 4 5 (Send 1 2 (Task 0xb2 0) ∷ [])
    ∷ turn 1 (management 0x02 5 4 0xb3 0 0 0) 5 8 (Leave 2 0 ∷ Leave 3 0 ∷ Send 1 3 (Task 0xb3 0) ∷ [])
    ∷ [])
unfolding Rules.bars_as
reset_waits = refl

-- ABORT TASK SET waits until the numbers below its own have had their turn
abbrev pub function_waits : List Event
function_waits =
    Arrive 1 (function_now 2 3 0xb1 0 0)
    ∷ Arrive 1 (command 0xa2 2)
    ∷ Arrive 1 (command 0xa1 1)
    ∷ Done 1 0
    ∷ Arrive 1 (function_now 2 8 0xb2 0 0)
    ∷ Arrive 1 (function_now 2 7 0xb3 0 0)
    ∷ Arrive 1 (function_now 4 7 0xb4 0 0)
    ∷ Arrive 1 (function_now 5 7 0xb5 0 0)
    ∷ Arrive 1 (function_now 2 7 0xb6 0 0)
    ∷ Arrive 1 (function_now 2 7 0xb7 0 0)
    ∷ []

pub function_waits_log : run_of (setting 1 4) function_waits ≡
    entry 1 4 (Wait (request_of 1 (function_now 2 3 0xb1 0 0)) ∷ [])
    ∷ entry 1 4 []
    ∷ entry 3 6 (
    Deliver (request_of 1 (command 0xa1 1)) ∷ Enter 1 0 Simple ∷ Enable 1 0 ∷ Deliver (request_of 1 (command 0xa2 2)) ∷ Enter 2 0 Simple ∷ Enable 2 0
    ∷ Immediate (request_of 1 (function_now 2 3 0xb1 0 0)) ∷ Leave 1 0 ∷ Leave 2 0 ∷ Send 1 1 (Task 0xb1 0) ∷ [])
    ∷ entry 3 6 (Ignore Stale ∷ [])
    ∷ entry 3 6 (Immediate (request_of 1 (function_now 2 8 0xb2 0 0)) ∷ Send 1 2 (Task 0xb2 255) ∷ [])
    ∷ entry 3 6 (Wait (request_of 1 (function_now 2 7 0xb3 0 0)) ∷ [])
    ∷ entry 3 6 (Wait (request_of 1 (function_now 4 7 0xb4 0 0)) ∷ [])
    ∷ entry 3 6 (Wait (request_of 1 (function_now 5 7 0xb5 0 0)) ∷ [])
    ∷ entry 3 6 (Wait (request_of 1 (function_now 2 7 0xb6 0 0)) ∷ [])
    ∷ entry 3 6 (Immediate (request_of 1 (function_now 2 7 0xb7 0 0)) ∷ Send 1 3 (Reject 6 (function_now 2 7 0xb7 0 0)) ∷ [])
    ∷ []
unfolding Rules.bars_as
function_waits_log = refl

-- four functions of a connection wait, and a fifth is rejected, unless it is above the window. Those of another connection wait still,
-- and one that needn't wait executes. All that wait for a number execute in order of arrival
pub four_wait : Worked (of_two 8) (
    waits 1 (function_now 2 3 0xb1 0 0) 1 8
    ∷ waits 1 (function_now 4 3 0xb2 0 0) 1 8
    ∷ waits 1 (function_now 5 3 0xb3 0 0) 1 8
    ∷ waits 1 (function_now 2 3 0xb4 0 0) 1 8
    ∷ at_once 1 (function_now 2 3 0xb5 0 0) 1 8 (Send 1 1 (Reject 6 (function_now 2 3 0xb5 0 0)) ∷ [])
    ∷ at_once 1 (function_now 2 10 0xb8 0 0) 1 8 (Send 1 2 (Task 0xb8 255) ∷ [])
    ∷ waits 2 (function_now 2 3 0xb6 0 0) 1 8
    ∷ at_once 1 (function_now 2 1 0xb7 0 0) 1 8 (Send 1 3 (Task 0xb7 0) ∷ [])
    ∷ turn 1 (command 0xa1 1) 2 8 (entered 1 0 Simple)
    ∷ turn 1 (command 0xa2 2) 3 10 (
    Enter 2 0 Simple ∷ Enable 2 0
    ∷ Immediate (request_of 1 (function_now 2 3 0xb1 0 0)) ∷ Leave 1 0 ∷ Leave 2 0 ∷ Send 1 4 (Task 0xb1 0)
    ∷ Immediate (request_of 1 (function_now 4 3 0xb2 0 0)) ∷ Send 1 5 (Task 0xb2 0)
    ∷ Immediate (request_of 1 (function_now 5 3 0xb3 0 0)) ∷ Send 1 6 (Task 0xb3 0)
    ∷ Immediate (request_of 1 (function_now 2 3 0xb4 0 0)) ∷ Send 1 7 (Task 0xb4 0)
    ∷ Immediate (request_of 2 (function_now 2 3 0xb6 0 0)) ∷ Send 2 1 (Task 0xb6 0) ∷ [])
    ∷ [])
unfolding Rules.bars_as
four_wait = refl

-- as ExpCmdSN goes on, the functions of a number execute before the request of the number, and those of the last number at the end
pub functions_before_requests : Worked (setting 1 4) (
    waits 1 (function_now 2 3 0xb1 0 0) 1 4
    ∷ waits 1 (function_now 4 2 0xb2 0 0) 1 4
    ∷ is_held 1 (command 0xa2 2) 1 4
    ∷ turn 1 (command 0xa1 1) 3 6 (
    Enter 1 0 Simple ∷ Enable 1 0
    ∷ Immediate (request_of 1 (function_now 4 2 0xb2 0 0)) ∷ Leave 1 0 ∷ Send 1 1 (Task 0xb2 0)
    ∷ Deliver (request_of 1 (command 0xa2 2)) ∷ Enter 2 0 Simple ∷ Enable 2 0
    ∷ Immediate (request_of 1 (function_now 2 3 0xb1 0 0)) ∷ Leave 2 0 ∷ Send 1 2 (Task 0xb1 0) ∷ [])
    ∷ [])
unfolding Rules.bars_as
functions_before_requests = refl

-- while the window is shut, a function above ExpCmdSN is refused, and one of ExpCmdSN executes
pub shut_window : Worked (setting 1 1) (
    turn 1 (command 0xa1 1) 2 1 (entered 1 0 Simple)
    ∷ at_once 1 (function_now 2 3 0xb1 0 0) 2 1 (Send 1 1 (Task 0xb1 255) ∷ [])
    ∷ at_once 1 (function_now 2 2 0xb2 0 0) 2 2 (Leave 1 0 ∷ Send 1 2 (Task 0xb2 0) ∷ [])
    ∷ [])
unfolding Rules.bars_as
shut_window = refl

-- the number after MaxCmdSN is still waited for, the one after it isn't
pub last_number_that_waits : Worked (setting 1 4) (
    waits 1 (function_now 2 5 0xb1 0 0) 1 4
    ∷ at_once 1 (function_now 2 6 0xb2 0 0) 1 4 (Send 1 1 (Task 0xb2 255) ∷ [])
    ∷ [])
unfolding Rules.bars_as
last_number_that_waits = refl

-- a function that takes out what barred a command enables it
pub set_abort_enables : Worked (setting 1 8) (
    turn 1 (command_to 0 2 0xa1 1) 2 8 (entered 1 0 Ordered)
    ∷ at_once 1 (command_now 0 1 0xa2 9) 2 8 (Enter 2 0 Simple ∷ [])
    ∷ at_once 1 (function_now 2 2 0xb1 0 0) 2 9 (Leave 1 0 ∷ Send 1 1 (Task 0xb1 0) ∷ Enable 2 0 ∷ [])
    ∷ [])
unfolding Rules.bars_as
set_abort_enables = refl
