-- Worked recordings: numbers and the window.
use Rattle.std.specs.Prelude.{◌≡◌, List, [], ◌∷◌, refl, Some, None}
use Rattle.iscsi_wire.specs.declared.reply.Reply.TheVariants.{Scsi, Task, Nop}
use Rattle.iscsi_wire.specs.Fields.{request_of}
use Rattle.iscsi_tasks.specs.declared.task.Attr.TheVariants.{Simple}
use Rattle.iscsi_tasks.specs.Rules as Rules
use Rattle.iscsi_rules.specs.declared.effect.Effect.TheVariants.{Deliver, Enter, Enable, Leave, Send, Ignore}
use Rattle.iscsi_rules.specs.declared.effect.Why.TheVariants.{Outside, Duplicate, Stale}
use Rattle.iscsi_rules.specs.declared.event.Event.{Event}
use Rattle.iscsi_rules.specs.declared.event.Event.TheVariants.{Arrive, Done}
use Rattle.iscsi_rules.specs.rules.Run.{run_of}
use Rattle.iscsi_rules.specs.promises.Executed.{executed}
use Rattle.iscsi_rules.specs.examples.Rows.{Worked, command, command_now, nop_now, function_now, setting, entry, turn, at_once, is_held, is_ignored, done, entered}

-- one command: it is delivered, enters and is enabled; its unit completes it with GOOD
abbrev pub one_command : List Event
one_command = Arrive 1 (command 0xa1 1) ∷ Done 1 0 ∷ []

pub one_command_log : run_of (setting 1 32) one_command ≡
    entry 2 0x20 (Deliver (request_of 1 (command 0xa1 1)) ∷ Enter 1 0 Simple ∷ Enable 1 0 ∷ [])
    ∷ entry 2 0x21 (Leave 1 0 ∷ Send 1 1 (Scsi 0xa1 0 None) ∷ [])
    ∷ []
unfolding Rules.bars_as
one_command_log = refl

pub one_command_executed : executed (setting 1 32) one_command ≡ request_of 1 (command 0xa1 1) ∷ []
unfolding Rules.bars_as
one_command_executed = refl

-- a unit answers CHECK CONDITION, which carries sense
abbrev pub check_condition : List Event
check_condition = Arrive 1 (command 0xa1 1) ∷ Done 1 2 ∷ []

pub check_condition_log : run_of (setting 1 32) check_condition ≡
    entry 2 0x20 (Deliver (request_of 1 (command 0xa1 1)) ∷ Enter 1 0 Simple ∷ Enable 1 0 ∷ [])
    ∷ entry 2 0x21 (Leave 1 0 ∷ Send 1 1 (Scsi 0xa1 2 (Some (record { key = 4; asc = 0x44; ascq = 0 }))) ∷ [])
    ∷ []
unfolding Rules.bars_as
check_condition_log = refl

-- any byte may be the status that a unit answers
pub any_status : Worked (setting 1 4) (
    turn 1 (command 0xa1 1) 2 4 (entered 1 0 Simple)
    ∷ turn 1 (command 0xa2 2) 3 4 (entered 2 0 Simple)
    ∷ done 2 0x18 3 5 (Leave 2 0 ∷ Send 1 1 (Scsi 0xa2 0x18 None) ∷ [])
    ∷ done 1 0xff 3 6 (Leave 1 0 ∷ Send 1 2 (Scsi 0xa1 0xff None) ∷ [])
    ∷ done 1 0xff 3 6 (Ignore Stale ∷ [])
    ∷ [])
unfolding Rules.bars_as
any_status = refl

-- a window of one place: the next number has a place only once the command is completed
abbrev pub window_of_one : List Event
window_of_one =
    Arrive 1 (command 0xa1 1)
    ∷ Arrive 1 (command 0xa1 1)
    ∷ Arrive 1 (command 0xa3 3)
    ∷ Arrive 1 (command 0xa2 2)
    ∷ Done 1 0
    ∷ Arrive 1 (command 0xa2 2)
    ∷ []

pub window_of_one_log : run_of (setting 1 1) window_of_one ≡
    entry 2 1 (Deliver (request_of 1 (command 0xa1 1)) ∷ Enter 1 0 Simple ∷ Enable 1 0 ∷ [])
    ∷ entry 2 1 (Ignore Outside ∷ [])
    ∷ entry 2 1 (Ignore Outside ∷ [])
    ∷ entry 2 1 (Ignore Outside ∷ [])
    ∷ entry 2 2 (Leave 1 0 ∷ Send 1 1 (Scsi 0xa1 0 None) ∷ [])
    ∷ entry 3 2 (Deliver (request_of 1 (command 0xa2 2)) ∷ Enter 2 0 Simple ∷ Enable 2 0 ∷ [])
    ∷ []
unfolding Rules.bars_as
window_of_one_log = refl

pub window_of_one_executed : executed (setting 1 1) window_of_one ≡ request_of 1 (command 0xa1 1) ∷ request_of 1 (command 0xa2 2) ∷ []
unfolding Rules.bars_as
window_of_one_executed = refl

-- a number behind a gap is held until the gap is closed; completions go by ticket, in any order
abbrev pub gap : List Event
gap =
    Arrive 1 (command 0xa1 1)
    ∷ Arrive 1 (command 0xa3 3)
    ∷ Arrive 1 (command 0xa2 2)
    ∷ Done 4 0
    ∷ Done 2 8
    ∷ []

pub gap_log : run_of (setting 1 32) gap ≡
    entry 2 0x20 (Deliver (request_of 1 (command 0xa1 1)) ∷ Enter 1 0 Simple ∷ Enable 1 0 ∷ [])
    ∷ entry 2 0x20 []
    ∷ entry 4 0x20 (Deliver (request_of 1 (command 0xa2 2)) ∷ Enter 2 0 Simple ∷ Enable 2 0 ∷ Deliver (request_of 1 (command 0xa3 3)) ∷ Enter 3 0 Simple ∷ Enable 3 0 ∷ [])
    ∷ entry 4 0x20 (Ignore Stale ∷ [])
    ∷ entry 4 0x21 (Leave 2 0 ∷ Send 1 1 (Scsi 0xa2 8 None) ∷ [])
    ∷ []
unfolding Rules.bars_as
gap_log = refl

-- the greatest ticket is nobody's
pub greatest_ticket_log : run_of (setting 65535 32) (Done 18446744073709551615 0 ∷ []) ≡ entry 1 0x20 (Ignore Stale ∷ []) ∷ []
unfolding Rules.bars_as
greatest_ticket_log = refl

-- after ffffffff comes 0
pub numbers_wrap : Worked (record (setting 1 4) { first = 0xffff_fffe }) (
    turn 1 (command 0xa1 0xffff_fffe) 0xffff_ffff 1 (entered 1 0 Simple)
    ∷ turn 1 (command 0xa2 0xffff_ffff) 0 1 (entered 2 0 Simple)
    ∷ turn 1 (command 0xa3 0) 1 1 (entered 3 0 Simple)
    ∷ at_once 1 (nop_now 0xb1 1) 1 1 (Send 1 1 (Nop 0xb1) ∷ [])
    ∷ [])
unfolding Rules.bars_as
numbers_wrap = refl

-- also where they come in the other order, each on a connection of its own
pub held_numbers_wrap : Worked (record (setting 1 4) { first = 0xffff_fffe; conns = (1, 1) ∷ (2, 1) ∷ (3, 1) ∷ [] }) (
    is_held 1 (command 0xa3 0) 0xffff_fffe 1
    ∷ is_held 2 (command 0xa2 0xffff_ffff) 0xffff_fffe 1
    ∷ turn 3 (command 0xa1 0xffff_fffe) 1 1 (
    Enter 1 0 Simple ∷ Enable 1 0
    ∷ Deliver (request_of 2 (command 0xa2 0xffff_ffff)) ∷ Enter 2 0 Simple ∷ Enable 2 0
    ∷ Deliver (request_of 1 (command 0xa3 0)) ∷ Enter 3 0 Simple ∷ Enable 3 0 ∷ [])
    ∷ [])
unfolding Rules.bars_as
held_numbers_wrap = refl

-- numbers above MaxCmdSN and below ExpCmdSN are outside; MaxCmdSN itself is inside
pub outside_the_window : Worked (record (setting 1 4) { first = 0x10 }) (
    is_ignored 1 (command 0xa1 0x14) Outside 0x10 0x13
    ∷ is_held 1 (command 0xa2 0x13) 0x10 0x13
    ∷ turn 1 (command 0xa3 0x10) 0x11 0x13 (entered 1 0 Simple)
    ∷ is_ignored 1 (command 0xa1 0x14) Outside 0x11 0x13
    ∷ is_ignored 1 (command 0xa4 0xf) Outside 0x11 0x13
    ∷ [])
unfolding Rules.bars_as
outside_the_window = refl

-- a number that is received again before its turn is a duplicate, after its turn it is outside
pub received_again : Worked (setting 1 4) (
    is_held 1 (command 0xa1 2) 1 4
    ∷ is_ignored 1 (command 0xa2 2) Duplicate 1 4
    ∷ turn 1 (command 0xa3 1) 3 4 (Enter 1 0 Simple ∷ Enable 1 0 ∷ Deliver (request_of 1 (command 0xa1 2)) ∷ Enter 2 0 Simple ∷ Enable 2 0 ∷ [])
    ∷ is_ignored 1 (command 0xa3 1) Outside 3 4
    ∷ [])
unfolding Rules.bars_as
received_again = refl

-- a number at half of the number space counts as below, as those after it do; a few above the window are above
pub half_of_the_numbers : Worked (setting 1 4) (
    is_ignored 1 (command 0xa1 0x8000_0001) Outside 1 4
    ∷ is_ignored 1 (command 0xa1 0x8000_0000) Outside 1 4
    ∷ is_ignored 1 (command 0xa1 0x8000_0002) Outside 1 4
    ∷ is_ignored 1 (command 0xa1 5) Outside 1 4
    ∷ is_held 1 (command 0xa1 4) 1 4
    ∷ [])
unfolding Rules.bars_as
half_of_the_numbers = refl

-- the number of an immediate function is read in the same way: half of the number space away is below, and it executes; one less
-- is above, and it is refused
pub far_functions : Worked (setting 1 32) (
    at_once 1 (function_now 2 0x8000_0001 0xb1 0 0) 1 0x20 (Send 1 1 (Task 0xb1 0) ∷ [])
    ∷ at_once 1 (function_now 2 0x8000_0000 0xb2 0 0) 1 0x20 (Send 1 2 (Task 0xb2 255) ∷ [])
    ∷ [])
unfolding Rules.bars_as
far_functions = refl

-- the number of another immediate request is not compared with the window
pub immediate_numbers : Worked (setting 1 4) (
    at_once 1 (nop_now 0xb1 0x7000_0000) 1 4 (Send 1 1 (Nop 0xb1) ∷ [])
    ∷ at_once 1 (command_now 0 1 0xa1 0) 1 4 (entered 1 0 Simple)
    ∷ at_once 1 (command_now 0 1 0xa2 5) 1 4 (entered 2 0 Simple)
    ∷ [])
unfolding Rules.bars_as
immediate_numbers = refl

-- each connection counts its own StatSN, from its first one on; after ffffffff comes 0
pub status_numbers : Worked (record (setting 1 4) { conns = (1, 0xffff_ffff) ∷ (2, 7) ∷ [] }) (
    at_once 1 (nop_now 0xb1 1) 1 4 (Send 1 0xffff_ffff (Nop 0xb1) ∷ [])
    ∷ at_once 2 (nop_now 0xb2 1) 1 4 (Send 2 7 (Nop 0xb2) ∷ [])
    ∷ at_once 1 (nop_now 0xb3 1) 1 4 (Send 1 0 (Nop 0xb3) ∷ [])
    ∷ at_once 2 (nop_now 0xb4 1) 1 4 (Send 2 8 (Nop 0xb4) ∷ [])
    ∷ [])
unfolding Rules.bars_as
status_numbers = refl
