-- Worked recordings: what refuses task management functions, and ABORT TASK.
use Rattle.std.specs.Prelude.{◌≡◌, List, [], ◌∷◌, refl, None}
use Rattle.iscsi_wire.specs.declared.reply.Reply.TheVariants.{Scsi, Task, Nop, Reject}
use Rattle.iscsi_wire.specs.Fields.{request_of}
use Rattle.iscsi_tasks.specs.declared.task.Attr.TheVariants.{Simple}
use Rattle.iscsi_tasks.specs.Rules as Rules
use Rattle.iscsi_rules.specs.declared.effect.Effect.TheVariants.{Deliver, Immediate, Void, Empty, Enter, Enable, Leave, Send, Ignore}
use Rattle.iscsi_rules.specs.declared.effect.Why.TheVariants.{Duplicate, Stale}
use Rattle.iscsi_rules.specs.declared.event.Event.{Event}
use Rattle.iscsi_rules.specs.declared.event.Event.TheVariants.{Arrive, Done}
use Rattle.iscsi_rules.specs.rules.Run.{run_of}
use Rattle.iscsi_rules.specs.promises.Executed.{executed}
use Rattle.iscsi_rules.specs.examples.Rows.{Worked, NO_TAG, head, command, command_now, nop, management, function_now, setting, of_two, entry, turn, at_once, is_held, waits, is_ignored, done, entered}

-- a function without a tag is rejected, whatever else is wrong; then TASK REASSIGN, other functions, and an absent unit have their
-- responses. All come before the window
pub function_refusals : Worked (setting 1 8) (
    at_once 1 (management 0x42 8 1 NO_TAG 0 0 9) 1 8 (Send 1 1 (Reject 9 (management 0x42 8 1 NO_TAG 0 0 9)) ∷ [])
    ∷ at_once 1 (management 0x42 8 1 0xb1 0 0 9) 1 8 (Send 1 2 (Task 0xb1 4) ∷ [])
    ∷ at_once 1 (management 0x42 3 1 0xb2 0 0 9) 1 8 (Send 1 3 (Task 0xb2 5) ∷ [])
    ∷ at_once 1 (management 0x42 1 1 0xb3 0 0 9) 1 8 (Send 1 4 (Task 0xb3 2) ∷ [])
    ∷ at_once 1 (management 0x42 2 0x99 NO_TAG 0 0 0) 1 8 (Send 1 5 (Reject 9 (management 0x42 2 0x99 NO_TAG 0 0 0)) ∷ [])
    ∷ at_once 1 (management 0x42 2 0x99 0xb4 0 0 9) 1 8 (Send 1 6 (Task 0xb4 2) ∷ [])
    ∷ at_once 1 (management 0x42 2 0x99 0xb5 0 0 0) 1 8 (Send 1 7 (Task 0xb5 255) ∷ [])
    ∷ [])
unfolding Rules.bars_as
function_refusals = refl

-- so it is with numbered ones at their turn
pub numbered_refusals : Worked (setting 1 4) (
    turn 1 (management 0x02 2 1 NO_TAG 0 0 0) 2 5 (Send 1 1 (Reject 9 (management 0x02 2 1 NO_TAG 0 0 0)) ∷ [])
    ∷ turn 1 (management 0x02 8 2 0xb1 0 0 0) 3 6 (Send 1 2 (Task 0xb1 4) ∷ [])
    ∷ turn 1 (management 0x02 3 3 0xb2 0 0 0) 4 7 (Send 1 3 (Task 0xb2 5) ∷ [])
    ∷ turn 1 (management 0x02 5 4 0xb3 0 0 1) 5 8 (Send 1 4 (Task 0xb3 2) ∷ [])
    ∷ [])
unfolding Rules.bars_as
numbered_refusals = refl

-- functions that aren't supported at level 1
pub unsupported_functions : Worked (setting 1 4) (
    at_once 1 (function_now 0 1 0xb1 0 0) 1 4 (Send 1 1 (Task 0xb1 5) ∷ [])
    ∷ at_once 1 (function_now 3 1 0xb2 0 0) 1 4 (Send 1 2 (Task 0xb2 5) ∷ [])
    ∷ at_once 1 (function_now 6 1 0xb3 0 0) 1 4 (Send 1 3 (Task 0xb3 5) ∷ [])
    ∷ at_once 1 (function_now 7 1 0xb4 0 0) 1 4 (Send 1 4 (Task 0xb4 5) ∷ [])
    ∷ at_once 1 (function_now 9 1 0xb5 0 0) 1 4 (Send 1 5 (Task 0xb5 5) ∷ [])
    ∷ at_once 1 (function_now 10 1 0xb6 0 0) 1 4 (Send 1 6 (Task 0xb6 5) ∷ [])
    ∷ at_once 1 (function_now 11 1 0xb7 0 0) 1 4 (Send 1 7 (Task 0xb7 5) ∷ [])
    ∷ at_once 1 (function_now 127 1 0xb8 0 0) 1 4 (Send 1 8 (Task 0xb8 5) ∷ [])
    ∷ [])
unfolding Rules.bars_as
unsupported_functions = refl

-- ABORT TASK of a live command, immediate or numbered. Neither its own number nor RefCmdSN plays a part in it
pub abort_of_live : Worked (setting 1 4) (
    turn 1 (command 0xa1 1) 2 4 (entered 1 0 Simple)
    ∷ at_once 1 (function_now 1 1 0xb1 0xa1 9) 2 5 (Leave 1 0 ∷ Send 1 1 (Task 0xb1 0) ∷ [])
    ∷ done 1 0 2 5 (Ignore Stale ∷ [])
    ∷ turn 1 (command 0xa1 2) 3 5 (entered 2 0 Simple)
    ∷ turn 1 (management 0x02 1 3 0xb2 0xa1 0 0) 4 7 (Leave 2 0 ∷ Send 1 2 (Task 0xb2 0) ∷ [])
    ∷ at_once 1 (command_now 0 1 0xa1 4) 4 7 (entered 3 0 Simple)
    ∷ at_once 1 (function_now 1 0x99 0xb3 0xa1 0) 4 7 (Leave 3 0 ∷ Send 1 3 (Task 0xb3 0) ∷ [])
    ∷ [])
unfolding Rules.bars_as
abort_of_live = refl

-- where a live command and a held one have the tag, the live one leaves
pub live_before_held : Worked (setting 1 4) (
    turn 1 (command 0xa1 1) 2 4 (entered 1 0 Simple)
    ∷ is_held 1 (command 0xa1 3) 2 4
    ∷ at_once 1 (function_now 1 4 0xb1 0xa1 0) 2 5 (Leave 1 0 ∷ Send 1 1 (Task 0xb1 0) ∷ [])
    ∷ at_once 1 (function_now 1 4 0xb2 0xa1 0) 2 5 (Empty 3 ∷ Send 1 2 (Task 0xb2 0) ∷ [])
    ∷ turn 1 (command 0xa2 2) 4 6 (entered 2 0 Simple)
    ∷ [])
unfolding Rules.bars_as
live_before_held = refl

-- ABORT TASK finds neither a live nor a held command of another unit
pub abort_to_another_unit : Worked (record (setting 1 4) { units = 2 }) (
    turn 1 (command 0xa1 1) 2 4 (entered 1 0 Simple)
    ∷ at_once 1 (management 0x42 1 2 0xb1 0xa1 1 1) 2 4 (Send 1 1 (Task 0xb1 1) ∷ [])
    ∷ is_held 1 (command 0xa3 3) 2 4
    ∷ at_once 1 (management 0x42 1 4 0xb2 0xa3 9 1) 2 4 (Send 1 2 (Task 0xb2 1) ∷ [])
    ∷ turn 1 (command 0xa2 2) 4 4 (Enter 2 0 Simple ∷ Enable 2 0 ∷ Deliver (request_of 1 (command 0xa3 3)) ∷ Enter 3 0 Simple ∷ Enable 3 0 ∷ [])
    ∷ [])
unfolding Rules.bars_as
abort_to_another_unit = refl

-- ABORT TASK of a request that is held: it is taken out, and never delivered
abbrev pub abort_of_held : List Event
abort_of_held = Arrive 1 (command 0xc3 3) ∷ Arrive 1 (function_now 1 4 0xb7 0xc3 3) ∷ Arrive 1 (command 0xc1 1) ∷ Arrive 1 (command 0xc2 2) ∷ []

pub abort_of_held_log : run_of (setting 1 4) abort_of_held ≡
    entry 1 4 []
    ∷ entry 1 4 (Immediate (request_of 1 (function_now 1 4 0xb7 0xc3 3)) ∷ Empty 3 ∷ Send 1 1 (Task 0xb7 0) ∷ [])
    ∷ entry 2 4 (Deliver (request_of 1 (command 0xc1 1)) ∷ Enter 1 0 Simple ∷ Enable 1 0 ∷ [])
    ∷ entry 4 5 (Deliver (request_of 1 (command 0xc2 2)) ∷ Enter 2 0 Simple ∷ Enable 2 0 ∷ [])
    ∷ []
unfolding Rules.bars_as
abort_of_held_log = refl

pub abort_of_held_executed : executed (setting 1 4) abort_of_held ≡ request_of 1 (command 0xc1 1) ∷ request_of 1 (command 0xc2 2) ∷ []
unfolding Rules.bars_as
abort_of_held_executed = refl

-- of held SCSI Commands with the tag it takes out the lowest one below its own number, and no other request
pub abort_of_lowest_held : Worked (setting 1 8) (
    is_held 1 (command 0xa1 4) 1 8
    ∷ is_held 1 (command 0xa1 2) 1 8
    ∷ is_held 1 (nop 0xa1 3) 1 8
    ∷ at_once 1 (function_now 1 3 0xb1 0xa1 9) 1 8 (Empty 2 ∷ Send 1 1 (Task 0xb1 0) ∷ [])
    ∷ at_once 1 (function_now 1 4 0xb2 0xa1 9) 1 8 (Send 1 2 (Task 0xb2 1) ∷ [])
    ∷ at_once 1 (function_now 1 5 0xb3 0xa1 9) 1 8 (Empty 4 ∷ Send 1 3 (Task 0xb3 0) ∷ [])
    ∷ is_ignored 1 (command 0xa1 2) Duplicate 1 8
    ∷ turn 1 (command 0xa2 1) 5 11 (Enter 1 0 Simple ∷ Enable 1 0 ∷ Deliver (request_of 1 (nop 0xa1 3)) ∷ Send 1 4 (Nop 0xa1) ∷ [])
    ∷ [])
unfolding Rules.bars_as
abort_of_lowest_held = refl

-- of two held commands with the tag the lower one goes first
pub abort_twice : Worked (setting 1 8) (
    is_held 1 (command 0xa1 3) 1 8
    ∷ is_held 1 (command 0xa1 2) 1 8
    ∷ at_once 1 (function_now 1 4 0xb1 0xa1 9) 1 8 (Empty 2 ∷ Send 1 1 (Task 0xb1 0) ∷ [])
    ∷ at_once 1 (function_now 1 4 0xb2 0xa1 9) 1 8 (Empty 3 ∷ Send 1 2 (Task 0xb2 0) ∷ [])
    ∷ at_once 1 (function_now 1 4 0xb3 0xa1 9) 1 8 (Send 1 3 (Task 0xb3 1) ∷ [])
    ∷ [])
unfolding Rules.bars_as
abort_twice = refl

-- it finds what is held at the last place of the window
pub abort_at_the_last_place : Worked (setting 1 4) (
    is_held 1 (command 0xc4 4) 1 4
    ∷ at_once 1 (function_now 1 5 0xb1 0xc4 4) 1 4 (Empty 4 ∷ Send 1 1 (Task 0xb1 0) ∷ [])
    ∷ [])
unfolding Rules.bars_as
abort_at_the_last_place = refl

-- ABORT TASK of a number that hasn't come: it is received without a request, and closes the gap
abbrev pub abort_voids : List Event
abort_voids =
    Arrive 1 (command 0xa3 3)
    ∷ Arrive 1 (function_now 1 4 0xb1 0xa2 2)
    ∷ Arrive 2 (command 0xa2 2)
    ∷ Arrive 2 (command 0xa1 1)
    ∷ Arrive 1 (function_now 1 5 0xb2 0xa9 4)
    ∷ Arrive 1 (management 0x02 1 6 0xb3 0xa9 5 0)
    ∷ Arrive 1 (head 0x00 0x80 0xb4 5)
    ∷ []

pub abort_voids_log : run_of (of_two 4) abort_voids ≡
    entry 1 4 []
    ∷ entry 1 4 (Immediate (request_of 1 (function_now 1 4 0xb1 0xa2 2)) ∷ Void 2 ∷ Send 1 1 (Task 0xb1 0) ∷ [])
    ∷ entry 1 4 (Ignore Duplicate ∷ [])
    ∷ entry 4 5 (Deliver (request_of 2 (command 0xa1 1)) ∷ Enter 1 0 Simple ∷ Enable 1 0 ∷ Deliver (request_of 1 (command 0xa3 3)) ∷ Enter 2 0 Simple ∷ Enable 2 0 ∷ [])
    ∷ entry 5 6 (Immediate (request_of 1 (function_now 1 5 0xb2 0xa9 4)) ∷ Void 4 ∷ Send 1 2 (Task 0xb2 0) ∷ [])
    ∷ entry 5 6 []
    ∷ entry 7 8 (Deliver (request_of 1 (head 0x00 0x80 0xb4 5)) ∷ Send 1 3 (Nop 0xb4) ∷ Deliver (request_of 1 (management 0x02 1 6 0xb3 0xa9 5 0)) ∷ Send 1 4 (Task 0xb3 1) ∷ [])
    ∷ []
unfolding Rules.bars_as
abort_voids_log = refl

pub abort_voids_executed : executed (of_two 4) abort_voids ≡ request_of 2 (command 0xa1 1) ∷ request_of 1 (command 0xa3 3) ∷ request_of 1 (nop 0xb4 5) ∷ request_of 1 (management 0x02 1 6 0xb3 0xa9 5 0) ∷ []
unfolding Rules.bars_as
abort_voids_executed = refl

-- a number that was received already isn't voided again, and a request that is held there stays
pub abort_of_received : Worked (setting 1 4) (
    is_held 1 (command 0xa5 3) 1 4
    ∷ at_once 1 (function_now 1 4 0xb1 0xa9 3) 1 4 (Send 1 1 (Task 0xb1 0) ∷ [])
    ∷ at_once 1 (function_now 1 4 0xb2 0xa9 2) 1 4 (Void 2 ∷ Send 1 2 (Task 0xb2 0) ∷ [])
    ∷ at_once 1 (function_now 1 4 0xb3 0xa9 2) 1 4 (Send 1 3 (Task 0xb3 0) ∷ [])
    ∷ turn 1 (command 0xa1 1) 4 5 (Enter 1 0 Simple ∷ Enable 1 0 ∷ Deliver (request_of 1 (command 0xa5 3)) ∷ Enter 2 0 Simple ∷ Enable 2 0 ∷ [])
    ∷ [])
unfolding Rules.bars_as
abort_of_received = refl

-- where the number is ExpCmdSN, what is behind it becomes due: what waits for the next number, then the request that is held there
pub abort_of_expected : Worked (setting 1 4) (
    is_held 1 (command 0xa2 2) 1 4
    ∷ waits 1 (function_now 2 2 0xb1 0 0) 1 4
    ∷ at_once 1 (function_now 1 3 0xb2 0xa9 1) 3 5 (
    Void 1 ∷ Send 1 1 (Task 0xb2 0)
    ∷ Immediate (request_of 1 (function_now 2 2 0xb1 0 0)) ∷ Send 1 2 (Task 0xb1 0)
    ∷ Deliver (request_of 1 (command 0xa2 2)) ∷ Enter 1 0 Simple ∷ Enable 1 0 ∷ [])
    ∷ [])
unfolding Rules.bars_as
abort_of_expected = refl

-- the number is read from the wire as any other
pub abort_across_the_wrap : Worked (record (setting 1 4) { first = 0xffff_ffff }) (
    at_once 1 (function_now 1 2 0xb1 0xa9 0) 0xffff_ffff 2 (Void 0 ∷ Send 1 1 (Task 0xb1 0) ∷ [])
    ∷ turn 1 (command 0xa1 0xffff_ffff) 1 3 (entered 1 0 Simple)
    ∷ [])
unfolding Rules.bars_as
abort_across_the_wrap = refl

-- the task does not exist: the number is above MaxCmdSN, below ExpCmdSN, or not below the function's own; or the function is
-- numbered
pub abort_of_nothing : Worked (setting 1 4) (
    turn 1 (command 0xa1 1) 2 4 (entered 1 0 Simple)
    ∷ at_once 1 (function_now 1 6 0xb1 0xa9 5) 2 4 (Send 1 1 (Task 0xb1 1) ∷ [])
    ∷ at_once 1 (function_now 1 4 0xb2 0xa9 1) 2 4 (Send 1 2 (Task 0xb2 1) ∷ [])
    ∷ at_once 1 (function_now 1 3 0xb3 0xa9 3) 2 4 (Send 1 3 (Task 0xb3 1) ∷ [])
    ∷ at_once 1 (function_now 1 3 0xb4 0xa9 4) 2 4 (Send 1 4 (Task 0xb4 1) ∷ [])
    ∷ turn 1 (management 0x02 1 2 0xb5 0xa9 1 0) 3 5 (Send 1 5 (Task 0xb5 1) ∷ [])
    ∷ at_once 1 (function_now 1 6 0xb6 0xa9 5) 3 5 (Void 5 ∷ Send 1 6 (Task 0xb6 0) ∷ [])
    ∷ [])
unfolding Rules.bars_as
abort_of_nothing = refl

-- functions one after the other: a task that there isn't, an absent unit, a live command, a function that is refused, a held command
pub functions_in_a_row : Worked (setting 1 4) (
    turn 1 (command 0xa1 1) 2 4 (entered 1 0 Simple)
    ∷ at_once 1 (function_now 1 2 0xb1 0xa9 6) 2 4 (Send 1 1 (Task 0xb1 1) ∷ [])
    ∷ at_once 1 (function_now 1 2 0xb2 0xa9 2) 2 4 (Send 1 2 (Task 0xb2 1) ∷ [])
    ∷ at_once 1 (management 0x42 1 2 0xb3 0xa1 1 1) 2 4 (Send 1 3 (Task 0xb3 2) ∷ [])
    ∷ at_once 1 (function_now 1 2 0xb4 0xa1 1) 2 5 (Leave 1 0 ∷ Send 1 4 (Task 0xb4 0) ∷ [])
    ∷ done 1 0 2 5 (Ignore Stale ∷ [])
    ∷ at_once 1 (function_now 8 2 0xb5 0xffff_ffff 0) 2 5 (Send 1 5 (Task 0xb5 4) ∷ [])
    ∷ at_once 1 (function_now 3 2 0xb6 0xffff_ffff 0) 2 5 (Send 1 6 (Task 0xb6 5) ∷ [])
    ∷ is_held 1 (command 0xc3 3) 2 5
    ∷ at_once 1 (function_now 1 4 0xb7 0xc3 3) 2 5 (Empty 3 ∷ Send 1 7 (Task 0xb7 0) ∷ [])
    ∷ turn 1 (command 0xc2 2) 4 6 (entered 2 0 Simple)
    ∷ [])
unfolding Rules.bars_as
functions_in_a_row = refl

-- a tag is used again after an abort: the late answer doesn't reach the new command
abbrev pub tag_used_again : List Event
tag_used_again =
    Arrive 1 (command 0xa1 1)
    ∷ Arrive 1 (function_now 1 2 0xb1 0xa1 1)
    ∷ Arrive 1 (command 0xa1 2)
    ∷ Done 1 0
    ∷ Done 2 0
    ∷ []

pub tag_used_again_log : run_of (setting 1 32) tag_used_again ≡
    entry 2 0x20 (Deliver (request_of 1 (command 0xa1 1)) ∷ Enter 1 0 Simple ∷ Enable 1 0 ∷ [])
    ∷ entry 2 0x21 (Immediate (request_of 1 (function_now 1 2 0xb1 0xa1 1)) ∷ Leave 1 0 ∷ Send 1 1 (Task 0xb1 0) ∷ [])
    ∷ entry 3 0x21 (Deliver (request_of 1 (command 0xa1 2)) ∷ Enter 2 0 Simple ∷ Enable 2 0 ∷ [])
    ∷ entry 3 0x21 (Ignore Stale ∷ [])
    ∷ entry 3 0x22 (Leave 2 0 ∷ Send 1 2 (Scsi 0xa1 0 None) ∷ [])
    ∷ []
unfolding Rules.bars_as
tag_used_again_log = refl
