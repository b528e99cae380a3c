-- Worked recordings: Logout Requests, and what closes.
use Rattle.std.specs.Prelude.{◌≡◌, List, [], ◌∷◌, refl, None}
use Rattle.iscsi_wire.specs.declared.reply.Reply.TheVariants.{Scsi, Task, Logout, Reject}
use Rattle.iscsi_wire.specs.Fields.{request_of}
use Rattle.iscsi_tasks.specs.declared.task.Attr.TheVariants.{Simple, Ordered}
use Rattle.iscsi_tasks.specs.Rules as Rules
use Rattle.iscsi_rules.specs.declared.effect.Effect.TheVariants.{Deliver, Immediate, Wait, Empty, Enter, Enable, Leave, Send, CloseConn, CloseSession, Ignore}
use Rattle.iscsi_rules.specs.declared.effect.Why.TheVariants.{Duplicate, Closed, Stale}
use Rattle.iscsi_rules.specs.declared.event.Event.{Event}
use Rattle.iscsi_rules.specs.declared.event.Event.TheVariants.{Arrive, Done}
use Rattle.iscsi_rules.specs.rules.Run.{run_of}
use Rattle.iscsi_rules.specs.promises.Executed.{executed}
use Rattle.iscsi_rules.specs.examples.Rows.{Worked, NO_TAG, head, command, command_to, nop_now, function_now, logout, logout_now, setting, of_two, entry, turn, at_once, is_held, waits, is_ignored, done, entered}

-- the session is closed: what is live leaves, what is held is taken out, of its own run too, and nothing is taken any more
abbrev pub session_closes : List Event
session_closes =
    Arrive 1 (command 0xa3 3)
    ∷ Arrive 1 (command 0xa4 4)
    ∷ Arrive 1 (command 0xa1 1)
    ∷ Arrive 2 (logout 0x06 0 0xc1 2 0)
    ∷ Arrive 1 (command 0xa5 5)
    ∷ Done 1 0
    ∷ []

pub session_closes_log : run_of (of_two 8) session_closes ≡
    entry 1 8 []
    ∷ entry 1 8 []
    ∷ entry 2 8 (Deliver (request_of 1 (command 0xa1 1)) ∷ Enter 1 0 Simple ∷ Enable 1 0 ∷ [])
    ∷ entry 5 12 (Deliver (request_of 2 (logout 0x06 0 0xc1 2 0)) ∷ Leave 1 0 ∷ Empty 3 ∷ Empty 4 ∷ Send 2 1 (Logout 0xc1 0) ∷ CloseSession ∷ [])
    ∷ entry 5 12 (Ignore Closed ∷ [])
    ∷ entry 5 12 (Ignore Stale ∷ [])
    ∷ []
unfolding Rules.bars_as
session_closes_log = refl

pub session_closes_executed : executed (of_two 8) session_closes ≡ request_of 1 (command 0xa1 1) ∷ request_of 2 (logout 0x06 0 0xc1 2 0) ∷ []
unfolding Rules.bars_as
session_closes_executed = refl

-- a connection is closed by another one, which then closes itself, and the session with it
abbrev pub connections_close : List Event
connections_close =
    Arrive 2 (command 0xa1 1)
    ∷ Arrive 2 (command 0xa2 3)
    ∷ Arrive 1 (logout 0x46 1 0xc1 2 9)
    ∷ Arrive 1 (logout 0x46 2 0xc2 2 2)
    ∷ Arrive 1 (logout 0x46 1 0xc3 2 2)
    ∷ Arrive 2 (command 0xa2 2)
    ∷ Arrive 1 (command 0xa9 3)
    ∷ Arrive 1 (logout 0x46 1 0xc4 2 2)
    ∷ Arrive 1 (logout 0x46 1 0xc5 2 1)
    ∷ []

pub connections_close_log : run_of (of_two 8) connections_close ≡
    entry 2 8 (Deliver (request_of 2 (command 0xa1 1)) ∷ Enter 1 0 Simple ∷ Enable 1 0 ∷ [])
    ∷ entry 2 8 []
    ∷ entry 2 8 (Immediate (request_of 1 (logout 0x46 1 0xc1 2 9)) ∷ Send 1 1 (Logout 0xc1 1) ∷ [])
    ∷ entry 2 8 (Immediate (request_of 1 (logout 0x46 2 0xc2 2 2)) ∷ Send 1 2 (Logout 0xc2 2) ∷ [])
    ∷ entry 2 9 (Immediate (request_of 1 (logout 0x46 1 0xc3 2 2)) ∷ Leave 1 0 ∷ Empty 3 ∷ Send 1 3 (Logout 0xc3 0) ∷ CloseConn 2 ∷ [])
    ∷ entry 2 9 (Ignore Closed ∷ [])
    ∷ entry 2 9 (Ignore Duplicate ∷ [])
    ∷ entry 2 9 (Immediate (request_of 1 (logout 0x46 1 0xc4 2 2)) ∷ Send 1 4 (Logout 0xc4 1) ∷ [])
    ∷ entry 2 9 (Immediate (request_of 1 (logout 0x46 1 0xc5 2 1)) ∷ Send 1 5 (Logout 0xc5 0) ∷ CloseConn 1 ∷ CloseSession ∷ [])
    ∷ []
unfolding Rules.bars_as
connections_close_log = refl

-- a function that waits is dropped with its connection, and never answered
abbrev pub waiting_dropped : List Event
waiting_dropped =
    Arrive 2 (function_now 2 2 0xb1 0 0)
    ∷ Arrive 1 (logout 0x46 1 0xc1 1 2)
    ∷ Arrive 1 (command 0xa1 1)
    ∷ []

pub waiting_dropped_log : run_of (of_two 4) waiting_dropped ≡
    entry 1 4 (Wait (request_of 2 (function_now 2 2 0xb1 0 0)) ∷ [])
    ∷ entry 1 4 (Immediate (request_of 1 (logout 0x46 1 0xc1 1 2)) ∷ Send 1 1 (Logout 0xc1 0) ∷ CloseConn 2 ∷ [])
    ∷ entry 2 4 (Deliver (request_of 1 (command 0xa1 1)) ∷ Enter 1 0 Simple ∷ Enable 1 0 ∷ [])
    ∷ []
unfolding Rules.bars_as
waiting_dropped_log = refl

-- a Logout Request without a tag is rejected, and one with another reason; reason 2 has its response, whatever the CID is. Nothing is
-- closed by them
pub logout_refusals : Worked (setting 1 4) (
    at_once 1 (logout_now 0 NO_TAG 1 0) 1 4 (Send 1 1 (Reject 9 (logout_now 0 NO_TAG 1 0)) ∷ [])
    ∷ at_once 1 (logout_now 3 0xc1 1 1) 1 4 (Send 1 2 (Reject 9 (logout_now 3 0xc1 1 1)) ∷ [])
    ∷ at_once 1 (logout_now 127 0xc2 1 1) 1 4 (Send 1 3 (Reject 9 (logout_now 127 0xc2 1 1)) ∷ [])
    ∷ at_once 1 (logout_now 2 0xc3 1 9) 1 4 (Send 1 4 (Logout 0xc3 2) ∷ [])
    ∷ turn 1 (logout 0x06 1 NO_TAG 1 1) 2 5 (Send 1 5 (Reject 9 (logout 0x06 1 NO_TAG 1 1)) ∷ [])
    ∷ turn 1 (logout 0x06 2 0xc4 2 1) 3 6 (Send 1 6 (Logout 0xc4 2) ∷ [])
    ∷ turn 1 (logout 0x06 1 0xc5 3 2) 4 7 (Send 1 7 (Logout 0xc5 1) ∷ [])
    ∷ turn 1 (command 0xa1 4) 5 7 (entered 1 0 Simple)
    ∷ [])
unfolding Rules.bars_as
logout_refusals = refl

-- a CID that the session doesn't have, or that was closed, isn't open. The number of a request that was emptied stays received; a
-- tag of a command that left may be used again
pub after_a_connection : Worked (of_two 8) (
    turn 2 (command 0xa1 1) 2 8 (entered 1 0 Simple)
    ∷ is_held 2 (command 0xa3 3) 2 8
    ∷ at_once 1 (logout_now 1 0xc1 2 9) 2 8 (Send 1 1 (Logout 0xc1 1) ∷ [])
    ∷ at_once 1 (logout_now 2 0xc2 2 2) 2 8 (Send 1 2 (Logout 0xc2 2) ∷ [])
    ∷ at_once 1 (logout_now 1 0xc3 2 2) 2 9 (Leave 1 0 ∷ Empty 3 ∷ Send 1 3 (Logout 0xc3 0) ∷ CloseConn 2 ∷ [])
    ∷ is_ignored 2 (command 0xa2 2) Closed 2 9
    ∷ is_ignored 1 (command 0xa9 3) Duplicate 2 9
    ∷ done 1 0 2 9 (Ignore Stale ∷ [])
    ∷ turn 1 (command 0xa1 2) 4 10 (entered 2 0 Simple)
    ∷ at_once 1 (logout_now 1 0xc4 4 2) 4 10 (Send 1 4 (Logout 0xc4 1) ∷ [])
    ∷ at_once 1 (logout_now 1 0xc5 4 1) 4 11 (Leave 2 0 ∷ Send 1 5 (Logout 0xc5 0) ∷ CloseConn 1 ∷ CloseSession ∷ [])
    ∷ [])
unfolding Rules.bars_as
after_a_connection = refl

-- a connection closes itself. What came on it goes, and what came on the other one stays, in the same agenda too
pub own_connection_closes : Worked (of_two 8) (
    turn 1 (command 0xa1 1) 2 8 (entered 1 0 Simple)
    ∷ turn 2 (command 0xa2 2) 3 8 (entered 2 0 Simple)
    ∷ is_held 1 (command 0xa4 4) 3 8
    ∷ is_held 2 (command 0xa5 5) 3 8
    ∷ turn 1 (logout 0x06 1 0xc1 3 1) 6 11 (
    Leave 1 0 ∷ Empty 4 ∷ Send 1 1 (Logout 0xc1 0) ∷ CloseConn 1
    ∷ Deliver (request_of 2 (command 0xa5 5)) ∷ Enter 3 0 Simple ∷ Enable 3 0 ∷ [])
    ∷ is_ignored 1 (command 0xa6 6) Closed 6 11
    ∷ done 1 0 6 11 (Ignore Stale ∷ [])
    ∷ done 2 0 6 12 (Leave 2 0 ∷ Send 2 1 (Scsi 0xa2 0 None) ∷ [])
    ∷ [])
unfolding Rules.bars_as
own_connection_closes = refl

-- the last connection closes, and the session with it
pub last_connection_closes : Worked (setting 1 4) (
    turn 1 (command 0xa1 1) 2 4 (entered 1 0 Simple)
    ∷ turn 1 (logout 0x06 1 0xc1 2 1) 3 6 (Leave 1 0 ∷ Send 1 1 (Logout 0xc1 0) ∷ CloseConn 1 ∷ CloseSession ∷ [])
    ∷ is_ignored 1 (nop_now 0xb1 3) Closed 3 6
    ∷ done 1 0 3 6 (Ignore Stale ∷ [])
    ∷ [])
unfolding Rules.bars_as
last_connection_closes = refl

-- the session closes at once: the CID isn't looked at, what is held at lower numbers is taken out too, and what waits is dropped
pub session_closes_at_once : Worked (of_two 4) (
    turn 1 (command 0xa1 1) 2 4 (entered 1 0 Simple)
    ∷ is_held 2 (command 0xa3 3) 2 4
    ∷ waits 2 (function_now 2 3 0xb1 0 0) 2 4
    ∷ at_once 1 (logout_now 0 0xc1 5 9) 2 5 (Leave 1 0 ∷ Empty 3 ∷ Send 1 1 (Logout 0xc1 0) ∷ CloseSession ∷ [])
    ∷ is_ignored 2 (command 0xa2 2) Closed 2 5
    ∷ is_ignored 1 (logout_now 0 0xc2 2 0) Closed 2 5
    ∷ done 1 0 2 5 (Ignore Stale ∷ [])
    ∷ [])
unfolding Rules.bars_as
session_closes_at_once = refl

-- in the agenda a Logout Request that closes the session leaves out all that was still due
pub session_closes_in_the_agenda : Worked (of_two 8) (
    is_held 2 (command 0xa3 3) 1 8
    ∷ is_held 1 (logout 0x06 0 0xc1 2 0) 1 8
    ∷ waits 2 (function_now 2 3 0xb1 0 0) 1 8
    ∷ turn 1 (command 0xa1 1) 4 11 (
    Enter 1 0 Simple ∷ Enable 1 0
    ∷ Deliver (request_of 1 (logout 0x06 0 0xc1 2 0)) ∷ Leave 1 0 ∷ Empty 3 ∷ Send 1 1 (Logout 0xc1 0) ∷ CloseSession ∷ [])
    ∷ [])
unfolding Rules.bars_as
session_closes_in_the_agenda = refl

-- and one that closes a connection leaves out the functions of that connection which were still due
pub function_dropped_in_the_agenda : Worked (of_two 8) (
    is_held 1 (logout 0x06 1 0xc1 2 2) 1 8
    ∷ waits 2 (function_now 2 3 0xb1 0 0) 1 8
    ∷ waits 1 (function_now 2 3 0xb2 0 0) 1 8
    ∷ turn 1 (command 0xa1 1) 3 10 (
    Enter 1 0 Simple ∷ Enable 1 0
    ∷ Deliver (request_of 1 (logout 0x06 1 0xc1 2 2)) ∷ Send 1 1 (Logout 0xc1 0) ∷ CloseConn 2
    ∷ Immediate (request_of 1 (function_now 2 3 0xb2 0 0)) ∷ Leave 1 0 ∷ Send 1 2 (Task 0xb2 0) ∷ [])
    ∷ [])
unfolding Rules.bars_as
function_dropped_in_the_agenda = refl

-- a Logout Request that is held is taken out as any other request
pub held_logout : Worked (of_two 8) (
    is_held 2 (logout 0x06 0 0xc2 3 0) 1 8
    ∷ at_once 1 (logout_now 1 0xc1 1 2) 1 8 (Empty 3 ∷ Send 1 1 (Logout 0xc1 0) ∷ CloseConn 2 ∷ [])
    ∷ turn 1 (command 0xa1 1) 2 8 (entered 1 0 Simple)
    ∷ turn 1 (command 0xa2 2) 4 9 (entered 2 0 Simple)
    ∷ [])
unfolding Rules.bars_as
held_logout = refl

-- a close enables what its commands barred, last of all. An ABORT TASK of a number that was received changes nothing
pub close_enables : Worked (of_two 8) (
    turn 2 (command_to 0 2 0xa1 1) 2 8 (entered 1 0 Ordered)
    ∷ turn 1 (command 0xa2 2) 3 8 (Enter 2 0 Simple ∷ [])
    ∷ is_held 1 (command 0xa5 5) 3 8
    ∷ at_once 1 (function_now 1 6 0xb1 0xa9 5) 3 8 (Send 1 1 (Task 0xb1 0) ∷ [])
    ∷ at_once 1 (logout_now 1 0xc1 3 2) 3 9 (Leave 1 0 ∷ Send 1 2 (Logout 0xc1 0) ∷ CloseConn 2 ∷ Enable 2 0 ∷ [])
    ∷ [])
unfolding Rules.bars_as
close_enables = refl

-- whatever comes on a closed connection is ignored as closed, a Data-Out, an unknown opcode and a Logout Request too
pub closed_takes_nothing : Worked (of_two 4) (
    at_once 1 (logout_now 1 0xc1 1 2) 1 4 (Send 1 1 (Logout 0xc1 0) ∷ CloseConn 2 ∷ [])
    ∷ is_ignored 2 (head 0x05 0 0xb1 1) Closed 1 4
    ∷ is_ignored 2 (head 0x50 0 0xb2 1) Closed 1 4
    ∷ is_ignored 2 (head 0x43 0 0xb3 1) Closed 1 4
    ∷ is_ignored 2 (logout_now 0 0xc2 1 0) Closed 1 4
    ∷ is_ignored 2 (nop_now 0xb4 1) Closed 1 4
    ∷ is_ignored 2 (command 0xa1 9) Closed 1 4
    ∷ turn 1 (command 0xa1 1) 2 4 (entered 1 0 Simple)
    ∷ [])
unfolding Rules.bars_as
closed_takes_nothing = refl

-- what is held at the last place of the window is taken out as well
pub last_place_closed : Worked (of_two 4) (
    is_held 2 (command 0xa4 4) 1 4
    ∷ at_once 1 (logout_now 1 0xc1 1 2) 1 4 (Empty 4 ∷ Send 1 1 (Logout 0xc1 0) ∷ CloseConn 2 ∷ [])
    ∷ [])
unfolding Rules.bars_as
last_place_closed = refl
