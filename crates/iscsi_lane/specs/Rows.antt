-- Worked lanes, computed.
use Rattle.std.specs.Prelude.{◌≡◌, ℕ, Bool, true, false, Some, None, refl}
use Rattle.iscsi_wire.specs.declared.reply.Reply.TheVariants.{Task as TaskReply, Logout}
use Rattle.iscsi_outbox_state.specs.declared.lane.Aim.TheVariants.{Tag, Unit as AtUnit, Conn}
use Rattle.iscsi_outbox_state.specs.declared.lane.Left.{Left}
use Rattle.iscsi_outbox_state.specs.declared.lane.Undue.{Undue}
use Rattle.iscsi_outbox_state.specs.Lane.{Lane, any_in, arrived, awaited, cleared, count_in, dropped_on, first_due, has_left, is_command, is_left, is_numbered, opened, stopped, without_due}

abbrev pub empty : Lane
empty = opened 2 4 3

-- a command of unit 5 and tag 9, on this connection
abbrev pub command : ℕ → ℕ → Bool → Bool → Left
command place conn running under_way = record { command = place; conn = conn; unit = 5; tag = 9; running = running; under_way = under_way }

-- the answer to an ABORT TASK of tag 9, and to a LOGICAL UNIT RESET of unit 5
abbrev pub abort : ℕ → Undue
abort conn = record { reply = record { reply = TaskReply 1 0; place = 5 }; conn = conn; aim = Tag 9; numbered = true; ends = false; uncleared = false }

abbrev pub reset : ℕ → Bool → Undue
reset conn uncleared = record { reply = record { reply = TaskReply 2 0; place = 6 }; conn = conn; aim = AtUnit 5; numbered = false; ends = false; uncleared = uncleared }

-- the answer to a Logout that closes its own connection
abbrev pub logout : ℕ → Undue
logout conn = record { reply = record { reply = Logout 3 0; place = 7 }; conn = conn; aim = Conn conn; numbered = true; ends = true; uncleared = false }

-- an abort waits behind a running command
abbrev pub behind_running : Lane
behind_running = awaited (abort 0) (has_left (command 1 0 true false) empty)

pub waits : first_due behind_running ≡ None
waits = refl

-- until that stopped: then nothing else stands there
pub is_due_then : first_due (stopped 1 behind_running) ≡ Some (abort 0)
is_due_then = refl

pub is_taken : without_due (stopped 1 behind_running) ≡ empty
is_taken = refl

-- of another command nothing changes
pub another : stopped 2 behind_running ≡ behind_running
another = refl

-- it waits for what is under way on another connection, and not for what is on its own
abbrev pub under_way_elsewhere : Lane
under_way_elsewhere = awaited (abort 0) (has_left (command 1 1 false true) empty)

pub waits_for_that : first_due under_way_elsewhere ≡ None
waits_for_that = refl

pub arrives : first_due (arrived 1 under_way_elsewhere) ≡ Some (abort 0)
arrives = refl

pub own_connection : first_due (awaited (abort 1) (has_left (command 1 1 false true) empty)) ≡ Some (abort 1)
own_connection = refl

-- a reset waits for the command of an ABORT TASK before it, and not for that answer
abbrev pub reset_behind : Lane
reset_behind = awaited (reset 1 false) (awaited (abort 0) (has_left (command 1 0 true true) empty))

pub both_wait : first_due reset_behind ≡ None
both_wait = refl

pub abort_first : first_due (stopped 1 reset_behind) ≡ Some (abort 0)
abort_first = refl

pub reset_waits_on : first_due (without_due (stopped 1 reset_behind)) ≡ None
reset_waits_on = refl

pub reset_then : first_due (arrived 1 (without_due (stopped 1 reset_behind))) ≡ Some (reset 1 false)
reset_then = refl

-- a Logout that closes its own connection goes out behind an answer there
abbrev pub logout_behind : Lane
logout_behind = awaited (logout 0) (awaited (abort 0) (has_left (command 1 1 true false) empty))

pub logout_waits : first_due logout_behind ≡ None
logout_waits = refl

pub logout_then : first_due (without_due (stopped 1 logout_behind)) ≡ Some (logout 0)
logout_then = refl

-- which is dropped with its connection
pub dropped : dropped_on 0 logout_behind ≡ has_left (command 1 1 true false) empty
dropped = refl

-- of two resets that wait for other sessions the older one is cleared
abbrev pub two_resets : Lane
two_resets = awaited (reset 1 true) (awaited (reset 0 true) empty)

pub none_cleared : first_due two_resets ≡ None
none_cleared = refl

pub older_one : first_due (cleared 5 two_resets) ≡ Some (reset 0 false)
older_one = refl

-- what callers ask
pub one_owes : count_in is_left logout_behind ≡ 1
one_owes = refl

pub two_numbered : count_in is_numbered logout_behind ≡ 2
two_numbered = refl

pub owes_still : any_in (is_command 1) logout_behind ≡ true
owes_still = refl

pub owes_not : any_in (is_command 2) logout_behind ≡ false
owes_not = refl
