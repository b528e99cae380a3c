-- Worked runs of the machine, computed.
use Rattle.std.specs.Prelude.{◌≡◌, List, [], ◌∷◌, map, refl}
use Rattle.iscsi_wire.specs.declared.reply.Reply.TheVariants.{Task, Logout, Nop}
use Rattle.iscsi_wire.specs.Fields.{request_of}
use Rattle.iscsi_tasks.specs.declared.task.Attr.TheVariants.{Simple, Ordered}
use Rattle.iscsi_tasks.specs.Rules as Rules
use Rattle.iscsi_rules.specs.declared.effect.Effect.TheVariants.{Deliver, Immediate, Void, Empty, Enter, Leave, Send, CloseConn, CloseSession}
use Rattle.iscsi_rules.specs.declared.effect.Why.TheVariants.{Duplicate, Closed}
use Rattle.iscsi_rules.specs.rules.Settings.{Setting}
use Rattle.iscsi_rules.specs.examples.Rows.{Row, command, command_now, command_to, nop, function_now, logout_now, setting, of_two, turn, at_once, is_held, waits, is_ignored, entered}
use Rattle.iscsi_machine.specs.Machine.{machine_run}

-- with these options the machine gives for these events these entries
abbrev pub Worked : Setting → List Row → Type 0
Worked o rows = machine_run o (map (λ (r : Row). r.0) rows) ≡ map (λ (r : Row). r.1) rows

-- a number behind a gap is held until the gap is closed, and ExpCmdSN goes on past both
pub gap : Worked (setting 1 4) (
    turn 1 (command 0xa1 1) 2 4 (entered 1 0 Simple)
    ∷ is_held 1 (command 0xa4 4) 2 4
    ∷ is_held 1 (nop 0xb3 3) 2 4
    ∷ is_ignored 1 (nop 0xb3 3) Duplicate 2 4
    ∷ turn 1 (nop 0xb2 2) 5 6 (
    Send 1 1 (Nop 0xb2)
    ∷ Deliver (request_of 1 (nop 0xb3 3)) ∷ Send 1 2 (Nop 0xb3)
    ∷ Deliver (request_of 1 (command 0xa4 4)) ∷ entered 2 0 Simple)
    ∷ [])
unfolding Rules.bars_as
gap = refl

-- ABORT TASK takes a held request out, and receives a number that hasn't come
pub abort_task : Worked (setting 1 8) (
    is_held 1 (command 0xa3 3) 1 8
    ∷ at_once 1 (function_now 1 5 0xb1 0xa3 3) 1 8 (Empty 3 ∷ Send 1 1 (Task 0xb1 0) ∷ [])
    ∷ at_once 1 (function_now 1 5 0xb2 0xa2 2) 1 8 (Void 2 ∷ Send 1 2 (Task 0xb2 0) ∷ [])
    ∷ turn 1 (command 0xa1 1) 4 10 (entered 1 0 Simple)
    ∷ [])
unfolding Rules.bars_as
abort_task = refl

-- ABORT TASK SET waits until the numbers below its own have had their turn; an immediate command of a greater number stays
pub set_abort_waits : Worked (setting 1 4) (
    waits 1 (function_now 2 2 0xb1 0 0) 1 4
    ∷ at_once 1 (command_now 0 1 0xa2 9) 1 4 (entered 1 0 Simple)
    ∷ turn 1 (command_to 0 2 0xa1 1) 2 5 (
    Enter 2 0 Ordered
    ∷ Immediate (request_of 1 (function_now 2 2 0xb1 0 0)) ∷ Leave 2 0 ∷ Send 1 1 (Task 0xb1 0) ∷ [])
    ∷ [])
unfolding Rules.bars_as
set_abort_waits = refl

-- a connection is closed by another one, which then closes itself, and the session with it
pub connections_close : Worked (of_two 8) (
    turn 2 (command 0xa1 1) 2 8 (entered 1 0 Simple)
    ∷ is_held 2 (command 0xa3 3) 2 8
    ∷ waits 2 (function_now 2 3 0xb1 0 0) 2 8
    ∷ at_once 1 (logout_now 1 0xc1 2 2) 2 9 (Leave 1 0 ∷ Empty 3 ∷ Send 1 1 (Logout 0xc1 0) ∷ CloseConn 2 ∷ [])
    ∷ is_ignored 2 (command 0xa2 2) Closed 2 9
    ∷ turn 1 (nop 0xb2 2) 4 11 (Send 1 2 (Nop 0xb2) ∷ [])
    ∷ at_once 1 (logout_now 1 0xc2 4 1) 4 11 (Send 1 3 (Logout 0xc2 0) ∷ CloseConn 1 ∷ CloseSession ∷ [])
    ∷ is_ignored 1 (nop 0xb4 4) Closed 4 11
    ∷ [])
unfolding Rules.bars_as
connections_close = refl
