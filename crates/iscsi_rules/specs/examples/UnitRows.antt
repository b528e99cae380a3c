-- Worked recordings: several units in one item, units ascending.
use Rattle.std.specs.Prelude.{ℕ, [], ◌∷◌, refl}
use Rattle.iscsi_wire.specs.declared.reply.Reply.TheVariants.{Logout}
use Rattle.iscsi_tasks.specs.declared.task.Attr.TheVariants.{Simple, Ordered}
use Rattle.iscsi_tasks.specs.Rules as Rules
use Rattle.iscsi_rules.specs.declared.effect.Effect.TheVariants.{Empty, Enter, Enable, Leave, Send, CloseConn, CloseSession}
use Rattle.iscsi_rules.specs.rules.Settings.{Setting}
use Rattle.iscsi_rules.specs.examples.Rows.{Worked, command_to, logout_now, of_two, turn, at_once, is_held, entered}

-- a session of two connections and two units
abbrev pub two_units : ℕ → Setting
two_units window = record (of_two window) { units = 2 }

-- the commands of a connection leave by their units, not by their tickets, and so are the others enabled that they barred
pub connection_of_two_units : Worked (two_units 8) (
    turn 2 (command_to 1 2 0xa1 1) 2 8 (entered 1 1 Ordered)
    ∷ turn 2 (command_to 0 2 0xa2 2) 3 8 (entered 2 0 Ordered)
    ∷ turn 1 (command_to 1 1 0xa3 3) 4 8 (Enter 3 1 Simple ∷ [])
    ∷ turn 1 (command_to 0 1 0xa4 4) 5 8 (Enter 4 0 Simple ∷ [])
    ∷ at_once 1 (logout_now 1 0xc1 5 2) 5 10 (Leave 2 0 ∷ Leave 1 1 ∷ Send 1 1 (Logout 0xc1 0) ∷ CloseConn 2 ∷ Enable 4 0 ∷ Enable 3 1 ∷ [])
    ∷ [])
unfolding Rules.bars_as
connection_of_two_units = refl

-- those of a unit leave oldest first, and so they do where the session closes; held requests are taken out behind all of them
pub session_of_two_units : Worked (two_units 8) (
    turn 2 (command_to 1 1 0xa1 1) 2 8 (entered 1 1 Simple)
    ∷ turn 1 (command_to 0 1 0xa2 2) 3 8 (entered 2 0 Simple)
    ∷ turn 1 (command_to 1 1 0xa3 3) 4 8 (entered 3 1 Simple)
    ∷ turn 2 (command_to 0 1 0xa4 4) 5 8 (entered 4 0 Simple)
    ∷ is_held 2 (command_to 1 1 0xa8 8) 5 8
    ∷ is_held 1 (command_to 0 1 0xa7 7) 5 8
    ∷ at_once 1 (logout_now 0 0xc1 5 1) 5 12 (
    Leave 2 0 ∷ Leave 4 0 ∷ Leave 1 1 ∷ Leave 3 1 ∷ Empty 7 ∷ Empty 8
    ∷ Send 1 1 (Logout 0xc1 0) ∷ CloseSession ∷ [])
    ∷ [])
unfolding Rules.bars_as
session_of_two_units = refl
