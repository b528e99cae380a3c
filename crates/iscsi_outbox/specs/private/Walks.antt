-- Walks over the effects of an event, as the code takes them. For private contracts alone.
use Rattle.std.specs.Prelude.{◌≡◌, ℕ, ◌==◌, ◌^◌, ◌&&◌, ◌||◌, ◌++◌, not, nat_le, nat_lt, filter, filter_map, slice_index_or, Bool, true, false, List, [], ◌∷◌, Option, Some, None, if◌then◌else◌}
use Rattle.iscsi_wire.specs.declared.request.Request.{Request}
use Rattle.std.specs.List.{list_any}
use Rattle.iscsi_wire.specs.declared.reply.Reply.{Reply}
use Rattle.iscsi_wire.specs.Fields.{connection_of, function, opcode, rtt}
use Rattle.iscsi_wire.specs.Serial.{lift}
use Rattle.iscsi_rules.specs.declared.effect.Numbers.{Numbers}
use Rattle.iscsi_rules.specs.declared.effect.Effect.{Effect}
use Rattle.iscsi_rules.specs.declared.effect.Effect.TheVariants.{CloseConn, CloseSession}
use Rattle.iscsi_rules.specs.promises.Order.{in_parts}
use Rattle.iscsi_rules.specs.rules.Execution.{unit_named}
use Rattle.iscsi_outbox_rules.specs.rules.Items.{ticket_enabled}
use Rattle.iscsi_outbox_state.specs.declared.lane.Aim.{Aim}
use Rattle.iscsi_outbox_state.specs.declared.lane.Aim.TheVariants.{Tag, Unit as AtUnit}
use Rattle.iscsi_tracked.specs.declared.command.Command.{Command}
use Rattle.iscsi_tracked.specs.declared.command.Phase.{Phase}
use Rattle.iscsi_tracked.specs.declared.command.Phase.TheVariants.{Dormant, Fresh, Started, Running, Gone}
use Rattle.iscsi_tracked.specs.Tracked.{find_ticket}
use Rattle.iscsi_outbox_steps.specs.State.{State, place_of}
use Rattle.iscsi_outbox_steps.specs.Steps.{after_items, close_each, enter_command, entering, is_dormant, tell}

abbrev pub is_close : Effect → Bool
is_close (CloseConn conn) = true
is_close CloseSession = true
is_close _ = false

-- the command with this ticket is kept, and its request had a number
abbrev pub is_numbered_of : State → ℕ → Bool
is_numbered_of s ticket = elim (find_ticket ticket s.tracked) [ Some c ↦ c.numbered | None ↦ false ]

-- a command enters by a request
abbrev pub entered_one : Request → ℕ → ℕ → State → State
entered_one r ticket unit s = elim (place_of s (connection_of r)) [ Some conn ↦ enter_command (entering conn r ticket unit) s | None ↦ s ]

-- the command with this ticket has this place, and isn't enabled yet
pub record HasEntered (ticket place : ℕ) (s : State) : Type 0 where
  pub command : Command
  pub found : find_ticket ticket s.tracked ≡ Some command
  pub at : command.place ≡ place
  pub dormant : is_dormant command ≡ true

abbrev pub is_same_phase : Phase → Phase → Bool
is_same_phase Dormant Dormant = true
is_same_phase Fresh Fresh = true
is_same_phase Started Started = true
is_same_phase Running Running = true
is_same_phase Gone Gone = true
is_same_phase _ _ = false

abbrev pub is_in : Phase → Command → Bool
is_in phase c = is_same_phase c.phase phase

-- effects before what is parted already
abbrev pub before_parts : List Effect → List (List Effect) → List (List Effect)
before_parts item [] = item ∷ []
before_parts item (first ∷ rest) = (item ++ first) ∷ rest

-- the effects of an event, but for its numbers
abbrev pub after_event : List Effect → State → State
after_event effects s = tell (filter_map ticket_enabled effects) (after_items (in_parts effects) s)

-- the numbers of an event are noted
abbrev pub numbered_by : Numbers → State → State
numbered_by numbers s = let max = lift s.max numbers.max in record s { exp = numbers.exp; max = if nat_lt max (2 ^ 63) then max else s.max }

-- the connection of a reply is among these
abbrev pub ends_with : List ℕ → Option (ℕ × Reply) → State → Bool
ends_with closes (Some sent) s = elim (place_of s sent.0) [ Some conn ↦ list_any (λ p. p == conn) closes | None ↦ false ]
ends_with closes None s = false

-- of these connections those are closed that weren't before
abbrev pub close_where : ℕ → List Bool → List ℕ → State → State
close_where by before conns s = close_each by (filter (λ conn. not (slice_index_or before conn false)) conns) s

-- what the answer to a task management function is about, if it has to wait
abbrev pub aim_of_function : Request → ℕ → State → Option Aim
aim_of_function r response s =
    if opcode r == 0x02 && function r == 1 && nat_le response 1
    then elim (unit_named s.limits.units r) [ Some unit ↦ Some (Tag (rtt r)) | None ↦ None ]
    else (if opcode r == 0x02 && (function r == 2 || function r == 4 || function r == 5) && response == 0
    then elim (unit_named s.limits.units r) [ Some unit ↦ Some (AtUnit unit) | None ↦ None ]
    else None)
