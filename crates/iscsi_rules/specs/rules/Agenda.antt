-- The items of an event: what arrives, and what becomes due by it.
use Rattle.std.specs.Prelude.{ℕ, ◌-◌, ◌==◌, ◌&&◌, ◌||◌, nat_lt, List, [], ◌∷◌, Option, if◌then◌else◌, filter, Bool, true}
use Rattle.iscsi_wire.specs.declared.request.Request.{Request}
use Rattle.iscsi_wire.specs.Serial.{lift}
use Rattle.iscsi_wire.specs.Fields.{request_of, connection_of, is_immediate, opcode, cmd_sn}
use Rattle.iscsi_rules.specs.declared.effect.Why.TheVariants.{Outside, Duplicate, Closed, Data}
use Rattle.iscsi_rules.specs.declared.event.Event.{Event}
use Rattle.iscsi_rules.specs.declared.kind.Kind.{Kind}
use Rattle.iscsi_rules.specs.declared.kind.Kind.TheVariants.{PassedOver, Unknown, Executes as ExecutesKind}
use Rattle.iscsi_rules.specs.declared.event.Event.TheVariants.{Arrive, Done}
use Rattle.iscsi_rules.specs.rules.Settings.{Setting, is_known}
use Rattle.iscsi_rules.specs.rules.Trace.{Arrival, Command, Mark, Admits, Trace, first_of, is_received, live, was_free, is_closed}
use Rattle.iscsi_rules.specs.rules.Execution.{exp_of, max_of, rejected, ignored, completion}
use Rattle.iscsi_rules.specs.rules.Items.{immediate_item, agenda}

-- an item, and the agenda that it makes due
abbrev pub with_turns : Setting → Trace → List Mark → List (List Mark)
with_turns o t item = let t' = item ∷ t in item ∷ agenda o (exp_of o t) (exp_of o t' - exp_of o t) t'

-- a numbered request
-- rules: arrival/outside, arrival/duplicate, arrival/held
abbrev pub numbered : Setting → Trace → Arrival → List (List Mark)
numbered o t a =
    if nat_lt a.number (exp_of o t) || nat_lt (max_of o t) a.number then ignored Outside
    else (if is_received t a.number then ignored Duplicate
    else with_turns o t (Admits a ∷ []))

-- what becomes of a request by its opcode: Data-Out and SNACK are passed over
abbrev pub kind_of : Request → Kind
kind_of r =
    if opcode r == 0x05 || opcode r == 0x10 then PassedOver
    else (if opcode r == 0x00 || opcode r == 0x01 || opcode r == 0x02 || opcode r == 0x04 || opcode r == 0x06 then ExecutesKind
    else Unknown)

-- rules: arrival/data, arrival/unknown-opcode, arrival/immediate
abbrev pub arrival_as : Setting → Trace → Arrival → Kind → List (List Mark)
arrival_as o t a PassedOver = ignored Data
arrival_as o t a Unknown = rejected a ∷ []
arrival_as o t a ExecutesKind = if is_immediate a.request then with_turns o t (immediate_item o t a) else numbered o t a

-- the items of an arrival on a connection that isn't closed
abbrev pub arrival_open : Setting → Trace → Arrival → List (List Mark)
arrival_open o t a = arrival_as o t a (kind_of a.request)

-- the items of an arrival
-- rule: arrival/closed
abbrev pub arrival : Setting → Trace → Arrival → List (List Mark)
arrival o t a = if is_closed (connection_of a.request) t then ignored Closed else arrival_open o t a

-- the arrival of a request in the event-th event
abbrev pub arrival_of : Setting → ℕ → Trace → Request → Arrival
arrival_of o event t r = record { event = event; number = lift (exp_of o t) (cmd_sn r); request = r }

-- the enabled command with this ticket
abbrev pub command_of : Trace → ℕ → Option Command
command_of t ticket = first_of (filter (λ c. c.ticket == ticket && was_free c t) (live t))

-- the items of an event, the event-th of the history
abbrev pub items_of : Setting → ℕ → Trace → Event → List (List Mark)
items_of o event t (Arrive conn header) = arrival o t (arrival_of o event t (request_of conn header))
items_of o event t (Done ticket status) = completion status (command_of t ticket)

-- an arrival comes on a connection of the session
abbrev pub belongs : Setting → Event → Bool
belongs o (Arrive conn header) = is_known conn o.conns
belongs o (Done ticket status) = true
