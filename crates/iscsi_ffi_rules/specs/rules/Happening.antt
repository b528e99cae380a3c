-- An event of the session, and what the target is told of it.
use Rattle.std.specs.Prelude.{ℕ, zero, suc, ◌==◌, ◌&&◌, ◌||◌, not, Bool, false, List, [], ◌∷◌, ◌++◌, length, map, filter, filter_map, Option, Some, None, if◌then◌else◌}
use Rattle.std.specs.List.{find, flat_map, list_any}
use Rattle.iscsi_wire.specs.declared.reply.Reply.{Reply}
use Rattle.iscsi_wire.specs.declared.reply.Reply.TheVariants.{Task as TaskReply}
use Rattle.iscsi_wire.specs.declared.request.Request.{Request}
use Rattle.iscsi_wire.specs.Fields.{opcode, function}
use Rattle.iscsi_rules.specs.declared.event.Event.{Event}
use Rattle.iscsi_rules.specs.declared.event.Event.TheVariants.{Done}
use Rattle.iscsi_rules.specs.declared.effect.Effect.{Effect}
use Rattle.iscsi_rules.specs.rules.Trace.{Arrival, Command, Mark, Leaves, Trace, live}
use Rattle.iscsi_rules.specs.rules.Execution.{unit_named}
use Rattle.iscsi_rules.specs.rules.Agenda.{items_of}
use Rattle.iscsi_rules.specs.rules.Run.{entry_of}
use Rattle.iscsi_rules.specs.promises.Replies.{answered_in, executed_in, reply_sent}
use Rattle.iscsi_outbox_rules.specs.rules.Calls.{Opening, Call as OutboxCall}
use Rattle.iscsi_outbox_rules.specs.rules.Words.{contains}
use Rattle.iscsi_outbox_rules.specs.rules.Items.{ticket_enabled}
use Rattle.iscsi_outbox_rules.specs.promises.Room.{Happens, Other, after_step}
use Rattle.iscsi_ffi_rules.specs.declared.action.Action.{Action}
use Rattle.iscsi_ffi_rules.specs.declared.action.Action.TheVariants.{Start, Stop, Reset}
use Rattle.iscsi_ffi_rules.specs.declared.action.StopReason.{StopReason}
use Rattle.iscsi_ffi_rules.specs.declared.action.StopReason.TheVariants.{Aborted, LoggedOut, Lost}
use Rattle.iscsi_ffi_rules.specs.rules.Calls.{Interface}
use Rattle.iscsi_ffi_rules.specs.rules.Sides.{Asked, Side, cookie_of}
use Rattle.iscsi_ffi_rules.specs.rules.Clearing.{is_marked, is_withheld, next_withheld, status_of}

-- a state, and what was told on the way to it
pub record Told : Type 0 where
  pub side : Side
  pub actions : List Action

-- ---- replies

-- what an item answers: the request that executes in it, or that of the command that completes; else, for its opcode, the one that
-- arrives in this event
abbrev pub answered_event : ℕ → List Mark → ℕ
answered_event event item = elim (answered_in item) [ Some a ↦ a.event | None ↦ event ]

abbrev pub answers_in : ℕ → List Mark → List ℕ
answers_in event item = map (λ (r : Reply). answered_event event item) (filter_map reply_sent item)

-- ---- what stops

abbrev pub leaving : Mark → Option Command
leaving (Leaves c) = Some c
leaving _ = None

-- the request is one of the caller's: a Logout that isn't tells the session that a connection was lost
abbrev pub is_asked : List Asked → ℕ → Bool
is_asked asked event = list_any (λ (a : Asked). a.event == event) asked

abbrev pub reason_of : List Asked → Arrival → StopReason
reason_of asked a = if opcode a.request == 0x06 then (if is_asked asked a.event then LoggedOut else Lost) else Aborted

-- it was told to start, and wasn't told to stop
abbrev pub is_started : Side → Command → Bool
is_started s c = contains s.told c.ticket && not (is_marked s c)

abbrev pub stop : Side → StopReason → Command → Action
stop s why c = Stop c.ticket (cookie_of s.asked c.arrival.event) why

-- the commands that leave as a request executes
abbrev pub stops_in : Side → List Mark → List Action
stops_in s item = elim (executed_in item) [ Some a ↦ map (stop s (reason_of s.asked a)) (filter (is_started s) (filter_map leaving item)) | None ↦ [] ]

-- ---- resets that other sessions' commands wait for

abbrev pub is_complete : Reply → Bool
is_complete (TaskReply tag response) = response == 0
is_complete _ = false

abbrev pub is_reset : Request → Bool
is_reset r = opcode r == 0x02 && (function r == 4 || function r == 5)

abbrev pub reset : ℕ → Request → List Action
reset units r = elim (unit_named units r) [ Some unit ↦ Reset unit (function r) ∷ [] | None ↦ [] ]

abbrev pub resets_in : Opening → List Mark → List Action
resets_in o item = elim (executed_in item) [
  | Some a ↦ if o.shared && is_reset a.request && list_any is_complete (filter_map reply_sent item) then reset o.session.units a.request else []
  | None ↦ []
]

-- ---- what starts

abbrev pub live_with : Trace → ℕ → Option Command
live_with t ticket = find (λ (c : Command). c.ticket == ticket) (live t)

-- the commands that the event enabled, are live at its end, and aren't withheld
abbrev pub starting : Side → List Effect → List Command
starting s effects = filter (λ (c : Command). not (is_withheld s c)) (filter_map (live_with s.both.trace) (filter_map ticket_enabled effects))

abbrev pub start : Side → Command → Action
start s c = Start c.ticket c.unit c.attr (cookie_of s.asked c.arrival.event)

-- ---- the event

abbrev pub stepped : Interface → Side → Event → Side
stepped i s e = record s {
  both = after_step i.outbox s.both (Happens e);
  answers = s.answers ++ flat_map (answers_in s.both.event) (items_of i.outbox.session s.both.event s.both.trace e);
}

abbrev pub happening : Interface → Side → Event → Told
happening i s e =
    let items = items_of i.outbox.session s.both.event s.both.trace e in
    let s' = stepped i s e in
    let started = starting s' (entry_of i.outbox.session s.both.event s.both.trace e).effects in
    record {
      side = record s' { told = s'.told ++ map (λ (c : Command). c.ticket) started };
      actions = flat_map (stops_in s) items ++ flat_map (resets_in i.outbox) items ++ map (start s') started;
    }

-- so many commands that are withheld are completed, one after the other
abbrev pub withholding : Interface → ℕ → Told → Told
withholding i zero w = w
withholding i (suc n) w = elim (next_withheld w.side) [
  | Some c ↦ let h = happening i w.side (Done c.ticket (status_of w.side c)) in withholding i n (record { side = h.side; actions = w.actions ++ h.actions })
  | None ↦ w
]

-- all that are
abbrev pub withheld : Interface → Told → Told
withheld i w = withholding i (length (live w.side.both.trace)) w

abbrev pub happens : Interface → Side → Event → Told
happens i s e = withheld i (happening i s e)

-- a call of the outbox that takes no event
abbrev pub other : Interface → Side → OutboxCall → Side
other i s c = record s { both = after_step i.outbox s.both (Other c) }

abbrev pub quiet : Side → Told
quiet s = record { side = s; actions = [] }
