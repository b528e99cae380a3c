-- The rules of a session as a state machine (RFC 7143, SAM-5): its state, what each event does, and its run. A transition gives
-- items, and an item is a list of marks in their order, by which the state goes on. At the end of an item commands become enabled.
use Rattle.std.specs.Prelude.{ℕ, ◌+◌, ◌-◌, ◌==◌, ◌&&◌, ◌||◌, not, Bool, true, false, nat_lt, nat_le, List, [], ◌∷◌, ◌++◌, length, map, Option, Some, None, option_map, if◌then◌else◌, filter, count_by}
use Rattle.std.specs.List.{list_any, list_all, flat_map, range_with_len}
use Rattle.iscsi_wire.specs.declared.reply.Reply.TheVariants.{Scsi}
use Rattle.iscsi_wire.specs.Serial.{wire, lift, number_of_first}
use Rattle.iscsi_wire.specs.Fields.{request_of, connection_of, is_immediate, opcode, attr_code, itt, rtt, cid, cmd_sn, ref_cmd_sn}
use Rattle.iscsi_tasks.specs.Rules.{is_free}
use Rattle.iscsi_rules.specs.declared.deed.Deed.{Deed}
use Rattle.iscsi_rules.specs.declared.deed.Deed.TheVariants.{Nothing, Wait as ToWait, Reply as Replies, Enter as EnterUnit, Void as VoidNumber, Empty as EmptyNumber, Abort, AbortEarlier, AbortAll, CloseConn as Closes, CloseSession as Ends}
use Rattle.iscsi_rules.specs.declared.effect.Effect.{Effect}
use Rattle.iscsi_rules.specs.declared.effect.Effect.TheVariants.{Deliver, Immediate, Wait, Void, Empty, Enter, Enable, Leave, Send, CloseConn, CloseSession, Ignore}
use Rattle.iscsi_rules.specs.declared.effect.Why.TheVariants.{Outside, Duplicate, Closed, Data, Stale}
use Rattle.iscsi_rules.specs.declared.entry.Entry.{Entry}
use Rattle.iscsi_rules.specs.declared.event.Event.{Event}
use Rattle.iscsi_rules.specs.declared.event.Event.TheVariants.{Arrive, Done}
use Rattle.iscsi_rules.specs.declared.kind.Kind.{Kind}
use Rattle.iscsi_rules.specs.declared.kind.Kind.TheVariants.{PassedOver, Unknown, Executes as ExecutesKind}
use Rattle.iscsi_rules.specs.rules.Settings.{Setting, is_known}
use Rattle.iscsi_rules.specs.rules.Trace.{Arrival, Command, Mark, Admits, Delivers, Executes, Voids, Empties, Waits, Leaves, Enters, Sends, ClosesConn, ClosesSession, Ignores, first_of, contains, queued_of}
use Rattle.iscsi_rules.specs.rules.Execution.{MOST_IMMEDIATE, attr_of, unit_named, reply_of, reply_on, rejected, sense_of_status}
use Rattle.iscsi_rules.specs.rules.Management.{may_wait, refusal_of_function, by_its_number, answer, is_to, is_before}
use Rattle.iscsi_rules.specs.rules.Logout.{parting}
use Rattle.iscsi_rules.specs.rules.Deeds.{Facts, of_unit, if_found, function_deed, deed_of}
use Rattle.iscsi_rules.specs.rules.Agenda.{kind_of}
use Rattle.iscsi_rules.specs.rules.Run.{first_stat_sn}

-- ---- the state

-- a command in the task set of its unit, and whether it is enabled
pub record Member : Type 0 where
  pub command : Command
  pub enabled : Bool

-- numbers have no bound: the wire shows their low 32 bits
pub record State : Type 0 where
  pub exp : ℕ  -- ExpCmdSN
  pub above : List ℕ  -- the numbers above it that are received, ascending
  pub held : List Arrival  -- the requests whose turn hasn't come, by their numbers
  pub waiting : List Arrival  -- the functions that wait for lower numbers, in order of arrival
  pub live : List Member  -- the commands in task sets, oldest first
  pub entered : ℕ  -- how many commands ever entered one
  pub closed : List ℕ  -- the connections that are closed
  pub over : Bool  -- the session is closed
  pub stat_sn : ℕ → ℕ  -- of each connection, the StatSN of its next reply
  pub event : ℕ  -- how many events came before

abbrev pub start : Setting → State
start o = record { exp = number_of_first o.first; above = []; held = []; waiting = []; live = []; entered = 0; closed = []; over = false; stat_sn = first_stat_sn o; event = 0 }

abbrev pub commands : State → List Command
commands s = map (λ m. m.command) s.live

abbrev pub live_in : ℕ → State → List Command
live_in unit s = filter (λ c. c.unit == unit) (commands s)

-- a numbered command that is live takes one place of the window
abbrev pub max_of : Setting → State → ℕ
max_of o s = s.exp + o.window - 1 - count_by (λ c. not (is_immediate c.arrival.request)) (commands s)

abbrev pub is_closed : ℕ → State → Bool
is_closed conn s = s.over || contains s.closed conn

-- ---- what a mark does to the state

-- one element more of an ascending list
abbrev pub inserted : {A : Type 0} → (A → ℕ) → A → List A → List A
inserted place x [] = x ∷ []
inserted place x (y ∷ ys) = if nat_lt (place x) (place y) then x ∷ y ∷ ys else y ∷ inserted place x ys

-- ExpCmdSN goes on past the numbers that follow it
abbrev pub past : ℕ → List ℕ → ℕ
past e [] = e
past e (n ∷ ns) = past (if n == e then e + 1 else e) ns

-- a number is received
abbrev pub receives : ℕ → State → State
receives n s = let ns = inserted (λ k. k) n s.above in let e = past s.exp ns in record s { exp = e; above = filter (nat_lt e) ns }

abbrev pub after_mark : State → Mark → State
after_mark s (Admits a) = record (receives a.number s) { held = inserted (λ h. h.number) a s.held }
after_mark s (Delivers a) = record s { held = filter (λ h. not (a.number == h.number)) s.held }
after_mark s (Executes a) = record s { waiting = filter (λ b. not (b.event == a.event)) s.waiting }
after_mark s (Voids n) = receives n s
after_mark s (Empties a) = record s { held = filter (λ h. not (a.number == h.number)) s.held }
after_mark s (Waits a) = record s { waiting = s.waiting ++ a ∷ [] }
after_mark s (Leaves c) = record s { live = filter (λ m. not (c.ticket == m.command.ticket)) s.live }
after_mark s (Enters c) = record s { live = s.live ++ record { command = c; enabled = false } ∷ []; entered = s.entered + 1 }
after_mark s (Sends conn reply) = record s { stat_sn = λ k. if conn == k then s.stat_sn k + 1 else s.stat_sn k }
after_mark s (ClosesConn conn) = record s { closed = conn ∷ s.closed; waiting = filter (λ b. not (connection_of b.request == conn)) s.waiting }
after_mark s ClosesSession = record s { over = true; waiting = [] }
after_mark s (Ignores why) = s

abbrev pub after_marks : State → List Mark → State
after_marks s [] = s
after_marks s (m ∷ ms) = after_marks (after_mark s m) ms

-- ---- what an item does, and what is told of it

-- nothing in its unit's set bars it (SAM-5 section 8)
abbrev pub is_free_now : State → Command → Bool
is_free_now s c = is_free (queued_of c) (map queued_of (live_in c.unit s))

-- what is free is enabled from now on
abbrev pub moment : State → State
moment s = record s { live = map (λ (m : Member). record { command = m.command; enabled = is_free_now s m.command || m.enabled }) s.live }

-- those for which this is new: units ascending, oldest first
abbrev pub newly_enabled : Setting → State → List Command
newly_enabled o s = flat_map (λ unit. map (λ m. m.command) (filter (λ m. m.command.unit == unit && is_free_now s m.command && not m.enabled) s.live)) (range_with_len 0 o.units)

abbrev pub effects_of_mark : State → Mark → List Effect
effects_of_mark s (Admits a) = []
effects_of_mark s (Delivers a) = Deliver a.request ∷ []
effects_of_mark s (Executes a) = Immediate a.request ∷ []
effects_of_mark s (Waits a) = Wait a.request ∷ []
effects_of_mark s (Voids n) = Void (wire n) ∷ []
effects_of_mark s (Empties a) = Empty (wire a.number) ∷ []
effects_of_mark s (Leaves c) = Leave c.ticket c.unit ∷ []
effects_of_mark s (Enters c) = Enter c.ticket c.unit c.attr ∷ []
effects_of_mark s (Sends conn reply) = Send conn (wire (s.stat_sn conn)) reply ∷ []
effects_of_mark s (ClosesConn conn) = CloseConn conn ∷ []
effects_of_mark s ClosesSession = CloseSession ∷ []
effects_of_mark s (Ignores why) = Ignore why ∷ []

-- a state in an event, and the effects of the event so far
pub record Stage : Type 0 where
  pub state : State
  pub effects : List Effect

-- an item: its marks, each reply with the StatSN that was next, and at its end what becomes enabled
abbrev pub does : Setting → List Mark → Stage → Stage
does o item d =
    let s = after_marks d.state item in
    record { state = moment s; effects = d.effects ++ (flat_map (effects_of_mark d.state) item ++ map (λ (c : Command). Enable c.ticket c.unit) (newly_enabled o s)) }

-- ---- what is found as a request executes. The tables of deeds (Deeds.antt) say by it what the request does

-- the live command of a unit with this tag
abbrev pub live_with_tag : State → ℕ → ℕ → Option Command
live_with_tag s tag unit = first_of (filter (λ c. itt c.arrival.request == tag) (live_in unit s))

-- the lowest SCSI Command with this tag and unit that is held for its turn, of a number below
abbrev pub held_command : Setting → State → ℕ → ℕ → ℕ → Option Arrival
held_command o s tag unit below = first_of (filter (λ h. nat_lt h.number below && opcode h.request == 0x01 && itt h.request == tag && is_to o unit h.request) (filter (λ h. nat_le s.exp h.number) s.held))

-- the live immediate commands of a connection
abbrev pub live_immediate : ℕ → State → ℕ
live_immediate conn s = count_by (λ c. is_immediate c.arrival.request && connection_of c.arrival.request == conn) (commands s)

abbrev pub facts_of : Setting → State → Arrival → Facts
facts_of o s a = record {
  level = o.level;
  unit = unit_named o.units a.request;
  is_used = list_any (λ c. itt c.arrival.request == itt a.request) (commands s);
  is_crowded = is_immediate a.request && nat_le MOST_IMMEDIATE (live_immediate (connection_of a.request) s);
  is_full = of_unit (unit_named o.units a.request) false (λ unit. nat_le o.depth (length (live_in unit s)));
  has_commands = of_unit (unit_named o.units a.request) false (λ unit. list_any (λ c. true) (live_in unit s));
  live = of_unit (unit_named o.units a.request) None (λ unit. option_map (λ (c : Command). c.ticket) (live_with_tag s (rtt a.request) unit));
  held = of_unit (unit_named o.units a.request) None (λ unit. option_map (λ (h : Arrival). wire h.number) (held_command o s (rtt a.request) unit a.number));
  is_missing = let n = lift s.exp (ref_cmd_sn a.request) in is_immediate a.request && nat_le s.exp n && nat_le n (max_of o s) && nat_lt n a.number;
  is_open = is_known (cid a.request) o.conns && not (is_closed (cid a.request) s);
}

-- ---- what is done

abbrev pub abort_all : State → Arrival → ℕ → (Command → Bool) → List Mark
abort_all s a unit covers = map Leaves (filter covers (live_in unit s)) ++ answer a 0

-- the commands and the held requests of these connections are taken out, units ascending, oldest and lowest first
abbrev pub taken_out : Setting → State → (ℕ → Bool) → List Mark
taken_out o s of_these =
    map Leaves (filter (λ (c : Command). of_these (connection_of c.arrival.request)) (flat_map (λ unit. live_in unit s) (range_with_len 0 o.units)))
    ++ map Empties (filter (λ (a : Arrival). of_these (connection_of a.request)) s.held)

-- all others are closed
abbrev pub is_last_open : Setting → State → ℕ → Bool
is_last_open o s conn = list_all (λ c. (c.0 == conn) || is_closed c.0 s) o.conns

-- each function and Logout Request that takes something out, or closes something, is answered behind it. Tickets go up by one
abbrev pub deed_marks : Setting → State → Arrival → Deed → List Mark
deed_marks o s a Nothing = []
deed_marks o s a ToWait = []
deed_marks o s a (Replies x) = reply_on a (reply_of a.request x)
deed_marks o s a (EnterUnit unit) = Enters (record { ticket = s.entered + 1; unit = unit; attr = attr_of (attr_code a.request); arrival = a }) ∷ []
deed_marks o s a VoidNumber = let n = lift s.exp (ref_cmd_sn a.request) in (if contains s.above n then [] else Voids n ∷ []) ++ answer a 0
deed_marks o s a (EmptyNumber unit sn) = if_found Empties (held_command o s (rtt a.request) unit a.number) ++ answer a 0
deed_marks o s a (Abort unit ticket) = if_found Leaves (live_with_tag s (rtt a.request) unit) ++ answer a 0
deed_marks o s a (AbortEarlier unit) = abort_all s a unit (is_before a)
deed_marks o s a (AbortAll unit) = abort_all s a unit (λ c. true)
deed_marks o s a (Closes closing) = taken_out o s (λ conn. conn == closing) ++ parting a 0 ++ ClosesConn closing ∷ (if is_last_open o s closing then ClosesSession ∷ [] else [])
deed_marks o s a Ends = taken_out o s (λ conn. true) ++ parting a 0 ++ ClosesSession ∷ []

-- ---- what executes

abbrev pub marks_after : Setting → State → Arrival → List Mark
marks_after o s a = deed_marks o s a (deed_of (facts_of o s a) a.request)

-- a function that isn't refused
abbrev pub function_marks : Setting → State → Arrival → List Mark
function_marks o s a = deed_marks o s a (function_deed (facts_of o s a) a.request)

-- the item of a request that executes, which begins with this mark
abbrev pub execution : Setting → State → Mark → Arrival → List Mark
execution o s mark a = mark ∷ marks_after o (after_mark s mark) a

-- an immediate function over a whole set: it is too far ahead, or executes, or too many wait, or it waits
abbrev pub waiting_item : Setting → State → Arrival → List Mark
waiting_item o s a =
    by_its_number a.number s.exp (max_of o s + 1) (count_by (λ b. connection_of b.request == connection_of a.request) s.waiting) (λ x. Executes a ∷ reply_on a (reply_of a.request x)) (execution o s (Executes a) a) (Waits a ∷ [])

-- an immediate request at its arrival
abbrev pub immediate_item : Setting → State → Arrival → List Mark
immediate_item o s a =
    if opcode a.request == 0x02 && may_wait a.request
    then elim (refusal_of_function o a.request) [ Some reply ↦ execution o s (Executes a) a | None ↦ waiting_item o s a ]
    else execution o s (Executes a) a

-- ---- turns

-- functions that waited, where they wait still
abbrev pub functions : Setting → List Arrival → Stage → Stage
functions o [] d = d
functions o (a ∷ as') d =
    functions o as' (if list_any (λ b. b.event == a.event) d.state.waiting then does o (Executes a ∷ function_marks o (after_mark d.state (Executes a)) a) d else d)

-- those that wait for this number
abbrev pub functions_at : Setting → ℕ → Stage → Stage
functions_at o n d = functions o (filter (λ a. a.number == n) d.state.waiting) d

-- the request that is held at this number
abbrev pub turn_at : Setting → ℕ → Stage → Stage
turn_at o n d = elim (first_of (filter (λ h. h.number == n) d.state.held)) [ Some a ↦ does o (execution o d.state (Delivers a) a) d | None ↦ d ]

-- numbers one after the other
abbrev pub turns : Setting → List ℕ → Stage → Stage
turns o [] d = d
turns o (n ∷ ns) d = turns o ns (turn_at o n (functions_at o n d))

-- an item, the turns of the numbers that ExpCmdSN went past by it, and the functions that wait for the number that it has now
abbrev pub with_turns : Setting → List Mark → Stage → Stage
with_turns o item d = let d' = does o item d in let e = d'.state.exp in functions_at o e (turns o (range_with_len d.state.exp (e - d.state.exp)) d')

-- ---- arrivals and completions

-- a numbered request: outside the window, received already, or held until its turn, which may come at once
abbrev pub numbered : Setting → Arrival → Stage → Stage
numbered o a d =
    if nat_lt a.number d.state.exp || nat_lt (max_of o d.state) a.number then does o (Ignores Outside ∷ []) d
    else (if contains d.state.above a.number then does o (Ignores Duplicate ∷ []) d
    else with_turns o (Admits a ∷ []) d)

-- Data-Out and SNACK are passed over; what doesn't execute otherwise is rejected, and no number is looked at
abbrev pub arrival_as : Setting → Arrival → Kind → Stage → Stage
arrival_as o a PassedOver d = does o (Ignores Data ∷ []) d
arrival_as o a Unknown d = does o (rejected a) d
arrival_as o a ExecutesKind d = if is_immediate a.request then with_turns o (immediate_item o d.state a) d else numbered o a d

abbrev pub arrival : Setting → Arrival → Stage → Stage
arrival o a d = if is_closed (connection_of a.request) d.state then does o (Ignores Closed ∷ []) d else arrival_as o a (kind_of a.request) d

-- a unit completes a command: only an enabled one can be meant
abbrev pub completed : Setting → ℕ → Option Command → Stage → Stage
completed o status None d = does o (Ignores Stale ∷ []) d
completed o status (Some c) d = does o (Leaves c ∷ reply_on c.arrival (Scsi (itt c.arrival.request) status (sense_of_status status))) d

abbrev pub after_event : Setting → Event → Stage → Stage
after_event o (Arrive conn header) d = let r = request_of conn header in arrival o (record { event = d.state.event; number = lift d.state.exp (cmd_sn r); request = r }) d
after_event o (Done ticket status) d = completed o status (first_of (map (λ m. m.command) (filter (λ m. m.command.ticket == ticket && m.enabled) d.state.live))) d

-- ---- the run

-- one entry for each event
abbrev pub run_from : Setting → State → List Event → List Entry
run_from o s [] = []
run_from o s (e ∷ es) =
    let d = after_event o e (record { state = s; effects = [] }) in
    record { numbers = record { exp = wire d.state.exp; max = wire (max_of o d.state) }; effects = d.effects } ∷ run_from o (record d.state { event = s.event + 1 }) es

abbrev pub machine_run : Setting → List Event → List Entry
machine_run o h = run_from o (start o) h
