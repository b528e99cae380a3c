-- When a session stands for a list of events.
use Rattle.std.specs.Prelude.{◌≡◌, ℕ, pos, ◌-ℤ◌, ◌+◌, ◌<◌, ◌≤◌, ◌==◌, ◌&&◌, not, Bool, true, false, List, [], ◌∷◌, length, map, filter, nat_lt, nat_le, Option, Some, None, option_map, slice_index_or, if◌then◌else◌}
use Rattle.std.specs.List.{list_all}
use Rattle.iscsi_wire.specs.declared.request.Request.{Request}
use Rattle.iscsi_wire.specs.Serial.{wire, number_of_first}
use Rattle.iscsi_wire.specs.Fields.{connection_of, is_immediate, itt, cmd_sn}
use Rattle.iscsi_window.specs.declared.held_request.HeldRequest.{HeldRequest}
use Rattle.iscsi_window.specs.Received.{Arrived, number_expected}
pub use Rattle.iscsi_window.specs.Received.{is_held}
use Rattle.iscsi_tasks.specs.declared.task.Task.{Task}
use Rattle.iscsi_tasks.specs.declared.member.Member.{Member}
use Rattle.iscsi_tasks.specs.Sets.{Members, opened}
use Rattle.iscsi_rules.specs.declared.event.Event.{Event}
use Rattle.iscsi_commands.specs.declared.live.Live.{Live}
use Rattle.iscsi_session.specs.declared.session.waiting.Waiting.{Waiting}
use Rattle.iscsi_rules.specs.rules.Settings.{Setting, is_known}
use Rattle.iscsi_rules.specs.rules.Trace.{Arrival, Command, Trace, has, shown, waiting, held, admitted, is_received, is_delivered, is_emptied, entered, live, live_in, was_free, is_among, leaves_ticket, are_apart}
use Rattle.iscsi_rules.specs.rules.Execution.{unfinished}
use Rattle.iscsi_rules.specs.rules.Management.{may_wait}
use Rattle.iscsi_rules.specs.rules.Logout.{is_open}
use Rattle.iscsi_rules.specs.rules.Agenda.{belongs}
use Rattle.iscsi_rules.specs.rules.Run.{trace_of, stat_sn_of}
use Rattle.iscsi_rules.specs.promises.Executed.{executed_below, delivers}
use Rattle.iscsi_rules.specs.promises.Enabling.{EnabledSoFar}
pub use Rattle.iscsi_connections.specs.Connected.{stat_sn_on}

-- what a session keeps
pub record Core : Type 0 where
  pub window : Arrived
  pub events : ℕ
  pub conns : List (ℕ × ℕ)  -- the CID and the next StatSN of each connection
  pub entered : ℕ  -- the commands that ever entered a set
  pub taken : ℕ  -- the events
  pub live : List Live
  pub sets : List Members  -- the task set of each unit
  pub depth : ℕ  -- as many commands make one full
  pub level : ℕ
  pub waiting : List Waiting  -- the functions that wait, in order of arrival
  pub open_conns : List ℕ  -- the connections that aren't closed

-- what a window holds of a request that came
abbrev pub held_of : Arrival → HeldRequest
held_of a = record { request = a.request; event = a.event }

-- what it keeps of a number
abbrev pub place_of : Trace → ℕ → Option (Option HeldRequest)
place_of t n = if is_received t n then Some (option_map held_of (held t n)) else None

-- the request that is held at the place is numbered, and came on one of the connections
abbrev pub is_place_known : List (ℕ × ℕ) → Option (Option HeldRequest) → Bool
is_place_known conns (Some (Some h)) = not (is_immediate h.request) && is_known (connection_of h.request) conns
is_place_known conns _ = true

-- what is kept of a live command
abbrev pub kept : Command → Live
kept c = record { ticket = c.ticket; unit = c.unit; conn = connection_of c.arrival.request; itt = itt c.arrival.request; immediate = is_immediate c.arrival.request }

-- each command came on one of the connections
abbrev pub are_known : List Live → List (ℕ × ℕ) → Bool
are_known lives conns = list_all (λ l. is_known l.conn conns) lives

-- a request of this number came on a connection of the session, and carries the number
pub record IsRegularRequest (o : Setting) (n : ℕ) (r : Request) : Type 0 where
  pub numbered : is_immediate r ≡ false
  pub known : is_known (connection_of r) o.conns ≡ true
  pub shows : wire (cmd_sn r) ≡ wire n

-- the command is in a unit of the session, and came on one of its connections
abbrev pub is_regular : Setting → Command → Bool
is_regular o c = nat_lt c.unit o.units && is_known (connection_of c.arrival.request) o.conns

-- a command as its set sees it. The order of arrival counts for immediate commands alone
abbrev pub task_of : Setting → Command → Task
task_of o c = record {
  ticket = c.ticket;
  conn = connection_of c.arrival.request;
  itt = itt c.arrival.request;
  attr = c.attr;
  immediate = is_immediate c.arrival.request;
  pos = pos c.arrival.number -ℤ pos (number_of_first o.first);
  event = if is_immediate c.arrival.request then c.arrival.event else 0;
}

-- a member of its set: once it was free it is enabled, and its unit was told
abbrev pub member_of : Setting → Trace → Command → Member
member_of o t c = record { task = task_of o c; enabled = was_free c t; given = was_free c t }

-- the set of a unit
abbrev pub set_of : Setting → Trace → ℕ → List Member
set_of o t unit = map (member_of o t) (live_in unit t)

-- the tickets that a set has, and those of the live commands of a unit
abbrev pub tickets_of : Members → List ℕ
tickets_of set = map (λ m. m.task.ticket) set.list

abbrev pub tickets_in : ℕ → List Live → List ℕ
tickets_in unit live = map (λ l. l.ticket) (filter (λ l. l.unit == unit) live)

-- the sets have the live commands
abbrev pub Match : List Members → List Live → Type 0
Match sets live = (unit : ℕ) → unit < length sets → tickets_of (slice_index_or sets unit (opened 0)) ≡ tickets_in unit live

-- each set has room for as many as make it full, or for as many as may be live
abbrev pub AreRoomy : ℕ → ℕ → List Members → Type 0
AreRoomy depth most sets = (unit n : ℕ) → unit < length sets → n < depth → n < most → n < (slice_index_or sets unit (opened 0)).depth

-- tickets go up
abbrev pub are_ascending : List Live → Bool
are_ascending [] = true
are_ascending (l ∷ ls) = list_all (λ m. nat_lt l.ticket m.ticket) ls && are_ascending ls

abbrev pub are_within : ℕ → ℕ → List Live → Bool
are_within entered units live = list_all (λ l. nat_le l.ticket entered && nat_lt l.unit units) live

-- ---- a session agrees with what has happened, where some turns may be due yet

-- its window
pub record WindowAgrees (o : Setting) (w : Arrived) (t : Trace) : Type 0 where
  pub first : w.first ≡ o.first
  pub size : length w.places ≡ o.window
  -- received are all numbers before the next, and those that the window keeps
  pub below : (n : ℕ) → number_of_first o.first ≤ n → n < number_expected w → is_received t n ≡ true
  pub inside : (k : ℕ) → k < length w.places → slice_index_or w.places k None ≡ place_of t (number_expected w + k)
  pub above : (n : ℕ) → number_expected w + length w.places ≤ n → is_received t n ≡ false
  -- those before the next had their turn, and nothing is held there
  pub past : (n : ℕ) → n < number_expected w → held t n ≡ None
  pub undelivered : (n : ℕ) → number_expected w ≤ n → is_delivered t n ≡ false
  -- what was taken out was received
  pub unemptied : (n : ℕ) → is_received t n ≡ false → is_emptied t n ≡ false
  pub requests : (n : ℕ) (a : Arrival) → admitted t n ≡ Some a → IsRegularRequest o n a.request
  pub delivered : shown delivers t ≡ executed_below o t (number_expected w)
  -- a live numbered command takes a place at the window's end
  pub few : w.unfinished ≤ length w.places
  pub free : (k : ℕ) → length w.places ≤ k + w.unfinished → slice_index_or w.places k None ≡ None

-- a function that waits: its number is so much above the first one
abbrev pub arrival_waiting : ℕ → Waiting → Arrival
arrival_waiting first w = record { event = w.event; number = number_of_first first + w.turn; request = w.request }

-- its functions that wait: functions over a whole set
pub record WaitingAgrees (o : Setting) (waits : List Waiting) (t : Trace) : Type 0 where
  pub list : waiting t ≡ map (arrival_waiting o.first) waits
  pub may : list_all (λ w. may_wait w.request) waits ≡ true
  pub known : list_all (λ w. is_known (connection_of w.request) o.conns) waits ≡ true

-- its connections
pub record RepliesAgree (o : Setting) (conns : List (ℕ × ℕ)) (t : Trace) : Type 0 where
  pub cids : map (λ (c : ℕ × ℕ). c.0) conns ≡ map (λ (c : ℕ × ℕ). c.0) o.conns
  pub stat_sns : (cid : ℕ) → is_known cid o.conns ≡ true → stat_sn_on cid conns ≡ stat_sn_of o t cid

-- the connections that aren't closed
abbrev pub open_of : Setting → Trace → List ℕ
open_of o t = filter (is_open o t) (map (λ (c : ℕ × ℕ). c.0) o.conns)

-- its live commands, and how many ever entered
pub record CommandsAgree (o : Setting) (lives : List Live) (count : ℕ) (t : Trace) : Type 0 where
  pub commands : lives ≡ map kept (live t)
  pub regular : list_all (is_regular o) (entered t) ≡ true
  pub apart : are_apart (live t) ≡ true
  pub count_is : count ≡ length (entered t)
  -- no command has a ticket that is yet to come
  pub fresh : (ticket : ℕ) → length (entered t) < ticket → is_among ticket (entered t) ≡ false
  pub unleft : (ticket : ℕ) → length (entered t) < ticket → has (leaves_ticket ticket) t ≡ false

-- its task sets
pub record SetsAgree (o : Setting) (sets : List Members) (t : Trace) : Type 0 where
  pub units : length sets ≡ o.units
  pub lists : (unit : ℕ) → unit < o.units → (slice_index_or sets unit (opened 0)).list ≡ set_of o t unit

-- its commands, and what its options fix
pub record Lasting (o : Setting) (s : Core) (t : Trace) : Type 0 where
  pub events : s.events ≡ o.events
  pub depth : s.depth ≡ o.depth
  pub level : s.level ≡ o.level
  pub commands : CommandsAgree o s.live s.entered t
  pub sets : SetsAgree o s.sets t
  pub unfinished : s.window.unfinished ≡ unfinished t
  pub enabled : EnabledSoFar o t  -- what was given is what the rule enables
  pub open_conns : s.open_conns ≡ open_of o t

pub record Agrees (o : Setting) (s : Core) (t : Trace) : Type 0 where
  pub lasts : Lasting o s t
  pub window : WindowAgrees o s.window t
  pub replies : RepliesAgree o s.conns t
  pub waiting : WaitingAgrees o s.waiting t

-- and nothing is due
pub record Settled (o : Setting) (s : Core) (t : Trace) : Type 0 where
  pub agrees : Agrees o s t
  pub none_due : slice_index_or s.window.places 0 None ≡ None

-- a session stands for the events
pub record StandsFor (o : Setting) (s : Core) (h : List Event) : Type 0 where
  pub settled : Settled o s (trace_of o h)
  pub taken : s.taken ≡ length h
  pub belong : list_all (belongs o) h ≡ true  -- each arrival came on a connection of the session
