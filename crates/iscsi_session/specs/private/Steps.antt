-- What a session keeps after a step, and its effects, by what it keeps before. For private contracts alone.
use Rattle.std.specs.Prelude.{◌≡◌, ℕ, pos, ◌-ℤ◌, ◌+◌, ◌-◌, ◌≤◌, ◌==◌, ◌&&◌, ◌||◌, not, count_by, nat_lt, nat_le, Bool, true, List, [], ◌∷◌, ◌++◌, length, map, take, filter, slice_index_or, slice_set, Option, Some, None, if◌then◌else◌}
use Rattle.std.specs.List.{list_any, list_all, flat_map, range_with_len}
use Rattle.iscsi_wire.specs.declared.request.Request.{Request}
use Rattle.iscsi_wire.specs.declared.reply.Reply.{Reply}
use Rattle.iscsi_wire.specs.declared.reply.Reply.TheVariants.{Scsi}
use Rattle.iscsi_wire.specs.Serial.{wire, lift, number_of_first}
use Rattle.iscsi_wire.specs.Fields.{connection_of, is_immediate, cmd_sn, attr_code, itt}
use Rattle.iscsi_window.specs.declared.held_request.HeldRequest.{HeldRequest}
use Rattle.iscsi_window.specs.Windows.{Arrived, number_expected, number_last, offered_in, with_unfinished, place_in, is_received_at, voided, is_asked, holds_from}
use Rattle.iscsi_tasks.specs.declared.task.Task.{Task}
use Rattle.iscsi_tasks.specs.declared.member.Member.{Member}
use Rattle.iscsi_tasks.specs.declared.cover.Cover.{Cover}
use Rattle.iscsi_tasks.specs.declared.cover.Cover.TheVariants.{All as AllOfThem, Conn as OfConn}
use Rattle.iscsi_tasks.specs.Sets.{Members, opened as opened_set, entered_to, is_covered, is_enabled_in, is_new, next_in, given_by}
pub use Rattle.iscsi_tasks.specs.Sets.{set_staying}
pub use Rattle.iscsi_tasks.specs.Marked.{covered_tickets}
use Rattle.iscsi_commands.specs.declared.live.Live.{Live}
pub use Rattle.iscsi_commands.specs.Commands.{find_ticket, without_ticket}
pub use Rattle.iscsi_connections.specs.Connected.{count_reply, counted_on, is_among_open, still_open}
use Rattle.iscsi_rules.specs.declared.effect.Why.TheVariants.{Stale}
use Rattle.iscsi_rules.specs.declared.effect.Effect.{Effect}
use Rattle.iscsi_rules.specs.declared.effect.Effect.TheVariants.{Enter, Enable, Leave, Send, Ignore, Void, Empty, CloseConn, CloseSession}
use Rattle.iscsi_rules.specs.declared.effect.Numbers.{Numbers}
use Rattle.iscsi_rules.specs.declared.event.Event.{Event}
use Rattle.iscsi_rules.specs.declared.event.Event.TheVariants.{Arrive, Done}
use Rattle.iscsi_rules.specs.declared.deed.Answer.TheVariants.{LogOut}
use Rattle.iscsi_rules.specs.rules.Settings.{Setting, is_known}
use Rattle.iscsi_rules.specs.rules.Trace.{Mark, Trace, after_items, received}
use Rattle.iscsi_rules.specs.rules.Run.{effects_of}
use Rattle.iscsi_rules.specs.rules.Execution.{sense_of_status, attr_of, reply_of, MOST_IMMEDIATE}
use Rattle.iscsi_session.specs.declared.fault.SessionFault.{SessionFault}
use Rattle.iscsi_session.specs.declared.fault.SessionFault.TheVariants.{UnknownConnection, Exhausted}
use Rattle.iscsi_session.specs.declared.session.leaving.Leaving.{Leaving}
use Rattle.iscsi_session.specs.declared.session.leaving.Leaving.TheVariants.{One, Covered}
use Rattle.iscsi_session.specs.declared.session.waiting.Waiting.{Waiting}
use Rattle.iscsi_session.specs.private.Standing.{Core, Agrees, Settled, stat_sn_on}

-- ---- refusals

abbrev pub comes_on : List (ℕ × ℕ) → Event → Bool
comes_on conns (Arrive conn header) = is_known conn conns
comes_on conns (Done ticket status) = true

abbrev pub refusal_by : Core → Event → Option SessionFault
refusal_by s e = if not (comes_on s.conns e) then Some UnknownConnection else (if nat_lt s.taken s.events then None else Some Exhausted)

-- as many numbers have turned as commands began, at the least. MaxCmdSN doesn't go back then
abbrev pub KeepsPace : Arrived → Arrived → Type 0
KeepsPace w w' = w'.unfinished + w.turned ≤ w.unfinished + w'.turned

-- ---- a step

pub record Step : Type 0 where
  pub core : Core
  pub effects : List Effect

abbrev pub unchanged : Core → Step
unchanged s = record { core = s; effects = [] }

-- one, and then another
abbrev pub and_then : Step → (Core → Step) → Step
and_then x next = record { core = (next x.core).core; effects = x.effects ++ (next x.core).effects }

-- this effect comes first
abbrev pub after_effect : Effect → Step → Step
after_effect e x = record { core = x.core; effects = e ∷ x.effects }

-- these effects were appended to what stood there before
abbrev pub Appends : {S : Type 0} → (S → List ℕ → List Effect → Type 0) → List Effect → S → S → Type 0
Appends has effects out out' = (text : List ℕ) (es : List Effect) → has out text es → has out' text (es ++ effects)

-- the step was taken, and there is as much room as before
pub record Takes {S : Type 0} (has : S → List ℕ → List Effect → Type 0) (capacity : S → ℕ) (step : Step) (now : Core) (out out' : S) : Type 0 where
  pub core : now ≡ step.core
  pub effects : Appends has step.effects out out'
  pub room : capacity out' ≡ capacity out

-- of these effects some were appended, and the rest is still to be
pub record Continues {S : Type 0} (has : S → List ℕ → List Effect → Type 0) (whole rest : List Effect) (out out' : S) : Type 0 where
  pub done : List Effect
  pub effects : Appends has done out out'
  pub both : done ++ rest ≡ whole

-- what some items lead to: their effects were appended
pub record Runs {S : Type 0} (has : S → List ℕ → List Effect → Type 0) (o : Setting) (t : Trace) (items : List (List Mark)) (s : Core) (out out' : S) : Type 0 where
  pub agrees : Agrees o s (after_items items t)
  pub effects : Appends has (effects_of o t items) out out'

-- and nothing is due any more. So many numbers may be received by them
pub record Handles {S : Type 0} (has : S → List ℕ → List Effect → Type 0) (o : Setting) (t : Trace) (items : List (List Mark)) (Receives : List ℕ → List ℕ → Type 0) (s : Core) (out out' : S) : Type 0 where
  pub settled : Settled o s (after_items items t)
  pub effects : Appends has (effects_of o t items) out out'
  pub receives : Receives (received t) (received (after_items items t))

-- ---- task sets

abbrev pub set_at : Core → ℕ → Members
set_at s unit = slice_index_or s.sets unit (opened_set 0)

-- every enabled command of the set was given
abbrev pub as_given : Member → Member
as_given m = record { task = m.task; enabled = m.enabled; given = m.given || m.enabled }

abbrev pub all_given : Members → Members
all_given set = record set { list = map as_given set.list }

-- the commands of a unit that are enabled, of these members
abbrev pub enable_effects : ℕ → List Member → List Effect
enable_effects unit ms = map (λ (m : Member). Enable m.task.ticket unit) (filter is_new ms)

abbrev pub enable_effect : ℕ → Option ℕ → List Effect
enable_effect unit None = []
enable_effect unit (Some ticket) = Enable ticket unit ∷ []

-- a unit is told of the commands that became enabled, or each is
abbrev pub unit_told : Core → ℕ → Step
unit_told s unit = record { core = record s { sets = slice_set s.sets unit (all_given (set_at s unit)) }; effects = enable_effects unit (set_at s unit).list }

abbrev pub all_told : Core → Step
all_told s = record { core = record s { sets = map all_given s.sets }; effects = flat_map (λ unit. enable_effects unit (set_at s unit).list) (range_with_len 0 (length s.sets)) }

-- ---- what is found of live commands and functions that wait

abbrev pub is_tag_kept : Core → ℕ → Bool
is_tag_kept s tag = list_any (λ l. l.itt == tag) s.live

abbrev pub is_set_full : ℕ → Members → Bool
is_set_full depth set = nat_le depth (length set.list)

-- an immediate command of the connection
abbrev pub is_immediate_on : ℕ → Live → Bool
is_immediate_on cid l = l.immediate && l.conn == cid

-- how many of them there are
abbrev pub immediate_in : List Live → ℕ → ℕ
immediate_in live cid = count_by (is_immediate_on cid) live

abbrev pub is_crowded_by : Core → Request → Bool
is_crowded_by s r = is_immediate r && nat_le MOST_IMMEDIATE (immediate_in s.live (connection_of r))

-- how many functions of a connection wait
abbrev pub waiting_in : List Waiting → ℕ → ℕ
waiting_in waits cid = count_by (λ w. connection_of w.request == cid) waits

-- the counts of immediate commands are those of the live ones
pub record AreCounted (counts : List ℕ) (conns : List (ℕ × ℕ)) (live : List Live) : Type 0 where
  pub long : length counts ≡ length conns
  pub exact : (cid : ℕ) → is_known cid conns ≡ true → counted_on cid conns counts ≡ immediate_in live cid
  pub few : (cid : ℕ) → immediate_in live cid ≤ MOST_IMMEDIATE

-- a numbered command
abbrev pub is_numbered : Live → Bool
is_numbered l = not l.immediate

-- ---- a request is offered to the window in this event, or answered

abbrev pub with_offered : Core → Request → Core
with_offered s r = record s { window = offered_in s.window r (s.taken - 1) }

-- a reply goes out on a connection
abbrev pub replied : Core → ℕ → Reply → Step
replied s conn reply = record { core = record s { conns = count_reply conn s.conns }; effects = Send conn (stat_sn_on conn s.conns) reply ∷ [] }

-- ---- a command enters

-- what is kept of it
abbrev pub new_live : Core → Request → ℕ → Live
new_live s r unit = record { ticket = s.entered + 1; unit = unit; conn = connection_of r; itt = itt r; immediate = is_immediate r }

-- the number of a request that executes: a numbered one has turned last
abbrev pub number_by : Core → Request → ℕ
number_by s r = if is_immediate r then lift (number_expected s.window) (cmd_sn r) else number_expected s.window - 1

-- the event in which an immediate request arrived
abbrev pub event_by : Core → Request → ℕ
event_by s r = if is_immediate r then s.taken - 1 else 0

-- the command, as its set sees it
abbrev pub new_task : Core → Request → Task
new_task s r = record { ticket = s.entered + 1; conn = connection_of r; itt = itt r; attr = attr_of (attr_code r); immediate = is_immediate r; pos = pos (number_by s r) -ℤ pos (number_of_first s.window.first); event = event_by s r }

-- a numbered command takes a place of the window
abbrev pub started : Arrived → Request → Arrived
started w r = if is_immediate r then w else with_unfinished w (w.unfinished + 1)

abbrev pub command_entered : Core → Request → ℕ → Step
command_entered s r unit = let set = entered_to (set_at s unit) (new_task s r) in record {
  core = record s {
    window = started s.window r;
    entered = s.entered + 1;
    live = s.live ++ new_live s r unit ∷ [];
    sets = slice_set s.sets unit (given_by set);
  };
  effects = Enter (s.entered + 1) unit (attr_of (attr_code r)) ∷ enable_effect unit (next_in set.list);
}

-- ---- a command that is enabled

-- the command with this ticket, if it is enabled in the set of its unit
abbrev pub enabled_of : List Members → ℕ → Option Live → Option Live
enabled_of sets ticket x = elim x [ Some l ↦ if is_enabled_in ticket (slice_index_or sets l.unit (opened_set 0)).list then Some l else None | None ↦ None ]

abbrev pub enabled_in : List Members → List Live → ℕ → Option Live
enabled_in sets live ticket = enabled_of sets ticket (find_ticket ticket live)

-- a numbered command gives its place back
abbrev pub finished : Arrived → Live → Arrived
finished w l = if l.immediate then w else with_unfinished w (w.unfinished - 1)

-- ---- commands of a unit leave

-- a command with this ticket is in the set, and covered
abbrev pub is_gone : (Task → Bool) → Members → ℕ → Bool
is_gone covers set ticket = list_any (λ m. m.task.ticket == ticket && covers m.task) set.list

-- the live commands that stay
abbrev pub staying : (Task → Bool) → Members → List Live → List Live
staying covers set live = filter (λ l. not (is_gone covers set l.ticket)) live

-- the numbered ones give their places back
abbrev pub finished_by : Arrived → List Live → List Live → Arrived
finished_by w before after = with_unfinished w (w.unfinished + count_by is_numbered after - count_by is_numbered before)

-- each of the commands with these tickets leaves
abbrev pub leave_each : ℕ → List ℕ → List Effect
leave_each unit tickets = map (λ ticket. Leave ticket unit) tickets

-- the covered commands of the unit leave
abbrev pub commands_left : Core → ℕ → (Task → Bool) → Step
commands_left s unit covers = record {
  core = let rest = staying covers (set_at s unit) s.live in record s {
    window = finished_by s.window s.live rest;
    live = rest;
    sets = slice_set s.sets unit (set_staying covers (set_at s unit));
  };
  effects = leave_each unit (covered_tickets covers (set_at s unit).list);
}

-- those of these units do, one unit after the other
abbrev pub all_commands_left : Core → List ℕ → (Task → Bool) → Step
all_commands_left s [] covers = unchanged s
all_commands_left s (unit ∷ units) covers = and_then (commands_left s unit covers) (λ s'. all_commands_left s' units covers)

-- the live commands without those that have one of these tickets
abbrev pub without_tickets : List ℕ → List Live → List Live
without_tickets tickets live = filter (λ l. not (list_any (λ t. t == l.ticket) tickets)) live

abbrev pub covers_ticket : ℕ → Task → Bool
covers_ticket ticket t = t.ticket == ticket

abbrev pub covers_by : Leaving → Task → Bool
covers_by (One ticket) = covers_ticket ticket
covers_by (Covered cover) = is_covered cover

-- some command of the set is covered
abbrev pub has_covered : (Task → Bool) → Members → Bool
has_covered covers set = list_any (λ m. covers m.task) set.list

-- commands of a unit leave, a reply goes out, and the unit is told
abbrev pub left_answered : Core → ℕ → (Task → Bool) → ℕ → Reply → Step
left_answered s unit covers conn reply = and_then (commands_left s unit covers) (λ s'. and_then (replied s' conn reply) (λ s'. unit_told s' unit))

-- this command is completed, or the completion ignored
abbrev pub completed : Core → Option Live → ℕ → Step
completed s None status = record { core = s; effects = Ignore Stale ∷ [] }
completed s (Some l) status = left_answered s l.unit (covers_ticket l.ticket) l.conn (Scsi l.itt status (sense_of_status status))

-- a number is received without a request, if it wasn't received before
abbrev pub number_voided : Core → ℕ → Step
number_voided s w = record {
  core = record s { window = voided s.window w };
  effects = if is_received_at s.window (place_in s.window w) then [] else Void (wire w) ∷ [];
}

-- ---- a Logout: all is taken out, or what is of one connection

abbrev pub cover_of : Option ℕ → Cover
cover_of None = AllOfThem
cover_of (Some conn) = OfConn conn

abbrev pub emptied_place : Option ℕ → Option (Option HeldRequest) → Option (Option HeldRequest)
emptied_place scope p = if holds_from scope p then Some None else p

-- those of these places, of which the first is that of number n
abbrev pub emptied_from : ℕ → Option ℕ → List (Option (Option HeldRequest)) → List Effect
emptied_from n scope [] = []
emptied_from n scope (p ∷ ps) = (if holds_from scope p then Empty (wire n) ∷ [] else []) ++ emptied_from (n + 1) scope ps

-- so many places have no request that is to be taken out
abbrev pub is_clear_below : Option ℕ → ℕ → List (Option (Option HeldRequest)) → Bool
is_clear_below scope k ps = list_all (λ p. not (holds_from scope p)) (take k ps)

-- the held requests are taken out
abbrev pub all_emptied : Core → Option ℕ → Step
all_emptied s scope = record {
  core = record s { window = record s.window { places = map (emptied_place scope) s.window.places } };
  effects = emptied_from (number_expected s.window) scope s.window.places;
}

-- where no connection is open, nothing waits, and the session is closed
abbrev pub waiting_then : List ℕ → List Waiting → List Waiting
waiting_then [] ws = []
waiting_then (conn ∷ conns) ws = ws

abbrev pub session_closes : List ℕ → List Effect
session_closes [] = CloseSession ∷ []
session_closes (conn ∷ conns) = []

abbrev pub conns_closed : Core → Option ℕ → Step
conns_closed s scope = let left = still_open scope s.open_conns in record {
  core = record s { open_conns = left; waiting = waiting_then left s.waiting };
  effects = elim scope [ Some conn ↦ CloseConn conn ∷ [] | None ↦ [] ] ++ session_closes left;
}

-- what is live, is held or waits is taken out, the request is answered, and the connection or the session is closed
abbrev pub logged_out : Core → Request → Option ℕ → Step
logged_out s r scope =
    and_then (all_commands_left s (range_with_len 0 (length s.sets)) (is_covered (cover_of scope))) (λ s'.
    and_then (all_emptied s' scope) (λ s'.
    and_then (replied (record s' { waiting = filter (λ w. not (is_asked scope (connection_of w.request))) s'.waiting }) (connection_of r) (reply_of r (LogOut 0))) (λ s'.
    and_then (conns_closed s' scope) all_told)))

-- ---- how many effects may be to come

-- the commands of a set that weren't given yet
abbrev pub ungiven : Members → ℕ
ungiven set = count_by (λ m. not m.given) set.list

abbrev pub ungiven_in : List Members → ℕ
ungiven_in [] = 0
ungiven_in (set ∷ sets) = ungiven set + ungiven_in sets

-- each live command may leave, and be enabled before
abbrev pub owed : List Live → List Members → ℕ
owed live sets = length live + ungiven_in sets

-- ---- an event

abbrev pub numbers_by : Core → Numbers
numbers_by s = record { exp = wire (number_expected s.window); max = wire (number_last s.window) }
