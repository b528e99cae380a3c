-- What the effects of an event do. A log shows where an item begins: at each event, and at each request that executes.
use Rattle.std.specs.Prelude.{ℕ, ◌+◌, ◌==◌, ◌&&◌, ◌||◌, not, nat_le, Bool, true, false, List, [], ◌∷◌, ◌++◌, map, filter, filter_map, Option, Some, None, if◌then◌else◌}
use Rattle.std.specs.List.{list_any, flat_map}
use Rattle.iscsi_wire.specs.declared.reply.Reply.{Reply}
use Rattle.iscsi_wire.specs.declared.reply.Reply.TheVariants.{Task as TaskReply, Logout}
use Rattle.iscsi_wire.specs.declared.request.Request.{Request}
use Rattle.iscsi_wire.specs.Serial.{lift}
use Rattle.iscsi_wire.specs.Fields.{connection_of, is_immediate, opcode, function, itt, rtt}
use Rattle.iscsi_rules.specs.declared.effect.Effect.{Effect}
use Rattle.iscsi_rules.specs.declared.effect.Effect.TheVariants.{Deliver, Immediate, Enter, Enable, Leave, Send, CloseConn, CloseSession}
use Rattle.iscsi_rules.specs.declared.effect.Numbers.{Numbers}
use Rattle.iscsi_rules.specs.rules.Trace.{first_of}
use Rattle.iscsi_rules.specs.rules.Execution.{unit_named}
use Rattle.iscsi_rules.specs.promises.Order.{in_parts}
use Rattle.iscsi_outbox_rules.specs.rules.Calls.{Opening}
use Rattle.iscsi_outbox_rules.specs.rules.Boxes.{Phase, Dormant, Fresh, Started, Completed, Running, Gone, Task, Pdu, Replies, Outgoing, Aim, AtTag, AtUnit, AtConns, Answer, Link, Box}
use Rattle.iscsi_outbox_rules.specs.rules.Words.{contains, is_live_phase, is_left_phase}
use Rattle.iscsi_outbox_rules.specs.rules.Queues.{takes_more, at_link, enter, drop_of, drop_on}
use Rattle.iscsi_outbox_rules.specs.rules.Due.{settle}

-- ---- what an item shows

-- the request that executes in it
abbrev pub executing : List Effect → Option Request
executing (Deliver r ∷ es) = Some r
executing (Immediate r ∷ es) = Some r
executing _ = None

abbrev pub ticket_left : Effect → Option ℕ
ticket_left (Leave ticket unit) = Some ticket
ticket_left _ = None

abbrev pub tickets_left : List Effect → List ℕ
tickets_left item = filter_map ticket_left item

abbrev pub ticket_enabled : Effect → Option ℕ
ticket_enabled (Enable ticket unit) = Some ticket
ticket_enabled _ = None

abbrev pub reply_sent : Effect → Option (ℕ × Reply)
reply_sent (Send conn stat_sn reply) = Some (conn, reply)
reply_sent _ = None

-- the connections that a close is of
abbrev pub conns_closed : List Link → Effect → List ℕ
conns_closed links (CloseConn conn) = conn ∷ []
conns_closed links CloseSession = map (λ (l : Link). l.conn) links
conns_closed links _ = []

abbrev pub closed_in : Box → List Effect → List ℕ
closed_in b item = flat_map (conns_closed b.links) item

-- those of them that no earlier item closed
abbrev pub newly_closed : Box → List ℕ → List ℕ
newly_closed b conns = filter (λ conn. not (list_any (λ (l : Link). l.conn == conn && l.closed) b.links)) conns

-- ---- commands

abbrev pub phase_taken_out : Phase → Phase
phase_taken_out Dormant = Gone
phase_taken_out Fresh = Gone
phase_taken_out Started = Running
phase_taken_out p = p

abbrev pub phase_completed : Phase → Phase
phase_completed p = if is_live_phase p then Completed else p

abbrev pub phase_enabled : Phase → Phase
phase_enabled Dormant = Fresh
phase_enabled p = p

abbrev pub phase_told : Phase → Phase
phase_told Fresh = Started
phase_told p = p

-- the commands with these tickets come to another phase
abbrev pub in_phase : (Phase → Phase) → List ℕ → Box → Box
in_phase change tickets b = record b { tasks = map (λ (t : Task). if contains tickets t.ticket then record t { phase = change t.phase } else t) b.tasks }

-- commands leave by a request that executes, or else by their completion
-- outbox: left/dropped, left/completed
abbrev pub leave : Option Request → List ℕ → Box → Box
leave (Some r) tickets b = drop_of (contains tickets) (in_phase phase_taken_out tickets b)
leave None tickets b = in_phase phase_completed tickets b

abbrev pub task_entered : Request → Effect → Option Task
task_entered r (Enter ticket unit attr) = Some (record { ticket = ticket; conn = connection_of r; unit = unit; tag = itt r; numbered = not (is_immediate r); phase = Dormant })
task_entered r _ = None

abbrev pub enter_tasks : Option Request → List Effect → Box → Box
enter_tasks (Some r) item b = record b { tasks = b.tasks ++ filter_map (task_entered r) item }
enter_tasks None item b = b

-- ---- closing

-- a connection is closed by a Logout on this one; where that is another one, what waits there is dropped
-- outbox: close/itself, close/another
abbrev pub close_one : ℕ → ℕ → Box → Box
close_one by conn b =
    if conn == by then record b { links = at_link conn (λ l. record l { closed = true }) b.links }
    else drop_on conn (record b { links = at_link conn (λ l. record l { closed = true; cut = true }) b.links })

abbrev pub close_all : ℕ → List ℕ → Box → Box
close_all by [] b = b
close_all by (conn ∷ conns) b = close_all by conns (close_one by conn b)

abbrev pub close : Option Request → List ℕ → Box → Box
close (Some r) conns b = close_all (connection_of r) conns b
close None conns b = b

-- ---- replies

-- what a reply is about, if it is the answer to an abort or Logout that has to wait: of functions 1, 2, 4 and 5 with response
-- 0, of 1 also with response 1, as the task may have left before; of a Logout with response 0
-- outbox: answer/abort-task, answer/no-task, answer/set, answer/logout
abbrev pub aim_of : Opening → Request → Reply → Option Aim
aim_of o r (TaskReply tag response) =
    if opcode r == 0x02 && function r == 1 && nat_le response 1
    then elim (unit_named o.session.units r) [ Some unit ↦ Some (AtTag (rtt r) unit) | None ↦ None ]
    else (if opcode r == 0x02 && (function r == 2 || function r == 4 || function r == 5) && response == 0
    then elim (unit_named o.session.units r) [ Some unit ↦ Some (AtUnit unit) | None ↦ None ]
    else None)
aim_of o r (Logout tag response) = if response == 0 then Some AtConns else None
aim_of o r _ = None

abbrev pub is_aimed_at : Aim → List ℕ → Task → Bool
is_aimed_at (AtTag tag unit) conns t = t.tag == tag
is_aimed_at (AtUnit unit) conns t = t.unit == unit
is_aimed_at AtConns conns t = contains conns t.conn

-- the scope of an answer: of what it is about, all that left by now. That of an ABORT TASK are all with its tag, whatever their
-- unit is; that of a Logout those of the connections that it closes, and of one that closes the session all
-- outbox: answer/or-before
abbrev pub scope_of : Box → Aim → List ℕ → List ℕ
scope_of b aim conns = map (λ (t : Task). t.ticket) (filter (λ (t : Task). is_left_phase t.phase && is_aimed_at aim conns t) b.tasks)

abbrev pub is_numbered : Box → Option Request → List ℕ → Bool
is_numbered b (Some r) tickets = not (is_immediate r)
is_numbered b None tickets = list_any (λ (t : Task). contains tickets t.ticket && t.numbered) b.tasks

abbrev pub outgoing : Box → Option Request → List ℕ → Reply → Outgoing
outgoing b r tickets reply = record {
  time = 0;
  pdu = Replies reply;
  sent = Some b.sent;
  ticket = elim r [ Some request ↦ None | None ↦ first_of tickets ];
  takes = true;
  fenced = false;
  numbered = is_numbered b r tickets;
  scope = [];
  closes = [];
}

-- an ABORT TASK that found no task is answered so (RFC 7143 section 11.6.1)
abbrev pub finds_none : Pdu → Bool
finds_none (Replies (TaskReply tag response)) = response == 1
finds_none _ = false

-- nothing overtakes such an answer on another connection, nor does it overtake what went before: one to a function of several
-- tasks, or to an ABORT TASK that found none, as the task may have completed just before, and be under way elsewhere
-- outbox: fence/no-task
abbrev pub is_fence : Aim → Pdu → Bool
is_fence (AtUnit unit) pdu = true
is_fence (AtTag tag unit) pdu = finds_none pdu
is_fence AtConns pdu = false

-- `conns`: those that its item closes; `closes`: those of them that weren't closed before
abbrev pub answer : Opening → Box → Request → List ℕ → List ℕ → ℕ → Outgoing → Aim → Answer
answer o b r conns closes conn out aim = record {
  conn = conn;
  aim = aim;
  uncleared = o.shared && opcode r == 0x02 && (function r == 4 || function r == 5);
  out = record out { fenced = is_fence aim out.pdu; scope = scope_of b aim conns; closes = closes };
}

-- an answer waits until it is due, if its connection takes it
abbrev pub await : Answer → Box → Box
await a b = if list_any (λ (l : Link). l.conn == a.conn && takes_more l) b.links then record b { undue = b.undue ++ a ∷ [] } else b

abbrev pub send_as : Opening → Option Request → Option Aim → List ℕ → List ℕ → ℕ → Outgoing → Box → Box
send_as o (Some r) (Some aim) conns closes conn out b = await (answer o b r conns closes conn out aim) b
send_as o _ _ conns closes conn out b = enter conn out b

abbrev pub aim : Opening → Option Request → Reply → Option Aim
aim o (Some r) reply = aim_of o r reply
aim o None reply = None

abbrev pub send : Opening → Option Request → List ℕ → List ℕ → List ℕ → Option (ℕ × Reply) → Box → Box
send o r tickets conns closes (Some sent) b =
    let b' = send_as o r (aim o r sent.1) conns closes sent.0 (outgoing b r tickets sent.1) b in record b' { sent = b'.sent + 1 }
send o r tickets conns closes None b = b

-- ---- an event

abbrev pub after_item : Opening → Box → List Effect → Box
after_item o b item =
    let r = executing item in
    let tickets = tickets_left item in
    let conns = closed_in b item in
    let closes = newly_closed b conns in
    settle o (in_phase phase_enabled (filter_map ticket_enabled item)
    (send o r tickets conns closes (first_of (filter_map reply_sent item))
    (close r closes (enter_tasks r item (leave r tickets b)))))

abbrev pub after_items : Opening → Box → List (List Effect) → Box
after_items o b [] = b
after_items o b (item ∷ items) = after_items o (after_item o b item) items

-- an event: its items, and its numbers. What it enabled counts as started from now on
-- outbox: left/unstarted
abbrev pub after_event : Opening → Box → List Effect → Numbers → Box
after_event o b effects numbers =
    let b' = after_items o b (in_parts effects) in
    record b' { tasks = map (λ (t : Task). record t { phase = phase_told t.phase }) b'.tasks; exp = numbers.exp; max = lift b'.max numbers.max }
