-- What each call makes of what an outbox keeps, and what it answers.
use Rattle.std.specs.Prelude.{ℕ, zero, suc, ◌+◌, ◌-◌, ◌^◌, ◌%◌, ◌==◌, ◌&&◌, ◌||◌, not, nat_le, nat_lt, Bool, true, false, List, [], ◌∷◌, ◌++◌, length, count_by, filter, filter_map, Option, Some, None, if◌then◌else◌}
use Rattle.std.specs.List.{list_any}
use Rattle.iscsi_wire.specs.declared.reply.Reply.{Reply}
use Rattle.iscsi_wire.specs.declared.reply.Reply.TheVariants.{Task as TaskReply, Logout}
use Rattle.iscsi_wire.specs.declared.request.Request.{Request}
use Rattle.iscsi_wire.specs.Serial.{lift, wire}
use Rattle.iscsi_wire.specs.Fields.{connection_of, is_immediate, opcode, function, itt, rtt}
use Rattle.iscsi_rules.specs.declared.effect.Effect.{Effect}
use Rattle.iscsi_rules.specs.declared.effect.Effect.TheVariants.{Enter, CloseConn, CloseSession}
use Rattle.iscsi_rules.specs.declared.effect.Numbers.{Numbers}
use Rattle.iscsi_rules.specs.rules.Trace.{first_of}
use Rattle.iscsi_rules.specs.rules.Execution.{unit_named}
use Rattle.iscsi_rules.specs.promises.Closes.{is_session_close}
use Rattle.iscsi_rules.specs.promises.Order.{in_parts}
use Rattle.iscsi_outbox_rules.specs.declared.own_pdu.OwnPdu.{OwnPdu}
use Rattle.iscsi_outbox_rules.specs.declared.own_pdu.OwnPdu.TheVariants.{OfCommand, OfConnection}
use Rattle.iscsi_outbox_rules.specs.declared.own_pdu.PutRefusal.{PutRefusal}
use Rattle.iscsi_outbox_rules.specs.declared.own_pdu.PutRefusal.TheVariants.{Unfit, Gone as GoneRefusal, Closed, Full}
use Rattle.iscsi_outbox_rules.specs.rules.Boxes.{Replies}
use Rattle.iscsi_outbox_rules.specs.rules.Own.{is_fit, own_takes}
use Rattle.iscsi_outbox_rules.specs.rules.Items.{executing, finds_none, reply_sent, ticket_enabled, tickets_left}
use Rattle.iscsi_arrivals.specs.declared.stamp.Stamp.{Stamp}
use Rattle.iscsi_arrivals.specs.Counts.{Counts, handed_by, heard_by, is_open_by, is_under_way_by, is_usable_by, joined_by, may_join_by, pinged_by, stamp_by, tag_of_ping, takes_more_by, written_by}
use Rattle.iscsi_outbox_state.specs.declared.lane.Aim.{Aim}
use Rattle.iscsi_outbox_state.specs.declared.lane.Aim.TheVariants.{Tag, Unit, Conn, Session, Nothing as ClosesNothing}
use Rattle.iscsi_outbox_state.specs.declared.lane.Undue.{Undue}
use Rattle.iscsi_outbox_state.specs.declared.waiting.Content.TheVariants.{Reply as IsReply, Own as IsOwn}
use Rattle.iscsi_outbox_state.specs.declared.waiting.SentReply.{SentReply}
use Rattle.iscsi_outbox_state.specs.declared.waiting.Waiting.{Waiting}
use Rattle.iscsi_outbox_state.specs.Waits.{Waits, count_in as count_waits, dropped_of, dropped_on, entered, is_any, is_own, popped, queue_at, released_of}
use Rattle.iscsi_outbox_state.specs.Lane.{any_in as any_stands, arrived as arrived_in, awaited, cleared, count_in as count_stands, dropped_on as dropped_answers, first_due, has_left, is_command, is_left, is_of_logout, stopped as stopped_in, without_due}
use Rattle.iscsi_tracked.specs.declared.command.Command.{Command}
use Rattle.iscsi_tracked.specs.declared.command.Entering.{Entering}
use Rattle.iscsi_tracked.specs.declared.command.Phase.{Phase}
use Rattle.iscsi_tracked.specs.declared.command.Phase.TheVariants.{Dormant, Fresh, Started, Running, Gone}
use Rattle.iscsi_tracked.specs.Tracked.{arrived as arrived_at, entered as entered_command, find_place, find_ticket, first_out, handed_out, has_place, in_phase, is_out, next_place, removed, trail_at}
use Rattle.iscsi_outbox_steps.specs.declared.given.Given.{Given}
use Rattle.iscsi_outbox_steps.specs.declared.given.Given.TheVariants.{Hands, Nothing, IsOver}
use Rattle.iscsi_outbox_steps.specs.declared.given.Handed.{Handed}
use Rattle.iscsi_outbox_steps.specs.declared.given.Pdu.{Pdu}
use Rattle.iscsi_outbox_steps.specs.declared.given.Pdu.TheVariants.{Reply as ReplyPdu, Own as OwnedPdu, Ping, Notice}
use Rattle.iscsi_outbox_steps.specs.State.{State, is_over, link_at, looks, max_shown, passes, place_of, wants_notice, wants_ping, with_link}

-- ---- what enters a queue

-- so many PDUs may ever have entered
abbrev pub has_time : Waits → Bool
has_time v = nat_lt v.time (2 ^ 64 - 1)

-- time passes, also where a connection takes nothing more
abbrev pub later : Waits → Waits
later v = if has_time v then record v { time = v.time + 1 } else v

abbrev pub has_room : Waits → Bool
has_room v = has_time v && nat_lt (count_waits is_any v) v.room

-- `RoomHolds` is about the calls by which there is always room
abbrev pub enter : ℕ → Waiting → State → State
enter conn item s = record s { waits = if takes_more_by (link_at s conn) && has_room s.waits then entered conn item s.waits else later s.waits }

-- ---- what becomes due

abbrev pub is_of_unit : Aim → Bool
is_of_unit aim = elim aim [ Unit unit ↦ true | Tag tag ↦ false | Conn conn ↦ false | Session ↦ false | ClosesNothing ↦ false ]

-- nothing overtakes it, nor does it overtake anything: the answer to a function of several tasks, or to an ABORT TASK that found none
abbrev pub is_fence : Aim → Reply → Bool
is_fence aim reply = elim aim [ Unit unit ↦ true | Tag tag ↦ finds_none (Replies reply) | Conn conn ↦ false | Session ↦ false | ClosesNothing ↦ false ]

abbrev pub answer_item : Undue → Waiting
answer_item a = record {
  content = IsReply a.reply;
  takes = true;
  fenced = is_fence a.aim a.reply.reply;
  numbered = a.numbered;
  ends = a.ends;
  command = None;
}

-- so many answers at most
abbrev pub settled : ℕ → State → State
settled zero s = s
settled (suc n) s = elim (first_due s.lane) [ Some a ↦ settled n (enter a.conn (answer_item a) (record s { lane = without_due s.lane })) | None ↦ s ]

abbrev pub settle : State → State
settle s = settled (count_stands (λ x. not (is_left x)) s.lane) s

-- ---- commands

abbrev pub is_live : Command → Bool
is_live c = elim (c.phase) [ Dormant ↦ true | Fresh ↦ true | Started ↦ true | Running ↦ false | Gone ↦ false ]

abbrev pub is_running : Command → Bool
is_running c = elim (c.phase) [ Running ↦ true | Dormant ↦ false | Fresh ↦ false | Started ↦ false | Gone ↦ false ]

abbrev pub is_started : Command → Bool
is_started c = elim (c.phase) [ Started ↦ true | Dormant ↦ false | Fresh ↦ false | Running ↦ false | Gone ↦ false ]

abbrev pub live_command : State → ℕ → Option Command
live_command s ticket = elim (find_ticket ticket s.tracked) [ Some c ↦ (if is_live c then Some c else None) | None ↦ None ]

-- it is taken out: what waits of it is dropped, and it is kept as long as it owes something. No live command stands in the lane
abbrev pub taken_out : Command → State → State
taken_out c s =
    let running = is_started c in
    let s' = record s { waits = dropped_of c.place s.waits } in
    if (running || is_out c) && not (any_stands (is_command c.place) s.lane) then record s' {
      lane = has_left (record { command = c.place; conn = c.conn; unit = c.unit; tag = c.tag; running = running; under_way = is_out c }) s.lane;
      tracked = in_phase (if running then Running else Gone) c.place s.tracked;
    } else record s' { tracked = removed c.place s.tracked }

-- it completes: what waits of it waits on
abbrev pub completed : Command → State → State
completed c s = record s { waits = released_of c.place s.waits; tracked = removed c.place s.tracked }

abbrev pub leave_one : Option Request → ℕ → State → State
leave_one r ticket s = elim (live_command s ticket) [
  | Some c ↦ elim r [ Some request ↦ taken_out c s | None ↦ completed c s ]
  | None ↦ s
]

abbrev pub leave : Option Request → List ℕ → State → State
leave r [] s = s
leave r (ticket ∷ tickets) s = leave r tickets (leave_one r ticket s)

abbrev pub entering : ℕ → Request → ℕ → ℕ → Entering
entering conn r ticket unit = record { ticket = ticket; conn = conn; unit = unit; tag = itt r; numbered = not (is_immediate r) }

-- tickets go up, and units are those of the session
abbrev pub may_enter : Entering → State → Bool
may_enter e s = nat_lt s.tracked.last e.ticket && nat_lt e.unit s.limits.units

abbrev pub enter_command : Entering → State → State
enter_command e s = elim (next_place s.tracked) [
  | Some place ↦ if may_enter e s then record s { tracked = entered_command e place s.tracked } else s
  | None ↦ s
]

abbrev pub enter_one : Request → Effect → State → State
enter_one r (Enter ticket unit attr) s = elim (place_of s (connection_of r)) [ Some conn ↦ enter_command (entering conn r ticket unit) s | None ↦ s ]
enter_one r effect s = s

abbrev pub enter_each : Request → List Effect → State → State
enter_each r [] s = s
enter_each r (effect ∷ effects) s = enter_each r effects (enter_one r effect s)

abbrev pub enter_commands : Option Request → List Effect → State → State
enter_commands (Some r) effects s = enter_each r effects s
enter_commands None effects s = s

abbrev pub in_phase_if : (Command → Bool) → Phase → ℕ → State → State
in_phase_if test phase ticket s = elim (find_ticket ticket s.tracked) [
  | Some c ↦ if test c then record s { tracked = in_phase phase c.place s.tracked } else s
  | None ↦ s
]

abbrev pub is_dormant : Command → Bool
is_dormant c = elim (c.phase) [ Dormant ↦ true | Fresh ↦ false | Started ↦ false | Running ↦ false | Gone ↦ false ]

abbrev pub is_fresh : Command → Bool
is_fresh c = elim (c.phase) [ Fresh ↦ true | Dormant ↦ false | Started ↦ false | Running ↦ false | Gone ↦ false ]

-- commands are enabled by the event that is taken now
abbrev pub enable : List ℕ → State → State
enable [] s = s
enable (ticket ∷ tickets) s = enable tickets (in_phase_if is_dormant Fresh ticket s)

-- .. and are started, once the event is over
abbrev pub tell : List ℕ → State → State
tell [] s = s
tell (ticket ∷ tickets) s = tell tickets (in_phase_if is_fresh Started ticket s)

-- ---- closing

abbrev pub close_itself : ℕ → State → State
close_itself conn s = with_link conn (λ l. record l { closed = true }) s

abbrev pub close_other : ℕ → State → State
close_other conn s = let s' = with_link conn (λ l. record l { closed = true; cut = true }) s in record s' { waits = dropped_on conn s.waits; lane = dropped_answers conn s.lane }

abbrev pub close_one : ℕ → ℕ → State → State
close_one by conn s = if conn == by then close_itself conn s else close_other conn s

abbrev pub close_each : ℕ → List ℕ → State → State
close_each by [] s = s
close_each by (conn ∷ conns) s = close_each by conns (close_one by conn s)

abbrev pub as_list : Option ℕ → List ℕ
as_list (Some n) = n ∷ []
as_list None = []

-- so many places from one on
abbrev pub counted_from : ℕ → List Counts → List ℕ
counted_from n [] = []
counted_from n (l ∷ links) = n ∷ counted_from (n + 1) links

-- the places of the connections that an effect closes
abbrev pub closed_by : State → Effect → List ℕ
closed_by s (CloseConn cid) = as_list (place_of s cid)
closed_by s CloseSession = counted_from 0 s.links
closed_by s _ = []

abbrev pub closed_in : State → List Effect → List ℕ
closed_in s [] = []
closed_in s (effect ∷ effects) = closed_by s effect ++ closed_in s effects

abbrev pub newly_closed : State → List ℕ → List ℕ
newly_closed s conns = filter (λ conn. not (link_at s conn).closed) conns

abbrev pub close : Option Request → List ℕ → State → State
close (Some r) conns s = elim (place_of s (connection_of r)) [ Some by ↦ close_each by conns s | None ↦ s ]
close None conns s = s

-- ---- replies

-- what a Logout aims at, by the connections that its item closes. That of the last connection closes the session behind it
abbrev pub aim_of_logout : List Effect → State → Aim
aim_of_logout [] s = ClosesNothing
aim_of_logout (CloseSession ∷ effects) s = Session
aim_of_logout (CloseConn cid ∷ effects) s =
    if list_any is_session_close effects then Session else elim (place_of s cid) [ Some conn ↦ Conn conn | None ↦ ClosesNothing ]
aim_of_logout (effect ∷ effects) s = aim_of_logout effects s

-- what a reply is about, if it is the answer to an abort or Logout that has to wait
abbrev pub aim_of : Request → List Effect → Reply → State → Option Aim
aim_of r item (TaskReply tag response) s =
    if opcode r == 0x02 && function r == 1 && nat_le response 1
    then elim (unit_named s.limits.units r) [ Some unit ↦ Some (Tag (rtt r)) | None ↦ None ]
    else (if opcode r == 0x02 && (function r == 2 || function r == 4 || function r == 5) && response == 0
    then elim (unit_named s.limits.units r) [ Some unit ↦ Some (Unit unit) | None ↦ None ]
    else None)
aim_of r item (Logout tag response) s = if response == 0 then Some (aim_of_logout item s) else None
aim_of r item _ s = None

abbrev pub is_reset : Request → Bool
is_reset r = opcode r == 0x02 && (function r == 4 || function r == 5)

abbrev pub await : ℕ → Undue → State → State
await conn a s = if takes_more_by (link_at s conn) && nat_lt (count_stands (λ x. not (is_left x)) s.lane) s.lane.answers then record s { lane = awaited a s.lane } else s

abbrev pub reply_item : Bool → SentReply → Waiting
reply_item numbered reply = record { content = IsReply reply; takes = true; fenced = false; numbered = numbered; ends = false; command = None }

-- `closes`: it closes the connection that it goes out on
abbrev pub send_on : ℕ → Option Request → List Effect → Bool → Bool → SentReply → State → State
send_on conn (Some r) item numbered closes reply s = elim (aim_of r item reply.reply s) [
  | Some aim ↦ await conn (record { reply = reply; conn = conn; aim = aim; numbered = numbered; ends = closes && is_of_logout aim; uncleared = s.limits.shared && is_reset r && is_of_unit aim }) s
  | None ↦ enter conn (reply_item numbered reply) s
]
send_on conn None item numbered closes reply s = enter conn (reply_item numbered reply) s

-- a reply with its place: so many were taken before it
abbrev pub placed : Reply → State → SentReply
placed reply s = record { reply = reply; place = s.sent }

-- one reply more was taken, wherever it goes
abbrev pub counted : State → State
counted s = record s { sent = (s.sent + 1) % 2 ^ 64 }

abbrev pub send_placed : Option Request → List Effect → Bool → List ℕ → ℕ → SentReply → State → State
send_placed r item numbered closes cid reply s = elim (place_of s cid) [
  | Some conn ↦ send_on conn r item numbered (list_any (λ p. p == conn) closes) reply s
  | None ↦ record s { waits = later s.waits }
]

abbrev pub send : Option Request → List Effect → Bool → List ℕ → Option (ℕ × Reply) → State → State
send r item numbered closes (Some sent) s = counted (send_placed r item numbered closes sent.0 (placed sent.1 s) s)
send r item numbered closes None s = s

-- a reply answers a numbered request: the one that executes, or that of a command that completes
abbrev pub is_numbered : State → Option Request → List ℕ → Bool
is_numbered s (Some r) tickets = not (is_immediate r)
is_numbered s None tickets = list_any (λ ticket. elim (find_ticket ticket s.tracked) [ Some c ↦ c.numbered | None ↦ false ]) tickets

-- ---- an event

abbrev pub after_item : List Effect → State → State
after_item item s =
    let r = executing item in
    let tickets = tickets_left item in
    let numbered = is_numbered s r tickets in
    let closes = newly_closed s (closed_in s item) in
    settle (enable (filter_map ticket_enabled item)
    (send r item numbered closes (first_of (filter_map reply_sent item))
    (close r closes (enter_commands r item (leave r tickets s)))))

abbrev pub after_items : List (List Effect) → State → State
after_items [] s = s
after_items (item ∷ items) s = after_items items (after_item item s)

abbrev pub taken : List Effect → Numbers → State → State
taken effects numbers s =
    let s' = tell (filter_map ticket_enabled effects) (after_items (in_parts effects) s) in
    let max = lift s'.max numbers.max in
    record s' { exp = numbers.exp; max = if nat_lt max (2 ^ 63) then max else s'.max }

-- ---- own PDUs

abbrev pub is_full : ℕ → State → Bool
is_full conn s = nat_le s.limits.own (count_by is_own (queue_at s.waits conn))

abbrev pub refusal_on : ℕ → State → Option PutRefusal
refusal_on conn s = if is_usable_by (link_at s conn) then (if is_full conn s then Some Full else None) else Some Closed

abbrev pub own_item : OwnPdu → Option ℕ → Waiting
own_item p command = record { content = IsOwn p; takes = own_takes p; fenced = false; numbered = false; ends = false; command = command }

-- where it goes out, and the place of its command
abbrev pub home_of : OwnPdu → State → Option (ℕ × Option ℕ)
home_of (OfCommand ticket header) s = elim (live_command s ticket) [ Some c ↦ Some (c.conn, Some c.place) | None ↦ None ]
home_of (OfConnection cid header) s = elim (place_of s cid) [ Some conn ↦ Some (conn, None) | None ↦ None ]

abbrev pub absent : OwnPdu → PutRefusal
absent (OfCommand ticket header) = GoneRefusal
absent (OfConnection cid header) = Closed

abbrev pub put_refusal : OwnPdu → State → Option PutRefusal
put_refusal p s = if not (is_fit p) then Some Unfit else elim (home_of p s) [ Some home ↦ refusal_on home.0 s | None ↦ Some (absent p) ]

abbrev pub put : OwnPdu → State → State
put p s = elim (put_refusal p s) [
  | Some refusal ↦ s
  | None ↦ elim (home_of p s) [ Some home ↦ enter home.0 (own_item p home.1) s | None ↦ s ]
]

-- ---- stopped

abbrev pub is_running_ticket : ℕ → State → Bool
is_running_ticket ticket s = elim (find_ticket ticket s.tracked) [ Some c ↦ is_running c | None ↦ false ]

-- a command that left owes nothing more, and isn't kept
abbrev pub stopped_command : Command → State → State
stopped_command c s =
    let s' = record s { lane = stopped_in c.place s.lane } in
    if is_out c then record s' { tracked = in_phase Gone c.place s.tracked } else record s' { tracked = removed c.place s.tracked }

abbrev pub stopped : ℕ → State → State
stopped ticket s = elim (find_ticket ticket s.tracked) [ Some c ↦ (if is_running c then settle (stopped_command c s) else s) | None ↦ s ]

-- ---- what isn't under way any more

-- the first command of a connection's trail, if nothing of it is under way any more
abbrev pub next_arrived : ℕ → State → Option Command
next_arrived conn s = elim (first_out conn s.tracked) [
  | Some place ↦ elim (find_place place s.tracked) [
    | Some c ↦ elim (c.last_out) [ Some stamp ↦ (if is_under_way_by (looks s) stamp (link_at s conn) then None else Some c) | None ↦ Some c ]
    | None ↦ None
  ]
  | None ↦ None
]

abbrev pub arrived_command : Command → State → State
arrived_command c s =
    let s' = record s { lane = arrived_in c.place s.lane; tracked = arrived_at c.place s.tracked } in
    elim (c.phase) [ Gone ↦ record s' { tracked = removed c.place s'.tracked } | Dormant ↦ s' | Fresh ↦ s' | Started ↦ s' | Running ↦ s' ]

-- so many of a trail at most
abbrev pub trailed : ℕ → ℕ → State → State
trailed zero conn s = s
trailed (suc n) conn s = elim (next_arrived conn s) [ Some c ↦ trailed n conn (arrived_command c s) | None ↦ s ]

abbrev pub trail : ℕ → State → State
trail conn s = trailed (length (trail_at s.tracked conn)) conn s

abbrev pub written : ℕ → State → State
written cid s = elim (place_of s cid) [ Some conn ↦ settle (trail conn (with_link conn written_by s)) | None ↦ s ]

abbrev pub heard : ℕ → ℕ → ℕ → State → State
heard cid exp_stat_sn tag s = elim (place_of s cid) [ Some conn ↦ settle (trail conn (with_link conn (heard_by exp_stat_sn tag) s)) | None ↦ s ]

-- ---- joined, lost and cleared

abbrev pub may_join : ℕ → State → Bool
may_join cid s = elim (place_of s cid) [ Some conn ↦ may_join_by (link_at s conn) | None ↦ false ]

abbrev pub joined : ℕ → ℕ → State → State
joined cid stat_sn s = elim (place_of s cid) [ Some conn ↦ with_link conn (joined_by stat_sn) s | None ↦ s ]

abbrev pub lost_on : ℕ → State → State
lost_on conn s = let s' = with_link conn (λ l. record l { lost = true }) s in record s' { waits = dropped_on conn s.waits; lane = dropped_answers conn s.lane }

abbrev pub lost : ℕ → State → State
lost cid s =
    let s' = record s { reached = 0 } in
    elim (place_of s cid) [ Some conn ↦ settle (trail conn (lost_on conn s')) | None ↦ settle s' ]

abbrev pub cleared_of : ℕ → State → State
cleared_of unit s = settle (record s { lane = cleared unit s.lane })

-- ---- the next PDU

pub data Out : Type 0 where
  Waited : Waiting → Out  -- what waited first
  Pinged : ℕ → Out  -- a ping with this transfer tag
  Noticed : Out  -- a NOP-In without a tag

-- what may go out on a connection now
abbrev pub from_queue : ℕ → State → Option Out
from_queue conn s = elim (queue_at s.waits conn) [
  | [] ↦ if wants_notice conn s then Some Noticed else None
  | e ∷ es ↦ if passes conn (record { time = e.time; takes = e.item.takes; fenced = e.item.fenced }) s then Some (Waited e.item) else None
]

abbrev pub chosen : ℕ → State → Option Out
chosen conn s = if is_open_by (link_at s conn) && nat_lt (link_at s conn).handed (2 ^ 63) then (if wants_ping conn s then Some (Pinged (tag_of_ping (link_at s conn).pings)) else from_queue conn s) else None

abbrev pub pdu_of : Out → Pdu
pdu_of (Waited item) = elim (item.content) [ IsReply reply ↦ ReplyPdu reply | IsOwn own ↦ OwnedPdu own ]
pdu_of (Pinged tag) = Ping tag
pdu_of Noticed = Notice

-- it is out of its queue
abbrev pub without : ℕ → Out → State → State
without conn (Waited item) s = record s { waits = popped conn s.waits }
without conn (Pinged tag) s = s
without conn Noticed s = s

abbrev pub numbered : ℕ → Out → State → Handed
numbered conn out s = record { pdu = pdu_of out; stat_sn = wire (link_at s conn).next; exp = s.exp; max = wire (max_shown (without conn out s)) }

abbrev pub given_on : ℕ → State → Given
given_on conn s = elim (chosen conn s) [ Some out ↦ Hands (numbered conn out s) | None ↦ (if is_over conn s then IsOver else Nothing) ]

abbrev pub given : ℕ → State → Given
given cid s = elim (place_of s cid) [ Some conn ↦ given_on conn s | None ↦ Nothing ]

abbrev pub shows : State → State
shows s = record s { shown = max_shown s; reached = max_shown s }

abbrev pub of_command : Option ℕ → Stamp → State → State
of_command (Some place) stamp s = if has_place place s.tracked then record s { tracked = handed_out place stamp s.tracked } else s
of_command None stamp s = s

abbrev pub of_fence : ℕ → Bool → Stamp → State → State
of_fence conn fenced stamp s = if fenced then record s { fence = Some (record { conn = conn; stamp = stamp }) } else s

abbrev pub after_out : ℕ → Out → State → State
after_out conn (Waited item) s =
    let stamp = stamp_by (link_at s conn) in
    with_link conn (handed_by item.takes item.ends) (of_fence conn item.fenced stamp (of_command item.command stamp (shows (without conn (Waited item) s))))
after_out conn (Pinged tag) s = with_link conn pinged_by (shows s)
after_out conn Noticed s = with_link conn (handed_by false false) (shows s)

abbrev pub next : ℕ → State → State
next cid s = elim (place_of s cid) [ Some conn ↦ elim (chosen conn s) [ Some out ↦ after_out conn out s | None ↦ s ] | None ↦ s ]
