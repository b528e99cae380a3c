-- What each call makes of what a side keeps, what it answers, and what it tells.
use Rattle.std.specs.Prelude.{ℕ, zero, suc, ◌+◌, ◌&&◌, not, nat_le, nat_lt, Bool, true, false, List, [], ◌∷◌, ◌++◌, length, filter_map, Option, Some, None, slice_index_or, slice_set, if◌then◌else◌}
use Rattle.std.specs.List.{flat_map, list_any}
use Rattle.iscsi_wire.specs.declared.request.Request.{Request}
use Rattle.iscsi_wire.specs.declared.reply.Reply.{Reply}
use Rattle.iscsi_wire.specs.Fields.{request_of, is_immediate, cmd_sn}
use Rattle.iscsi_rules.specs.declared.effect.Effect.{Effect}
use Rattle.iscsi_rules.specs.declared.effect.Effect.TheVariants.{Send, Ignore}
use Rattle.iscsi_rules.specs.declared.entry.Entry.{Entry}
use Rattle.iscsi_rules.specs.declared.event.Event.{Event}
use Rattle.iscsi_rules.specs.declared.event.Event.TheVariants.{Arrive, Done}
use Rattle.iscsi_rules.specs.rules.Trace.{Trace}
use Rattle.iscsi_rules.specs.rules.Run.{after_event, entry_of}
use Rattle.iscsi_rules.specs.promises.Order.{in_parts}
use Rattle.iscsi_outbox_rules.specs.declared.own_pdu.OwnPdu.{OwnPdu}
use Rattle.iscsi_outbox_rules.specs.declared.own_pdu.OwnPdu.TheVariants.{OfCommand, OfConnection}
use Rattle.iscsi_outbox_rules.specs.declared.own_pdu.PutRefusal.{PutRefusal}
use Rattle.iscsi_outbox_rules.specs.rules.Items.{executing, reply_sent, ticket_enabled}
use Rattle.iscsi_arrivals.specs.Counts.{is_open_by}
use Rattle.iscsi_outbox_steps.specs.declared.given.Given.{Given}
use Rattle.iscsi_outbox_steps.specs.declared.given.Given.TheVariants.{Hands, Nothing, IsOver}
use Rattle.iscsi_outbox_steps.specs.declared.given.Handed.{Handed}
use Rattle.iscsi_outbox_steps.specs.declared.given.Pdu.{Pdu}
use Rattle.iscsi_outbox_steps.specs.declared.given.Pdu.TheVariants.{Reply as IsReply, Own as IsOwn, Ping, Notice}
use Rattle.iscsi_outbox_steps.specs.State.{link_at, may_take, place_of}
use Rattle.iscsi_outbox_steps.specs.Steps.{cleared_of, given, heard, is_running_ticket, joined, lost, may_join, next as handed_out, put as taken_in, put_refusal, stopped as stopped_in, taken, written as written_out}
use Rattle.iscsi_requests.specs.Conns.{count_all, of_conn, oldest}
use Rattle.iscsi_requests.specs.Cookies.{cookie_at, entered, has_place, next_place, used_more, uses_at}
use Rattle.iscsi_requests.specs.Numbers.{with_held}
use Rattle.iscsi_requests.specs.Replies.{find_log_place, taken as reply_taken}
use Rattle.iscsi_requests.specs.Unwritten.{Unwritten, popped as handed_popped, pushed as handed_pushed}
use Rattle.iscsi_ffi_rules.specs.declared.action.Action.{Action}
use Rattle.iscsi_ffi_rules.specs.declared.action.Action.TheVariants.{Start, Stop, Ready, Close}
use Rattle.iscsi_ffi_rules.specs.declared.action.StopReason.TheVariants.{Cleared as ClearedReason}
use Rattle.iscsi_ffi_rules.specs.declared.refusal.Refusal.{Refusal}
use Rattle.iscsi_ffi_rules.specs.declared.refusal.Refusal.TheVariants.{UnknownConnection, NotJoined, Exhausted, Busy}
use Rattle.iscsi_ffi_rules.specs.rules.Calls.{Interface, Call, Arrives, Completes, Stops, Nexts, Puts, Writes, Hears, Joins, Loses, Clears, Cleared as IsCleared}
use Rattle.iscsi_ffi_rules.specs.rules.Clearing.{BUSY, TASK_ABORTED}
use Rattle.iscsi_ffi_rules.specs.rules.Happening.{is_complete, is_reset, reset}
use Rattle.iscsi_ffi_rules.specs.rules.Run.{kept_back, parting, tag_heard, word_at}
use Rattle.iscsi_ffi_commands.specs.declared.command.Command.{Command}
use Rattle.iscsi_ffi_commands.specs.declared.command.Stage.TheVariants.{Entered, Marked, Started, Cleared, Over}
use Rattle.iscsi_ffi_commands.specs.Commands.{find_ticket, is_going, is_live, is_marked, of_unit}
use Rattle.iscsi_ffi_steps.specs.State.{State, is_withheld, opened, withhold}
use Rattle.iscsi_ffi_steps.specs.Walk.{Doing, Walk, drop_waiting, in_state, on_effects, release, release_if, sweep, tell, tell_all, touched_by, with_stage}

-- a side, and the history of its session
pub record Side : Type 0 where
  pub event : ℕ  -- how many events there were
  pub trace : Trace
  pub state : State

abbrev pub begun : Interface → Side
begun i = record { event = 0; trace = []; state = opened i }

-- a side, and what was told on the way to it
pub record Going : Type 0 where
  pub event : ℕ
  pub trace : Trace
  pub doing : Doing

abbrev pub going : Side → Going
going s = record { event = s.event; trace = s.trace; doing = record { state = s.state; actions = []; forgets = [] } }

abbrev pub changed : (Doing → Doing) → Going → Going
changed change g = record g { doing = change g.doing }

-- ---- an event

abbrev pub walk_from : Option ℕ → Doing → Walk
walk_from own d = record { doing = d; current = None; own = own; by = None; sent = d.state.outbox.sent }

-- resets that other sessions' commands wait for
abbrev pub reset_in : ℕ → List Effect → List Action
reset_in units item = elim (executing item) [
  | Some r ↦ if is_reset r && list_any (λ (sent : ℕ × Reply). is_complete sent.1) (filter_map reply_sent item) then reset units r else []
  | None ↦ []
]

abbrev pub resets_in : State → List Effect → List Action
resets_in s effects = if s.outbox.limits.shared then flat_map (reset_in s.outbox.limits.units) (in_parts effects) else []

-- a command that was enabled starts, or is to be completed
abbrev pub start : Command → Doing → Doing
start c d =
    if is_withheld d.state c then in_state (withhold c.ticket) d
    else in_state (with_stage Started c.ticket) (tell (Start c.ticket c.unit c.attr (cookie_at c.request d.state.cookies)) d)

abbrev pub start_each : List ℕ → Doing → Doing
start_each [] d = d
start_each (ticket ∷ tickets) d = start_each tickets (elim (find_ticket ticket d.state.commands) [ Some c ↦ (if is_live c then start c d else d) | None ↦ d ])

-- the effects of an event; `own`: the request that arrives in it, if it isn't held
abbrev pub takes : Option ℕ → Entry → Doing → Doing
takes own entry d =
    let d' = in_state (λ s. record s { outbox = taken entry.effects entry.numbers s.outbox }) (on_effects true entry.effects (walk_from own d)).doing in
    let swept = sweep (flat_map (touched_by d'.state) entry.effects) d' in
    start_each (filter_map ticket_enabled entry.effects) (tell_all (resets_in swept.state entry.effects) swept)

-- a session takes so many events
abbrev pub happening : Interface → Option ℕ → Event → Going → Going
happening i own e g = if nat_lt g.event i.outbox.session.events then record {
  event = g.event + 1;
  trace = after_event i.outbox.session g.event g.trace e;
  doing = takes own (entry_of i.outbox.session g.event g.trace e) g.doing;
} else g

abbrev pub status_of : State → ℕ → ℕ
status_of s ticket = elim (find_ticket ticket s.commands) [ Some c ↦ (if is_marked c then TASK_ABORTED else BUSY) | None ↦ BUSY ]

-- so many of the commands that never start are completed, the oldest first
abbrev pub withholding : Interface → ℕ → Going → Going
withholding i zero g = g
withholding i (suc n) g = elim (g.doing.state.withheld) [
  | [] ↦ g
  | ticket ∷ tickets ↦
      let status = status_of g.doing.state ticket in
      withholding i n (happening i None (Done ticket status) (changed (in_state (λ s. record s { withheld = tickets })) g))
]

abbrev pub happens : Interface → Option ℕ → Event → Going → Going
happens i own e g = let g' = happening i own e g in withholding i (length g'.doing.state.commands.items) g'

-- ---- what a call answers

pub data Answer : Type 0 where
  Taken : Answer
  Refused : Refusal → Answer
  Stale : Answer
  Put : Option PutRefusal → Answer
  Joined : Bool → Answer
  Goes : Handed → Option ℕ → Answer
  Blocked : Answer
  NoneGoes : Answer
  NoneIsLeft : Answer

pub record Answered : Type 0 where
  pub going : Going
  pub answer : Answer

abbrev pub done : Going → Answered
done g = record { going = g; answer = Taken }

abbrev pub says : Side → Answer → Answered
says s answer = record { going = going s; answer = answer }

-- ---- requests

abbrev pub refusal_on : Interface → Side → ℕ → Option Refusal
refusal_on i s conn =
    if not (is_open_by (link_at s.state.outbox conn)) then Some NotJoined
    else (if nat_le i.outbox.session.events (s.event + kept_back i.outbox.session) then Some Exhausted
    else (if not (may_take s.state.outbox) then Some Busy else None))

abbrev pub refusal_of : Interface → Side → ℕ → Option Refusal
refusal_of i s cid = elim (place_of s.state.outbox cid) [ Some conn ↦ refusal_on i s conn | None ↦ Some UnknownConnection ]

-- it is received, and held until its turn comes: also where that is at once
abbrev pub is_held_first : Request → List Effect → Bool
is_held_first r [] = not (is_immediate r)
is_held_first r (Ignore why ∷ effects) = false
is_held_first r (Send cid stat_sn reply ∷ effects) = false
is_held_first r (effect ∷ effects) = not (is_immediate r)

abbrev pub hold : Request → ℕ → Doing → Doing
hold r request d = in_state (λ s. record s { held = with_held (cmd_sn r) (Some request) s.held }) d

abbrev pub arriving : Interface → ℕ → List ℕ → Option ℕ → Going → Going
arriving i cid header None g = g
arriving i cid header (Some request) g =
    let r = request_of cid header in
    let entry = entry_of i.outbox.session g.event g.trace (Arrive cid header) in
    if is_held_first r entry.effects then happens i None (Arrive cid header) (changed (hold r request) g)
    else happens i (Some request) (Arrive cid header) g

abbrev pub enter_request : ℕ → ℕ → Doing → Doing
enter_request cookie request d = in_state (λ s. record s { cookies = entered cookie request s.cookies }) d

abbrev pub known : ℕ → Option ℕ → Going → Going
known cookie (Some request) g = changed (enter_request cookie request) g
known cookie None g = g

abbrev pub heard_first : ℕ → List ℕ → State → State
heard_first cid header s = record s { outbox = heard cid (word_at 28 header) (tag_heard header) s.outbox }

abbrev pub arrive : Interface → ℕ → List ℕ → ℕ → Side → Answered
arrive i cid header cookie s = elim (refusal_of i s cid) [
  | Some refusal ↦ says s (Refused refusal)
  | None ↦ let place = next_place s.state.cookies in done (arriving i cid header place (known cookie place (changed (in_state (heard_first cid header)) (going s))))
]

-- ---- commands

-- a command that runs has stopped
abbrev pub stop_running : ℕ → Side → Answered
stop_running ticket s =
    if is_running_ticket ticket s.state.outbox then
    (let g = changed (in_state (λ t. record t { outbox = stopped_in ticket t.outbox })) (going s) in
    done (elim (find_ticket ticket s.state.commands) [ Some c ↦ changed (release c.request) g | None ↦ g ]))
    else says s Stale

abbrev pub complete_as : Interface → Command → ℕ → Side → Answered
complete_as i c status s = if is_going c then done (happens i None (Done c.ticket (if is_marked c then TASK_ABORTED else status)) (going s)) else stop_running c.ticket s

abbrev pub complete : Interface → ℕ → ℕ → Side → Answered
complete i ticket status s = elim (find_ticket ticket s.state.commands) [ Some c ↦ complete_as i c status s | None ↦ stop_running ticket s ]

abbrev pub stop_as : Interface → Command → Side → Answered
stop_as i c s = if is_going c && is_marked c then done (happens i None (Done c.ticket TASK_ABORTED) (going s)) else stop_running c.ticket s

abbrev pub stop : Interface → ℕ → Side → Answered
stop i ticket s = elim (find_ticket ticket s.state.commands) [ Some c ↦ stop_as i c s | None ↦ stop_running ticket s ]

-- another session's reset: a command is marked, and told to stop if it was told to start
abbrev pub clear_one : Command → Doing → Doing
clear_one c d = elim (c.stage) [
  | Entered ↦ in_state (with_stage Marked c.ticket) d
  | Started ↦ in_state (with_stage Cleared c.ticket) (tell (Stop c.ticket (cookie_at c.request d.state.cookies) ClearedReason) d)
  | Marked ↦ d
  | Cleared ↦ d
  | Over ↦ d
]

abbrev pub clear_each : List Command → Doing → Doing
clear_each [] d = d
clear_each (c ∷ cs) d = clear_each cs (clear_one c d)

abbrev pub clear : ℕ → Side → Answered
clear unit s = done (changed (clear_each (of_unit unit s.state.commands)) (going s))

-- ---- connections

abbrev pub drop_unwritten : ℕ → ℕ → Doing → Doing
drop_unwritten zero conn d = d
drop_unwritten (suc n) conn d = drop_unwritten n conn (elim (oldest (of_conn conn d.state.unwritten.handed)) [
  | Some request ↦ release_if request (in_state (λ s. record s { unwritten = handed_popped conn s.unwritten }) d)
  | None ↦ d
])

abbrev pub lose_on : Interface → ℕ → ℕ → Side → Answered
lose_on i cid conn s =
    let l = link_at s.state.outbox conn in
    if l.lost then says s (Refused NotJoined)
    else (let g = changed (λ d.
    let d' = drop_waiting conn (in_state (λ t. record t { outbox = lost cid t.outbox }) d) in
    drop_unwritten (length (of_conn conn d'.state.unwritten.handed)) conn d') (going s) in
    done (if l.closed then g else happens i None (Arrive cid (parting cid)) g))

abbrev pub lose : Interface → ℕ → Side → Answered
lose i cid s = elim (place_of s.state.outbox cid) [ Some conn ↦ lose_on i cid conn s | None ↦ says s (Refused UnknownConnection) ]

-- ---- what goes out

-- the request that a PDU belongs to
abbrev pub request_handed : State → ℕ → Pdu → Option ℕ
request_handed s conn (IsReply sent) = find_log_place sent.place s.replies
request_handed s conn (IsOwn (OfCommand ticket header)) = elim (find_ticket ticket s.commands) [ Some c ↦ Some (c.request) | None ↦ None ]
request_handed s conn (IsOwn (OfConnection cid header)) = elim (oldest (of_conn conn s.noted.handed)) [ Some request ↦ request | None ↦ None ]
request_handed s conn (Ping tag) = None
request_handed s conn Notice = None

abbrev pub used_again : ℕ → State → State
used_again place s = if has_place place s.cookies && nat_lt (uses_at place s.cookies) 4294967295 then record s { cookies = used_more place s.cookies } else s

-- a reply, or an own PDU that is of no command, waits no more: its use goes on until it is written. One of a command is a use more
abbrev pub leaves_queue : ℕ → Pdu → Option ℕ → State → State
leaves_queue conn (IsReply sent) request s = record s { replies = reply_taken sent.place s.replies }
leaves_queue conn (IsOwn (OfCommand ticket header)) request s = elim request [ Some place ↦ used_again place s | None ↦ s ]
leaves_queue conn (IsOwn (OfConnection cid header)) request s = record s { noted = handed_popped conn s.noted }
leaves_queue conn (Ping tag) request s = s
leaves_queue conn Notice request s = s

abbrev pub pushed_with_room : ℕ → Option ℕ → Unwritten → Unwritten
pushed_with_room conn request v = if nat_lt (count_all v.handed) v.room then handed_pushed conn request v else v

abbrev pub hand_out : ℕ → ℕ → Handed → Side → Answered
hand_out cid conn h s =
    let request = request_handed s.state conn h.pdu in
    record {
      going = changed (in_state (λ t. let t' = leaves_queue conn h.pdu request t in record t' { outbox = handed_out cid t'.outbox; unwritten = pushed_with_room conn request t'.unwritten })) (going s);
      answer = Goes h (elim request [ Some place ↦ Some (cookie_at place s.state.cookies) | None ↦ None ]);
    }

abbrev pub is_blocked : Interface → ℕ → State → Bool
is_blocked i conn s = is_open_by (link_at s.outbox conn) && nat_le i.unwritten (length (of_conn conn s.unwritten.handed))

abbrev pub asleep : ℕ → Side → Side
asleep conn s = record s { state = record s.state { awake = slice_set s.state.awake conn false } }

abbrev pub next_on : Interface → ℕ → ℕ → Side → Answered
next_on i cid conn s =
    if is_blocked i conn s.state then says s Blocked
    else elim (given cid s.state.outbox) [ Hands h ↦ hand_out cid conn h s | Nothing ↦ says (asleep conn s) NoneGoes | IsOver ↦ says (asleep conn s) NoneIsLeft ]

abbrev pub next : Interface → ℕ → Side → Answered
next i cid s = elim (place_of s.state.outbox cid) [ Some conn ↦ next_on i cid conn s | None ↦ says s NoneGoes ]

-- what was handed out first there is written
abbrev pub write_on : ℕ → Doing → Doing
write_on conn d = elim (oldest (of_conn conn d.state.unwritten.handed)) [
  | Some request ↦ release_if request (in_state (λ s. record s { unwritten = handed_popped conn s.unwritten }) d)
  | None ↦ d
]

abbrev pub write : ℕ → Side → Answered
write cid s =
    let g = changed (in_state (λ t. record t { outbox = written_out cid t.outbox })) (going s) in
    done (elim (place_of s.state.outbox cid) [ Some conn ↦ changed (write_on conn) g | None ↦ g ])

-- one that is of no command has a word of its own
abbrev pub note_as : Option ℕ → Option ℕ → ℕ → State → State
note_as (Some conn) (Some place) cookie s = record s { cookies = entered cookie place s.cookies; noted = pushed_with_room conn (Some place) s.noted }
note_as _ _ cookie s = s

abbrev pub note : OwnPdu → ℕ → State → State
note (OfConnection cid header) cookie s = note_as (place_of s.outbox cid) (next_place s.cookies) cookie s
note (OfCommand ticket header) cookie s = s

abbrev pub put : OwnPdu → ℕ → Side → Answered
put p cookie s =
    let refusal = put_refusal p s.state.outbox in
    record {
      going = elim refusal [ Some why ↦ going s | None ↦ changed (in_state (λ t. note p cookie (record t { outbox = taken_in p t.outbox }))) (going s) ];
      answer = Put refusal;
    }

-- ---- at the end of a call

abbrev pub gives : Given → Bool
gives (Hands h) = true
gives Nothing = false
gives IsOver = false

abbrev pub gives_no_more : Given → Bool
gives_no_more (Hands h) = false
gives_no_more Nothing = false
gives_no_more IsOver = true

-- the connections in their order, by place and CID
abbrev pub tell_on : ℕ → ℕ → Doing → Doing
tell_on conn cid d =
    if gives (given cid d.state.outbox) && not (slice_index_or d.state.awake conn false)
    then in_state (λ s. record s { awake = slice_set s.awake conn true }) (tell (Ready cid) d)
    else d

abbrev pub tell_each : ℕ → List ℕ → Doing → Doing
tell_each conn [] d = d
tell_each conn (cid ∷ cids) d = tell_each (conn + 1) cids (tell_on conn cid d)

abbrev pub close_on : ℕ → ℕ → Doing → Doing
close_on conn cid d =
    if gives_no_more (given cid d.state.outbox) && not (slice_index_or d.state.over conn false)
    then in_state (λ s. record s { over = slice_set s.over conn true }) (tell (Close cid) d)
    else d

abbrev pub close_each : ℕ → List ℕ → Doing → Doing
close_each conn [] d = d
close_each conn (cid ∷ cids) d = close_each (conn + 1) cids (close_on conn cid d)

abbrev pub ended : Going → Going
ended g = changed (λ d. let cids = d.state.outbox.limits.cids in close_each 0 cids (tell_each 0 cids d)) g

-- ---- calls

abbrev pub quietly : (State → State) → Side → Answered
quietly change s = done (changed (in_state change) (going s))

abbrev pub called : Interface → Call → Side → Answered
called i (Arrives cid header cookie) s = arrive i cid header cookie s
called i (Completes ticket status) s = complete i ticket status s
called i (Stops ticket) s = stop i ticket s
called i (Nexts cid) s = next i cid s
called i (Puts p cookie) s = put p cookie s
called i (Writes cid) s = write cid s
called i (Hears cid exp_stat_sn tag) s = quietly (λ t. record t { outbox = heard cid exp_stat_sn tag t.outbox }) s
called i (Joins cid stat_sn) s = record { going = changed (in_state (λ t. record t { outbox = joined cid stat_sn t.outbox })) (going s); answer = Joined (may_join cid s.state.outbox) }
called i (Loses cid) s = lose i cid s
called i (Clears unit) s = clear unit s
called i (IsCleared unit) s = quietly (λ t. record t { outbox = cleared_of unit t.outbox }) s

-- what a call tells: what is forgotten last
abbrev pub told : Going → List Action
told g = g.doing.actions ++ g.doing.forgets

abbrev pub after : Going → Side
after g = record { event = g.event; trace = g.trace; state = g.doing.state }

abbrev pub answered_from : Interface → Side → List Call → List (Answer × List Action)
answered_from i s [] = []
answered_from i s (c ∷ cs) = let a = called i c s in let g = ended a.going in (a.answer, told g) ∷ answered_from i (after g) cs

-- what each call of a list answers, and tells
abbrev pub answered_by : Interface → List Call → List (Answer × List Action)
answered_by i cs = answered_from i (begun i) cs
