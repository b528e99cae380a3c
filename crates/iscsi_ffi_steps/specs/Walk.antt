-- What the effects of an event make of the requests, one after the other.
use Rattle.std.specs.Prelude.{ℕ, zero, suc, ◌+◌, ◌%◌, ◌^◌, ◌==◌, ◌&&◌, not, nat_lt, Bool, true, false, List, [], ◌∷◌, ◌++◌, length, Option, Some, None, is_some, if◌then◌else◌}
use Rattle.iscsi_wire.specs.declared.request.Request.{Request}
use Rattle.iscsi_wire.specs.Fields.{connection_of, cmd_sn, opcode}
use Rattle.iscsi_tasks.specs.declared.task.Attr.{Attr}
use Rattle.iscsi_rules.specs.declared.effect.Effect.{Effect}
use Rattle.iscsi_rules.specs.declared.effect.Effect.TheVariants.{Deliver, Immediate, Wait, Void, Empty, Enter, Enable, Leave, Send, CloseConn, CloseSession, Ignore}
use Rattle.iscsi_arrivals.specs.Counts.{Counts, is_open_by}
use Rattle.iscsi_outbox_steps.specs.State.{place_of, link_at}
use Rattle.iscsi_outbox_steps.specs.Steps.{as_list, counted_from}
use Rattle.iscsi_requests.specs.Conns.{count_all, of_conn, oldest}
use Rattle.iscsi_requests.specs.Cookies.{cookie_at, has_place, last_cookie, used_less}
use Rattle.iscsi_requests.specs.Numbers.{held_at, with_held}
use Rattle.iscsi_requests.specs.Functions.{find_number, first_request as first_function, popped as function_popped, pushed as function_pushed, taken as function_taken}
use Rattle.iscsi_requests.specs.Replies.{WaitingReplies, first_request as first_reply, popped as reply_popped, pushed as reply_pushed}
use Rattle.iscsi_requests.specs.Unwritten.{popped as handed_popped}
use Rattle.iscsi_ffi_rules.specs.declared.action.Action.{Action}
use Rattle.iscsi_ffi_rules.specs.declared.action.Action.TheVariants.{Stop, Forget}
use Rattle.iscsi_ffi_rules.specs.declared.action.StopReason.{StopReason}
use Rattle.iscsi_ffi_rules.specs.declared.action.StopReason.TheVariants.{Aborted, LoggedOut, Lost}
use Rattle.iscsi_ffi_commands.specs.declared.command.Command.{Command}
use Rattle.iscsi_ffi_commands.specs.declared.command.Stage.{Stage}
use Rattle.iscsi_ffi_commands.specs.declared.command.Stage.TheVariants.{Entered, Over}
use Rattle.iscsi_ffi_commands.specs.Commands.{entered as command_entered, find_ticket, forgotten, is_going, is_marked, may_enter, staged}
use Rattle.iscsi_ffi_steps.specs.State.{State}

-- a state, and what was told: what is forgotten is told last
pub record Doing : Type 0 where
  pub state : State
  pub actions : List Action
  pub forgets : List Action

abbrev pub in_state : (State → State) → Doing → Doing
in_state change d = record d { state = change d.state }

-- what has no room isn't told. The room is meant for all that a call may tell; that it is enough isn't proved
abbrev pub with_room : ℕ → List Action → Action → List Action
with_room room actions action = if nat_lt (length actions) room then actions ++ action ∷ [] else actions

abbrev pub tell : Action → Doing → Doing
tell action d = record d { actions = with_room d.state.room d.actions action }

abbrev pub tell_all : List Action → Doing → Doing
tell_all [] d = d
tell_all (action ∷ actions) d = tell_all actions (tell action d)

-- ---- uses

abbrev pub forget : ℕ → List Action → Option ℕ → List Action
forget room forgets (Some cookie) = with_room room forgets (Forget cookie)
forget room forgets None = forgets

-- a request has one use less: with the last one it is forgotten, and its command, if it has one
abbrev pub release_one : ℕ → Doing → Doing
release_one request d =
    let s = d.state in
    let gone = last_cookie request s.cookies in
    record d {
      state = record s {
        cookies = used_less request s.cookies;
        commands = if is_some gone then forgotten request s.commands else s.commands;
      };
      forgets = forget s.room d.forgets gone;
    }

abbrev pub release : ℕ → Doing → Doing
release request d = if has_place request d.state.cookies then release_one request d else d

abbrev pub release_if : Option ℕ → Doing → Doing
release_if (Some request) d = release request d
release_if None d = d

-- so many functions of a connection are dropped
abbrev pub drop_functions : ℕ → ℕ → Doing → Doing
drop_functions zero conn d = d
drop_functions (suc n) conn d = drop_functions n conn (release_if (first_function conn d.state.functions) (in_state (λ s. record s { functions = function_popped conn s.functions }) d))

abbrev pub drop_functions_on : ℕ → Doing → Doing
drop_functions_on conn d = drop_functions (length (of_conn conn d.state.functions.waiting)) conn d

abbrev pub drop_each_function : List ℕ → Doing → Doing
drop_each_function [] d = d
drop_each_function (conn ∷ conns) d = drop_each_function conns (drop_functions_on conn d)

-- so many replies of a connection
abbrev pub drop_replies : ℕ → ℕ → Doing → Doing
drop_replies zero conn d = d
drop_replies (suc n) conn d = drop_replies n conn (release_if (first_reply conn d.state.replies) (in_state (λ s. record s { replies = reply_popped conn s.replies }) d))

-- so many own PDUs that wait
abbrev pub drop_noted : ℕ → ℕ → Doing → Doing
drop_noted zero conn d = d
drop_noted (suc n) conn d = drop_noted n conn (elim (oldest (of_conn conn d.state.noted.handed)) [ Some request ↦ release_if request (in_state (λ s. record s { noted = handed_popped conn s.noted }) d) | None ↦ d ])

-- all that waits there
abbrev pub drop_waiting : ℕ → Doing → Doing
drop_waiting conn d =
    let d' = drop_replies (length (of_conn conn d.state.replies.waiting)) conn d in
    drop_noted (length (of_conn conn d'.state.noted.handed)) conn d'

-- ---- an item

-- the request that executes, or that of the command that completes, until it is answered or enters; the one that arrives in this event,
-- until it has its place; whether a request executes, and the Logout that tells of a lost connection; how many replies there were
pub record Walk : Type 0 where
  pub doing : Doing
  pub current : Option ℕ
  pub own : Option ℕ
  pub by : Option StopReason
  pub sent : ℕ

abbrev pub walking : (Doing → Doing) → Walk → Walk
walking change w = record w { doing = change w.doing }

-- what executed and was neither answered nor entered is over
abbrev pub end_item : Walk → Walk
end_item w = record w { doing = release_if w.current w.doing; current = None; by = None }

-- why what leaves by a request stops; the Logout that no caller gave tells of a lost connection
abbrev pub reason_by : Request → Option ℕ → StopReason
reason_by r request = if opcode r == 0x06 then (if is_some request then LoggedOut else Lost) else Aborted

abbrev pub executes : Request → Option ℕ → Walk → Walk
executes r request w = record w { current = request; by = Some (reason_by r request) }

abbrev pub deliver : Request → Walk → Walk
deliver r w =
    let w' = end_item w in
    executes r (held_at (cmd_sn r) w'.doing.state.held) (walking (in_state (λ s. record s { held = with_held (cmd_sn r) None s.held })) w')

abbrev pub conn_of : State → Request → Option ℕ
conn_of s r = place_of s.outbox (connection_of r)

abbrev pub function_on : Request → Option ℕ → Walk → Walk
function_on r (Some conn) w = executes r (find_number conn (cmd_sn r) w.doing.state.functions) (walking (in_state (λ s. record s { functions = function_taken conn (cmd_sn r) s.functions })) w)
function_on r None w = executes r None w

-- the one that arrives in this event executes first; `arrived`: it isn't told of yet, where no caller gave it
abbrev pub immediate : Bool → Request → Walk → Walk
immediate arrived r w =
    let w' = end_item w in
    elim (w'.own) [
      | Some request ↦ executes r (Some request) (record w' { own = None })
      | None ↦ if arrived then executes r None w' else function_on r (conn_of w'.doing.state r) w'
    ]

abbrev pub wait_on : Request → Option ℕ → Option ℕ → Walk → Walk
wait_on r (Some conn) (Some request) w =
    if nat_lt (count_all w.doing.state.functions.waiting) w.doing.state.functions.room
    then walking (in_state (λ s. record s { functions = function_pushed conn (record { number = cmd_sn r; request = request }) s.functions })) (record w { own = None })
    else w
wait_on r _ _ w = w

abbrev pub wait : Request → Walk → Walk
wait r w = let w' = end_item w in wait_on r (conn_of w'.doing.state r) w'.own w'

abbrev pub empty : ℕ → Walk → Walk
empty number w = walking (λ d. release_if (held_at number d.state.held) (in_state (λ s. record s { held = with_held number None s.held }) d)) w

abbrev pub enter_command : Command → Walk → Walk
enter_command c w =
    if may_enter c w.doing.state.commands then walking (in_state (λ s. record s { commands = command_entered c s.commands })) (record w { current = None }) else w

abbrev pub enter : (ticket unit : ℕ) → Attr → Option ℕ → Walk → Walk
enter ticket unit attr (Some request) w = enter_command (record { ticket = ticket; request = request; unit = unit; attr = attr; stage = Entered }) w
enter ticket unit attr None w = w

-- a command comes to another stage
abbrev pub with_stage : Stage → ℕ → State → State
with_stage stage ticket s = record s { commands = staged stage ticket s.commands }

abbrev pub told_to_stop : Command → StopReason → Doing → Doing
told_to_stop c why d = if is_going c && not (is_marked c) then tell (Stop c.ticket (cookie_at c.request d.state.cookies) why) d else d

-- a command that a request takes out stops, if it was told to start; else its request is over
abbrev pub take_out : Command → StopReason → Doing → Doing
take_out c why d =
    let d' = in_state (with_stage Over c.ticket) (told_to_stop c why d) in
    if is_going c then d' else release c.request d'

abbrev pub leave_as : Option StopReason → Command → Walk → Walk
leave_as (Some why) c w = walking (take_out c why) w
leave_as None c w = walking (in_state (with_stage Over c.ticket)) (record w { current = Some (c.request) })

abbrev pub leave : ℕ → Walk → Walk
leave ticket w = elim (find_ticket ticket w.doing.state.commands) [ Some c ↦ leave_as w.by c w | None ↦ w ]

-- a reply is that of the request that executes, or of the one that arrives
abbrev pub answering : Walk → Option ℕ
answering w = elim (w.current) [ Some request ↦ Some request | None ↦ w.own ]

-- there is room, and its place is above those of the others
abbrev pub may_wait : ℕ → WaitingReplies → Bool
may_wait place v = nat_lt (count_all v.waiting) v.room && nat_lt (place + 1) (2 ^ 64) && elim (v.last) [ Some last ↦ nat_lt last place | None ↦ true ]

abbrev pub send_as : Option ℕ → Option ℕ → Walk → Walk
send_as (Some conn) (Some request) w =
    if may_wait w.sent w.doing.state.replies
    then walking (in_state (λ s. record s { replies = reply_pushed conn (record { log_place = w.sent; request = request }) s.replies })) (record w { current = None; own = None })
    else w
send_as _ _ w = w

abbrev pub send : ℕ → Walk → Walk
send cid w = let w' = send_as (place_of w.doing.state.outbox cid) (answering w) w in record w' { sent = (w.sent + 1) % 2 ^ 64 }

abbrev pub conns_closed : State → Effect → List ℕ
conns_closed s (CloseConn cid) = as_list (place_of s.outbox cid)
conns_closed s CloseSession = counted_from 0 s.outbox.links
conns_closed s _ = []

abbrev pub on_effect : Bool → Effect → Walk → Walk
on_effect first (Deliver r) w = deliver r w
on_effect first (Immediate r) w = immediate first r w
on_effect first (Wait r) w = wait r w
on_effect first (Void number) w = w
on_effect first (Empty number) w = empty number w
on_effect first (Enter ticket unit attr) w = enter ticket unit attr w.current w
on_effect first (Enable ticket unit) w = w
on_effect first (Leave ticket unit) w = leave ticket w
on_effect first (Send cid stat_sn reply) w = send cid w
on_effect first (CloseConn cid) w = walking (λ d. drop_each_function (conns_closed d.state (CloseConn cid)) d) w
on_effect first CloseSession w = walking (λ d. drop_each_function (conns_closed d.state CloseSession) d) w
on_effect first (Ignore why) w = walking (release_if w.own) (record w { own = None })

-- `first`: nothing was before it in its event
abbrev pub on_effects : Bool → List Effect → Walk → Walk
on_effects first [] w = end_item w
on_effects first (effect ∷ effects) w = on_effects false effects (on_effect first effect w)

-- ---- what goes out on a connection no more

abbrev pub keeps : Counts → Bool
keeps l = is_open_by l && not l.cut

-- the connections that an effect sends something on, or closes
abbrev pub touched_by : State → Effect → List ℕ
touched_by s (Send cid stat_sn reply) = as_list (place_of s.outbox cid)
touched_by s effect = conns_closed s effect

abbrev pub sweep : List ℕ → Doing → Doing
sweep [] d = d
sweep (conn ∷ conns) d = sweep conns (if keeps (link_at d.state.outbox conn) then d else drop_waiting conn d)
