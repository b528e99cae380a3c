-- What the calls of a desk leave of the connections: they stay the same.
use Rattle.std.proofs.Common.{◌≡◌, ℕ, ◌∙◌, ◌&&◌, not, nat_lt, Bool, true, false, List, [], ◌∷◌, length, filter_map, Option, Some, None, refl, ap, if◌then◌else◌}
use Rattle.std.specs.List.{flat_map}
use Rattle.iscsi_wire.specs.declared.request.Request.{Request}
use Rattle.iscsi_rules.specs.declared.effect.Effect.{Effect}
use Rattle.iscsi_rules.specs.declared.effect.Effect.TheVariants.{Deliver, Immediate, Wait, Void, Empty, Enter, Enable, Leave, Send, CloseConn, CloseSession, Ignore}
use Rattle.iscsi_rules.specs.declared.entry.Entry.{Entry}
use Rattle.iscsi_outbox_rules.specs.rules.Calls.{Takes}
use Rattle.iscsi_outbox_rules.specs.rules.Items.{ticket_enabled}
use Rattle.iscsi_outbox_steps.specs.State.{State as OutboxState, place_of}
use Rattle.iscsi_outbox_steps.specs.Steps.{taken}
use Rattle.iscsi_outbox.proofs.LimitsLemmas.{limits_stay}
use Rattle.iscsi_requests.specs.Conns.{count_all}
use Rattle.iscsi_requests.specs.Numbers.{held_at, with_held}
use Rattle.iscsi_ffi_commands.specs.declared.command.Command.{Command}
use Rattle.iscsi_ffi_commands.specs.declared.command.Stage.{Stage}
use Rattle.iscsi_ffi_commands.specs.declared.command.Stage.TheVariants.{Entered, Marked, Started, Cleared, Over}
use Rattle.iscsi_ffi_commands.specs.Commands.{find_ticket, is_going, is_live, is_marked, may_enter}
use Rattle.iscsi_ffi_rules.specs.declared.action.StopReason.{StopReason}
use Rattle.iscsi_ffi_steps.specs.State.{State, is_withheld, withhold}
use Rattle.iscsi_ffi_steps.specs.Walk.{Doing, Walk, answering, conn_of, conns_closed, drop_each_function, enter, enter_command, end_item, executes, function_on, in_state, leave_as, may_wait, on_effect, on_effects, release, send_as, sweep, take_out, tell_all, told_to_stop, touched_by, wait_on, with_stage}
use Rattle.iscsi_ffi_steps.specs.Steps.{clear_each, clear_one, resets_in, start, start_each, takes, walk_from}
use Rattle.iscsi_ffi_desk.proofs.DropLemmas.{functions_outbox, released_if_stays, released_stays, sweep_outbox}
use Rattle.iscsi_ffi_desk.proofs.TellLemmas.{told_state}

abbrev box : Walk → OutboxState
box w = w.doing.state.outbox

either : {A B : Type 0} (f : A → B) (b : Bool) (x y : A) (z : B) → f x ≡ z → f y ≡ z → f (if b then x else y) ≡ z
either f true x y z e g = e
either f false x y z e g = g

-- ---- one effect

ended_box : (w : Walk) → box (end_item w) ≡ box w
ended_box w = (released_if_stays w.current w.doing).outbox

function_box : (r : Request) (conn : Option ℕ) (w : Walk) → box (function_on r conn w) ≡ box w
function_box r (Some conn) w = refl
function_box r None w = refl

immediate_box : (own : Option ℕ) (b : Bool) (conn : Option ℕ) (r : Request) (w : Walk)
    → box (elim own as (λ (q : Option ℕ). Walk) [ Some request ↦ executes r (Some request) (record w { own = None }) | None ↦ if b then executes r None w else function_on r conn w ]) ≡ box w
immediate_box (Some request) b conn r w = refl
immediate_box None true conn r w = refl
immediate_box None false conn r w = function_box r conn w

wait_box : (r : Request) (conn own : Option ℕ) (w : Walk) → box (wait_on r conn own w) ≡ box w
wait_box r (Some conn) (Some request) w = either box (nat_lt (count_all w.doing.state.functions.waiting) w.doing.state.functions.room) _ w (box w) refl refl
wait_box r (Some conn) None w = refl
wait_box r None own w = refl

enter_box : (c : Command) (w : Walk) → box (enter_command c w) ≡ box w
enter_box c w = either box (may_enter c w.doing.state.commands) _ w (box w) refl refl

told_box : (c : Command) (why : StopReason) (d : Doing) → (told_to_stop c why d).state.outbox ≡ d.state.outbox
told_box c why d = either (λ (x : Doing). x.state.outbox) (is_going c && not (is_marked c)) _ d d.state.outbox refl refl

out_box : (c : Command) (why : StopReason) (d : Doing) → (take_out c why d).state.outbox ≡ d.state.outbox
out_box c why d =
    let d' = in_state (with_stage Over c.ticket) (told_to_stop c why d) in
    either (λ (x : Doing). x.state.outbox) (is_going c) d' (release c.request d') d.state.outbox (told_box c why d) ((released_stays c.request d').outbox ∙ told_box c why d)

leave_as_box : (by : Option StopReason) (c : Command) (w : Walk) → box (leave_as by c w) ≡ box w
leave_as_box (Some why) c w = out_box c why w.doing
leave_as_box None c w = refl

leave_box : (c : Option Command) (w : Walk) → box (elim c as (λ (q : Option Command). Walk) [ Some c ↦ leave_as w.by c w | None ↦ w ]) ≡ box w
leave_box (Some c) w = leave_as_box w.by c w
leave_box None w = refl

send_box : (conn request : Option ℕ) (w : Walk) → box (send_as conn request w) ≡ box w
send_box (Some conn) (Some request) w = either box (may_wait w.sent w.doing.state.replies) _ w (box w) refl refl
send_box (Some conn) None w = refl
send_box None request w = refl

drop_box : (conns : List ℕ) (d : Doing) → (drop_each_function conns d).state.outbox ≡ d.state.outbox
drop_box [] d = refl
drop_box (conn ∷ conns) d = drop_box conns _ ∙ functions_outbox conn d

effect_box : (first : Bool) (effect : Effect) (w : Walk) → box (on_effect first effect w) ≡ box w
effect_box first (Deliver r) w = ended_box w
effect_box first (Immediate r) w = let w' = end_item w in immediate_box w'.own first (conn_of w'.doing.state r) r w' ∙ ended_box w
effect_box first (Wait r) w = let w' = end_item w in wait_box r (conn_of w'.doing.state r) w'.own w' ∙ ended_box w
effect_box first (Void number) w = refl
effect_box first (Empty number) w = (released_if_stays (held_at number w.doing.state.held) (in_state (λ s. record s { held = with_held number None s.held }) w.doing)).outbox
effect_box first (Enter ticket unit attr) w = entering w.current
  where
    entering : (o : Option ℕ) → box (enter ticket unit attr o w) ≡ box w
    entering (Some request) = enter_box (record { ticket = ticket; request = request; unit = unit; attr = attr; stage = Entered }) w
    entering None = refl
effect_box first (Enable ticket unit) w = refl
effect_box first (Leave ticket unit) w = leave_box (find_ticket ticket w.doing.state.commands) w
effect_box first (Send cid stat_sn reply) w = send_box (place_of w.doing.state.outbox cid) (answering w) w
effect_box first (CloseConn cid) w = drop_box (conns_closed w.doing.state (CloseConn cid)) w.doing
effect_box first CloseSession w = drop_box (conns_closed w.doing.state CloseSession) w.doing
effect_box first (Ignore why) w = (released_if_stays w.own w.doing).outbox

effects_box : (first : Bool) (effects : List Effect) (w : Walk) → box (on_effects first effects w) ≡ box w
effects_box first [] w = ended_box w
effects_box first (effect ∷ effects) w = effects_box false effects (on_effect first effect w) ∙ effect_box first effect w

-- ---- what starts

withheld_box : (ticket : ℕ) (s : State) → (withhold ticket s).outbox ≡ s.outbox
withheld_box ticket s = either (λ (x : State). x.outbox) (nat_lt (length s.withheld) s.room) _ s s.outbox refl refl

start_box : (c : Command) (d : Doing) → (start c d).state.outbox ≡ d.state.outbox
start_box c d = either (λ (x : Doing). x.state.outbox) (is_withheld d.state c) _ _ d.state.outbox (withheld_box c.ticket d.state) refl

start_one_box : (c : Option Command) (d : Doing) → (elim c as (λ (q : Option Command). Doing) [ Some c ↦ (if is_live c then start c d else d) | None ↦ d ]).state.outbox ≡ d.state.outbox
start_one_box (Some c) d = either (λ (x : Doing). x.state.outbox) (is_live c) (start c d) d d.state.outbox (start_box c d) refl
start_one_box None d = refl

start_each_box : (tickets : List ℕ) (d : Doing) → (start_each tickets d).state.outbox ≡ d.state.outbox
start_each_box [] d = refl
start_each_box (ticket ∷ tickets) d = start_each_box tickets _ ∙ start_one_box (find_ticket ticket d.state.commands) d

-- ---- an event

pub takes_limits : (own : Option ℕ) (entry : Entry) (d : Doing) → (takes own entry d).state.outbox.limits ≡ d.state.outbox.limits
takes_limits own entry d =
    let d' = in_state (λ s. record s { outbox = taken entry.effects entry.numbers s.outbox }) (on_effects true entry.effects (walk_from own d)).doing in
    let swept = sweep (flat_map (touched_by d'.state) entry.effects) d' in
    let told = tell_all (resets_in swept.state entry.effects) swept in
    let all : (takes own entry d).state.outbox ≡ d'.state.outbox =
    start_each_box (filter_map ticket_enabled entry.effects) told
    ∙ ap (λ (s : State). s.outbox) (told_state (resets_in swept.state entry.effects) swept)
    ∙ sweep_outbox (flat_map (touched_by d'.state) entry.effects) d' in
    ap (λ (o : OutboxState). o.limits) all
    ∙ limits_stay (on_effects true entry.effects (walk_from own d)).doing.state.outbox (Takes entry.effects entry.numbers)
    ∙ ap (λ (o : OutboxState). o.limits) (effects_box true entry.effects (walk_from own d))

-- ---- a unit is cleared

clear_one_box : (stage : Stage) (c : Command) (d : Doing) → c.stage ≡ stage → (clear_one c d).state.outbox ≡ d.state.outbox
clear_one_box stage c d e = ap (λ (s : Stage). (clear_one (record c { stage = s }) d).state.outbox) e ∙ by_stage stage
  where
    by_stage : (s : Stage) → (clear_one (record c { stage = s }) d).state.outbox ≡ d.state.outbox
    by_stage Entered = refl
    by_stage Marked = refl
    by_stage Started = refl
    by_stage Cleared = refl
    by_stage Over = refl

pub clear_each_box : (cs : List Command) (d : Doing) → (clear_each cs d).state.outbox ≡ d.state.outbox
clear_each_box [] d = refl
clear_each_box (c ∷ cs) d = clear_each_box cs (clear_one c d) ∙ clear_one_box c.stage c d refl
