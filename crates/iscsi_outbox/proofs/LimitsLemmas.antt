-- What an outbox was opened with stays, through each call.
use Rattle.std.proofs.Common.{◌≡◌, ℕ, zero, suc, ◌&&◌, ◌||◌, ◌==◌, not, nat_lt, cond, Bool, true, false, List, [], ◌∷◌, Option, Some, None, refl, ◌∙◌, filter_map}
use Rattle.std.specs.List.{list_any}
use Rattle.iscsi_wire.specs.declared.reply.Reply.{Reply}
use Rattle.iscsi_wire.specs.declared.request.Request.{Request}
use Rattle.iscsi_wire.specs.Fields.{connection_of}
use Rattle.iscsi_rules.specs.declared.effect.Effect.{Effect}
use Rattle.iscsi_rules.specs.declared.effect.Effect.TheVariants.{Deliver, Immediate, Wait, Void, Empty, Enter, Enable, Leave, Send, CloseConn, CloseSession, Ignore}
use Rattle.iscsi_rules.specs.declared.effect.Numbers.{Numbers}
use Rattle.iscsi_rules.specs.promises.Order.{in_parts}
use Rattle.iscsi_rules.specs.rules.Trace.{first_of}
use Rattle.iscsi_arrivals.specs.Counts.{heard_by, joined_by, takes_more_by, written_by}
use Rattle.iscsi_arrivals.specs.declared.stamp.Stamp.{Stamp}
use Rattle.iscsi_outbox_rules.specs.declared.own_pdu.OwnPdu.{OwnPdu}
use Rattle.iscsi_outbox_rules.specs.declared.own_pdu.PutRefusal.{PutRefusal}
use Rattle.iscsi_outbox_rules.specs.rules.Calls.{Call, Takes, Puts, Stops, Nexts, Writes, Hears, Joins, Loses, Clears}
use Rattle.iscsi_outbox_rules.specs.rules.Items.{executing, reply_sent, ticket_enabled, tickets_left}
use Rattle.iscsi_outbox_state.specs.declared.lane.Undue.{Undue}
use Rattle.iscsi_outbox_state.specs.Lane.{any_in as any_stands, arrived as arrived_in, awaited, cleared, count_in as count_stands, first_due, has_left, is_command, is_left, is_of_logout, stopped as stopped_in, without_due}
use Rattle.iscsi_outbox_state.specs.Waits.{dropped_of}
use Rattle.iscsi_tracked.specs.declared.command.Command.{Command}
use Rattle.iscsi_tracked.specs.declared.command.Entering.{Entering}
use Rattle.iscsi_tracked.specs.declared.command.Phase.{Phase}
use Rattle.iscsi_tracked.specs.declared.command.Phase.TheVariants.{Dormant, Fresh, Started, Running, Gone}
use Rattle.iscsi_tracked.specs.Tracked.{arrived as arrived_at, entered, find_ticket, handed_out, has_place, in_phase, is_out, next_place, removed}
use Rattle.iscsi_outbox_steps.specs.State.{Limits, State, link_at, place_of, with_link}
use Rattle.iscsi_outbox_steps.specs.Steps.{Out, Waited, Pinged, Noticed, after_item, after_items, after_out, aim_of, answer_item, arrived_command, await, chosen, cleared_of, close, close_each, close_itself, close_one, close_other, closed_in, completed, enable, enter, enter_command, enter_commands, enter_each, enter_one, entering, heard, home_of, in_phase_if, is_dormant, is_fresh, is_numbered, is_of_unit, is_reset, is_running, is_started, joined, later, leave, leave_one, live_command, lost, lost_on, may_enter, newly_closed, next, next_arrived, of_command, of_fence, own_item, placed, put, put_refusal, reply_item, send, send_on, settle, settled, shows, stopped, stopped_command, taken, taken_out, tell, trail, trailed, without, written}
use Rattle.iscsi_outbox_steps.specs.Run.{after_call}

opt_stays : {A : Type 0} (x : Option A) (f : A → State) (d : State) (l : Limits) → ((a : A) → (f a).limits ≡ l) → d.limits ≡ l → (elim x as (λ (y : Option A). State) [ Some a ↦ f a | None ↦ d ]).limits ≡ l
opt_stays (Some a) f d l some none = some a
opt_stays None f d l some none = none

if_stays : (v : Bool) (s d : State) (l : Limits) → s.limits ≡ l → d.limits ≡ l → (cond v s d).limits ≡ l
if_stays true s d l here there = here
if_stays false s d l here there = there

-- ---- what is done again and again

settled_stays : (n : ℕ) (s : State) → (settled n s).limits ≡ s.limits
settled_stays zero s = refl
settled_stays (suc n) s =
    opt_stays (first_due s.lane) (λ a. settled n (enter a.conn (answer_item a) (record s { lane = without_due s.lane }))) s s.limits (λ a. settled_stays n (enter a.conn (answer_item a) (record s { lane = without_due s.lane }))) refl

settle_stays : (s : State) → (settle s).limits ≡ s.limits
settle_stays s = settled_stays (count_stands (λ x. not (is_left x)) s.lane) s

abbrev less : Command → State → State
less c s = record s { lane = arrived_in c.place s.lane; tracked = arrived_at c.place s.tracked }

arrived_stays : (c : Command) (s : State) → (arrived_command c s).limits ≡ s.limits
arrived_stays c s = by_phase (c.phase)
  where
    by_phase : (p : Phase) → (elim p as (λ (q : Phase). State) [ Gone ↦ record (less c s) { tracked = removed c.place (less c s).tracked } | Dormant ↦ less c s | Fresh ↦ less c s | Started ↦ less c s | Running ↦ less c s ]).limits ≡ s.limits
    by_phase Dormant = refl
    by_phase Fresh = refl
    by_phase Started = refl
    by_phase Running = refl
    by_phase Gone = refl

trailed_stays : (n conn : ℕ) (s : State) → (trailed n conn s).limits ≡ s.limits
trailed_stays zero conn s = refl
trailed_stays (suc n) conn s = opt_stays (next_arrived conn s) (λ c. trailed n conn (arrived_command c s)) s s.limits (λ c. trailed_stays n conn (arrived_command c s) ∙ arrived_stays c s) refl

walked_stays : (conn : ℕ) (s : State) → (settle (trail conn s)).limits ≡ s.limits
walked_stays conn s = settle_stays (trail conn s) ∙ trailed_stays _ conn s

-- ---- each call but for an event

put_stays : (p : OwnPdu) (s : State) → (put p s).limits ≡ s.limits
put_stays p s = by_refusal (put_refusal p s)
  where
    by_refusal : (x : Option PutRefusal) → (elim x as (λ (y : Option PutRefusal). State) [ Some refusal ↦ s | None ↦ elim (home_of p s) as (λ (z : Option (ℕ × Option ℕ)). State) [ Some home ↦ enter home.0 (own_item p home.1) s | None ↦ s ] ]).limits ≡ s.limits
    by_refusal (Some refusal) = refl
    by_refusal None = opt_stays (home_of p s) (λ home. enter home.0 (own_item p home.1) s) s s.limits (λ home. refl) refl

stopped_stays : (ticket : ℕ) (s : State) → (stopped ticket s).limits ≡ s.limits
stopped_stays ticket s =
    opt_stays (find_ticket ticket s.tracked) (λ c. cond (is_running c) (settle (stopped_command c s)) s) s s.limits
    (λ c. if_stays (is_running c) (settle (stopped_command c s)) s s.limits (settle_stays (stopped_command c s) ∙ one c) refl) refl
  where
    one : (c : Command) → (stopped_command c s).limits ≡ s.limits
    one c = if_stays (is_out c) (record s { lane = stopped_in c.place s.lane; tracked = in_phase Gone c.place s.tracked }) (record s { lane = stopped_in c.place s.lane; tracked = removed c.place s.tracked }) s.limits refl refl

fence_stays : (conn : ℕ) (fenced : Bool) (stamp : Stamp) (s : State) → (of_fence conn fenced stamp s).limits ≡ s.limits
fence_stays conn true stamp s = refl
fence_stays conn false stamp s = refl

command_stays : (x : Option ℕ) (stamp : Stamp) (s : State) → (of_command x stamp s).limits ≡ s.limits
command_stays None stamp s = refl
command_stays (Some place) stamp s = if_stays (has_place place s.tracked) (record s { tracked = handed_out place stamp s.tracked }) s s.limits refl refl

pub out_stays : (conn : ℕ) (out : Out) (s : State) → (after_out conn out s).limits ≡ s.limits
out_stays conn (Waited item) s =
    fence_stays conn item.fenced _ (of_command item.command _ (shows (without conn (Waited item) s))) ∙ command_stays (item.command) _ (shows (without conn (Waited item) s))
out_stays conn (Pinged tag) s = refl
out_stays conn Noticed s = refl

next_stays : (cid : ℕ) (s : State) → (next cid s).limits ≡ s.limits
next_stays cid s =
    opt_stays (place_of s cid) (λ conn. elim (chosen conn s) as (λ (y : Option Out). State) [ Some out ↦ after_out conn out s | None ↦ s ]) s s.limits
    (λ conn. opt_stays (chosen conn s) (λ out. after_out conn out s) s s.limits (λ out. out_stays conn out s) refl) refl

written_stays : (cid : ℕ) (s : State) → (written cid s).limits ≡ s.limits
written_stays cid s = opt_stays (place_of s cid) (λ conn. settle (trail conn (with_link conn written_by s))) s s.limits (λ conn. walked_stays conn (with_link conn written_by s)) refl

heard_stays : (cid exp_stat_sn tag : ℕ) (s : State) → (heard cid exp_stat_sn tag s).limits ≡ s.limits
heard_stays cid exp_stat_sn tag s = opt_stays (place_of s cid) (λ conn. settle (trail conn (with_link conn (heard_by exp_stat_sn tag) s))) s s.limits (λ conn. walked_stays conn (with_link conn (heard_by exp_stat_sn tag) s)) refl

joined_stays : (cid stat_sn : ℕ) (s : State) → (joined cid stat_sn s).limits ≡ s.limits
joined_stays cid stat_sn s = opt_stays (place_of s cid) (λ conn. with_link conn (joined_by stat_sn) s) s s.limits (λ conn. refl) refl

lost_stays : (cid : ℕ) (s : State) → (lost cid s).limits ≡ s.limits
lost_stays cid s =
    opt_stays (place_of s cid) (λ conn. settle (trail conn (lost_on conn (record s { reached = 0 })))) (settle (record s { reached = 0 })) s.limits
    (λ conn. walked_stays conn (lost_on conn (record s { reached = 0 }))) (settle_stays (record s { reached = 0 }))

cleared_stays : (unit : ℕ) (s : State) → (cleared_of unit s).limits ≡ s.limits
cleared_stays unit s = settle_stays (record s { lane = cleared unit s.lane })

-- ---- an event

one_left : (r : Option Request) (ticket : ℕ) (s : State) → (leave_one r ticket s).limits ≡ s.limits
one_left r ticket s =
    opt_stays (live_command s ticket) (λ c. elim r as (λ (y : Option Request). State) [ Some request ↦ taken_out c s | None ↦ completed c s ]) s s.limits
    (λ c. opt_stays r (λ request. taken_out c s) (completed c s) s.limits (λ request. out c) refl) refl
  where
    out : (c : Command) → (taken_out c s).limits ≡ s.limits
    out c =
        if_stays ((is_started c || is_out c) && not (any_stands (is_command c.place) s.lane))
        (record s {
          waits = dropped_of c.place s.waits;
          lane = has_left (record { command = c.place; conn = c.conn; unit = c.unit; tag = c.tag; running = is_started c; under_way = is_out c }) s.lane;
          tracked = in_phase (cond (is_started c) Running Gone) c.place s.tracked;
        }) (record s { waits = dropped_of c.place s.waits; tracked = removed c.place s.tracked }) s.limits refl refl

leave_stays : (r : Option Request) (tickets : List ℕ) (s : State) → (leave r tickets s).limits ≡ s.limits
leave_stays r [] s = refl
leave_stays r (ticket ∷ tickets) s = leave_stays r tickets (leave_one r ticket s) ∙ one_left r ticket s

one_entered : (e : Entering) (s : State) → (enter_command e s).limits ≡ s.limits
one_entered e s =
    opt_stays (next_place s.tracked) (λ place. cond (may_enter e s) (record s { tracked = entered e place s.tracked }) s) s s.limits
    (λ place. if_stays (may_enter e s) (record s { tracked = entered e place s.tracked }) s s.limits refl refl) refl

each_entered : (r : Request) (effects : List Effect) (s : State) → (enter_each r effects s).limits ≡ s.limits
each_entered r [] s = refl
each_entered r (Enter ticket unit attr ∷ es) s =
    each_entered r es (enter_one r (Enter ticket unit attr) s)
    ∙ opt_stays (place_of s (connection_of r)) (λ conn. enter_command (entering conn r ticket unit) s) s s.limits (λ conn. one_entered (entering conn r ticket unit) s) refl
each_entered r (Deliver a ∷ es) s = each_entered r es s
each_entered r (Immediate a ∷ es) s = each_entered r es s
each_entered r (Wait a ∷ es) s = each_entered r es s
each_entered r (Void sn ∷ es) s = each_entered r es s
each_entered r (Empty sn ∷ es) s = each_entered r es s
each_entered r (Enable ticket unit ∷ es) s = each_entered r es s
each_entered r (Leave ticket unit ∷ es) s = each_entered r es s
each_entered r (Send conn stat_sn reply ∷ es) s = each_entered r es s
each_entered r (CloseConn conn ∷ es) s = each_entered r es s
each_entered r (CloseSession ∷ es) s = each_entered r es s
each_entered r (Ignore why ∷ es) s = each_entered r es s

entered_stays : (r : Option Request) (effects : List Effect) (s : State) → (enter_commands r effects s).limits ≡ s.limits
entered_stays (Some r) effects s = each_entered r effects s
entered_stays None effects s = refl

each_closed : (by : ℕ) (conns : List ℕ) (s : State) → (close_each by conns s).limits ≡ s.limits
each_closed by [] s = refl
each_closed by (conn ∷ conns) s = each_closed by conns (close_one by conn s) ∙ if_stays (conn == by) (close_itself conn s) (close_other conn s) s.limits refl refl

close_stays : (r : Option Request) (conns : List ℕ) (s : State) → (close r conns s).limits ≡ s.limits
close_stays None conns s = refl
close_stays (Some r) conns s = opt_stays (place_of s (connection_of r)) (λ by. close_each by conns s) s s.limits (λ by. each_closed by conns s) refl

await_stays : (conn : ℕ) (a : Undue) (s : State) → (await conn a s).limits ≡ s.limits
await_stays conn a s = if_stays (takes_more_by (link_at s conn) && nat_lt (count_stands (λ x. not (is_left x)) s.lane) s.lane.answers) (record s { lane = awaited a s.lane }) s s.limits refl refl

send_stays : (r : Option Request) (item : List Effect) (numbered : Bool) (closes : List ℕ) (x : Option (ℕ × Reply)) (s : State) → (send r item numbered closes x s).limits ≡ s.limits
send_stays r item numbered closes None s = refl
send_stays r item numbered closes (Some sent) s =
    opt_stays (place_of s sent.0) (λ conn. send_on conn r item numbered (list_any (λ p. p == conn) closes) (placed sent.1 s) s) (record s { waits = later s.waits }) s.limits (λ conn. one conn r (list_any (λ p. p == conn) closes)) refl
  where
    one : (conn : ℕ) (q : Option Request) (ends : Bool) → (send_on conn q item numbered ends (placed sent.1 s) s).limits ≡ s.limits
    one conn None ends = refl
    one conn (Some q) ends =
        opt_stays (aim_of q item sent.1 s)
        (λ aim. await conn (record { reply = placed sent.1 s; conn = conn; aim = aim; numbered = numbered; ends = ends && is_of_logout aim; uncleared = s.limits.shared && is_reset q && is_of_unit aim }) s)
        (enter conn (reply_item numbered (placed sent.1 s)) s) s.limits
        (λ aim. await_stays conn (record { reply = placed sent.1 s; conn = conn; aim = aim; numbered = numbered; ends = ends && is_of_logout aim; uncleared = s.limits.shared && is_reset q && is_of_unit aim }) s) refl

phase_stays : (test : Command → Bool) (phase : Phase) (ticket : ℕ) (s : State) → (in_phase_if test phase ticket s).limits ≡ s.limits
phase_stays test phase ticket s =
    opt_stays (find_ticket ticket s.tracked) (λ c. cond (test c) (record s { tracked = in_phase phase c.place s.tracked }) s) s s.limits
    (λ c. if_stays (test c) (record s { tracked = in_phase phase c.place s.tracked }) s s.limits refl refl) refl

enable_stays : (tickets : List ℕ) (s : State) → (enable tickets s).limits ≡ s.limits
enable_stays [] s = refl
enable_stays (ticket ∷ tickets) s = enable_stays tickets (in_phase_if is_dormant Fresh ticket s) ∙ phase_stays is_dormant Fresh ticket s

tell_stays : (tickets : List ℕ) (s : State) → (tell tickets s).limits ≡ s.limits
tell_stays [] s = refl
tell_stays (ticket ∷ tickets) s = tell_stays tickets (in_phase_if is_fresh Started ticket s) ∙ phase_stays is_fresh Started ticket s

item_stays : (item : List Effect) (s : State) → (after_item item s).limits ≡ s.limits
item_stays item s =
    let r = executing item in
    let tickets = tickets_left item in
    let closes = newly_closed s (closed_in s item) in
    let left = leave r tickets s in
    let inside = enter_commands r item left in
    let after_close = close r closes inside in
    let sent = send r item (is_numbered s r tickets) closes (first_of (filter_map reply_sent item)) after_close in
    settle_stays (enable (filter_map ticket_enabled item) sent) ∙ enable_stays (filter_map ticket_enabled item) sent
    ∙ send_stays r item (is_numbered s r tickets) closes (first_of (filter_map reply_sent item)) after_close
    ∙ close_stays r closes inside ∙ entered_stays r item left ∙ leave_stays r tickets s

items_stay : (items : List (List Effect)) (s : State) → (after_items items s).limits ≡ s.limits
items_stay [] s = refl
items_stay (item ∷ items) s = items_stay items (after_item item s) ∙ item_stays item s

taken_stays : (effects : List Effect) (numbers : Numbers) (s : State) → (taken effects numbers s).limits ≡ s.limits
taken_stays effects numbers s = tell_stays (filter_map ticket_enabled effects) (after_items (in_parts effects) s) ∙ items_stay (in_parts effects) s

-- ---- each call

pub limits_stay : (s : State) (c : Call) → (after_call s c).limits ≡ s.limits
limits_stay s (Takes effects numbers) = taken_stays effects numbers s
limits_stay s (Puts p) = put_stays p s
limits_stay s (Stops ticket) = stopped_stays ticket s
limits_stay s (Nexts cid) = next_stays cid s
limits_stay s (Writes cid) = written_stays cid s
limits_stay s (Hears cid exp_stat_sn tag) = heard_stays cid exp_stat_sn tag s
limits_stay s (Joins cid stat_sn) = joined_stays cid stat_sn s
limits_stay s (Loses cid) = lost_stays cid s
limits_stay s (Clears unit) = cleared_stays unit s
