-- The steps' last ticket is no more than the count of the commands that ever entered: so each new one is above it.
use Rattle.std.proofs.Common.{◌≡◌, ◌<◌, ◌≤◌, ℕ, suc, ◌+◌, cond, List, [], ◌∷◌, length, filter_map, Option, Some, None, refl, ap, ◌∙◌, arith, ⊎_elim}
use Rattle.std.proofs.lemmas.Bool.{cond_both}
use Rattle.std.proofs.lemmas.List.{length-append, length-map}
use Rattle.iscsi_wire.specs.declared.request.Request.{Request}
use Rattle.iscsi_rules.specs.declared.effect.Effect.{Effect}
use Rattle.iscsi_rules.specs.declared.effect.Effect.TheVariants.{Deliver, Immediate, Wait, Void, Empty, Enter, Enable, Leave, Send, CloseConn, CloseSession, Ignore}
use Rattle.iscsi_rules.specs.promises.Order.{in_parts}
use Rattle.iscsi_rules.specs.rules.Trace.{first_of}
use Rattle.iscsi_outbox_rules.specs.rules.Calls.{Opening, Call, Takes, Puts, Stops, Nexts, Writes, Hears, Joins, Loses, Clears}
use Rattle.iscsi_outbox_rules.specs.rules.Boxes.{Task, Box}
use Rattle.iscsi_outbox_rules.specs.rules.Words.{contains, is_running}
use Rattle.iscsi_outbox_rules.specs.rules.Queues.{at_link, drop_on, enter}
use Rattle.iscsi_outbox_rules.specs.rules.Own.{own_conn, own_outgoing, put_refusal}
use Rattle.iscsi_outbox_rules.specs.rules.Due.{settle as settle_box}
use Rattle.iscsi_outbox_rules.specs.rules.Items.{after_item as box_after_item, after_items as box_after_items, executing, in_phase, phase_enabled, phase_told, phase_taken_out, phase_completed, reply_sent, task_entered, ticket_enabled, tickets_left}
use Rattle.iscsi_outbox_rules.specs.rules.Run.{after_call as box_after_call, cleared, link_heard, link_joined, link_lost, may_join, one_written, phase_stopped}
use Rattle.iscsi_outbox_rules.specs.declared.own_pdu.OwnPdu.{OwnPdu}
use Rattle.iscsi_outbox_rules.specs.declared.own_pdu.PutRefusal.{PutRefusal}
use Rattle.iscsi_outbox_rules.proofs.general.Cuts.{Hand, Idle, next}
use Rattle.iscsi_outbox_rules.proofs.room.RoomTasks.{settled_tasks}
use Rattle.iscsi_outbox_rules.proofs.commands.TaskLives.{entered_tasks, item_tasks, left_tasks}
use Rattle.iscsi_outbox_steps.specs.State.{State}
use Rattle.iscsi_outbox_steps.specs.Run.{after_call}
use Rattle.iscsi_outbox_steps.specs.Steps.{after_item, after_items, close, closed_in, enable, enter_commands, is_numbered, leave, newly_closed, send}
use Rattle.iscsi_outbox_law.specs.private.Pairs.{EachOf}
use Rattle.iscsi_outbox_law.specs.private.Sound.{IsItemSound, entries_of}
use Rattle.iscsi_outbox_law.proofs.invariants.SoundRuns.{SoundCall, SoundItems}
use Rattle.iscsi_outbox_law.proofs.invariants.SoundTurns.{phased}
use Rattle.iscsi_outbox_law.proofs.commands.TurningLast.{cleared_last, close_last, each_entered, enable_last, heard_last, joined_last, last_of, leave_last, lost_last, next_last, put_last, send_last, settle_last, stopped_last, tell_last, written_last}

-- ---- how many commands entered

new_count : (r : Request) (effects : List Effect) → length (filter_map (task_entered r) effects) ≡ length (entries_of effects)
new_count r [] = refl
new_count r (Enter ticket unit attr ∷ es) = ap suc (new_count r es)
new_count r (Deliver a ∷ es) = new_count r es
new_count r (Immediate a ∷ es) = new_count r es
new_count r (Wait a ∷ es) = new_count r es
new_count r (Void sn ∷ es) = new_count r es
new_count r (Empty sn ∷ es) = new_count r es
new_count r (Enable ticket unit ∷ es) = new_count r es
new_count r (Leave ticket unit ∷ es) = new_count r es
new_count r (Send conn stat_sn reply ∷ es) = new_count r es
new_count r (CloseConn conn ∷ es) = new_count r es
new_count r (CloseSession ∷ es) = new_count r es
new_count r (Ignore why ∷ es) = new_count r es

left_count : (r : Option Request) (tickets : List ℕ) (ts : List Task) → length (left_tasks r tickets ts) ≡ length ts
left_count (Some r) tickets ts = length-map ts (phased phase_taken_out tickets)
left_count None tickets ts = length-map ts (phased phase_completed tickets)

abbrev entering_count : Option Request → List Effect → ℕ
entering_count (Some r) item = length (entries_of item)
entering_count None item = 0

entered_count : (r : Option Request) (item : List Effect) (ts : List Task) → length (entered_tasks r item ts) ≡ length ts + entering_count r item
entered_count (Some r) item ts = (let e = length-append ts (filter_map (task_entered r) item) in let f = new_count r item in omega (arith, e, f))
entered_count None item ts = omega arith

item_count : (o : Opening) (b : Box) (item : List Effect) → length (box_after_item o b item).tasks ≡ length b.tasks + entering_count (executing item) item
item_count o b item =
    ap length (item_tasks o b item)
    ∙ length-map (entered_tasks (executing item) item (left_tasks (executing item) (tickets_left item) b.tasks)) (phased phase_enabled (filter_map ticket_enabled item))
    ∙ entered_count (executing item) item (left_tasks (executing item) (tickets_left item) b.tasks) ∙ ap (λ n. n + entering_count (executing item) item) (left_count (executing item) (tickets_left item) b.tasks)

-- ---- an item

-- each new ticket is among those that count the commands
below_count : (n : ℕ) (entries : List (ℕ × ℕ)) → EachOf (λ (e : ℕ × ℕ). e.0 ≡ 1 + n) entries → EachOf (λ (e : ℕ × ℕ). e.0 ≤ n + length entries) entries
below_count n [] h = tt
below_count n (e ∷ entries) h = ((let z : e.0 ≤ n + length (e ∷ entries) = omega (arith, h.0) in z), all (n + length (e ∷ entries)) entries (omega arith) h.1)
  where
    all : (m : ℕ) (es : List (ℕ × ℕ)) → 1 + n ≤ m → EachOf (λ (x : ℕ × ℕ). x.0 ≡ 1 + n) es → EachOf (λ (x : ℕ × ℕ). x.0 ≤ m) es
    all m [] le k = tt
    all m (x ∷ es) le k = ((let z : x.0 ≤ m = omega (arith, k.0, le) in z), all m es le k.1)

commands_enter : (r : Option Request) (item : List Effect) (n : ℕ) (s : State) → last_of s ≤ n → EachOf (λ (e : ℕ × ℕ). e.0 ≡ 1 + n) (entries_of item) → last_of (enter_commands r item s) ≤ n + entering_count r item
commands_enter (Some r) item n s below next = each_entered r item (n + length (entries_of item)) s (omega (arith, below)) (below_count n (entries_of item) next)
commands_enter None item n s below next = omega (arith, below)

pub item_last : (o : Opening) (s : State) (b : Box) (item : List Effect) → last_of s ≤ length b.tasks → EachOf (λ (e : ℕ × ℕ). e.0 ≡ 1 + length b.tasks) (entries_of item) → last_of (after_item item s) ≤ length (box_after_item o b item).tasks
item_last o s b item below next =
    let closes : List ℕ = newly_closed s (closed_in s item) in
    let left : State = leave (executing item) (tickets_left item) s in
    let entering : State = enter_commands (executing item) item left in
    let closed : State = close (executing item) closes entering in
    let sent : State = send (executing item) item (is_numbered s (executing item) (tickets_left item)) closes (first_of (filter_map reply_sent item)) closed in
    let same : last_of (after_item item s) ≡ last_of entering =
    settle_last (enable (filter_map ticket_enabled item) sent) ∙ enable_last (filter_map ticket_enabled item) sent
    ∙ send_last (executing item) item (is_numbered s (executing item) (tickets_left item)) closes (first_of (filter_map reply_sent item)) closed ∙ close_last (executing item) closes entering in
    let e = leave_last (executing item) (tickets_left item) s in
    let f : last_of entering ≤ length b.tasks + entering_count (executing item) item = commands_enter (executing item) item (length b.tasks) left (omega (arith, e, below)) next in
    let g = item_count o b item in
    omega (arith, same, f, g)

-- what a new command finds
pub newest_item : (s : State) (b : Box) (item : List Effect) → last_of s ≤ length b.tasks → EachOf (λ (e : ℕ × ℕ). e.0 ≡ 1 + length b.tasks) (entries_of item) → EachOf (λ (e : ℕ × ℕ). last_of s < e.0) (entries_of item)
newest_item s b item below next = all (entries_of item) next
  where
    all : (es : List (ℕ × ℕ)) → EachOf (λ (e : ℕ × ℕ). e.0 ≡ 1 + length b.tasks) es → EachOf (λ (e : ℕ × ℕ). last_of s < e.0) es
    all [] k = tt
    all (e ∷ es) k = ((let z : last_of s < e.0 = omega (arith, k.0, below) in z), all es k.1)

pub items_last : (o : Opening) (items : List (List Effect)) (s : State) (b : Box) → last_of s ≤ length b.tasks → SoundItems o b items → last_of (after_items items s) ≤ length (box_after_items o b items).tasks
items_last o [] s b below sound = below
items_last o (item ∷ items) s b below sound =
    let fit : IsItemSound o b item = sound.1.0 in
    items_last o items (after_item item s) (box_after_item o b item) (item_last o s b item below fit.next) sound.1.1

-- ---- each call

settled_count : (o : Opening) (b : Box) → length (settle_box o b).tasks ≡ length b.tasks
settled_count o b = ap length (settled_tasks o b)

box_puts : (o : Opening) (b : Box) (p : OwnPdu) → length (box_after_call o b (Puts p)).tasks ≡ length b.tasks
box_puts o b p =
    elim (put_refusal o b p) as (λ x. length (elim x as (λ (y : Option PutRefusal). Box) [ Some refusal ↦ b | None ↦ elim (own_conn b p) as (λ (z : Option ℕ). Box) [ Some conn ↦ enter conn (own_outgoing p) b | None ↦ b ] ]).tasks ≡ length b.tasks) [
      | Some refusal ↦ refl
      | None ↦ elim (own_conn b p) as (λ x. length (elim x as (λ (z : Option ℕ). Box) [ Some conn ↦ enter conn (own_outgoing p) b | None ↦ b ]).tasks ≡ length b.tasks) [ Some conn ↦ refl | None ↦ refl ]
    ]

box_stops : (o : Opening) (b : Box) (ticket : ℕ) → length (box_after_call o b (Stops ticket)).tasks ≡ length b.tasks
box_stops o b ticket =
    cond_both (is_running b ticket) (settle_box o (in_phase phase_stopped (ticket ∷ []) b)) b (λ (x : Box). length x.tasks ≡ length b.tasks)
    (λ is. settled_count o (in_phase phase_stopped (ticket ∷ []) b) ∙ length-map b.tasks (λ (t : Task). cond (contains (ticket ∷ []) t.ticket) (record t { phase = phase_stopped t.phase }) t)) (λ is. refl)

box_nexts : (o : Opening) (b : Box) (conn : ℕ) → length (box_after_call o b (Nexts conn)).tasks ≡ length b.tasks
box_nexts o b conn =
    ⊎_elim (λ (k : Hand o b conn). ap (λ (x : Box). length x.tasks) k.after_is) (λ (k : Idle o b conn). ap (λ (x : Box). length x.tasks) k.after_is) (next o b conn)

box_joins : (o : Opening) (b : Box) (conn stat_sn : ℕ) → length (box_after_call o b (Joins conn stat_sn)).tasks ≡ length b.tasks
box_joins o b conn stat_sn = cond_both (may_join b conn) (record b { links = at_link conn (link_joined stat_sn) b.links }) b (λ (x : Box). length x.tasks ≡ length b.tasks) (λ is. refl) (λ is. refl)

-- what the steps keep of the last ticket stays below the count, through each call
pub call_last : (o : Opening) (s : State) (b : Box) (c : Call) → last_of s ≤ length b.tasks → SoundCall o b c → last_of (after_call s c) ≤ length (box_after_call o b c).tasks
call_last o s b (Takes effects numbers) below sound =
    let items = items_last o (in_parts effects) s b below sound in
    let e = tell_last (filter_map ticket_enabled effects) (after_items (in_parts effects) s) in
    let f = length-map (box_after_items o b (in_parts effects)).tasks (λ (t : Task). record t { phase = phase_told t.phase }) in
    omega (arith, items, e, f)
call_last o s b (Puts p) below sound = (let e = put_last p s in let f = box_puts o b p in omega (arith, below, e, f))
call_last o s b (Stops ticket) below sound = (let e = stopped_last ticket s in let f = box_stops o b ticket in omega (arith, below, e, f))
call_last o s b (Nexts conn) below sound = (let e = next_last conn s in let f = box_nexts o b conn in omega (arith, below, e, f))
call_last o s b (Writes conn) below sound = (let e = written_last conn s in let f = settled_count o (record b { links = at_link conn one_written b.links }) in omega (arith, below, e, f))
call_last o s b (Hears conn exp_stat_sn tag) below sound =
    (let e = heard_last conn exp_stat_sn tag s in let f = settled_count o (record b { links = at_link conn (link_heard exp_stat_sn tag) b.links }) in omega (arith, below, e, f))
call_last o s b (Joins conn stat_sn) below sound = (let e = joined_last conn stat_sn s in let f = box_joins o b conn stat_sn in omega (arith, below, e, f))
call_last o s b (Loses conn) below sound = (let e = lost_last conn s in let f = settled_count o (drop_on conn (record b { links = at_link conn link_lost b.links; reached = 0 })) in omega (arith, below, e, f))
call_last o s b (Clears unit) below sound = (let e = cleared_last unit s in let f = settled_count o (record b { undue = cleared unit b.undue }) in omega (arith, below, e, f))
