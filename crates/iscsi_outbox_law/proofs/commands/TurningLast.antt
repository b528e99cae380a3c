-- The ticket that entered last, as the steps keep it, through each call: only commands that enter change it.
use Rattle.std.proofs.Common.{◌||◌, ◌≡◌, ◌≤◌, ℕ, zero, suc, ◌&&◌, ◌==◌, not, nat_lt, cond, Bool, true, false, List, [], ◌∷◌, Option, Some, None, refl, ◌∙◌}
use Rattle.std.specs.List.{list_any}
use Rattle.iscsi_wire.specs.declared.reply.Reply.{Reply}
use Rattle.iscsi_wire.specs.declared.request.Request.{Request}
use Rattle.iscsi_wire.specs.Fields.{connection_of}
use Rattle.iscsi_rules.specs.declared.effect.Effect.{Effect}
use Rattle.iscsi_rules.specs.declared.effect.Effect.TheVariants.{Deliver, Immediate, Wait, Void, Empty, Enter, Enable, Leave, Send, CloseConn, CloseSession, Ignore}
use Rattle.iscsi_arrivals.specs.Counts.{heard_by, joined_by, takes_more_by, written_by}
use Rattle.iscsi_arrivals.specs.declared.stamp.Stamp.{Stamp}
use Rattle.iscsi_outbox_rules.specs.declared.own_pdu.OwnPdu.{OwnPdu}
use Rattle.iscsi_outbox_rules.specs.declared.own_pdu.PutRefusal.{PutRefusal}
use Rattle.iscsi_outbox_state.specs.declared.lane.Undue.{Undue}
use Rattle.iscsi_outbox_state.specs.Lane.{any_in as any_stands, arrived as arrived_in, awaited, cleared, count_in as count_stands, first_due, has_left, is_command, is_left, is_of_logout, stopped as stopped_in, without_due}
use Rattle.iscsi_outbox_state.specs.Waits.{dropped_of}
use Rattle.iscsi_tracked.specs.declared.command.Command.{Command}
use Rattle.iscsi_tracked.specs.declared.command.Entering.{Entering}
use Rattle.iscsi_tracked.specs.declared.command.Phase.{Phase}
use Rattle.iscsi_tracked.specs.declared.command.Phase.TheVariants.{Dormant, Fresh, Started, Running, Gone}
use Rattle.iscsi_tracked.specs.Tracked.{arrived as arrived_at, entered, find_ticket, handed_out, has_place, in_phase, is_out, next_place, removed}
use Rattle.iscsi_outbox_steps.specs.State.{State, link_at, place_of, with_link}
use Rattle.iscsi_outbox_steps.specs.Steps.{Out, Waited, Pinged, Noticed, after_out, aim_of, answer_item, arrived_command, await, chosen, cleared_of, close, close_each, close_itself, close_one, close_other, completed, enable, enter, enter_command, enter_each, enter_one, entering, heard, home_of, in_phase_if, is_dormant, is_fresh, is_of_unit, is_reset, is_running, is_started, joined, later, leave, leave_one, live_command, lost, lost_on, may_enter, next, next_arrived, of_command, of_fence, own_item, placed, put, put_refusal, reply_item, send, send_on, settle, settled, shows, stopped, stopped_command, taken_out, tell, trail, trailed, without, written}
use Rattle.iscsi_outbox_law.specs.private.Pairs.{EachOf}
use Rattle.iscsi_outbox_law.specs.private.Sound.{entries_of}

abbrev pub last_of : State → ℕ
last_of s = s.tracked.last

opt_last : {A : Type 0} (x : Option A) (f : A → State) (d : State) (n : ℕ) → ((a : A) → last_of (f a) ≡ n) → last_of d ≡ n → last_of (elim x as (λ (y : Option A). State) [ Some a ↦ f a | None ↦ d ]) ≡ n
opt_last (Some a) f d n some none = some a
opt_last None f d n some none = none

if_last : (v : Bool) (s d : State) (n : ℕ) → last_of s ≡ n → last_of d ≡ n → last_of (cond v s d) ≡ n
if_last true s d n here there = here
if_last false s d n here there = there

-- ---- what is done again and again

settled_last : (n : ℕ) (s : State) → last_of (settled n s) ≡ last_of s
settled_last zero s = refl
settled_last (suc n) s =
    opt_last (first_due s.lane) (λ a. settled n (enter a.conn (answer_item a) (record s { lane = without_due s.lane }))) s (last_of s) (λ a. settled_last n (enter a.conn (answer_item a) (record s { lane = without_due s.lane }))) refl

pub settle_last : (s : State) → last_of (settle s) ≡ last_of s
settle_last s = settled_last (count_stands (λ x. not (is_left x)) s.lane) s

abbrev less : Command → State → State
less c s = record s { lane = arrived_in c.place s.lane; tracked = arrived_at c.place s.tracked }

arrived_last : (c : Command) (s : State) → last_of (arrived_command c s) ≡ last_of s
arrived_last c s = by_phase (c.phase)
  where
    by_phase : (p : Phase) → last_of (elim p as (λ (q : Phase). State) [ Gone ↦ record (less c s) { tracked = removed c.place (less c s).tracked } | Dormant ↦ less c s | Fresh ↦ less c s | Started ↦ less c s | Running ↦ less c s ]) ≡ last_of s
    by_phase Dormant = refl
    by_phase Fresh = refl
    by_phase Started = refl
    by_phase Running = refl
    by_phase Gone = refl

trailed_last : (n conn : ℕ) (s : State) → last_of (trailed n conn s) ≡ last_of s
trailed_last zero conn s = refl
trailed_last (suc n) conn s = opt_last (next_arrived conn s) (λ c. trailed n conn (arrived_command c s)) s (last_of s) (λ c. trailed_last n conn (arrived_command c s) ∙ arrived_last c s) refl

walked_last : (conn : ℕ) (s : State) → last_of (settle (trail conn s)) ≡ last_of s
walked_last conn s = settle_last (trail conn s) ∙ trailed_last _ conn s

-- ---- each call but for an event

pub put_last : (p : OwnPdu) (s : State) → last_of (put p s) ≡ last_of s
put_last p s = by_refusal (put_refusal p s)
  where
    by_refusal : (x : Option PutRefusal) → last_of (elim x as (λ (y : Option PutRefusal). State) [ Some refusal ↦ s | None ↦ elim (home_of p s) as (λ (z : Option (ℕ × Option ℕ)). State) [ Some home ↦ enter home.0 (own_item p home.1) s | None ↦ s ] ]) ≡ last_of s
    by_refusal (Some refusal) = refl
    by_refusal None = opt_last (home_of p s) (λ home. enter home.0 (own_item p home.1) s) s (last_of s) (λ home. refl) refl

pub stopped_last : (ticket : ℕ) (s : State) → last_of (stopped ticket s) ≡ last_of s
stopped_last ticket s =
    opt_last (find_ticket ticket s.tracked) (λ c. cond (is_running c) (settle (stopped_command c s)) s) s (last_of s)
    (λ c. if_last (is_running c) (settle (stopped_command c s)) s (last_of s) (settle_last (stopped_command c s) ∙ one c) refl) refl
  where
    one : (c : Command) → last_of (stopped_command c s) ≡ last_of s
    one c = if_last (is_out c) (record s { lane = stopped_in c.place s.lane; tracked = in_phase Gone c.place s.tracked }) (record s { lane = stopped_in c.place s.lane; tracked = removed c.place s.tracked }) (last_of s) refl refl

fence_last : (conn : ℕ) (fenced : Bool) (stamp : Stamp) (s : State) → last_of (of_fence conn fenced stamp s) ≡ last_of s
fence_last conn true stamp s = refl
fence_last conn false stamp s = refl

command_last : (x : Option ℕ) (stamp : Stamp) (s : State) → last_of (of_command x stamp s) ≡ last_of s
command_last None stamp s = refl
command_last (Some place) stamp s = if_last (has_place place s.tracked) (record s { tracked = handed_out place stamp s.tracked }) s (last_of s) refl refl

pub next_last : (cid : ℕ) (s : State) → last_of (next cid s) ≡ last_of s
next_last cid s =
    opt_last (place_of s cid) (λ conn. elim (chosen conn s) as (λ (y : Option Out). State) [ Some out ↦ after_out conn out s | None ↦ s ]) s (last_of s)
    (λ conn. opt_last (chosen conn s) (λ out. after_out conn out s) s (last_of s) (λ out. one conn out) refl) refl
  where
    one : (conn : ℕ) (out : Out) → last_of (after_out conn out s) ≡ last_of s
    one conn (Waited item) =
        fence_last conn item.fenced _ (of_command item.command _ (shows (without conn (Waited item) s))) ∙ command_last (item.command) _ (shows (without conn (Waited item) s))
    one conn (Pinged tag) = refl
    one conn Noticed = refl

pub written_last : (cid : ℕ) (s : State) → last_of (written cid s) ≡ last_of s
written_last cid s = opt_last (place_of s cid) (λ conn. settle (trail conn (with_link conn written_by s))) s (last_of s) (λ conn. walked_last conn (with_link conn written_by s)) refl

pub heard_last : (cid exp_stat_sn tag : ℕ) (s : State) → last_of (heard cid exp_stat_sn tag s) ≡ last_of s
heard_last cid exp_stat_sn tag s = opt_last (place_of s cid) (λ conn. settle (trail conn (with_link conn (heard_by exp_stat_sn tag) s))) s (last_of s) (λ conn. walked_last conn (with_link conn (heard_by exp_stat_sn tag) s)) refl

pub joined_last : (cid stat_sn : ℕ) (s : State) → last_of (joined cid stat_sn s) ≡ last_of s
joined_last cid stat_sn s = opt_last (place_of s cid) (λ conn. with_link conn (joined_by stat_sn) s) s (last_of s) (λ conn. refl) refl

pub lost_last : (cid : ℕ) (s : State) → last_of (lost cid s) ≡ last_of s
lost_last cid s =
    opt_last (place_of s cid) (λ conn. settle (trail conn (lost_on conn (record s { reached = 0 })))) (settle (record s { reached = 0 })) (last_of s)
    (λ conn. walked_last conn (lost_on conn (record s { reached = 0 }))) (settle_last (record s { reached = 0 }))

pub cleared_last : (unit : ℕ) (s : State) → last_of (cleared_of unit s) ≡ last_of s
cleared_last unit s = settle_last (record s { lane = cleared unit s.lane })

-- ---- an item

one_left : (r : Option Request) (ticket : ℕ) (s : State) → last_of (leave_one r ticket s) ≡ last_of s
one_left r ticket s =
    opt_last (live_command s ticket) (λ c. elim r as (λ (y : Option Request). State) [ Some request ↦ taken_out c s | None ↦ completed c s ]) s (last_of s)
    (λ c. opt_last r (λ request. taken_out c s) (completed c s) (last_of s) (λ request. out c) refl) refl
  where
    out : (c : Command) → last_of (taken_out c s) ≡ last_of s
    out c =
        if_last ((is_started c || is_out c) && not (any_stands (is_command c.place) s.lane))
        (record s {
          waits = dropped_of c.place s.waits;
          lane = has_left (record { command = c.place; conn = c.conn; unit = c.unit; tag = c.tag; running = is_started c; under_way = is_out c }) s.lane;
          tracked = in_phase (cond (is_started c) Running Gone) c.place s.tracked;
        }) (record s { waits = dropped_of c.place s.waits; tracked = removed c.place s.tracked }) (last_of s) refl refl

pub leave_last : (r : Option Request) (tickets : List ℕ) (s : State) → last_of (leave r tickets s) ≡ last_of s
leave_last r [] s = refl
leave_last r (ticket ∷ tickets) s = leave_last r tickets (leave_one r ticket s) ∙ one_left r ticket s

each_closed : (by : ℕ) (conns : List ℕ) (s : State) → last_of (close_each by conns s) ≡ last_of s
each_closed by [] s = refl
each_closed by (conn ∷ conns) s = each_closed by conns (close_one by conn s) ∙ if_last (conn == by) (close_itself conn s) (close_other conn s) (last_of s) refl refl

pub close_last : (r : Option Request) (conns : List ℕ) (s : State) → last_of (close r conns s) ≡ last_of s
close_last None conns s = refl
close_last (Some r) conns s = opt_last (place_of s (connection_of r)) (λ by. close_each by conns s) s (last_of s) (λ by. each_closed by conns s) refl

await_last : (conn : ℕ) (a : Undue) (s : State) → last_of (await conn a s) ≡ last_of s
await_last conn a s = if_last (takes_more_by (link_at s conn) && nat_lt (count_stands (λ x. not (is_left x)) s.lane) s.lane.answers) (record s { lane = awaited a s.lane }) s (last_of s) refl refl

pub send_last : (r : Option Request) (item : List Effect) (numbered : Bool) (closes : List ℕ) (x : Option (ℕ × Reply)) (s : State) → last_of (send r item numbered closes x s) ≡ last_of s
send_last r item numbered closes None s = refl
send_last r item numbered closes (Some sent) s =
    opt_last (place_of s sent.0) (λ conn. send_on conn r item numbered (list_any (λ p. p == conn) closes) (placed sent.1 s) s) (record s { waits = later s.waits }) (last_of s) (λ conn. one conn r (list_any (λ p. p == conn) closes)) refl
  where
    one : (conn : ℕ) (q : Option Request) (ends : Bool) → last_of (send_on conn q item numbered ends (placed sent.1 s) s) ≡ last_of s
    one conn None ends = refl
    one conn (Some q) ends =
        opt_last (aim_of q item sent.1 s)
        (λ aim. await conn (record { reply = placed sent.1 s; conn = conn; aim = aim; numbered = numbered; ends = ends && is_of_logout aim; uncleared = s.limits.shared && is_reset q && is_of_unit aim }) s)
        (enter conn (reply_item numbered (placed sent.1 s)) s) (last_of s)
        (λ aim. await_last conn (record { reply = placed sent.1 s; conn = conn; aim = aim; numbered = numbered; ends = ends && is_of_logout aim; uncleared = s.limits.shared && is_reset q && is_of_unit aim }) s) refl

phase_last : (test : Command → Bool) (phase : Phase) (ticket : ℕ) (s : State) → last_of (in_phase_if test phase ticket s) ≡ last_of s
phase_last test phase ticket s =
    opt_last (find_ticket ticket s.tracked) (λ c. cond (test c) (record s { tracked = in_phase phase c.place s.tracked }) s) s (last_of s)
    (λ c. if_last (test c) (record s { tracked = in_phase phase c.place s.tracked }) s (last_of s) refl refl) refl

pub enable_last : (tickets : List ℕ) (s : State) → last_of (enable tickets s) ≡ last_of s
enable_last [] s = refl
enable_last (ticket ∷ tickets) s = enable_last tickets (in_phase_if is_dormant Fresh ticket s) ∙ phase_last is_dormant Fresh ticket s

pub tell_last : (tickets : List ℕ) (s : State) → last_of (tell tickets s) ≡ last_of s
tell_last [] s = refl
tell_last (ticket ∷ tickets) s = tell_last tickets (in_phase_if is_fresh Started ticket s) ∙ phase_last is_fresh Started ticket s

-- ---- commands that enter

one_entered : (e : Entering) (n : ℕ) (s : State) → last_of s ≤ n → e.ticket ≤ n → last_of (enter_command e s) ≤ n
one_entered e n s below few = by_place (next_place s.tracked)
  where
    by_test : (place : ℕ) (v : Bool) → last_of (cond v (record s { tracked = entered e place s.tracked }) s) ≤ n
    by_test place true = few
    by_test place false = below

    by_place : (x : Option ℕ) → last_of (elim x as (λ (y : Option ℕ). State) [ Some place ↦ cond (may_enter e s) (record s { tracked = entered e place s.tracked }) s | None ↦ s ]) ≤ n
    by_place (Some place) = by_test place (may_enter e s)
    by_place None = below

-- to no more than their tickets
pub each_entered : (r : Request) (effects : List Effect) (n : ℕ) (s : State) → last_of s ≤ n → EachOf (λ (e : ℕ × ℕ). e.0 ≤ n) (entries_of effects) → last_of (enter_each r effects s) ≤ n
each_entered r [] n s below few = below
each_entered r (Enter ticket unit attr ∷ es) n s below few = each_entered r es n (enter_one r (Enter ticket unit attr) s) (by_place (place_of s (connection_of r))) few.1
  where
    by_place : (x : Option ℕ) → last_of (elim x as (λ (y : Option ℕ). State) [ Some conn ↦ enter_command (entering conn r ticket unit) s | None ↦ s ]) ≤ n
    by_place (Some conn) = one_entered (entering conn r ticket unit) n s below few.0
    by_place None = below
each_entered r (Deliver a ∷ es) n s below few = each_entered r es n s below few
each_entered r (Immediate a ∷ es) n s below few = each_entered r es n s below few
each_entered r (Wait a ∷ es) n s below few = each_entered r es n s below few
each_entered r (Void sn ∷ es) n s below few = each_entered r es n s below few
each_entered r (Empty sn ∷ es) n s below few = each_entered r es n s below few
each_entered r (Enable ticket unit ∷ es) n s below few = each_entered r es n s below few
each_entered r (Leave ticket unit ∷ es) n s below few = each_entered r es n s below few
each_entered r (Send conn stat_sn reply ∷ es) n s below few = each_entered r es n s below few
each_entered r (CloseConn conn ∷ es) n s below few = each_entered r es n s below few
each_entered r (CloseSession ∷ es) n s below few = each_entered r es n s below few
each_entered r (Ignore why ∷ es) n s below few = each_entered r es n s below few
