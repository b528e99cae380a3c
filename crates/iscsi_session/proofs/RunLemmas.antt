-- Whole runs: a session that was opened, how many requests one holds, the promises that the log keeps, and what is refused.
use Rattle.iscsi_session.proofs.Names.{◌≡◌, ℕ, ◌+◌, ◌*◌, ◌==◌, List, [], ◌∷◌, length, map, filter, replicate, Some, None, is_some, refl, ap, sym, ◌∙◌, arith, count_by, length-map, length-replicate, wire, number_expected, opened_set, Event, Setting, Trace, first_of, held, live, trace_of, held_count, effect_bound_of, Core, Settled, StandsFor, place_of, is_held, stat_sn_on, kept, arrival_waiting, EnabledSoFar-none, unreceived_unheld, all_open, count_places, nothing_at, set_opened, nat_tests, ◌-◌, ◌<◌, ⊎_elim, false, cases_lt, received, is_received, max_of, after_event, run_of, KeepsPace, HasOneMore, Flows, FlowsThrough, exp_stays, delivered, EnablesByTheRule, ClosesHoldIn, KeepsPromises, log_delivers, log_effects, rule_means, aborts_hold_in, closes_hold_in, starts_once, answers_once_in, counts_replies, keeps_order, means_what_it_says, ◌≢◌, Bool, true, not, cond, Option, ◌⊎◌, take, drop, get_or, Ok, Err, length-take, SessionFault, UnknownConnection, Exhausted, NoMemory, belongs, first_refusal, refusal_of, RefusesAs, RunRefusesAs, drop_more}
use Rattle.iscsi_window.specs.Windows.{opened}
use Rattle.iscsi_session.proofs.AgreeLemmas.{settled_expected, settled_max}
use Rattle.iscsi_rules.specs.promises.Executed.{executed}
use Rattle.iscsi_session.proofs.WindowLemmas.{no_place}

first_number : (cid : ℕ) (cs : List (ℕ × ℕ)) → stat_sn_on cid cs ≡ wire (elim (first_of (filter (λ c. c.0 == cid) cs)) [ Some c ↦ c.1 | None ↦ 0 ] + 0)
first_number cid [] = refl
first_number cid (c ∷ cs) = grind (arith, first_number cid cs)

pub Settled-opened : (o : Setting) (room taken : ℕ) → Settled o (record {
  window = opened o.first o.window;
  events = o.events;
  conns = o.conns;
  entered = 0;
  taken = taken;
  live = [];
  sets = replicate o.units (opened_set room);
  depth = o.depth;
  level = o.level;
  waiting = [];
  open_conns = map (λ (c : ℕ × ℕ). c.0) o.conns;
}) []
Settled-opened o room taken = record {
  agrees = record {
    lasts = record {
      events = refl;
      depth = refl;
      level = refl;
      commands = record { commands = refl; regular = refl; apart = refl; count_is = refl; fresh = λ k h. refl; unleft = λ k h. refl };
      sets = grind (arith, nat_tests, length-replicate, set_opened);
      unfinished = refl;
      enabled = EnabledSoFar-none o;
      open_conns = sym (all_open o o.conns (λ cid known. known));
    };
    window = grind (arith, nat_tests, length-replicate, nothing_at);
    replies = record { cids = refl; stat_sns = λ cid known. first_number cid o.conns };
    waiting = record { list = refl; may = refl; known = refl };
  };
  none_due = nothing_at o.window 0;
}

-- ---- how many are held

pub conns_same : (o : Setting) (s : Core) (h : List Event) → StandsFor o s h → length s.conns ≡ length o.conns
conns_same o s h stands = sym (length-map s.conns (λ (k : ℕ × ℕ). k.0)) ∙ ap length stands.settled.agrees.replies.cids ∙ length-map o.conns (λ (k : ℕ × ℕ). k.0)

pub bound_is : (o : Setting) (s : Core) (h : List Event) → StandsFor o s h → 12 * (count_by is_held s.window.places + length s.waiting + 1) + 2 * length s.live ≡ effect_bound_of o (trace_of o h)
bound_is o s h stands =
    let t : Trace = trace_of o h in
    let a = stands.settled.agrees in
    let e : ℕ = number_expected s.window in
    let held_place : (n : ℕ) → is_held (place_of t n) ≡ is_some (held t n) = λ n. grind (arith, nat_tests, unreceived_unheld) in
    let counted : count_by is_held s.window.places ≡ held_count o t =
    count_places is_held (λ n. is_some (held t n)) s.window.places e (λ k lt. ap is_held (a.window.inside k lt) ∙ held_place (e + k))
    ∙ cc (a.window.size, settled_expected o s t stands.settled) in
    let lives : length s.live ≡ length (live t) = ap length a.lasts.commands.commands ∙ length-map (live t) kept in
    let waits = ap length a.waiting.list ∙ length-map s.waiting (arrival_waiting o.first) in
    omega (arith, counted, lives, waits)

-- ==== where a session stands for some events, their log keeps the promises

-- ==== arrived numbers and the window, from event to event

-- ---- the window's end

-- nothing is received above MaxCmdSN
none_above : (o : Setting) (s : Core) (t : Trace) → Settled o s t → (n : ℕ) → max_of o t < n → is_received t n ≡ false
none_above o s t h n above =
    let w = h.agrees.window in
    let k : ℕ = n - number_expected s.window in
    let max = settled_max o s t h in
    let at : n ≡ number_expected s.window + k = omega (arith, w.few) in
    ⊎_elim (λ lt. no_place t n (cc (w.inside k lt, w.free k (omega (arith, w.few))))) (λ far. w.above n (omega arith)) (cases_lt k (length s.window.places))

-- an event that a session took
pub Flows-step : (o : Setting) (s s' : Core) (index : ℕ) (t : Trace) (e : Event) → HasOneMore (received t) (received (after_event o index t e)) → Settled o s t → Settled o s' (after_event o index t e) → KeepsPace s.window s'.window → Flows o t (after_event o index t e)
Flows-step o s s' index t e more h h' pace =
    let t' : Trace = after_event o index t e in
    search (arith, more, none_above o s' t' h', exp_stays o t t' more, settled_expected o s' t' h', settled_max o s t h, settled_max o s' t' h', h.agrees.window.first, h'.agrees.window.first, h'.agrees.window.few, h'.agrees.lasts.unfinished, h'.agrees.window.size)

pub stands_delivers : (o : Setting) (s : Core) (h : List Event) → StandsFor o s h → delivered (run_of o h) ≡ executed o h
stands_delivers o s h stands = grind (arith, nat_tests, log_delivers, settled_expected)

pub stands_enables : (o : Setting) (s : Core) (h : List Event) → StandsFor o s h → EnablesByTheRule o h (run_of o h)
stands_enables o s h stands = grind (arith, nat_tests, log_effects, rule_means)

pub stands_closes : (o : Setting) (s : Core) (h : List Event) → StandsFor o s h → ClosesHoldIn o h (run_of o h)
stands_closes o s h stands = closes_hold_in o h stands.belong

pub promises_kept : (o : Setting) (s : Core) (h : List Event) → StandsFor o s h → FlowsThrough o h → KeepsPromises o h (run_of o h)
promises_kept o s h stands flow =
    search (stands_delivers o s h stands, stands_enables o s h stands, aborts_hold_in, stands_closes o s h stands, flow, starts_once, answers_once_in, counts_replies, keeps_order, means_what_it_says)

pub ruleset promises = (aborts_hold_in, starts_once, answers_once_in, counts_replies, keeps_order, means_what_it_says, stands_delivers, stands_enables, stands_closes)

-- ==== the first event of a run that is refused

-- an event that isn't refused comes on a connection of the session
pub taken_belongs : (o : Setting) (h : List Event) (e : Event) → refusal_of o h e ≡ None → belongs o e ≡ true
taken_belongs o h e none = grind (arith, nat_tests)

abbrev first_of_two : Option SessionFault → Option SessionFault → Option SessionFault
first_of_two x y = elim x [ Some fault ↦ Some fault | None ↦ y ]

-- the i-th event decides, or else those after it
first_refusal-at : (o : Setting) (events : List Event) (i : ℕ) (d : Event) → i < length events
    → first_refusal o i (drop i events) ≡ first_of_two (refusal_of o (take i events) (get_or events i d)) (first_refusal o (i + 1) (drop (i + 1) events))
first_refusal-at o events i d lt = grind (arith, nat_tests, length-take, drop_more)

-- what an answer says of the refusal
pub taken_none : {A : Type 0} (x : Option SessionFault) (v : A) → RefusesAs x (Ok v) → x ≡ None
taken_none x v h = grind (arith, nat_tests)

pub refused_cases : (A : Type 0) (x : Option SessionFault) (e : SessionFault) → RefusesAs {A = A} x (Err e) → (e ≡ NoMemory) ⊎ (x ≡ Some e)
refused_cases A x e h = grind (arith, nat_tests)

pub refusal_more : (o : Setting) (events : List Event) (i : ℕ) (d : Event) (first : Option SessionFault) → i < length events → first_refusal o i (drop i events) ≡ first
    → refusal_of o (take i events) (get_or events i d) ≡ None → first_refusal o (i + 1) (drop (i + 1) events) ≡ first
refusal_more o events i d first lt so_far none = cc (first_refusal-at o events i d lt)

pub refusal_here : (o : Setting) (events : List Event) (i : ℕ) (d : Event) (first : Option SessionFault) (e : SessionFault) → i < length events → first_refusal o i (drop i events) ≡ first
    → refusal_of o (take i events) (get_or events i d) ≡ Some e → first ≡ Some e
refusal_here o events i d first e lt so_far is = cc (first_refusal-at o events i d lt)

-- the options are refused
pub options_refused : (A B : Type 0) (x of_events : Option SessionFault) (e : SessionFault) → RefusesAs {A = A} x (Err e) → RunRefusesAs {A = B} x of_events (Err e)
options_refused A B x of_events e h = grind (arith, nat_tests)

-- they are not, and an event is, or memory is wanting
pub event_refused : (B : Type 0) (x of_events : Option SessionFault) (e : SessionFault) → x ≡ None → (e ≡ NoMemory) ⊎ (of_events ≡ Some e) → RunRefusesAs {A = B} x of_events (Err e)
event_refused B x of_events e is h = rw is h

pub run_taken : {B : Type 0} (x of_events : Option SessionFault) (v : B) → x ≡ None → of_events ≡ None → RunRefusesAs x of_events (Ok v)
run_taken x of_events v is none = rw is none

-- it never is want of memory
pub not_memory : (known early : Bool) (fault : SessionFault) → Some fault ≡ cond (not known) (Some UnknownConnection) (cond early None (Some Exhausted)) → fault ≢ NoMemory
not_memory known early fault said is = grind (arith, nat_tests)
