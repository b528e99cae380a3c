-- What a session gives in an item, where the commands of the box are those of the session.
use Rattle.std.proofs.Common.{◌≡◌, ◌≤◌, ℕ, ◌==◌, ◌&&◌, ◌||◌, ⊎_elim, cond, Bool, true, false, List, [], ◌∷◌, ◌++◌, map, filter, filter_map, length, count_by, Option, Some, None, refl, ap, sym, subst, ◌∙◌, arith, eq-eqb}
use Rattle.std.specs.List.{list_any, flat_map, cons_option}
use Rattle.std.proofs.lemmas.Bool.{and_from, false≢true, or_left, or_right}
use Rattle.std.proofs.lemmas.List.{append_assoc}
use Rattle.std.proofs.lemmas.List.Elements.{filter_map-append}
use Rattle.iscsi_wire.specs.declared.request.Request.{Request}
use Rattle.iscsi_wire.specs.Fields.{connection_of}
use Rattle.iscsi_rules.specs.declared.effect.Effect.{Effect}
use Rattle.iscsi_rules.specs.declared.effect.Effect.TheVariants.{Enable}
use Rattle.iscsi_rules.specs.rules.Settings.{Setting}
use Rattle.iscsi_rules.specs.rules.Trace.{Arrival, Command, Mark, Admits, Delivers, Executes, Voids, Empties, Waits, Leaves, Enters, Sends, ClosesConn, ClosesSession, Ignores, Trace, enters, entered, live, is_among}
use Rattle.iscsi_rules.specs.rules.Run.{effects_of_mark, newly_enabled, effects_of_item}
use Rattle.iscsi_rules.specs.promises.Replies.{executed_in}
use Rattle.iscsi_rules.proofs.promises.AbortMarks.{none_viewed}
use Rattle.iscsi_rules.proofs.promises.CloseLemmas.{is_at}
use Rattle.iscsi_rules.proofs.general.ElementLemmas.{In as InList}
use Rattle.iscsi_rules.proofs.items.Forms.{Start, AtTurn, AtArrival, AfterWaiting, start_mark, Deeds, if_some, marks_done, Form, Ignored, Rejected, Received, Postponed, Completed, Executed, marks_of_form, IsFormed}
use Rattle.iscsi_rules.proofs.promises.LifeLemmas.{among-mine, mine-none_counted}
use Rattle.iscsi_rules.proofs.promises.NumberingLemmas.{to_list, unseen, passed}
use Rattle.iscsi_rules.proofs.items.TouchLemmas.{leaving_in, leaving_few}
use Rattle.iscsi_outbox_rules.specs.rules.Boxes.{Task, Box}
use Rattle.iscsi_outbox_rules.specs.rules.Words.{contains, is_live_phase}
use Rattle.iscsi_outbox_rules.specs.rules.Items.{executing}
use Rattle.iscsi_outbox_rules.proofs.room.RoomLives.{tickets_of, none_counted}
use Rattle.iscsi_outbox_rules.proofs.room.RoomTasks.{live_tickets}
use Rattle.iscsi_outbox_law.specs.private.Sound.{entry_of, conn_closed, is_close}
use Rattle.iscsi_outbox_law.proofs.general.Members.{any_found, any_from, in_filter}
use Rattle.iscsi_outbox_law.proofs.invariants.SoundFirm.{has_home}
use Rattle.iscsi_outbox_law.proofs.invariants.SoundLists.{any_unmapped}
use Rattle.iscsi_outbox_law.proofs.invariants.SoundParting.{closes_any}
use Rattle.iscsi_outbox_law.proofs.invariants.SoundTurns.{IsTurn}

-- ---- the commands of both

abbrev pub home_of_task : Task → ℕ × ℕ
home_of_task t = (t.ticket, t.conn)

abbrev pub home_of_command : Command → ℕ × ℕ
home_of_command c = (c.ticket, connection_of c.arrival.request)

-- the commands of the box are those of the session: each with its connection, and the same are live
pub record Follows (b : Box) (t : Trace) : Type 0 where
  pub lives : live_tickets b.tasks ≡ tickets_of (live t)
  pub homes : map home_of_task b.tasks ≡ map home_of_command (entered t)

pub homes_turn : (f : Task → Task) → IsTurn f → (ts : List Task) → map home_of_task (map f ts) ≡ map home_of_task ts
homes_turn f turn [] = refl
homes_turn f turn (t ∷ ts) =
    ap (λ (h : ℕ × ℕ). h ∷ map home_of_task (map f ts)) (ap (λ (n : ℕ). (n, (f t).conn)) (turn.ticket t) ∙ ap (λ (c : ℕ). (t.ticket, c)) (turn.conn t))
    ∙ ap (λ (hs : List (ℕ × ℕ)). home_of_task t ∷ hs) (homes_turn f turn ts)

-- ---- what effects show of marks

pub none_enabled : {B : Type 0} (view : Effect → Option B) → ((k u : ℕ) → view (Enable k u) ≡ None) → (cs : List Command) → filter_map view (map (λ (c : Command). Enable c.ticket c.unit) cs) ≡ []
none_enabled view none [] = refl
none_enabled view none (c ∷ cs) = ap (λ (x : Option _). cons_option x (filter_map view (map (λ (d : Command). Enable d.ticket d.unit) cs))) (none c.ticket c.unit) ∙ none_enabled view none cs

pub seen_marks : {B : Type 0} (o : Setting) (t : Trace) (view : Effect → Option B) (seen : Mark → Option B) → ((m : Mark) → filter_map view (effects_of_mark o t m) ≡ to_list (seen m)) → ((k u : ℕ) → view (Enable k u) ≡ None)
    → (ms : List Mark) (cs : List Command) → filter_map view (flat_map (effects_of_mark o t) ms ++ map (λ (c : Command). Enable c.ticket c.unit) cs) ≡ filter_map seen ms
seen_marks o t view seen same none [] cs = none_enabled view none cs
seen_marks {B = B} o t view seen same none (m ∷ ms) cs =
    let enables : List Effect = map (λ (c : Command). Enable c.ticket c.unit) cs in
    ap (filter_map view) (append_assoc (effects_of_mark o t m) (flat_map (effects_of_mark o t) ms) enables)
    ∙ filter_map-append view (effects_of_mark o t m) (flat_map (effects_of_mark o t) ms ++ enables)
    ∙ ap (λ (xs : List B). xs ++ filter_map view (flat_map (effects_of_mark o t) ms ++ enables)) (same m)
    ∙ ap (λ (xs : List B). to_list (seen m) ++ xs) (seen_marks o t view seen same none ms cs)
    ∙ elim (seen m) as (λ x. to_list x ++ filter_map seen ms ≡ cons_option x (filter_map seen ms)) [ Some y ↦ refl | None ↦ refl ]

abbrev pub entry_shown : Mark → Option (ℕ × ℕ)
entry_shown (Enters c) = Some (c.ticket, c.unit)
entry_shown _ = None

pub entry_seen : (o : Setting) (t : Trace) (m : Mark) → filter_map entry_of (effects_of_mark o t m) ≡ to_list (entry_shown m)
entry_seen o t (Admits a) = refl
entry_seen o t (Delivers a) = refl
entry_seen o t (Executes a) = refl
entry_seen o t (Voids n) = refl
entry_seen o t (Empties a) = refl
entry_seen o t (Waits a) = refl
entry_seen o t (Leaves c) = refl
entry_seen o t (Enters c) = refl
entry_seen o t (Sends conn reply) = refl
entry_seen o t (ClosesConn conn) = refl
entry_seen o t ClosesSession = refl
entry_seen o t (Ignores why) = refl

pub entries_shown : (ms : List Mark) → filter_map entry_shown ms ≡ map (λ (c : Command). (c.ticket, c.unit)) (filter_map enters ms)
entries_shown [] = refl
entries_shown (Admits a ∷ ms) = entries_shown ms
entries_shown (Delivers a ∷ ms) = entries_shown ms
entries_shown (Executes a ∷ ms) = entries_shown ms
entries_shown (Voids n ∷ ms) = entries_shown ms
entries_shown (Empties a ∷ ms) = entries_shown ms
entries_shown (Waits a ∷ ms) = entries_shown ms
entries_shown (Leaves c ∷ ms) = entries_shown ms
entries_shown (Enters c ∷ ms) = ap (λ (es : List (ℕ × ℕ)). (c.ticket, c.unit) ∷ es) (entries_shown ms)
entries_shown (Sends conn reply ∷ ms) = entries_shown ms
entries_shown (ClosesConn conn ∷ ms) = entries_shown ms
entries_shown (ClosesSession ∷ ms) = entries_shown ms
entries_shown (Ignores why ∷ ms) = entries_shown ms

abbrev pub closing_shown : Mark → Option ℕ
closing_shown (ClosesConn conn) = Some conn
closing_shown _ = None

pub closing_seen : (o : Setting) (t : Trace) (m : Mark) → filter_map conn_closed (effects_of_mark o t m) ≡ to_list (closing_shown m)
closing_seen o t (Admits a) = refl
closing_seen o t (Delivers a) = refl
closing_seen o t (Executes a) = refl
closing_seen o t (Voids n) = refl
closing_seen o t (Empties a) = refl
closing_seen o t (Waits a) = refl
closing_seen o t (Leaves c) = refl
closing_seen o t (Enters c) = refl
closing_seen o t (Sends conn reply) = refl
closing_seen o t (ClosesConn conn) = refl
closing_seen o t ClosesSession = refl
closing_seen o t (Ignores why) = refl

none_closing : (cs : List Command) → list_any is_close (map (λ (c : Command). Enable c.ticket c.unit) cs) ≡ false
none_closing [] = refl
none_closing (c ∷ cs) = none_closing cs

pub closes_shown : (o : Setting) (t : Trace) (ms : List Mark) (cs : List Command) → list_any is_close (flat_map (effects_of_mark o t) ms ++ map (λ (c : Command). Enable c.ticket c.unit) cs) ≡ list_any closes_any ms
closes_shown o t [] cs = none_closing cs
closes_shown o t (Admits a ∷ ms) cs = closes_shown o t ms cs
closes_shown o t (Delivers a ∷ ms) cs = closes_shown o t ms cs
closes_shown o t (Executes a ∷ ms) cs = closes_shown o t ms cs
closes_shown o t (Voids n ∷ ms) cs = closes_shown o t ms cs
closes_shown o t (Empties a ∷ ms) cs = closes_shown o t ms cs
closes_shown o t (Waits a ∷ ms) cs = closes_shown o t ms cs
closes_shown o t (Leaves c ∷ ms) cs = closes_shown o t ms cs
closes_shown o t (Enters c ∷ ms) cs = closes_shown o t ms cs
closes_shown o t (Sends conn reply ∷ ms) cs = closes_shown o t ms cs
closes_shown o t (ClosesConn conn ∷ ms) cs = refl
closes_shown o t (ClosesSession ∷ ms) cs = refl
closes_shown o t (Ignores why ∷ ms) cs = closes_shown o t ms cs

-- ---- the request that executes

none_executing : (cs : List Command) → executing (map (λ (c : Command). Enable c.ticket c.unit) cs) ≡ None
none_executing [] = refl
none_executing (c ∷ cs) = refl

some_request : (r q : Request) → Some r ≡ Some q → r ≡ q
some_request r q h = cc

pub executing_as : (o : Setting) (t : Trace) (item : List Mark) (a : Arrival) → executed_in item ≡ Some a → executing (effects_of_item o t item) ≡ Some a.request
executing_as o t [] a is = absurd cc
executing_as o t (Admits b ∷ ms) a is = absurd cc
executing_as o t (Delivers b ∷ ms) a is = let same : b ≡ a = cc in ap (λ (x : Arrival). Some x.request) same
executing_as o t (Executes b ∷ ms) a is = let same : b ≡ a = cc in ap (λ (x : Arrival). Some x.request) same
executing_as o t (Voids n ∷ ms) a is = absurd cc
executing_as o t (Empties b ∷ ms) a is = absurd cc
executing_as o t (Waits b ∷ ms) a is = absurd cc
executing_as o t (Leaves c ∷ ms) a is = absurd cc
executing_as o t (Enters c ∷ ms) a is = absurd cc
executing_as o t (Sends conn reply ∷ ms) a is = absurd cc
executing_as o t (ClosesConn conn ∷ ms) a is = absurd cc
executing_as o t (ClosesSession ∷ ms) a is = absurd cc
executing_as o t (Ignores why ∷ ms) a is = absurd cc

-- what executes in an item of a form, and where
pub record Executing (form : Form) (r : Request) : Type 0 where
  pub arrival : Arrival
  pub executes : executed_in (marks_of_form form) ≡ Some arrival
  pub request : arrival.request ≡ r
  pub there : list_any (is_at (connection_of r)) (marks_of_form form) ≡ true

pub executing_form : (o : Setting) (t : Trace) (form : Form) (r : Request) → executing (effects_of_item o t (marks_of_form form)) ≡ Some r → Executing form r
executing_form o t (Ignored why) r is = absurd cc
executing_form o t (Rejected a) r is = absurd cc
executing_form o t (Received a) r is = absurd (let no : None ≡ Some r = sym (none_executing (newly_enabled o t (marks_of_form (Received a)))) ∙ is in cc)
executing_form o t (Postponed a) r is = absurd cc
executing_form o t (Completed c status) r is = absurd cc
executing_form o t (Executed AtTurn a d) r is =
    let same : a.request ≡ r = some_request a.request r is in
    record { arrival = a; executes = refl; request = same; there = or_left (connection_of a.request == connection_of r) (list_any (is_at (connection_of r)) (marks_done a d)) (eq-eqb (connection_of a.request) (connection_of r) (ap connection_of same)) }
executing_form o t (Executed AtArrival a d) r is =
    let same : a.request ≡ r = some_request a.request r is in
    record { arrival = a; executes = refl; request = same; there = or_left (connection_of a.request == connection_of r) (list_any (is_at (connection_of r)) (marks_done a d)) (eq-eqb (connection_of a.request) (connection_of r) (ap connection_of same)) }
executing_form o t (Executed AfterWaiting a d) r is =
    let same : a.request ≡ r = some_request a.request r is in
    record { arrival = a; executes = refl; request = same; there = or_left (connection_of a.request == connection_of r) (list_any (is_at (connection_of r)) (marks_done a d)) (eq-eqb (connection_of a.request) (connection_of r) (ap connection_of same)) }

-- ---- one close at the most

closes_done : (a : Arrival) (d : Deeds) → filter_map closing_shown (marks_done a d) ≡ to_list d.closing
closes_done a d =
    passed closing_shown (if_some Voids d.void) _ (unseen closing_shown Voids d.void (λ n. refl))
    ∙ passed closing_shown (map Leaves d.leaving) _ (none_viewed closing_shown Leaves d.leaving (λ c. refl))
    ∙ passed closing_shown (map Empties d.emptied) _ (none_viewed closing_shown Empties d.emptied (λ b. refl))
    ∙ passed closing_shown (if_some Enters d.entering) _ (unseen closing_shown Enters d.entering (λ c. refl))
    ∙ passed closing_shown (if_some (Sends (connection_of a.request)) d.reply) _ (unseen closing_shown (Sends (connection_of a.request)) d.reply (λ r. refl))
    ∙ by_ends d.closing d.ending
  where
    by_ends : (x : Option ℕ) (v : Bool) → filter_map closing_shown (if_some ClosesConn x ++ cond v (ClosesSession ∷ []) []) ≡ to_list x
    by_ends (Some conn) true = refl
    by_ends (Some conn) false = refl
    by_ends None true = refl
    by_ends None false = refl

pub few_closes : (form : Form) → length (filter_map closing_shown (marks_of_form form)) ≤ 1
few_closes (Ignored why) = omega arith
few_closes (Rejected a) = omega arith
few_closes (Received a) = omega arith
few_closes (Postponed a) = omega arith
few_closes (Completed c status) = omega arith
few_closes (Executed start a d) = by_start start
  where
    few : (x : Option ℕ) → length (to_list x) ≤ 1
    few (Some conn) = omega arith
    few None = omega arith

    done : length (filter_map closing_shown (marks_done a d)) ≤ 1
    done = subst (λ (xs : List ℕ). length xs ≤ 1) (sym (closes_done a d)) (few d.closing)

    by_start : (s : Start) → length (filter_map closing_shown (start_mark s a ∷ marks_done a d)) ≤ 1
    by_start AtTurn = done
    by_start AtArrival = done
    by_start AfterWaiting = done

-- ---- commands that leave

pub live_command : (o : Setting) (now : ℕ) (t : Trace) (form : Form) (k : ℕ) → IsFormed o now t form → is_among k (leaving_in form) ≡ true → is_among k (live t) ≡ true
live_command o now t form k formed among = by_live (is_among k (live t)) refl
  where
    by_live : (v : Bool) → is_among k (live t) ≡ v → is_among k (live t) ≡ true
    by_live true is = is
    by_live false is =
        let none : count_by (λ (c : Command). c.ticket == k) (leaving_in form) ≤ 0 = omega (arith, leaving_few o now t form formed (λ (c : Command). c.ticket == k), none_counted k (live t) is) in
        absurd (false≢true (sym (among-mine k (leaving_in form) (mine-none_counted k (leaving_in form) none)) ∙ among))

pub among_tickets : (k : ℕ) (cs : List Command) → contains (tickets_of cs) k ≡ is_among k cs
among_tickets k [] = refl
among_tickets k (c ∷ cs) = ap (λ (v : Bool). (c.ticket == k) || v) (among_tickets k cs)

pub live_task : (ts : List Task) (k : ℕ) → contains (live_tickets ts) k ≡ true → list_any (λ (t : Task). t.ticket == k && is_live_phase t.phase) ts ≡ true
live_task ts k some =
    let x = any_found (λ (t : Task). t.ticket == k) (filter (λ (t : Task). is_live_phase t.phase) ts)
    (any_unmapped (λ (t : Task). t.ticket == k) (λ (n : ℕ). n == k) (λ (t : Task). t.ticket) (filter (λ (t : Task). is_live_phase t.phase) ts) (λ t is. is) some) in
    let y = in_filter (λ (t : Task). is_live_phase t.phase) ts x.0 x.1 in
    any_from (λ (t : Task). t.ticket == k && is_live_phase t.phase) ts x.0 y.0 (and_from (x.0.ticket == k) (is_live_phase x.0.phase) x.2 y.1)

-- ---- where a command entered

pub homes_any : (ts : List Task) (conn k : ℕ) → list_any (λ (h : ℕ × ℕ). h.0 == k && h.1 == conn) (map home_of_task ts) ≡ has_home ts conn k
homes_any [] conn k = refl
homes_any (t ∷ ts) conn k = ap (λ (v : Bool). (t.ticket == k && t.conn == conn) || v) (homes_any ts conn k)

pub home_there : (cs : List Command) (c : Command) → InList c cs → list_any (λ (h : ℕ × ℕ). h.0 == c.ticket && h.1 == connection_of c.arrival.request) (map home_of_command cs) ≡ true
home_there [] c at = absurd at
home_there (d ∷ cs) c at =
    ⊎_elim
    (λ same. or_left (d.ticket == c.ticket && connection_of d.arrival.request == connection_of c.arrival.request) _
    (and_from (d.ticket == c.ticket) (connection_of d.arrival.request == connection_of c.arrival.request) (eq-eqb d.ticket c.ticket (ap (λ (x : Command). x.ticket) same)) (eq-eqb (connection_of d.arrival.request) (connection_of c.arrival.request) (ap (λ (x : Command). connection_of x.arrival.request) same))))
    (λ later. or_right (d.ticket == c.ticket && connection_of d.arrival.request == connection_of c.arrival.request) _ (home_there cs c later)) at
