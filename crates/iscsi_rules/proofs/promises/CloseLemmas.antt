-- What is still going on is on connections that are open: one item more.
use Rattle.std.proofs.Common.{◌≡◌, ℕ, ◌+◌, ◌<◌, ◌≤◌, ◌==◌, ◌||◌, ◌⊎◌, inl, inr, ⊎_elim, not, Bool, true, false, List, [], ◌∷◌, filter, Some, refl, ap, sym, subst, ◌∙◌, arith, eq-eqb}
use Rattle.std.specs.List.{list_any, list_all, filter_map}
use Rattle.std.proofs.lemmas.Bool.{false≢true}
use Rattle.iscsi_wire.specs.Serial.{number_of_first}
use Rattle.iscsi_wire.specs.Fields.{connection_of}
use Rattle.iscsi_rules.specs.rules.Settings.{Setting}
use Rattle.iscsi_rules.specs.rules.Trace.{Arrival, Command, Mark, Admits, Delivers, Executes, Waits, Enters, Sends, ClosesConn, ClosesSession, Ignores, Trace, has, shown, first_of, admits_at, admitted, delivers_number, empties_number, held, waiting_by, waiting_through, waiting, enters, entered, leaves_ticket, live, closes_conn, closes_session, is_ended}
use Rattle.iscsi_rules.specs.rules.Execution.{exp_of}
use Rattle.iscsi_rules.specs.rules.Logout.{is_open}
use Rattle.iscsi_rules.proofs.general.ElementLemmas.{In, in-filter, in-append}
use Rattle.iscsi_rules.proofs.general.BoolLemmas.{or_first, or_second, not_true}
use Rattle.iscsi_rules.proofs.traces.ApartLemmas.{eq_sym}
use Rattle.iscsi_rules.proofs.traces.TraceLemmas.{live-item}
use Rattle.iscsi_rules.proofs.traces.HeldLemmas.{first_of-append}
use Rattle.iscsi_rules.proofs.promises.AbortRuns.{exp_item}

-- ---- marks

-- something is done on the connection, or comes to be held, to wait or to be live on it
abbrev pub is_at : ℕ → Mark → Bool
is_at conn (Admits a) = connection_of a.request == conn
is_at conn (Delivers a) = connection_of a.request == conn
is_at conn (Executes a) = connection_of a.request == conn
is_at conn (Waits a) = connection_of a.request == conn
is_at conn (Enters c) = connection_of c.arrival.request == conn
is_at conn (Sends k reply) = k == conn
is_at conn _ = false

-- something comes to be held, to wait or to be live
abbrev pub brings : Mark → Bool
brings (Admits a) = true
brings (Waits a) = true
brings (Enters c) = true
brings _ = false

abbrev pub ignores : Mark → Bool
ignores (Ignores why) = true
ignores _ = false

-- the item closes the connection, alone or with the session
abbrev pub closed_by : List Mark → ℕ → Bool
closed_by item conn = list_any closes_session item || list_any (closes_conn conn) item

-- it brings something on the connection
abbrev Brought : ℕ → List Mark → Type 0
Brought conn ms = (list_any (is_at conn) ms ≡ true) × (list_any brings ms ≡ true)

brought_later : (conn : ℕ) (m : Mark) (ms : List Mark) → Brought conn ms → Brought conn (m ∷ ms)
brought_later conn m ms b = (or_second (is_at conn m) (list_any (is_at conn) ms) b.0, or_second (brings m) (list_any brings ms) b.1)

brought_here : (conn : ℕ) (m : Mark) (ms : List Mark) → is_at conn m ≡ true → brings m ≡ true → Brought conn (m ∷ ms)
brought_here conn m ms at by = (or_first (is_at conn m) (list_any (is_at conn) ms) at, or_first (brings m) (list_any brings ms) by)

pub entered_brought : (ms : List Mark) (c : Command) → In c (filter_map enters ms) → Brought (connection_of c.arrival.request) ms
entered_brought [] c h = absurd h
entered_brought (m ∷ ms) c h = grind (arith, entered_brought ms c)

pub admitted_brought : (n : ℕ) (ms : List Mark) (a : Arrival) → first_of (filter_map (admits_at n) ms) ≡ Some a → Brought (connection_of a.request) ms
admitted_brought n [] a h = absurd cc
admitted_brought n (m ∷ ms) a h = grind (arith, admitted_brought n ms a)

-- a function that waits at an item's end waited before, and its connection isn't closed in the item, or the item brought it
waits_from : (ms : List Mark) (ws : List Arrival) (a : Arrival) → In a (waiting_through ms ws) → (In a ws × (closed_by ms (connection_of a.request) ≡ false)) ⊎ Brought (connection_of a.request) ms
waits_from [] ws a h = inl (h, refl)
waits_from (m ∷ ms) ws a h =
    ⊎_elim (λ before. by_mark m before.0 before.1) (λ later. inr (brought_later (connection_of a.request) m ms later)) (waits_from ms (waiting_by m ws) a h)
  where
    by_mark : (m : Mark) → In a (waiting_by m ws) → closed_by ms (connection_of a.request) ≡ false → (In a ws × (closed_by (m ∷ ms) (connection_of a.request) ≡ false)) ⊎ Brought (connection_of a.request) (m ∷ ms)
    by_mark (Executes b) there stays = inl ((in-filter (λ (x : Arrival). not (x.event == b.event)) ws a there).0, stays)
    by_mark (Waits b) there stays =
        ⊎_elim (λ before. inl (before, stays))
        (λ last. ⊎_elim (λ same. inr (brought_here (connection_of a.request) (Waits b) ms (eq-eqb (connection_of b.request) (connection_of a.request) (ap (λ (x : Arrival). connection_of x.request) same)) refl)) (λ none. absurd none) last)
        (in-append ws (b ∷ []) a there)
    by_mark (ClosesConn k) there stays =
        let r = in-filter (λ (x : Arrival). not (connection_of x.request == k)) ws a there in
        let apart : (k == connection_of a.request) ≡ false = eq_sym k (connection_of a.request) ∙ not_true (connection_of a.request == k) r.1 in
        inl (r.0, ap (λ b. list_any closes_session ms || (b || list_any (closes_conn (connection_of a.request)) ms)) apart ∙ stays)
    by_mark ClosesSession there stays = absurd there
    by_mark m there stays = inl (there, stays)

-- a request that is held at an item's end was held before, and isn't taken in it, or the item admits it
held_from : (item : List Mark) (t : Trace) (n : ℕ) (a : Arrival) → held (item ∷ t) n ≡ Some a
    → ((held t n ≡ Some a) × ((list_any (delivers_number n) item || list_any (empties_number n) item) ≡ false)) ⊎ (first_of (filter_map (admits_at n) item) ≡ Some a)
held_from item t n a h = grind arith

-- ---- what an item must be like

pub record Sound (o : Setting) (t : Trace) (item : List Mark) : Type 0 where
  -- what is done in it, and what it brings, is on open connections
  pub on_open : (conn : ℕ) → is_open o t conn ≡ false → list_any (is_at conn) item ≡ false
  pub units : (c : Command) → In c (filter_map enters item) → c.unit < o.units
  pub range : (n : ℕ) (a : Arrival) → first_of (filter_map (admits_at n) item) ≡ Some a → (number_of_first o.first ≤ n) × (n < exp_of o t + o.window)
  -- where it closes a connection it brings nothing, and takes out what was going on there
  pub closes : (conn : ℕ) → closed_by item conn ≡ true → list_any brings item ≡ false
  pub live_out : (c : Command) → In c (live t) → closed_by item (connection_of c.arrival.request) ≡ true → list_any (leaves_ticket c.ticket) item ≡ true
  pub held_out : (n : ℕ) (a : Arrival) → held t n ≡ Some a → closed_by item (connection_of a.request) ≡ true → (list_any (delivers_number n) item || list_any (empties_number n) item) ≡ true
  -- after the end of the session an event is passed over
  pub ended : is_ended t ≡ true → list_all ignores item ≡ true

-- ---- what is still going on

pub record Clear (o : Setting) (t : Trace) : Type 0 where
  pub units : (c : Command) → In c (entered t) → c.unit < o.units
  pub range : (n : ℕ) (a : Arrival) → admitted t n ≡ Some a → (number_of_first o.first ≤ n) × (n < exp_of o t + o.window)
  pub lives : (c : Command) → In c (live t) → is_open o t (connection_of c.arrival.request) ≡ true
  pub waits : (a : Arrival) → In a (waiting t) → is_open o t (connection_of a.request) ≡ true
  pub holds : (n : ℕ) (a : Arrival) → held t n ≡ Some a → is_open o t (connection_of a.request) ≡ true

pub clear-none : (o : Setting) → Clear o []
clear-none o = grind arith

-- a connection that the item doesn't close stays open
pub open-item : (o : Setting) (item : List Mark) (t : Trace) (conn : ℕ) → is_open o t conn ≡ true → closed_by item conn ≡ false → is_open o (item ∷ t) conn ≡ true
open-item o item t conn here stays = grind arith

-- where a connection is open the session hasn't ended
pub open-unended : (o : Setting) (t : Trace) (conn : ℕ) → is_open o t conn ≡ true → is_ended t ≡ false
open-unended o t conn here = grind arith

pub by_bool : (A : Type 0) (b : Bool) → (b ≡ true → A) → (b ≡ false → A) → A
by_bool A b on off = grind arith

module _ (o : Setting) (item : List Mark) (t : Trace) (s : Sound o t item) where
  -- what the item brings is on a connection that is open after it
  brought_open : (conn : ℕ) → Brought conn item → is_open o (item ∷ t) conn ≡ true
  brought_open conn b =
      open-item o item t conn
      (by_bool (is_open o t conn ≡ true) (is_open o t conn) (λ on. on) (λ off. absurd (false≢true (sym (s.on_open conn off) ∙ b.0))))
      (by_bool (closed_by item conn ≡ false) (closed_by item conn) (λ on. absurd (false≢true (sym (s.closes conn on) ∙ b.1))) (λ off. off))

  pub clear-item : Clear o t → Clear o (item ∷ t)
  clear-item c = record {
    units = λ d h. ⊎_elim (λ before. c.units d before) (λ now. s.units d now) (in-append (entered t) (filter_map enters item) d h);
    range = λ n a h.
        let more : exp_of o t ≤ exp_of o (item ∷ t) = exp_item o item t in
        let r : (number_of_first o.first ≤ n) × (n < exp_of o t + o.window) = ⊎_elim (λ before. c.range n a before) (λ now. s.range n a now) (first_of-append (shown (admits_at n) t) (filter_map (admits_at n) item) a h) in
        (r.0, (let z : n < exp_of o (item ∷ t) + o.window = omega (arith, r.1, more) in z));
    lives = λ d h. ⊎_elim (λ before. lives_on d before) (λ now. brought_open (connection_of d.arrival.request) (entered_brought item d now)) (live_from d h);
    waits = λ a h.
        ⊎_elim (λ before. open-item o item t (connection_of a.request) (c.waits a before.0) before.1)
        (λ now. brought_open (connection_of a.request) now)
        (waits_from item (waiting t) a h);
    holds = λ n a h.
        ⊎_elim
        (λ before. open-item o item t (connection_of a.request) (c.holds n a before.0)
        (by_bool (closed_by item (connection_of a.request) ≡ false) (closed_by item (connection_of a.request)) (λ on. absurd (false≢true (sym before.1 ∙ s.held_out n a before.0 on))) (λ off. off)))
        (λ now. brought_open (connection_of a.request) (admitted_brought n item a now))
        (held_from item t n a h);
  }
    where
      live_from : (d : Command) → In d (live (item ∷ t)) → (In d (live t) × (list_any (leaves_ticket d.ticket) item ≡ false)) ⊎ In d (filter_map enters item)
      live_from d h =
          ⊎_elim
          (λ before. let r = in-filter (λ (x : Command). not (list_any (leaves_ticket x.ticket) item)) (live t) d before in inl (r.0, not_true (list_any (leaves_ticket d.ticket) item) r.1))
          (λ now. inr (in-filter (λ (x : Command). not (has (leaves_ticket x.ticket) (item ∷ t))) (filter_map enters item) d now).0)
          (in-append (filter (λ (x : Command). not (list_any (leaves_ticket x.ticket) item)) (live t)) (filter (λ (x : Command). not (has (leaves_ticket x.ticket) (item ∷ t))) (filter_map enters item)) d (subst (In d) (live-item item t) h))

      lives_on : (d : Command) → In d (live t) × (list_any (leaves_ticket d.ticket) item ≡ false) → is_open o (item ∷ t) (connection_of d.arrival.request) ≡ true
      lives_on d before =
          let conn : ℕ = connection_of d.arrival.request in
          open-item o item t conn (c.lives d before.0)
          (by_bool (closed_by item conn ≡ false) (closed_by item conn) (λ on. absurd (false≢true (sym before.1 ∙ s.live_out d before.0 on))) (λ off. off))
