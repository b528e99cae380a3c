-- Each item does and brings what is on open connections, and takes out what is going on on those that it closes.
use Rattle.std.proofs.Common.{◌≡◌, ℕ, ◌+◌, ◌-◌, ◌<◌, ◌≤◌, ◌==◌, ◌||◌, inl, true, false, List, [], ◌∷◌, Option, Some, None, refl, ap, sym, subst, ◌∙◌, arith, eq-eqb}
use Rattle.std.specs.List.{list_any, list_all, filter_map, range_with_len}
use Rattle.std.proofs.lemmas.Bool.{false≢true, eqb-true}
use Rattle.std.proofs.lemmas.Bool.Decides.{nat_tests}
use Rattle.iscsi_wire.specs.Serial.{number_of_first}
use Rattle.iscsi_wire.specs.Fields.{connection_of}
use Rattle.iscsi_rules.specs.declared.effect.Why.{Why}
use Rattle.iscsi_rules.specs.rules.Settings.{Setting}
use Rattle.iscsi_rules.specs.rules.Trace.{Arrival, Command, Mark, Ignores, Trace, first_of, admits_at, delivers_number, empties_number, held, enters, entered, leaves_ticket, live, live_in, is_ended}
use Rattle.iscsi_rules.specs.rules.Execution.{exp_of}
use Rattle.iscsi_rules.specs.rules.Logout.{is_open, live_of_units, all_held}
use Rattle.iscsi_rules.proofs.general.BoolLemmas.{or_first, or_second}
use Rattle.iscsi_rules.proofs.general.ElementLemmas.{In, in-any, in-filter, filter-in, flat_map-in, range-in}
use Rattle.iscsi_rules.proofs.traces.HeldLemmas.{held-number, admitted_of_held}
use Rattle.iscsi_rules.proofs.general.Missing.{exp_item, expected_low}
use Rattle.iscsi_rules.proofs.items.Forms.{Start, Starts, AtTurn, AtArrival, AfterWaiting, start_mark, Deeds, marks_done, Form, Ignored, Rejected, Received, Postponed, Completed, Executed, marks_of_form, begun, is_closing, TakesOut, IsFormed}
use Rattle.iscsi_rules.proofs.items.FormItems.{live-begun}
use Rattle.iscsi_rules.proofs.items.FormRuns.{IsDue, StandsAt, Stands}
use Rattle.iscsi_rules.proofs.items.DeedLemmas.{begun_any, none_done, unended, unparted}
use Rattle.iscsi_rules.proofs.items.TouchLemmas.{enters_form, leaves_form}
use Rattle.iscsi_rules.proofs.traces.FateLemmas.{executed_at}
use Rattle.iscsi_rules.proofs.promises.ReplyForms.{in_among}
use Rattle.iscsi_rules.proofs.promises.CloseLemmas.{is_at, brings, ignores, closed_by, entered_brought, admitted_brought, Sound, Clear, open-unended, by_bool}

-- ---- items on one open connection

-- nothing is done or brought on another connection
abbrev Only : ℕ → List Mark → Type 0
Only conn ms = (k : ℕ) → (conn == k) ≡ false → list_any (is_at k) ms ≡ false

module _ (o : Setting) (t : Trace) (conn : ℕ) (item : List Mark) (here : is_open o t conn ≡ true) (only : Only conn item) where
  none_closed : (k : ℕ) → is_open o t k ≡ false → list_any (is_at k) item ≡ false
  none_closed k off = grind (arith, nat_tests, by_bool (list_any (is_at k) item ≡ false) (conn == k), eqb-true, only)

  going_on : is_ended t ≡ true → list_all ignores item ≡ true
  going_on over = absurd (false≢true (sym (open-unended o t conn here) ∙ over))

  -- an item that closes nothing
  sound_open : ((c : Command) → In c (filter_map enters item) → c.unit < o.units)
      → ((n : ℕ) (a : Arrival) → first_of (filter_map (admits_at n) item) ≡ Some a → (number_of_first o.first ≤ n) × (n < exp_of o t + o.window))
      → ((k : ℕ) → closed_by item k ≡ false) → Sound o t item
  sound_open units range stays = record {
    on_open = none_closed;
    units = units;
    range = range;
    closes = λ k h. absurd (false≢true (sym (stays k) ∙ h));
    live_out = λ c there h. absurd (false≢true (sym (stays (connection_of c.arrival.request)) ∙ h));
    held_out = λ n a there h. absurd (false≢true (sym (stays (connection_of a.request)) ∙ h));
    ended = going_on;
  }

  -- one that brings nothing
  sound_closing : list_any brings item ≡ false
      → ((c : Command) → In c (live t) → closed_by item (connection_of c.arrival.request) ≡ true → list_any (leaves_ticket c.ticket) item ≡ true)
      → ((n : ℕ) (a : Arrival) → held t n ≡ Some a → closed_by item (connection_of a.request) ≡ true → (list_any (delivers_number n) item || list_any (empties_number n) item) ≡ true)
      → Sound o t item
  sound_closing none live_out held_out = record {
    on_open = none_closed;
    units = λ c h. absurd (false≢true (sym none ∙ (entered_brought item c h).1));
    range = λ n a h. absurd (false≢true (sym none ∙ (admitted_brought n item a h).1));
    closes = λ k h. none;
    live_out = live_out;
    held_out = held_out;
    ended = going_on;
  }

-- ---- what comes to be live and to be held

-- a command that enters has a unit of the session
units_form : (o : Setting) (now : ℕ) (t : Trace) (form : Form) → IsFormed o now t form → (c : Command) → In c (filter_map enters (marks_of_form form)) → c.unit < o.units
units_form o now t form x c h = grind (arith, enters_form)

-- the arrivals that aren't passed over are on open connections
abbrev pub OnOpen : Setting → Trace → Arrival → Type 0
OnOpen o t a = is_open o t (connection_of a.request) ≡ true

-- what is received is in the window
range_form : (o : Setting) (now p : ℕ) (t : Trace) (form : Form) → StandsAt (OnOpen o) o now p t form → (n : ℕ) (b : Arrival) → first_of (filter_map (admits_at n) (marks_of_form form)) ≡ Some b → (number_of_first o.first ≤ n) × (n < exp_of o t + o.window)
range_form o now p t (Received a) at n b h = grind (arith, expected_low)
range_form o now p t (Executed start a d) at n b h = absurd (let none : None ≡ Some b = sym (ap first_of (executed_at n start a d).admits) ∙ h in cc)
range_form o now p t form at n b h = absurd cc

-- ---- a request that executes

module _ (o : Setting) (now p : ℕ) (t : Trace) (start : Start) (a : Arrival) (d : Deeds) (x : IsFormed o now t (Executed start a d)) (at : StandsAt (OnOpen o) o now p t (Executed start a d)) (c : Clear o t) where
  abbrev marks : List Mark
  marks = marks_of_form (Executed start a d)

  -- its connection is open
  home : is_open o t (connection_of a.request) ≡ true
  home = by_start start x.0 at.0
    where
      by_start : (s : Start) → Starts now t s a → IsDue (OnOpen o) o now p t s a → is_open o t (connection_of a.request) ≡ true
      by_start AtTurn held here = c.holds a.number a held
      by_start AtArrival arrived here = here
      by_start AfterWaiting waits here = c.waits a here.1

  only : Only (connection_of a.request) marks
  only k apart = grind (arith, none_done)

  -- a connection that it doesn't close
  unclosed : (k : ℕ) → (d.ending ≡ true → ⊥) → ((conn : ℕ) → d.closing ≡ Some conn → (conn == k) ≡ false) → closed_by marks k ≡ false
  unclosed k goes_on others = grind (arith, none_done)

  sound_staying : is_closing d ≡ false → Sound o t marks
  sound_staying stays =
      grind (arith, nat_tests, sound_open, home, only, units_form o now t (Executed start a d) x, range_form o now p t (Executed start a d) at, unclosed, unended a d stays, unparted)

  module _ (s : TakesOut o (begun start a t) d) where
    -- it takes out what there is of an open connection that it closes
    closes_these : (k : ℕ) → is_open o t k ≡ true → closed_by marks k ≡ true → s.of_these k ≡ true
    closes_these k on closed = grind (arith, unclosed)

    live_leaves : (e : Command) → In e (live t) → closed_by marks (connection_of e.arrival.request) ≡ true → list_any (leaves_ticket e.ticket) marks ≡ true
    live_leaves e there closed =
        let below : e.unit < o.units = c.units e (in-filter _ (entered t) e there).0 in
        let in_unit : In e (live_in e.unit (begun start a t)) = filter-in (λ (y : Command). y.unit == e.unit) (live (begun start a t)) e (subst (In e) (sym (live-begun start a t)) there) (eq-eqb e.unit e.unit refl) in
        let among : In e (live_of_units o (begun start a t)) = flat_map-in (λ unit. live_in unit (begun start a t)) (range_with_len 0 o.units) e.unit e (range-in 0 o.units e.unit (omega arith) (omega (arith, below))) in_unit in
        leaves_form e.ticket (Executed start a d)
        ∙ in_among d.leaving e (subst (In e) (sym s.leaving) (filter-in (λ (y : Command). s.of_these (connection_of y.arrival.request)) (live_of_units o (begun start a t)) e among (closes_these (connection_of e.arrival.request) (c.lives e there) closed)))

    held_goes : (n : ℕ) (b : Arrival) → held t n ≡ Some b → closed_by marks (connection_of b.request) ≡ true → (list_any (delivers_number n) marks || list_any (empties_number n) marks) ≡ true
    held_goes n b there closed =
        by_bool ((list_any (delivers_number n) marks || list_any (empties_number n) marks) ≡ true) (list_any (delivers_number n) (start_mark start a ∷ []))
        (λ now. or_first (list_any (delivers_number n) marks) (list_any (empties_number n) marks) ((executed_at n start a d).delivered ∙ now))
        (λ later. or_second (list_any (delivers_number n) marks) (list_any (empties_number n) marks) ((executed_at n start a d).emptied ∙ in-any (λ (y : Arrival). y.number == n) d.emptied b (emptied later) (eq-eqb b.number n (held-number t n b there))))
      where
        kept : (s : Start) → list_any (delivers_number n) (start_mark s a ∷ []) ≡ false → held (begun s a t) n ≡ Some b
        kept s later = grind arith

        emptied : list_any (delivers_number n) (start_mark start a ∷ []) ≡ false → In b d.emptied
        emptied later =
            let r : (number_of_first o.first ≤ n) × (n < exp_of o t + o.window) = c.range n b (admitted_of_held t n b there) in
            let low : number_of_first o.first ≤ n = r.0 in
            let e : ℕ = exp_of o (begun start a t) in
            let more : exp_of o t ≤ e = exp_item o (start_mark start a ∷ []) t in
            subst (In b) (sym s.emptied)
            (filter-in (λ (y : Arrival). s.of_these (connection_of y.request)) (all_held o (begun start a t)) b
            (flat_map-in (λ k. elim (held (begun start a t) k) [ Some y ↦ y ∷ [] | None ↦ [] ]) (range_with_len (number_of_first o.first) (e + o.window - number_of_first o.first)) n b
            (range-in (number_of_first o.first) (e + o.window - number_of_first o.first) n low (omega (arith, low, r.1, more)))
            (subst (λ (y : Option Arrival). In b (elim y [ Some z ↦ z ∷ [] | None ↦ [] ])) (sym (kept start later)) (inl refl)))
            (closes_these (connection_of b.request) (c.holds n b there) closed))

    sound_parting : Sound o t marks
    sound_parting =
        sound_closing o t (connection_of a.request) marks home only
        (begun_any brings start a (marks_done a d) refl refl
        ∙ none_done a d brings (λ n is. refl) (λ e there. refl) (λ b there. refl) (λ e is. absurd (let none : None ≡ Some e = sym s.entering ∙ is in cc)) (λ reply is. refl) (λ conn is. refl) (λ is. refl))
        live_leaves held_goes

  sound_executed : Sound o t marks
  sound_executed = by_bool (Sound o t marks) (is_closing d) (λ closes. sound_parting (x.1.takes_out closes)) sound_staying

-- ---- an item of any form

-- an event is passed over
sound_ignored : (o : Setting) (t : Trace) (why : Why) → Sound o t (Ignores why ∷ [])
sound_ignored o t why = grind arith

sound_form : (o : Setting) (now p : ℕ) (t : Trace) (form : Form) → IsFormed o now t form → StandsAt (OnOpen o) o now p t form → Clear o t → Sound o t (marks_of_form form)
sound_form o now p t (Ignored why) x at c = sound_ignored o t why
sound_form o now p t (Rejected a) x at c = sound_open o t (connection_of a.request) _ at (λ k apart. ap (λ b. b || false) apart) (units_form o now t (Rejected a) x) (range_form o now p t (Rejected a) at) (λ k. refl)
sound_form o now p t (Received a) x at c = sound_open o t (connection_of a.request) _ at.0 (λ k apart. ap (λ b. b || false) apart) (units_form o now t (Received a) x) (range_form o now p t (Received a) at) (λ k. refl)
sound_form o now p t (Postponed a) x at c = sound_open o t (connection_of a.request) _ at (λ k apart. ap (λ b. b || false) apart) (units_form o now t (Postponed a) x) (range_form o now p t (Postponed a) at) (λ k. refl)
sound_form o now p t (Completed d status) x at c =
    sound_open o t (connection_of d.arrival.request) _ (c.lives d x) (λ k apart. ap (λ b. b || false) apart) (units_form o now t (Completed d status) x) (range_form o now p t (Completed d status) at) (λ k. refl)
sound_form o now p t (Executed start a d) x at c = sound_executed o now p t start a d x at c

pub item_sound : (o : Setting) (now p : ℕ) (t : Trace) (item : List Mark) → Stands (OnOpen o) o now p t item → Clear o t → Sound o t item
item_sound o now p t item s c = subst (Sound o t) (sym s.has.is) (sound_form o now p t s.has.form s.has.formed s.at c)
