-- Each item fits in where it stands.
use Rattle.std.proofs.Common.{◌≡◌, ℕ, ◌<◌, ◌≤◌, ◌==◌, ◌&&◌, not, Bool, true, false, List, [], ◌∷◌, filter, Some, None, sym, subst, ◌∙◌, arith}
use Rattle.std.specs.List.{list_any, filter_map}
use Rattle.std.proofs.lemmas.Bool.{false≢true, eqb-true, false_from_ne_true}
use Rattle.std.proofs.lemmas.Bool.Decides.{nat_tests}
use Rattle.iscsi_wire.specs.Fields.{function}
use Rattle.iscsi_rules.specs.rules.Settings.{Setting}
use Rattle.iscsi_rules.specs.rules.Trace.{Arrival, Command, Mark, Trace, has, shown, entered, is_received, admits_at, delivers_number, held, leaves_ticket, live, live_in, is_among}
use Rattle.iscsi_rules.specs.promises.Replies.{executed_in}
use Rattle.iscsi_rules.specs.promises.Aborts.{is_set_abort, completes, IsCompleted, is_in_unit_of, came_before, earlier, is_ticket_covered}
use Rattle.iscsi_rules.specs.promises.Meaning.{voids_number}
use Rattle.iscsi_rules.proofs.promises.BeforeLemmas.{came_is_before}
use Rattle.iscsi_rules.proofs.general.BoolLemmas.{or_first, and_parts, and_both}
use Rattle.iscsi_rules.proofs.general.ListLemmas.{any_filter}
use Rattle.iscsi_rules.proofs.traces.TraceLemmas.{unadmitted, filter-same, filter-true}
use Rattle.iscsi_rules.proofs.promises.AbortLemmas.{Fits}
use Rattle.iscsi_rules.proofs.items.Forms.{Start, start_mark, Deeds, marks_done, Form, Executed, marks_of_form, begun, is_completed_by, Sweeps, IsFormed}
use Rattle.iscsi_rules.proofs.items.FormItems.{live-begun}
use Rattle.iscsi_rules.proofs.items.FormRuns.{StandsAt, Stands, AnyArrival}
use Rattle.iscsi_rules.proofs.items.DeedLemmas.{none_done}
use Rattle.iscsi_rules.proofs.items.TouchLemmas.{leaves_form, leaving_live}
use Rattle.iscsi_rules.proofs.traces.TurnLemmas.{delivers_in, delivers_form}
use Rattle.iscsi_rules.proofs.traces.FateLemmas.{Touch, touch_form}

-- ---- what an item does to a number

no_arrival : {A : Type 0} (b : Arrival) → None ≡ Some b → A
no_arrival b h = absurd cc

-- what isn't held isn't delivered
touched_unheld : (t : Trace) (n : ℕ) (item : List Mark) → Touch t n item → held t n ≡ None → list_any (delivers_number n) item ≡ false
touched_unheld t n item touch gone = grind arith

-- a received number admits nothing
touched_received : (t : Trace) (n : ℕ) (item : List Mark) → Touch t n item → is_received t n ≡ true → filter_map (admits_at n) item ≡ []
touched_received t n item touch there = grind arith

-- a number that is voided never admitted a request
touched_voided : (t : Trace) (n : ℕ) (item : List Mark) → Touch t n item → list_any (voids_number n) item ≡ true → shown (admits_at n) (item ∷ t) ≡ []
touched_voided t n item touch now = grind (arith, unadmitted n t)

-- ---- what an abort of a whole set covers, leaves

any_weaker : {A : Type 0} (f g : A → Bool) (xs : List A) → ((x : A) → f x ≡ true → g x ≡ true) → list_any f xs ≡ true → list_any g xs ≡ true
any_weaker f g [] h found = absurd (false≢true found)
any_weaker f g (x ∷ xs) h found = grind (arith, any_weaker f g xs)

module _ (o : Setting) (t : Trace) (start : Start) (a : Arrival) (d : Deeds) (s : Sweeps o (begun start a t) a d) where
  -- the earlier ones that didn't leave are among those that it takes out
  early_swept : (k : ℕ) → has (leaves_ticket k) t ≡ false → is_among k (earlier o a t) ≡ true → is_among k (filter s.covers (live_in s.unit t)) ≡ true
  early_swept k unleft h =
      any_filter (λ (c : Command). c.ticket == k) s.covers (live_in s.unit t)
      ∙ any_filter (λ (c : Command). s.covers c && c.ticket == k) (λ (c : Command). c.unit == s.unit) (live t)
      ∙ any_filter (λ (c : Command). c.unit == s.unit && (s.covers c && c.ticket == k)) (λ (c : Command). not (has (leaves_ticket c.ticket) t)) (entered t)
      ∙ any_weaker (λ (c : Command). (is_in_unit_of o a c && came_before c.arrival a) && c.ticket == k) (λ (c : Command). not (has (leaves_ticket c.ticket) t) && (c.unit == s.unit && (s.covers c && c.ticket == k))) (entered t) passes
      (sym (any_filter (λ (c : Command). c.ticket == k) (λ (c : Command). is_in_unit_of o a c && came_before c.arrival a) (entered t)) ∙ h)
    where
      passes : (c : Command) → ((is_in_unit_of o a c && came_before c.arrival a) && c.ticket == k) ≡ true → (not (has (leaves_ticket c.ticket) t) && (c.unit == s.unit && (s.covers c && c.ticket == k))) ≡ true
      passes c found = grind (arith, nat_tests, and_parts, eqb-true, and_both, came_is_before a c)

  -- LOGICAL UNIT RESET takes out the whole set
  whole_swept : (k : ℕ) → (function a.request == 5) ≡ true → is_among k (filter (is_in_unit_of o a) (live t)) ≡ true → is_among k (filter s.covers (live_in s.unit t)) ≡ true
  whole_swept k five h = grind (arith, nat_tests, filter-same, filter-true (live_in s.unit t))

  -- so these leave in the item
  swept_leaves : (k : ℕ) → is_among k (filter s.covers (live_in s.unit t)) ≡ true → has (leaves_ticket k) (marks_of_form (Executed start a d) ∷ t) ≡ true
  swept_leaves k h =
      grind (arith, nat_tests, or_first, leaves_form k (Executed start a d), live-begun start a t)

  swept : is_set_abort a.request ≡ true → (k : ℕ) → is_ticket_covered o a (marks_of_form (Executed start a d)) t k ≡ true → has (leaves_ticket k) (marks_of_form (Executed start a d) ∷ t) ≡ true
  swept set k covered = grind (arith, swept_leaves, early_swept, whole_swept)

-- ---- an item of any form

module _ (o : Setting) (now p : ℕ) (t : Trace) where
  -- nothing is delivered below the item's place
  delivers_here : (form : Form) → StandsAt AnyArrival o now p t form → (n : ℕ) → n < p → delivers_in n form ≡ false
  delivers_here form x n lt = grind arith

  -- Function complete is sent where the deeds say so
  completed_by : (start : Start) (a : Arrival) (d : Deeds) → list_any (completes a.request) (marks_of_form (Executed start a d)) ≡ true → is_completed_by a d ≡ true
  completed_by start a d complete = grind (arith, nat_tests, none_done)

  -- an abort of a whole set stands at its number or later, and what it covers leaves, if it didn't before
  abbrev Ends : Arrival → Form → Type 0
  Ends f form = (f.number ≤ p) × ((k : ℕ) → is_ticket_covered o f (marks_of_form form) t k ≡ true → has (leaves_ticket k) (marks_of_form form ∷ t) ≡ true)

  ends_form : (form : Form) → StandsAt AnyArrival o now p t form → (f : Arrival) → IsCompleted f (marks_of_form form) → is_set_abort f.request ≡ true → Ends f form
  ends_form (Executed start a d) x f done set = subst (λ (b : Arrival). IsCompleted b (marks_of_form (Executed start a d)) → is_set_abort b.request ≡ true → Ends b (Executed start a d)) (by_start start done.executes) own done set
    where
      by_start : (s : Start) → executed_in (start_mark s a ∷ marks_done a d) ≡ Some f → a ≡ f
      by_start s is = grind (arith, nat_tests)

      own : IsCompleted a (marks_of_form (Executed start a d)) → is_set_abort a.request ≡ true → Ends a (Executed start a d)
      own done set = let r = x.1 done.aborts set (completed_by start a d done.complete) in (r.0, swept o t start a d r.1 set)
  ends_form form x f done set = no_arrival f done.executes

  form_fits : (form : Form) → IsFormed o now t form → StandsAt AnyArrival o now p t form → Fits o p t (marks_of_form form)
  form_fits form x at =
      let item : List Mark = marks_of_form form in
      record {
        leaves = λ k gone. false_from_ne_true (list_any (leaves_ticket k) item) (λ is. false≢true (sym gone ∙ leaving_live o now t form x k is));
        delivers_held = λ n none. touched_unheld t n item (touch_form o now t n form x) none;
        delivers_on = λ n lt. delivers_form n form ∙ delivers_here form at n lt;
        admits = λ n there. touched_received t n item (touch_form o now t n form x) there;
        voids = λ n h. touched_voided t n item (touch_form o now t n form x) h;
        reaches = λ f done set. (ends_form form at f done set).0;
        sweeps = λ f done set. (ends_form form at f done set).1;
      }

  pub item_fits : (item : List Mark) → Stands AnyArrival o now p t item → Fits o p t item
  item_fits item s = subst (Fits o p t) (sym s.has.is) (form_fits s.has.form s.has.formed s.at)
