-- What a completed abort covers is over, in the trace of each list of events.
use Rattle.std.proofs.Common.{◌≡◌, ℕ, ◌<◌, ◌≤◌, ◌==◌, ◌&&◌, ◌||◌, ◌⊎◌, inl, inr, ⊎_elim, not, cond, Bool, true, false, List, [], ◌∷◌, ◌++◌, Some, None, refl, ap, sym, subst, ◌∙◌, arith, nat_lt, append_assoc}
use Rattle.std.specs.List.{list_any, filter_map}
use Rattle.std.specs.Prelude.{Contains}
use Rattle.std.proofs.lemmas.Bool.{false≢true}
use Rattle.std.proofs.lemmas.List.Folds.{list_any-append}
use Rattle.std.proofs.lemmas.Bool.Decides.{nat_tests}
use Rattle.iscsi_wire.specs.Fields.{function}
use Rattle.iscsi_rules.specs.declared.event.Event.{Event}
use Rattle.iscsi_rules.specs.rules.Settings.{Setting}
use Rattle.iscsi_rules.specs.rules.Trace.{Arrival, Command, Mark, Admits, Voids, Empties, Trace, first_of, has, shown, number_received, contains, is_received, admits_at, admitted, delivers_number, is_delivered, empties_number, is_emptied, held, entered, leaves_ticket, live, is_among}
use Rattle.iscsi_rules.specs.rules.Run.{trace_of, effects_of_item, run_of}
use Rattle.iscsi_rules.specs.promises.Enabling.{is_enable}
use Rattle.iscsi_rules.specs.promises.Replies.{executed_in, replies_to}
use Rattle.iscsi_rules.specs.promises.Aborts.{is_set_abort, IsCompleted, is_ticket_covered, takes_out, is_number_covered, IsOver, AbortsHold, AbortsHoldIn}
use Rattle.iscsi_rules.proofs.general.BoolLemmas.{or_first, or_second, and_parts, not_true}
use Rattle.iscsi_rules.proofs.general.ElementLemmas.{in-contains}
use Rattle.iscsi_rules.proofs.traces.ApartLemmas.{unamong-filter}
use Rattle.iscsi_rules.proofs.traces.TraceLemmas.{received-item}
use Rattle.iscsi_rules.proofs.promises.MomentLemmas.{left_unlive, item_enables, log_effects}
use Rattle.iscsi_rules.specs.promises.Meaning.{voids_number}
use Rattle.iscsi_rules.proofs.promises.AbortLemmas.{Fits, Fit, Stood, stood}
use Rattle.iscsi_rules.proofs.promises.AbortMarks.{none_among}
use Rattle.iscsi_rules.proofs.promises.AbortRuns.{trace_fits}
use Rattle.iscsi_rules.proofs.items.Forms.{HasForm, HaveForms}
use Rattle.iscsi_rules.proofs.items.FormRuns.{trace_has_forms}
use Rattle.iscsi_rules.proofs.promises.ReplySince.{silent_since, undelivered_silent}
use Rattle.iscsi_rules.proofs.promises.ReplyRuns.{Since, since}
use Rattle.iscsi_rules.proofs.traces.TurnLemmas.{delivers_form, delivers_own, emptied_undelivered}

-- what has happened has happened at each later moment
has_since : (test : Mark → Bool) (later t : Trace) → has test t ≡ true → has test (later ++ t) ≡ true
has_since test [] t h = h
has_since test (item ∷ later) t h = or_second (list_any test item) (has test (later ++ t)) (has_since test later t h)

-- an abort that isn't ABORT TASK is one of a whole set
set_abort : (f : Arrival) (item : List Mark) → IsCompleted f item → (function f.request == 1) ≡ false → is_set_abort f.request ≡ true
set_abort f item done apart = grind arith

-- ---- tickets

-- a covered command has left by the end of the abort's item
covered_left : (o : Setting) (p : ℕ) (f : Arrival) (item : List Mark) (before : Trace) → Fits o p before item → IsCompleted f item → (k : ℕ) → is_ticket_covered o f item before k ≡ true → has (leaves_ticket k) (item ∷ before) ≡ true
covered_left o p f item before fits done k covered = grind arith

-- what isn't live isn't enabled
unlive_unenabled : (o : Setting) (t : Trace) (item : List Mark) (k : ℕ) → is_among k (live (item ∷ t)) ≡ false → list_any (is_enable k) (effects_of_item o t item) ≡ false
unlive_unenabled o t item k gone = grind (arith, nat_tests, item_enables o t item k, none_among, unamong-filter)

-- ---- a number that was taken out

-- the request of the number was taken out, or none was ever admitted there, nor will be
abbrev Shut : ℕ → Trace → Type 0
Shut n t = (is_emptied t n ≡ true) ⊎ ((is_received t n ≡ true) × (shown (admits_at n) t ≡ []))

shut_held : (n : ℕ) (t : Trace) → Shut n t → held t n ≡ None
shut_held n t s = grind arith

shut_more : (o : Setting) (p n : ℕ) (t : Trace) (item : List Mark) → Fits o p t item → Shut n t → Shut n (item ∷ t)
shut_more o p n t item fits s = grind (arith, received-item)

-- it stays so, and nothing is delivered there
shut_later : (o : Setting) (p n : ℕ) (later t : Trace) → Fit o p (later ++ t) → Shut n t → Shut n (later ++ t) × (has (delivers_number n) later ≡ false)
shut_later o p n [] t x s = (s, refl)
shut_later o p n (item ∷ later) t x s =
    let now : Fits o x.0 (later ++ t) item = x.1.1.0 in
    let before = shut_later o x.0 n later t x.1.1.1 s in (
      shut_more o x.0 n (later ++ t) item now before.0,
      ap (λ b. b || has (delivers_number n) later) (now.delivers_held n (shut_held n (later ++ t) before.0)) ∙ before.1,
    )

taken_cases : (n : ℕ) (item : List Mark) → list_any (takes_out n) item ≡ true → (list_any (empties_number n) item ≡ true) ⊎ (list_any (voids_number n) item ≡ true)
taken_cases n [] h = absurd (false≢true h)
taken_cases n (Voids k ∷ ms) h = grind (arith, taken_cases n ms)
taken_cases n (Empties a ∷ ms) h = grind (arith, taken_cases n ms)
taken_cases n (m ∷ ms) h = taken_cases n ms h

-- what is voided is received
voided_received : (n : ℕ) (item : List Mark) → list_any (voids_number n) item ≡ true → contains (filter_map number_received item) n ≡ true
voided_received n [] h = absurd (false≢true h)
voided_received n (Admits a ∷ ms) h = or_second (a.number == n) (contains (filter_map number_received ms) n) (voided_received n ms h)
voided_received n (Voids k ∷ ms) h = grind (arith, voided_received n ms)
voided_received n (m ∷ ms) h = voided_received n ms h

-- a number that the item takes out is shut at its end
taken_shut : (o : Setting) (p n : ℕ) (item : List Mark) (t : Trace) → Fits o p t item → list_any (takes_out n) item ≡ true → Shut n (item ∷ t)
taken_shut o p n item t fits taken =
    ⊎_elim
    (λ emptied. inl (or_first (list_any (empties_number n) item) (is_emptied t n) emptied))
    (λ voided. inr (
      received-item item t n ∙ or_second (is_received t n) (contains (filter_map number_received item) n) (voided_received n item voided),
      fits.voids n voided,
    ))
    (taken_cases n item taken)

-- the item of a function delivers no number but its own
own_delivered : (o : Setting) (next : ℕ) (later before : Trace) (item : List Mark) (f : Arrival) → HaveForms o next (later ++ item ∷ before) → executed_in item ≡ Some f → (n : ℕ) → (f.number == n) ≡ false → list_any (delivers_number n) item ≡ false
own_delivered o next later before item f y is n apart =
    let s : Since o next later (item ∷ before) = since o later (item ∷ before) next y in
    let g : HasForm o s.before.0 before item = s.before.1.1.0 in
    ap (list_any (delivers_number n)) g.is ∙ delivers_form n g.form ∙ delivers_own n g.form f (sym (ap executed_in g.is) ∙ is) apart

-- ---- the clause

module _ (o : Setting) (p next : ℕ) (later before : Trace) (item : List Mark) (f : Arrival) (x : Fit o p (later ++ item ∷ before)) (y : HaveForms o next (later ++ item ∷ before)) (done : IsCompleted f item) where
  here : Stood o later item before
  here = stood o p later item before x

  -- a covered command isn't live at any moment since
  unlive_since : (k : ℕ) → is_ticket_covered o f item before k ≡ true → (moment : Trace) → is_among k (live (moment ++ item ∷ before)) ≡ false
  unlive_since k covered moment = left_unlive (moment ++ item ∷ before) k (has_since (leaves_ticket k) moment (item ∷ before) (covered_left o here.place f item before here.fits done k covered))

  -- and nothing is sent to its request
  silent : (c : Command) → is_ticket_covered o f item before c.ticket ≡ true → Contains (entered (item ∷ before)) c → replies_to c.arrival.event later ≡ []
  silent c covered there = silent_since o next later (item ∷ before) c y (in-contains (entered (item ∷ before)) c there) (covered_left o here.place f item before here.fits done c.ticket covered)

  undelivered : (n : ℕ) → is_number_covered f item before n ≡ true → has (delivers_number n) later ≡ false
  undelivered n covered = by_test (function f.request == 1) refl covered
    where
      by_test : (b : Bool) → (function f.request == 1) ≡ b → cond b (list_any (takes_out n) item) (nat_lt n f.number && not (is_delivered before n)) ≡ true → has (delivers_number n) later ≡ false
      by_test true is taken = (shut_later o p n later (item ∷ before) x (taken_shut o here.place n item before here.fits taken)).1
      by_test false is below =
          let reached : f.number ≤ here.place = here.fits.reaches f done (set_abort f item done is) in
          let test : nat_lt n f.number ≡ true = (and_parts (nat_lt n f.number) (not (is_delivered before n)) below).0 in
          let lower : n < f.number = grind arith in
          here.none_below n (omega (arith, lower, reached))

  -- nothing is delivered at a covered number where a request was admitted, at any time
  never_delivered : (n : ℕ) (a : Arrival) → is_number_covered f item before n ≡ true → admitted (later ++ item ∷ before) n ≡ Some a → is_delivered (later ++ item ∷ before) n ≡ false
  never_delivered n a covered there = by_test (function f.request == 1) refl covered
    where
      by_test : (b : Bool) → (function f.request == 1) ≡ b → cond b (list_any (takes_out n) item) (nat_lt n f.number && not (is_delivered before n)) ≡ true → is_delivered (later ++ item ∷ before) n ≡ false
      by_test true is taken =
          ⊎_elim (λ emptied. emptied_undelivered o n (later ++ item ∷ before) next y emptied)
          (λ void. let none : admitted (later ++ item ∷ before) n ≡ None = ap first_of void.1 in absurd cc)
          (shut_later o p n later (item ∷ before) x (taken_shut o here.place n item before here.fits taken)).0
      by_test false is below =
          let parts = and_parts (nat_lt n f.number) (not (is_delivered before n)) below in
          let test : nat_lt n f.number ≡ true = parts.0 in
          let apart : (f.number == n) ≡ false = grind arith in
          list_any-append (list_any (delivers_number n)) later (item ∷ before)
          ∙ ap (λ b. b || is_delivered (item ∷ before) n) (undelivered n covered)
          ∙ ap (λ b. b || is_delivered before n) (own_delivered o next later before item f y done.executes n apart)
          ∙ not_true (is_delivered before n) parts.1

  over : IsOver o f later item before
  over = record {
    sets = λ k covered after moment split. unlive_since k covered moment;
    completions = λ k covered after moment i split.
        let z : Fit o p (after ++ i ∷ (moment ++ item ∷ before)) = subst (Fit o p) (ap (λ l. l ++ item ∷ before) (sym split) ∙ append_assoc after (i ∷ moment) (item ∷ before)) x in
        let there : Stood o after i (moment ++ item ∷ before) = stood o p after i (moment ++ item ∷ before) z in
        there.fits.leaves k (unlive_since k covered moment);
    replies = silent;
    enables = λ k covered after moment i split. unlive_unenabled o (moment ++ item ∷ before) i k (unlive_since k covered (i ∷ moment));
    numbers = undelivered;
    unanswered = λ n a covered there. undelivered_silent o next (later ++ item ∷ before) n a y there (never_delivered n a covered there);
  }

-- for every list of events
pub aborts_hold : (o : Setting) (h : List Event) → AbortsHold o (trace_of o h)
aborts_hold o h later before item f split done = grind (arith, nat_tests, over, trace_fits o h, trace_has_forms o h)

-- and for its log
pub aborts_hold_in : (o : Setting) (h : List Event) → AbortsHoldIn o h (run_of o h)
aborts_hold_in o h = record { whole = sym (log_effects o 0 [] h); hold = aborts_hold o h }
