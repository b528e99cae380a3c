-- Of each request to which a reply went out the trace has a reply, or it was rejected, and neither waits nor is live.
use Rattle.std.proofs.Common.{◌≡◌, ℕ, ◌+◌, ◌<◌, ◌≤◌, ◌==◌, ◌⊎◌, ◌&&◌, ◌||◌, ⊎_elim, inl, inr, cond, Bool, true, false, List, [], ◌∷◌, ◌++◌, length, map, filter_map, Option, Some, None, refl, ap, sym, subst, ◌∙◌, arith, length-append, nat_lt, ne_eqb}
use Rattle.std.specs.List.{flat_map}
use Rattle.std.proofs.lemmas.Bool.{eqb-true, false≢true}
use Rattle.std.proofs.lemmas.Bool.Decides.{nat_tests}
use Rattle.std.proofs.lemmas.List.{append-nil, append_assoc}
use Rattle.std.proofs.lemmas.List.Folds.{list_any-append}
use Rattle.iscsi_wire.specs.declared.reply.Reply.{Reply}
use Rattle.iscsi_wire.specs.Fields.{request_of}
use Rattle.iscsi_rules.specs.declared.event.Event.{Event}
use Rattle.iscsi_rules.specs.declared.event.Event.TheVariants.{Arrive, Done}
use Rattle.iscsi_rules.specs.promises.Replies.{answered_in, is_answer_to, replies_to, reply_sent}
use Rattle.iscsi_rules.specs.rules.Agenda.{arrival_of, command_of, items_of}
use Rattle.iscsi_rules.specs.rules.Execution.{completion, rejected}
use Rattle.iscsi_rules.specs.declared.effect.Why.TheVariants.{Stale}
use Rattle.iscsi_rules.specs.rules.Run.{after_event}
use Rattle.iscsi_rules.specs.rules.Settings.{Setting}
use Rattle.iscsi_rules.specs.rules.Trace.{Admits, Arrival, Command, Executes, Ignores, Mark, Waits, Trace, after_items, live, was_free}
use Rattle.iscsi_rules.proofs.general.CountLemmas.{one}
use Rattle.iscsi_rules.proofs.general.ElementLemmas.{first-in, in-filter}
use Rattle.iscsi_rules.proofs.items.Forms.{AfterWaiting, AtArrival, AtTurn, Completed, Executed, Form, HasForm, HaveForms, Ignored, Postponed, Received, Rejected, Start, Starts, is_arrival, marks_done, marks_of_form, start_mark}
use Rattle.iscsi_rules.proofs.promises.ReplyRuns.{standing, standing_item, standing_once}
use Rattle.iscsi_rules.proofs.promises.ReplyTurns.{begins_of}
use Rattle.iscsi_outbox_rules.specs.rules.Words.{contains}
use Rattle.iscsi_ffi_rules.specs.rules.Happening.{answers_in}
use Rattle.iscsi_ffi_law.proofs.arrivals.Turns.{AreDue, Becomes, IsDue, IsDueBy, IsExecuted, IsIgnored, IsPostponed, IsReceived, IsRejected, becomes}

-- it has a reply, or it is of an event before, and nothing of it stands
abbrev pub IsReplied : ℕ → Trace → ℕ → Type 0
IsReplied now t e = (1 ≤ length (replies_to e t)) ⊎ ((e < now) × (standing e t ≡ 0))

abbrev pub AreReplied : ℕ → Trace → List ℕ → Type 0
AreReplied now t answers = (e : ℕ) → contains answers e ≡ true → IsReplied now t e

-- ---- an item

-- the form of an item that is due by the first one
pub due_form : (o : Setting) (now : ℕ) (t : Trace) (item : List Mark) → IsDue o t item → HasForm o now t item
due_form o now t item d = record { form = Executed d.start d.a d.deeds; is = d.is; formed = (starts d.start d.due, d.done) }
  where
    starts : (s : Start) → IsDueBy t s d.a → Starts now t s d.a
    starts AtTurn x = x
    starts AtArrival x = absurd x
    starts AfterWaiting x = x

-- no request but that of the event comes to stand by an item
pub begins_none : (now e : ℕ) (form : Form) → e < now → begins_of now e form ≡ 0
begins_none now e form lt = by_arrival (is_arrival form)
  where
    by_arrival : (v : Bool) → cond v (one (now == e)) 0 ≡ 0
    by_arrival true = ap one (ne_eqb now e (λ same. let no : ⊥ = omega (arith, same, lt) in no))
    by_arrival false = refl

stays : (o : Setting) (now : ℕ) (t : Trace) (item : List Mark) → HasForm o now t item → (e : ℕ) → IsReplied now t e → IsReplied now (item ∷ t) e
stays o now t item f e h =
    ⊎_elim
    (λ some. let more = length-append (replies_to e t) (cond (is_answer_to e item) (filter_map reply_sent item) []) in inl (let le : 1 ≤ length (replies_to e (item ∷ t)) = omega (arith, some, more) in le))
    (λ none.
    let lt : e < now = none.0 in
    let zero_before : standing e t ≡ 0 = none.1 in
    let falls = standing_item o now e t item f in
    let begins = begins_none now e f.form lt in
    inr (lt, (let is : standing e (item ∷ t) ≡ 0 = omega (arith, falls, zero_before, begins) in is)))
    h

-- what is answered has its reply then
new_reply : (now : ℕ) (t : Trace) (item : List Mark) → (answered_in item ≡ None → filter_map reply_sent item ≡ []) → (e : ℕ) → contains (answers_in now item) e ≡ true → 1 ≤ length (replies_to e (item ∷ t))
new_reply now t item told e there = by_answered (answered_in item) refl there
  where
    by_replies : (a : Arrival) (rs : List Reply) → contains (map (λ (r : Reply). a.event) rs) e ≡ true → ((a.event == e) ≡ true) × (1 ≤ length rs)
    by_replies a [] is = absurd (false≢true is)
    by_replies a (r ∷ rs) is = (by_test (λ k. (by_replies a rs k).0) (a.event == e) refl is, omega arith)
      where
        by_test : (contains (map (λ (x : Reply). a.event) rs) e ≡ true → (a.event == e) ≡ true) → (v : Bool) → (a.event == e) ≡ v → ((a.event == e) || contains (map (λ (x : Reply). a.event) rs) e) ≡ true → (a.event == e) ≡ true
        by_test further true same k = same
        by_test further false other k = further (sym (ap (λ w. w || contains (map (λ (x : Reply). a.event) rs) e) other) ∙ k)

    by_answered : (x : Option Arrival) → answered_in item ≡ x → contains (map (λ (r : Reply). elim (answered_in item) [ Some a ↦ a.event | None ↦ now ]) (filter_map reply_sent item)) e ≡ true → 1 ≤ length (replies_to e (item ∷ t))
    by_answered None is among = absurd (false≢true (sym (ap (λ rs. contains (map (λ (r : Reply). elim (answered_in item) [ Some a ↦ a.event | None ↦ now ]) rs) e) (told is)) ∙ among))
    by_answered (Some a) is among =
        let parts = by_replies a (filter_map reply_sent item) (sym (ap (λ (x : Option Arrival). contains (map (λ (r : Reply). elim x [ Some b ↦ b.event | None ↦ now ]) (filter_map reply_sent item)) e) is) ∙ among) in
        let some = parts.1 in
        let more = length-append (replies_to e t) (cond (is_answer_to e item) (filter_map reply_sent item) []) in
        let is_it : is_answer_to e item ≡ true = ap (λ (x : Option Arrival). elim x [ Some b ↦ b.event == e | None ↦ false ]) is ∙ parts.0 in
        let all : length (cond (is_answer_to e item) (filter_map reply_sent item) []) ≡ length (filter_map reply_sent item) = ap (λ v. length (cond v (filter_map reply_sent item) [])) is_it in
        omega (arith, some, more, all)

-- it is in one of two lists
in_either : (xs ys : List ℕ) (e : ℕ) → contains (xs ++ ys) e ≡ true → (contains xs e ≡ true) ⊎ (contains ys e ≡ true)
in_either xs ys e is = by_first (contains xs e) refl (sym (list_any-append (λ k. k == e) xs ys) ∙ is)
  where
    by_first : (v : Bool) → contains xs e ≡ v → (contains xs e || contains ys e) ≡ true → (contains xs e ≡ true) ⊎ (contains ys e ≡ true)
    by_first true here k = inl here
    by_first false none k = inr (sym (ap (λ v. v || contains ys e) none) ∙ k)

pub replied_item : (o : Setting) (now : ℕ) (t : Trace) (item : List Mark) (answers : List ℕ) → HasForm o now t item → (answered_in item ≡ None → filter_map reply_sent item ≡ []) → AreReplied now t answers → AreReplied now (item ∷ t) (answers ++ answers_in now item)
replied_item o now t item answers f told h e there = ⊎_elim (λ before. stays o now t item f e (h e before)) (λ new. inl (new_reply now t item told e new)) (in_either answers (answers_in now item) e there)

pub executed_told : (start : Start) (a : Arrival) (ms : List Mark) → answered_in (start_mark start a ∷ ms) ≡ None → filter_map reply_sent (start_mark start a ∷ ms) ≡ []
executed_told AtTurn a ms is = absurd (let no : ⊥ = cc in no)
executed_told AtArrival a ms is = absurd (let no : ⊥ = cc in no)
executed_told AfterWaiting a ms is = absurd (let no : ⊥ = cc in no)

pub due_told : (o : Setting) (t : Trace) (item : List Mark) → IsDue o t item → answered_in item ≡ None → filter_map reply_sent item ≡ []
due_told o t item d = subst (λ ms. answered_in ms ≡ None → filter_map reply_sent ms ≡ []) (sym d.is) (executed_told d.start d.a (marks_done d.a d.deeds))

-- ---- an event

module _ (o : Setting) (now : ℕ) where
  due_replied : (items : List (List Mark)) (t : Trace) (answers : List ℕ) → AreDue o t items → AreReplied now t answers → AreReplied now (after_items items t) (answers ++ flat_map (answers_in now) items)
  due_replied [] t answers due h = subst (AreReplied now t) (sym (append-nil answers)) h
  due_replied (item ∷ items) t answers due h =
      subst (AreReplied now (after_items items (item ∷ t))) (append_assoc answers (answers_in now item) (flat_map (answers_in now) items))
      (due_replied items (item ∷ t) (answers ++ answers_in now item) due.1 (replied_item o now t item answers (due_form o now t item due.0) (due_told o t item due.0) h))

  later : (t : Trace) (answers : List ℕ) → AreReplied now t answers → AreReplied (now + 1) t answers
  later t answers h e there = ⊎_elim (λ some. inl some) (λ none. let lt : e < now = none.0 in inr ((let le : e < now + 1 = omega (arith, lt) in le), none.1)) (h e there)

  first_replied : (item : List Mark) (rest : List (List Mark)) (t : Trace) (answers : List ℕ) → HasForm o now t item → (answered_in item ≡ None → filter_map reply_sent item ≡ []) → AreDue o (item ∷ t) rest → AreReplied now t answers → AreReplied (now + 1) (after_items rest (item ∷ t)) (answers ++ flat_map (answers_in now) (item ∷ rest))
  first_replied item rest t answers f told due h =
      subst (AreReplied (now + 1) (after_items rest (item ∷ t))) (append_assoc answers (answers_in now item) (flat_map (answers_in now) rest))
      (later (after_items rest (item ∷ t)) ((answers ++ answers_in now item) ++ flat_map (answers_in now) rest) (due_replied rest (item ∷ t) (answers ++ answers_in now item) due (replied_item o now t item answers f told h)))

  -- one that is rejected never stands
  rejected_replied : (a : Arrival) (t : Trace) (answers : List ℕ) → HaveForms o now t → AreReplied now t answers → AreReplied (now + 1) (rejected a ∷ t) (answers ++ (now ∷ []))
  rejected_replied a t answers forms h e there = ⊎_elim (λ before. older (stays o now t (rejected a) f e (h e before))) (λ new. by_test (now == e) refl new) (in_either answers (now ∷ []) e there)
    where
      f : HasForm o now t (rejected a)
      f = record { form = Rejected a; is = refl; formed = tt }

      older : IsReplied now (rejected a ∷ t) e → IsReplied (now + 1) (rejected a ∷ t) e
      older x = ⊎_elim (λ some. inl some) (λ none. let lt : e < now = none.0 in inr ((let le : e < now + 1 = omega (arith, lt) in le), none.1)) x

      itself : (n : ℕ) → one (nat_lt n n) ≡ 0
      itself n = grind (arith, nat_tests)

      by_test : (v : Bool) → (now == e) ≡ v → ((now == e) || false) ≡ true → IsReplied (now + 1) (rejected a ∷ t) e
      by_test false is k = absurd (false≢true (sym (ap (λ v. v || false) is) ∙ k))
      by_test true is k =
          let same : now ≡ e = eqb-true now e is in
          let few = standing_once o e t now forms in
          let none : one (nat_lt e now) ≡ 0 = subst (λ n. one (nat_lt n now) ≡ 0) same (itself now) in
          let falls = standing_item o now e t (rejected a) f in
          inr ((let lt : e < now + 1 = omega (arith, same) in lt), (let z : standing e (rejected a ∷ t) ≡ 0 = omega (arith, few, none, falls) in z))

  arrival_replied : (t : Trace) (a : Arrival) (answers : List ℕ) → a.event ≡ now → HaveForms o now t → AreReplied now t answers → (items : List (List Mark)) → Becomes o t a items → AreReplied (now + 1) (after_items items t) (answers ++ flat_map (answers_in now) items)
  arrival_replied t a answers here forms h items (IsIgnored why is) =
      subst (λ xs. AreReplied (now + 1) (after_items xs t) (answers ++ flat_map (answers_in now) xs)) (sym is)
      (first_replied (Ignores why ∷ []) [] t answers (record { form = Ignored why; is = refl; formed = tt }) (λ none. refl) tt h)
  arrival_replied t a answers here forms h items (IsRejected is) =
      subst (λ xs. AreReplied (now + 1) (after_items xs t) (answers ++ flat_map (answers_in now) xs)) (sym is) (rejected_replied a t answers forms h)
  arrival_replied t a answers here forms h items (IsReceived rest numbered new is due) =
      subst (λ xs. AreReplied (now + 1) (after_items xs t) (answers ++ flat_map (answers_in now) xs)) (sym is)
      (first_replied (Admits a ∷ []) rest t answers (record { form = Received a; is = refl; formed = (here, new) }) (λ none. refl) due h)
  arrival_replied t a answers here forms h items (IsExecuted d rest at_once done opens is due) =
      subst (λ xs. AreReplied (now + 1) (after_items xs t) (answers ++ flat_map (answers_in now) xs)) (sym is)
      (first_replied (Executes a ∷ marks_done a d) rest t answers (record { form = Executed AtArrival a d; is = refl; formed = (here, done) }) (executed_told AtArrival a (marks_done a d)) due h)
  arrival_replied t a answers here forms h items (IsPostponed rest at_once few is due) =
      subst (λ xs. AreReplied (now + 1) (after_items xs t) (answers ++ flat_map (answers_in now) xs)) (sym is)
      (first_replied (Waits a ∷ []) rest t answers (record { form = Postponed a; is = refl; formed = here }) (λ none. refl) due h)

  completed_replied : (t : Trace) (ticket status : ℕ) (answers : List ℕ) → AreReplied now t answers → (x : Option Command) → command_of t ticket ≡ x → AreReplied (now + 1) (after_items (completion status x) t) (answers ++ flat_map (answers_in now) (completion status x))
  completed_replied t ticket status answers h None is = first_replied (Ignores Stale ∷ []) [] t answers (record { form = Ignored Stale; is = refl; formed = tt }) (λ none. refl) tt h
  completed_replied t ticket status answers h (Some c) is =
      first_replied (marks_of_form (Completed c status)) [] t answers (record { form = Completed c status; is = refl; formed = (in-filter (λ (d : Command). d.ticket == ticket && was_free d t) (live t) c (first-in _ c is)).0 }) (λ none. absurd (let no : ⊥ = cc in no)) tt h

  pub replied_event : (t : Trace) (e : Event) (answers : List ℕ) → HaveForms o now t → AreReplied now t answers → AreReplied (now + 1) (after_event o now t e) (answers ++ flat_map (answers_in now) (items_of o now t e))
  replied_event t (Arrive conn header) answers forms h = arrival_replied t (arrival_of o now t (request_of conn header)) answers refl forms h (items_of o now t (Arrive conn header)) (becomes o t (arrival_of o now t (request_of conn header)))
  replied_event t (Done ticket status) answers forms h = completed_replied t ticket status answers h (command_of t ticket) refl
