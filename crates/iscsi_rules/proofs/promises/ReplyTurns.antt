-- The requests that didn't execute so far: those that were admitted and not delivered, and the functions that wait.
use Rattle.std.proofs.Common.{◌≡◌, ℕ, ◌+◌, ◌≤◌, ◌==◌, ◌&&◌, ◌||◌, not, ⊎_elim, cond, Bool, true, false, List, [], ◌∷◌, ◌++◌, filter, count_by, Option, Some, None, refl, ap, sym, ◌∙◌, arith, eq-eqb}
use Rattle.std.specs.List.{list_any, filter_map}
use Rattle.std.proofs.lemmas.Bool.{false≢true, eqb-true}
use Rattle.std.proofs.lemmas.List.{append-nil}
use Rattle.std.proofs.lemmas.List.Sums.{sum_by-append}
use Rattle.std.proofs.lemmas.Bool.Decides.{nat_tests}
use Rattle.iscsi_wire.specs.Fields.{connection_of}
use Rattle.iscsi_rules.specs.rules.Settings.{Setting}
use Rattle.iscsi_rules.specs.rules.Trace.{Arrival, Mark, Admits, Delivers, Executes, Trace, shown, admits_at, delivers_number, is_delivered, held, waiting_through, waiting}
use Rattle.iscsi_rules.proofs.general.BoolLemmas.{and_parts, and_both}
use Rattle.iscsi_rules.proofs.general.ListLemmas.{fewer_counted, count_by-push}
use Rattle.iscsi_rules.proofs.general.CountLemmas.{one, count-cons, count-filter, count-weaker, count-lost, count-split}
use Rattle.iscsi_rules.proofs.general.ElementLemmas.{In, in-append, append-in_first, append-in_second, first-in}
use Rattle.iscsi_rules.proofs.traces.HeldLemmas.{admitted_of_held}
use Rattle.iscsi_rules.proofs.items.Forms.{AtTurn, AtArrival, AfterWaiting, Deeds, marks_done, Form, Received, Postponed, Executed, marks_of_form, IsFormed, is_arrival}
use Rattle.iscsi_rules.proofs.items.DeedLemmas.{each_done, views}
use Rattle.iscsi_rules.proofs.promises.ReplyForms.{is_of}

-- ---- admitted requests

abbrev pub admits_request : Mark → Option Arrival
admits_request (Admits a) = Some a
admits_request _ = None

-- nothing was delivered at its number
abbrev pub is_owed : Trace → Arrival → Bool
is_owed t a = not (is_delivered t a.number)

-- the numbered requests that didn't execute so far. Those that are taken out stay among them
abbrev pub owed : Trace → List Arrival
owed t = filter (is_owed t) (shown admits_request t)

admitted_here : (n : ℕ) (ms : List Mark) (a : Arrival) → In a (filter_map (admits_at n) ms) → In a (filter_map admits_request ms)
admitted_here n [] a h = absurd h
admitted_here n (Admits b ∷ ms) a h = grind (arith, admitted_here n ms a)
admitted_here n (m ∷ ms) a h = admitted_here n ms a h

-- the request that was admitted at a number is one that was admitted
pub admitted_there : (n : ℕ) (t : Trace) (a : Arrival) → In a (shown (admits_at n) t) → In a (shown admits_request t)
admitted_there n [] a h = absurd h
admitted_there n (item ∷ t) a h =
    ⊎_elim
    (λ before. append-in_first (shown admits_request t) (filter_map admits_request item) a (admitted_there n t a before))
    (λ now. append-in_second (shown admits_request t) (filter_map admits_request item) a (admitted_here n item a now))
    (in-append (shown (admits_at n) t) (filter_map (admits_at n) item) a h)

held_owed : (t : Trace) (a : Arrival) → held t a.number ≡ Some a → is_owed t a ≡ true
held_owed t a h = grind arith

not_either : (a b : Bool) → not (a || b) ≡ true → not b ≡ true
not_either a b h = grind arith

-- what is owed was owed before
owed_before : (item : List Mark) (t : Trace) (a : Arrival) → is_owed (item ∷ t) a ≡ true → is_owed t a ≡ true
owed_before item t a h = not_either (list_any (delivers_number a.number) item) (is_delivered t a.number) h

-- an item adds no more than what it admits
owed_item : (p : Arrival → Bool) (item : List Mark) (t : Trace) → count_by p (owed (item ∷ t)) ≤ count_by p (owed t) + count_by p (filter_map admits_request item)
owed_item p item t = grind (arith, sum_by-append, count-filter, count-weaker)

owed_passing : (p : Arrival → Bool) (a : Arrival) (ms : List Mark) (t : Trace) → filter_map admits_request ms ≡ [] → held t a.number ≡ Some a → p a ≡ true
    → count_by p (owed ((Delivers a ∷ ms) ∷ t)) + 1 ≤ count_by p (owed t)
owed_passing p a ms t none here passes =
    let t' : Trace = (Delivers a ∷ ms) ∷ t in
    let old : List Arrival = shown admits_request t in
    let same : owed t' ≡ filter (is_owed t') old = ap (λ xs. filter (is_owed t') (old ++ xs)) none ∙ ap (filter (is_owed t')) (append-nil old) in
    let there : In a old = admitted_there a.number t a (first-in (shown (admits_at a.number) t) a (admitted_of_held t a.number a here)) in
    let turned : (is_owed t' a && p a) ≡ false = ap (λ b. not ((b || list_any (delivers_number a.number) ms) || is_delivered t a.number) && p a) (eq-eqb a.number a.number refl) in
    omega (
      arith,
      ap (count_by p) same,
      count-filter p (is_owed t') old,
      count-filter p (is_owed t) old,
      count-lost (λ b. is_owed t' b && p b) (λ b. is_owed t b && p b) old a
          (λ b h. let both = and_parts (is_owed t' b) (p b) h in and_both (is_owed t b) (p b) (owed_before (Delivers a ∷ ms) t b both.0) both.1)
          there turned (and_both (is_owed t a) (p a) (held_owed t a here) passes),
    )

-- a request that is delivered is owed no more
owed_turn : (p : Arrival → Bool) (a : Arrival) (ms : List Mark) (t : Trace) → filter_map admits_request ms ≡ [] → held t a.number ≡ Some a → count_by p (owed ((Delivers a ∷ ms) ∷ t)) + one (p a) ≤ count_by p (owed t)
owed_turn p a ms t none here = grind (arith, nat_tests, owed_passing, owed_item p (Delivers a ∷ ms) t)

-- ---- functions that wait

-- no more wait after these marks
abbrev Shrinks : List Mark → Type 0
Shrinks ms = (p : Arrival → Bool) (ws : List Arrival) → count_by p (waiting_through ms ws) ≤ count_by p ws

shrinks_done : (a : Arrival) (d : Deeds) → Shrinks (marks_done a d)
shrinks_done a d =
    each_done a d Shrinks (λ p ws. omega arith) (λ n is ms rest. rest) (λ c there ms rest. rest) (λ b there ms rest. rest) (λ c is ms rest. rest) (λ reply is ms rest. rest)
    (λ conn is ms rest p ws. omega (arith, rest p (filter (λ b. not (connection_of b.request == conn)) ws), fewer_counted p (λ b. not (connection_of b.request == conn)) ws))
    (λ is ms rest p ws. omega (arith, rest p []))

any_count : (p : Arrival → Bool) (ws : List Arrival) → list_any p ws ≡ true → 1 ≤ count_by p ws
any_count p [] h = absurd (false≢true h)
any_count p (w ∷ ws) h = grind (arith, any_count p ws, count-cons)

-- a function that has waited waits no more
waited : (v : ℕ) (a : Arrival) (ws : List Arrival) → list_any (λ b. b.event == a.event) ws ≡ true → count_by (is_of v) (filter (λ b. not (b.event == a.event)) ws) + one (is_of v a) ≤ count_by (is_of v) ws
waited v a ws h =
    let same : Arrival → Bool = λ b. b.event == a.event in
    elim (a.event == v) as (λ x. (a.event == v) ≡ x → count_by (is_of v) (filter (λ b. not (same b)) ws) + one x ≤ count_by (is_of v) ws) [
      | true ↦ λ is.
          let mine : count_by same ws ≤ count_by (λ b. same b && is_of v b) ws
          = count-weaker same (λ b. same b && is_of v b) ws (λ b k. and_both (same b) (is_of v b) k (ap (λ n. b.event == n) (sym (eqb-true a.event v is)) ∙ k)) in
          omega (arith, any_count same ws h, mine, count-filter (is_of v) (λ b. not (same b)) ws, count-split (is_of v) same ws)
      | false ↦ λ is. omega (arith, fewer_counted (is_of v) (λ b. not (same b)) ws)
    ] refl

-- ---- an item

-- the request that executes in an item of this form is of the event
abbrev pub executes_of : ℕ → Form → ℕ
executes_of v (Executed start a d) = one (is_of v a)
executes_of v _ = 0

-- an item of this form, in the event `now`, is the first of the event
abbrev pub begins_of : ℕ → ℕ → Form → ℕ
begins_of now v form = cond (is_arrival form) (one (now == v)) 0

-- the requests of an event that didn't execute so far
abbrev pub awaited : ℕ → Trace → ℕ
awaited v t = count_by (is_of v) (waiting t) + count_by (is_of v) (owed t)

admits_done : (a : Arrival) (d : Deeds) → filter_map admits_request (marks_done a d) ≡ []
admits_done a d = simp views

-- one that executes was awaited, or its event begins
pub awaited_form : (o : Setting) (now v : ℕ) (t : Trace) (form : Form) → IsFormed o now t form → awaited v (marks_of_form form ∷ t) + executes_of v form ≤ awaited v t + begins_of now v form
awaited_form o now v t (Received a) x = grind (arith, owed_item)
awaited_form o now v t (Postponed a) x = grind (arith, owed_item, count_by-push)
awaited_form o now v t (Executed AtTurn a d) x = omega (arith, owed_turn (is_of v) a (marks_done a d) t (admits_done a d) x.0, shrinks_done a d (is_of v) (waiting t))
awaited_form o now v t (Executed AtArrival a d) x =
    grind (arith, nat_tests, owed_item (is_of v) (Executes a ∷ marks_done a d) t, admits_done a d, shrinks_done, fewer_counted)
awaited_form o now v t (Executed AfterWaiting a d) x =
    grind (arith, nat_tests, owed_item (is_of v) (Executes a ∷ marks_done a d) t, admits_done a d, shrinks_done, waited v a (waiting t) x.0)
awaited_form o now v t form x = omega (arith, owed_item (is_of v) (marks_of_form form) t)
