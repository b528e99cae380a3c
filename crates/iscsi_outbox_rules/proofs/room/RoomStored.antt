-- What a session has at once: the functions that wait, the requests that are held, and the live commands. A request that executes
-- is one of these no more, and is answered or its command is live.
use Rattle.std.proofs.Common.{◌≡◌, ℕ, ◌+◌, ◌≤◌, ◌==◌, ◌&&◌, ◌||◌, not, cond, Bool, true, false, List, [], ◌∷◌, ◌++◌, filter, filter_map, count_by, length, Option, Some, None, refl, ap, sym, ◌∙◌, arith, eq-eqb}
use Rattle.std.specs.List.{list_any}
use Rattle.std.proofs.lemmas.Bool.{false≢true}
use Rattle.std.proofs.lemmas.List.{append-nil}
use Rattle.std.proofs.lemmas.List.Elements.{filter-append}
use Rattle.std.proofs.lemmas.List.Sums.{sum_by-append}
use Rattle.iscsi_wire.specs.Fields.{connection_of}
use Rattle.iscsi_wire.specs.declared.reply.Reply.{Reply}
use Rattle.iscsi_rules.specs.rules.Settings.{Setting}
use Rattle.iscsi_rules.specs.rules.Trace.{Arrival, Command, Mark, Admits, Delivers, Executes, Waits, Sends, Ignores, Trace, shown, delivers_number, empties_number, is_delivered, is_emptied, admits_at, admitted, held, waiting, live}
use Rattle.iscsi_rules.proofs.general.BoolLemmas.{and_parts, and_both}
use Rattle.iscsi_rules.proofs.general.ListLemmas.{fewer_counted, count_by-push}
use Rattle.iscsi_rules.proofs.general.CountLemmas.{one, count-cons, count-filter, count-weaker, count-lost}
use Rattle.iscsi_rules.proofs.general.ElementLemmas.{In, first-in}
use Rattle.iscsi_rules.proofs.traces.HeldLemmas.{admitted_of_held}
use Rattle.iscsi_rules.proofs.items.Forms.{AtTurn, AtArrival, AfterWaiting, Deeds, marks_done, Form, Ignored, Rejected, Received, Postponed, Completed, Executed, marks_of_form, IsFormed, Each, EntersAs}
use Rattle.iscsi_rules.proofs.promises.NumberingLemmas.{to_list, unseen}
use Rattle.iscsi_rules.proofs.promises.ReplyForms.{live_form, replies_seen}
use Rattle.iscsi_rules.proofs.promises.ReplyTurns.{admits_request, admitted_there}
use Rattle.iscsi_outbox_rules.proofs.room.RoomSteps.{shrinks_done}

abbrev pub any : {A : Type 0} → A → Bool
any x = true

-- ---- requests that are held

abbrev pub is_stored : Trace → Arrival → Bool
is_stored t a = not (is_delivered t a.number || is_emptied t a.number)

abbrev pub stored : Trace → List Arrival
stored t = filter (is_stored t) (shown admits_request t)

stored_before : (item : List Mark) (t : Trace) (a : Arrival) → is_stored (item ∷ t) a ≡ true → is_stored t a ≡ true
stored_before item t a h = by_tests (list_any (delivers_number a.number) item) (is_delivered t a.number) (list_any (empties_number a.number) item) (is_emptied t a.number) h
  where
    by_tests : (d d' f f' : Bool) → not ((d || d') || (f || f')) ≡ true → not (d' || f') ≡ true
    by_tests true d' f f' k = absurd (false≢true k)
    by_tests false true f f' k = absurd (false≢true k)
    by_tests false false true f' k = absurd (false≢true k)
    by_tests false false false f' k = k

held_stored : (t : Trace) (a : Arrival) → held t a.number ≡ Some a → is_stored t a ≡ true
held_stored t a h = by_test (is_delivered t a.number || is_emptied t a.number) h
  where
    by_test : (d : Bool) → cond d None (admitted t a.number) ≡ Some a → not d ≡ true
    by_test true found = absurd cc
    by_test false found = refl

-- an item adds no more than what it admits
pub stored_item : (item : List Mark) (t : Trace) → count_by any (stored (item ∷ t)) ≤ count_by any (stored t) + count_by any (filter_map admits_request item)
stored_item item t =
    let p : Arrival → Bool = any in
    let old : List Arrival = shown admits_request t in
    let new : List Arrival = filter_map admits_request item in
    let parts : count_by p (stored (item ∷ t)) ≡ count_by p (filter (is_stored (item ∷ t)) old) + count_by p (filter (is_stored (item ∷ t)) new)
    = ap (count_by p) (filter-append (is_stored (item ∷ t)) old new) ∙ sum_by-append (λ a. one (p a)) (filter (is_stored (item ∷ t)) old) (filter (is_stored (item ∷ t)) new) in
    omega (
      arith,
      parts,
      fewer_counted p (is_stored (item ∷ t)) new,
      count-filter p (is_stored (item ∷ t)) old,
      count-filter p (is_stored t) old,
      count-weaker (λ a. is_stored (item ∷ t) a && p a) (λ a. is_stored t a && p a) old (λ a h. let both = and_parts (is_stored (item ∷ t) a) (p a) h in and_both (is_stored t a) (p a) (stored_before item t a both.0) both.1),
    )

-- a request that is delivered is held no more
pub stored_turn : (a : Arrival) (ms : List Mark) (t : Trace) → filter_map admits_request ms ≡ [] → held t a.number ≡ Some a → count_by any (stored ((Delivers a ∷ ms) ∷ t)) + 1 ≤ count_by any (stored t)
stored_turn a ms t none here =
    let p : Arrival → Bool = any in
    let t' : Trace = (Delivers a ∷ ms) ∷ t in
    let old : List Arrival = shown admits_request t in
    let same : stored t' ≡ filter (is_stored t') old = ap (λ xs. filter (is_stored t') (old ++ xs)) none ∙ ap (filter (is_stored t')) (append-nil old) in
    let there : In a old = admitted_there a.number t a (first-in (shown (admits_at a.number) t) a (admitted_of_held t a.number a here)) in
    let turned : (is_stored t' a && p a) ≡ false
    = ap (λ b. not (((b || list_any (delivers_number a.number) ms) || is_delivered t a.number) || is_emptied t' a.number) && p a) (eq-eqb a.number a.number refl) in
    omega (
      arith,
      ap (count_by p) same,
      count-filter p (is_stored t') old,
      count-filter p (is_stored t) old,
      count-lost (λ b. is_stored t' b && p b) (λ b. is_stored t b && p b) old a
          (λ b h. let both = and_parts (is_stored t' b) (p b) h in and_both (is_stored t b) (p b) (stored_before (Delivers a ∷ ms) t b both.0) both.1)
          there turned (and_both (is_stored t a) (p a) (held_stored t a here) refl),
    )

-- ---- all that there is

abbrev pub at_once : Trace → ℕ
at_once t = count_by any (waiting t) + count_by any (stored t) + count_by any (live t)

-- the requests that an item of this form takes
abbrev pub taken_by : Form → ℕ
taken_by (Rejected a) = 1
taken_by (Received a) = 1
taken_by (Postponed a) = 1
taken_by (Executed AtArrival a d) = 1
taken_by _ = 0

-- the replies that an item of this form sends
abbrev pub sent_by_form : Form → ℕ
sent_by_form (Rejected a) = 1
sent_by_form (Completed c status) = 1
sent_by_form (Executed start a d) = length (to_list d.reply)
sent_by_form _ = 0

-- the commands that leave while a request executes
abbrev pub aborted_by : Form → ℕ
aborted_by (Executed start a d) = count_by any d.leaving
aborted_by _ = 0

pub admits_done : (a : Arrival) (d : Deeds) → filter_map admits_request (marks_done a d) ≡ []
admits_done a d = replies_seen admits_request (λ n. refl) (λ c. refl) (λ b. refl) (λ c. refl) (λ conn. refl) refl a d ∙ unseen admits_request (Sends (connection_of a.request)) d.reply (λ reply. refl)

-- a function that has waited waits no more
pub waited : (a : Arrival) (ws : List Arrival) → list_any (λ b. b.event == a.event) ws ≡ true → count_by any (filter (λ b. not (b.event == a.event)) ws) + 1 ≤ count_by any ws
waited a [] h = absurd (false≢true h)
waited a (w ∷ ws) h =
    let all : count_by any (w ∷ ws) ≡ 1 + count_by any ws = count-cons any w ws in
    elim (w.event == a.event) as (λ b. (b || list_any (λ (x : Arrival). x.event == a.event) ws) ≡ true → count_by any (cond (not b) (w ∷ filter (λ (x : Arrival). not (x.event == a.event)) ws) (filter (λ (x : Arrival). not (x.event == a.event)) ws)) + 1 ≤ count_by any (w ∷ ws)) [
      | true ↦ λ here. omega (arith, all, fewer_counted any (λ (x : Arrival). not (x.event == a.event)) ws)
      | false ↦ λ later. omega (arith, all, count-cons any w (filter (λ (x : Arrival). not (x.event == a.event)) ws), waited a ws later)
    ] h

-- a request that executes is answered, or its command enters
pub done_once : (o : Setting) (t : Trace) (a : Arrival) (d : Deeds) → Each (EntersAs o t a d) d.entering → length (to_list d.reply) + count_by any (to_list d.entering) ≤ 1
done_once o t a d x = by_entering d.entering d.reply refl x
  where
    by_entering : (e : Option Command) (r : Option Reply) → d.reply ≡ r → Each (EntersAs o t a d) e → length (to_list r) + count_by any (to_list e) ≤ 1
    by_entering None None is h = omega arith
    by_entering None (Some reply) is h = omega arith
    by_entering (Some c) None is h = omega (arith, count-cons any c [])
    by_entering (Some c) (Some reply) is h = absurd (let z : None ≡ Some reply = sym h.silent ∙ is in cc)

-- so there is no more at once than before, with what is sent, and one more where a request is taken
pub at_once_form : (o : Setting) (now : ℕ) (t : Trace) (form : Form) → IsFormed o now t form → at_once (marks_of_form form ∷ t) + sent_by_form form + aborted_by form ≤ at_once t + taken_by form
at_once_form o now t (Ignored why) x = omega (arith, stored_item (Ignores why ∷ []) t, live_form o now t (Ignored why) x any)
at_once_form o now t (Rejected a) x = omega (arith, stored_item (marks_of_form (Rejected a)) t, live_form o now t (Rejected a) x any)
at_once_form o now t (Received a) x = omega (arith, stored_item (Admits a ∷ []) t, count-cons any a [], live_form o now t (Received a) x any)
at_once_form o now t (Postponed a) x = omega (arith, stored_item (Waits a ∷ []) t, count_by-push any (waiting t) a, live_form o now t (Postponed a) x any)
at_once_form o now t (Completed c status) x = omega (arith, stored_item (marks_of_form (Completed c status)) t, count-cons any c [], live_form o now t (Completed c status) x any)
at_once_form o now t (Executed AtTurn a d) x =
    omega (arith, stored_turn a (marks_done a d) t (admits_done a d) x.0, shrinks_done a d any (waiting t), live_form o now t (Executed AtTurn a d) x any, done_once o t a d x.1.enters)
at_once_form o now t (Executed AtArrival a d) x =
    let ws : List Arrival = filter (λ b. not (b.event == a.event)) (waiting t) in
    omega (arith, stored_item (Executes a ∷ marks_done a d) t, ap (count_by any) (admits_done a d), shrinks_done a d any ws, fewer_counted any (λ b. not (b.event == a.event)) (waiting t), live_form o now t (Executed AtArrival a d) x any, done_once o t a d x.1.enters)
at_once_form o now t (Executed AfterWaiting a d) x =
    let ws : List Arrival = filter (λ b. not (b.event == a.event)) (waiting t) in
    omega (arith, stored_item (Executes a ∷ marks_done a d) t, ap (count_by any) (admits_done a d), shrinks_done a d any ws, waited a (waiting t) x.0, live_form o now t (Executed AfterWaiting a d) x any, done_once o t a d x.1.enters)
