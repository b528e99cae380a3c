-- The commands that enter in an event, with what waits and what is held after it, are no more than what waited and was held before, and
-- one more where a request came.
use Rattle.std.proofs.Common.{◌≡◌, ℕ, zero, suc, ◌+◌, ◌-◌, ◌≤◌, ◌==◌, ◌&&◌, ◌||◌, not, cond, Bool, true, false, List, [], ◌∷◌, ◌++◌, map, filter, filter_map, count_by, length, Option, Some, None, refl, ap, sym, ◌∙◌, subst, arith, nat_le, nat_lt}
use Rattle.iscsi_wire.specs.declared.reply.Reply.{Reply}
use Rattle.iscsi_wire.specs.declared.reply.Reply.TheVariants.{Task, Reject}
use Rattle.iscsi_wire.specs.Fields.{connection_of, header_of, is_immediate, opcode, itt, request_of}
use Rattle.iscsi_rules.specs.declared.effect.Why.{Why}
use Rattle.iscsi_rules.specs.declared.effect.Why.TheVariants.{Outside, Duplicate, Closed, Data, Stale}
use Rattle.iscsi_rules.specs.declared.event.Event.{Event}
use Rattle.iscsi_rules.specs.declared.event.Event.TheVariants.{Arrive, Done}
use Rattle.iscsi_rules.specs.declared.kind.Kind.{Kind}
use Rattle.iscsi_rules.specs.declared.kind.Kind.TheVariants.{PassedOver, Unknown, Executes as ExecutesKind}
use Rattle.iscsi_rules.specs.rules.Deeds.{marks_after}
use Rattle.iscsi_rules.specs.rules.Settings.{Setting}
use Rattle.iscsi_rules.specs.rules.Trace.{Arrival, Command, Mark, Admits, Executes, Waits, Ignores, Trace, after_items, is_received, held, waiting, live, was_free, is_closed}
use Rattle.iscsi_rules.specs.rules.Execution.{exp_of, max_of, rejected, ignored, completion, reply_on}
use Rattle.iscsi_rules.specs.rules.Management.{may_wait, refusal_of_function, MOST_WAITING, waiting_on}
use Rattle.iscsi_rules.specs.rules.Items.{execution, waiting_item, immediate_item, function_item, item_of, is_waiting, functions, functions_at, turn_at, at_number, agenda}
use Rattle.iscsi_rules.specs.rules.Agenda.{with_turns, numbered, kind_of, arrival_as, arrival_open, arrival, arrival_of, command_of, items_of}
use Rattle.iscsi_rules.proofs.general.CountLemmas.{count-cons}
use Rattle.iscsi_rules.proofs.general.ElementLemmas.{in-filter, first-in}
use Rattle.iscsi_rules.proofs.traces.TraceLemmas.{after_items-append}
use Rattle.iscsi_rules.proofs.traces.HeldLemmas.{held-number}
use Rattle.iscsi_rules.proofs.items.Forms.{Start, AtTurn, AtArrival, AfterWaiting, start_mark, Deeds, marks_done, Form, Ignored, Rejected, Received, Postponed, Completed, Executed, marks_of_form, Starts, IsFormed, HasForm}
use Rattle.iscsi_rules.proofs.items.FormItems.{Does, does_reply, does_function, does_after}
use Rattle.iscsi_outbox_rules.proofs.closes.ClosedParts.{EachOn}
use Rattle.iscsi_outbox_rules.proofs.room.RoomStored.{any, stored, stored_item, stored_turn, waited, admits_done, done_once, taken_by}
use Rattle.iscsi_rules.specs.rules.Trace.{enters}
use Rattle.iscsi_rules.proofs.general.ListLemmas.{fewer_counted, count_by-push}
use Rattle.iscsi_rules.proofs.items.TouchLemmas.{enters_form}
use Rattle.iscsi_outbox_rules.proofs.room.RoomSteps.{shrinks_done}
use Rattle.iscsi_outbox_rules.proofs.room.RoomSends.{mark_reply, done_replies, answers, parting_answers}
use Rattle.iscsi_rules.proofs.promises.NumberingLemmas.{to_list}
use Rattle.std.proofs.lemmas.List.{length-map}

-- what waits, and what is held
abbrev pub pending : Trace → ℕ
pending t = count_by any (waiting t) + count_by any (stored t)

abbrev pub enters_in : List Mark → ℕ
enters_in ms = count_by any (filter_map enters ms)

abbrev pub entering : List (List Mark) → ℕ
entering [] = 0
entering (item ∷ items) = enters_in item + entering items

pending_form : (o : Setting) (now : ℕ) (t : Trace) (form : Form) → IsFormed o now t form → pending (marks_of_form form ∷ t) + enters_in (marks_of_form form) ≤ pending t + taken_by form
pending_form o now t (Ignored why) x = omega (arith, stored_item (Ignores why ∷ []) t)
pending_form o now t (Rejected a) x = omega (arith, stored_item (marks_of_form (Rejected a)) t)
pending_form o now t (Received a) x = omega (arith, stored_item (Admits a ∷ []) t, count-cons any a [])
pending_form o now t (Postponed a) x = omega (arith, stored_item (Waits a ∷ []) t, count_by-push any (waiting t) a)
pending_form o now t (Completed c status) x = omega (arith, stored_item (marks_of_form (Completed c status)) t)
pending_form o now t (Executed AtTurn a d) x =
    omega (arith, stored_turn a (marks_done a d) t (admits_done a d) x.0, shrinks_done a d any (waiting t), ap (count_by any) (enters_form (Executed AtTurn a d)), done_once o t a d x.1.enters)
pending_form o now t (Executed AtArrival a d) x =
    let ws : List Arrival = filter (λ b. not (b.event == a.event)) (waiting t) in
    omega (arith, stored_item (Executes a ∷ marks_done a d) t, ap (count_by any) (admits_done a d), shrinks_done a d any ws, fewer_counted any (λ b. not (b.event == a.event)) (waiting t), ap (count_by any) (enters_form (Executed AtArrival a d)), done_once o t a d x.1.enters)
pending_form o now t (Executed AfterWaiting a d) x =
    let ws : List Arrival = filter (λ b. not (b.event == a.event)) (waiting t) in
    omega (arith, stored_item (Executes a ∷ marks_done a d) t, ap (count_by any) (admits_done a d), shrinks_done a d any ws, waited a (waiting t) x.0, ap (count_by any) (enters_form (Executed AfterWaiting a d)), done_once o t a d x.1.enters)

module _ (o : Setting) where
  -- ---- items one after the other

  abbrev pub Formed : Trace → List Mark → Type 0
  Formed t item = (now : ℕ) × HasForm o now t item

  pub record Entering (k : ℕ) (t : Trace) (items : List (List Mark)) : Type 0 where
    pub each : EachOn Formed t items
    pub less : pending (after_items items t) + entering items ≤ pending t + k

  entering_none : (t : Trace) → Entering 0 t []
  entering_none t = record { each = tt; less = omega arith }

  entering_more : (k m : ℕ) (t : Trace) (items : List (List Mark)) → k ≤ m → Entering k t items → Entering m t items
  entering_more k m t items le g = record { each = g.each; less = omega (arith, le, g.less) }

  entering_first : (now k : ℕ) (t : Trace) (item : List Mark) (items : List (List Mark)) → HasForm o now t item → pending (item ∷ t) + enters_in item ≤ pending t + k → Entering 0 (item ∷ t) items → Entering k t (item ∷ items)
  entering_first now k t item items f step g = record { each = ((now, f), g.each); less = omega (arith, step, g.less) }

  by_item : (now : ℕ) (t : Trace) (item : List Mark) (f : HasForm o now t item) → pending (item ∷ t) + enters_in item ≤ pending t + taken_by f.form
  by_item now t item f =
      subst (λ ms. pending (ms ∷ t) + enters_in ms ≤ pending t + taken_by f.form) (sym f.is) (pending_form o now t f.form f.formed)

  each-append : (t : Trace) (xs ys : List (List Mark)) → EachOn Formed t xs → EachOn Formed (after_items xs t) ys → EachOn Formed t (xs ++ ys)
  each-append t [] ys h k = k
  each-append t (x ∷ xs) ys h k = (h.0, each-append (x ∷ t) xs ys h.1 k)

  entering-append : (xs ys : List (List Mark)) → entering (xs ++ ys) ≡ entering xs + entering ys
  entering-append [] ys = omega arith
  entering-append (x ∷ xs) ys = omega (arith, entering-append xs ys)

  enters-append : (t : Trace) (xs ys : List (List Mark)) → Entering 0 t xs → Entering 0 (after_items xs t) ys → Entering 0 t (xs ++ ys)
  enters-append t xs ys g h = record {
    each = each-append t xs ys g.each h.each;
    less = omega (arith, g.less, h.less, entering-append xs ys, ap pending (after_items-append xs ys t));
  }

  -- ---- the agenda

  executed_form : (now : ℕ) (t : Trace) (start : Start) (a : Arrival) (ms : List Mark) → Starts now t start a → Does o t start a ms → HasForm o now t (start_mark start a ∷ ms)
  executed_form now t start a ms starts d = record { form = Executed start a d.deeds; is = ap (λ xs. start_mark start a ∷ xs) d.is; formed = (starts, d.done) }

  abbrev taken_of : Start → ℕ
  taken_of AtArrival = 1
  taken_of AtTurn = 0
  taken_of AfterWaiting = 0

  same_taken : (start : Start) (a : Arrival) (d : Deeds) → taken_by (Executed start a d) ≡ taken_of start
  same_taken AtArrival a d = refl
  same_taken AtTurn a d = refl
  same_taken AfterWaiting a d = refl

  by_executed : (now : ℕ) (t : Trace) (start : Start) (a : Arrival) (ms : List Mark) → Starts now t start a → Does o t start a ms → pending ((start_mark start a ∷ ms) ∷ t) + enters_in (start_mark start a ∷ ms) ≤ pending t + taken_of start
  by_executed now t start a ms starts d =
      subst (λ xs. pending ((start_mark start a ∷ xs) ∷ t) + enters_in (start_mark start a ∷ xs) ≤ pending t + taken_of start) (sym d.is)
      (omega (arith, pending_form o now t (Executed start a d.deeds) (starts, d.done), same_taken start a d.deeds))

  functions_enters : (as' : List Arrival) (t : Trace) → Entering 0 t (functions o as' t)
  functions_enters [] t = entering_none t
  functions_enters (a ∷ as') t =
      elim (is_waiting a t) as (λ b. is_waiting a t ≡ b → Entering 0 t (let due : List (List Mark) = cond b (function_item o t a ∷ []) [] in due ++ functions o as' (after_items due t))) [
        | true ↦ λ is.
            let f : HasForm o 0 t (function_item o t a) = executed_form 0 t AfterWaiting a _ is (does_function o t AfterWaiting a) in
            entering_first 0 0 t (function_item o t a) (functions o as' (function_item o t a ∷ t)) f (by_executed 0 t AfterWaiting a _ is (does_function o t AfterWaiting a)) (functions_enters as' (function_item o t a ∷ t))
        | false ↦ λ is. functions_enters as' t
      ] refl

  turn_enters : (n : ℕ) (t : Trace) → Entering 0 t (turn_at o n t)
  turn_enters n t =
      elim (held t n) as (λ y. held t n ≡ y → Entering 0 t (elim y [ Some a ↦ item_of o t a ∷ [] | None ↦ [] ])) [
        | Some a ↦ λ is.
            let f : HasForm o 0 t (item_of o t a) = executed_form 0 t AtTurn a _ (ap (held t) (held-number t n a is) ∙ is) (does_after o t AtTurn a) in
            entering_first 0 0 t (item_of o t a) [] f (by_executed 0 t AtTurn a _ (ap (held t) (held-number t n a is) ∙ is) (does_after o t AtTurn a)) (entering_none (item_of o t a ∷ t))
        | None ↦ λ is. entering_none t
      ] refl

  functions_at_enters : (n : ℕ) (t : Trace) → Entering 0 t (functions_at o n t)
  functions_at_enters n t = functions_enters (filter (λ a. a.number == n) (waiting t)) t

  agenda_enters : (n m : ℕ) (t : Trace) → Entering 0 t (agenda o n m t)
  agenda_enters n zero t = functions_at_enters n t
  agenda_enters n (suc m) t =
      let before : List (List Mark) = functions_at o n t in
      let now : List (List Mark) = at_number o n t in
      enters-append t now (agenda o (n + 1) m (after_items now t)) (enters-append t before (turn_at o n (after_items before t)) (functions_at_enters n t) (turn_enters n (after_items before t))) (agenda_enters (n + 1) m (after_items now t))

  -- ---- an event

  turns_enters : (now k : ℕ) (t : Trace) (item : List Mark) → HasForm o now t item → pending (item ∷ t) + enters_in item ≤ pending t + k → Entering k t (with_turns o t item)
  turns_enters now k t item f step = entering_first now k t item _ f step (agenda_enters (exp_of o t) (exp_of o (item ∷ t) - exp_of o t) (item ∷ t))

  alone : (now : ℕ) (t : Trace) (item : List Mark) (f : HasForm o now t item) → Entering (taken_by f.form) t (item ∷ [])
  alone now t item f = entering_first now (taken_by f.form) t item [] f (by_item now t item f) (entering_none (item ∷ t))

  ignored_enters : (t : Trace) (why : Why) → Entering 0 t (ignored why)
  ignored_enters t why = alone 0 t (Ignores why ∷ []) (record { form = Ignored why; is = refl; formed = tt })

  -- the first item of an immediate request
  execution_enters : (t : Trace) (a : Arrival) → Entering 1 t (with_turns o t (execution o t (Executes a) a))
  execution_enters t a =
      let f : HasForm o a.event t (execution o t (Executes a) a) = executed_form a.event t AtArrival a _ refl (does_after o t AtArrival a) in
      turns_enters a.event 1 t (execution o t (Executes a) a) f (by_executed a.event t AtArrival a _ refl (does_after o t AtArrival a))

  reply_enters : (t : Trace) (a : Arrival) (ms : List Mark) → Does o t AtArrival a ms → Entering 1 t (with_turns o t (Executes a ∷ ms))
  reply_enters t a ms d =
      let f : HasForm o a.event t (Executes a ∷ ms) = executed_form a.event t AtArrival a ms refl d in
      turns_enters a.event 1 t (Executes a ∷ ms) f (by_executed a.event t AtArrival a ms refl d)

  immediate_enters : (t : Trace) (a : Arrival) → Entering 1 t (with_turns o t (immediate_item o t a))
  immediate_enters t a = by_tests (opcode a.request == 0x02 && may_wait a.request) (refusal_of_function o a.request)
    where
      waiting_enters : (b c d : Bool) → Entering 1 t (with_turns o t (cond b (Executes a ∷ reply_on a (Task (itt a.request) 255)) (cond (not c) (execution o t (Executes a) a) (cond d (Executes a ∷ reply_on a (Reject 6 (header_of a.request))) (Waits a ∷ [])))))
      waiting_enters true c d = reply_enters t a _ (does_reply o t AtArrival a (Task (itt a.request) 255) refl)
      waiting_enters false false d = execution_enters t a
      waiting_enters false true true = reply_enters t a _ (does_reply o t AtArrival a (Reject 6 (header_of a.request)) refl)
      waiting_enters false true false =
          let f : HasForm o a.event t (Waits a ∷ []) = record { form = Postponed a; is = refl; formed = refl } in
          turns_enters a.event 1 t (Waits a ∷ []) f (by_item a.event t (Waits a ∷ []) f)

      by_tests : (b : Bool) (x : Option Reply) → Entering 1 t (with_turns o t (cond b (elim x [ Some reply ↦ execution o t (Executes a) a | None ↦ waiting_item o t a ]) (execution o t (Executes a) a)))
      by_tests true (Some reply) = execution_enters t a
      by_tests true None = waiting_enters (nat_lt (max_of o t + 1) a.number) (nat_lt (exp_of o t) a.number) (nat_le MOST_WAITING (waiting_on (connection_of a.request) t))
      by_tests false x = execution_enters t a

  numbered_enters : (t : Trace) (a : Arrival) → Entering 1 t (numbered o t a)
  numbered_enters t a =
      elim (nat_lt a.number (exp_of o t) || nat_lt (max_of o t) a.number) as (λ b. Entering 1 t (cond b (ignored Outside) (cond (is_received t a.number) (ignored Duplicate) (with_turns o t (Admits a ∷ []))))) [
        | true ↦ entering_more 0 1 t _ (omega arith) (ignored_enters t Outside)
        | false ↦ elim (is_received t a.number) as (λ b. is_received t a.number ≡ b → Entering 1 t (cond b (ignored Duplicate) (with_turns o t (Admits a ∷ [])))) [
          | true ↦ λ is. entering_more 0 1 t _ (omega arith) (ignored_enters t Duplicate)
          | false ↦ λ is.
              let f : HasForm o a.event t (Admits a ∷ []) = record { form = Received a; is = refl; formed = (refl, is) } in
              turns_enters a.event 1 t (Admits a ∷ []) f (by_item a.event t (Admits a ∷ []) f)
        ] refl
      ]

  arrival_enters : (t : Trace) (a : Arrival) → Entering 1 t (arrival o t a)
  arrival_enters t a =
      elim (is_closed (connection_of a.request) t) as (λ b. Entering 1 t (cond b (ignored Closed) (arrival_open o t a))) [
        | true ↦ entering_more 0 1 t _ (omega arith) (ignored_enters t Closed)
        | false ↦ by_kind (kind_of a.request)
      ]
    where
      by_kind : (k : Kind) → Entering 1 t (arrival_as o t a k)
      by_kind PassedOver = entering_more 0 1 t _ (omega arith) (ignored_enters t Data)
      by_kind Unknown = alone 0 t (rejected a) (record { form = Rejected a; is = refl; formed = tt })
      by_kind ExecutesKind =
          elim (is_immediate a.request) as (λ b. Entering 1 t (cond b (with_turns o t (immediate_item o t a)) (numbered o t a))) [
            | true ↦ immediate_enters t a
            | false ↦ numbered_enters t a
          ]

  pub done_enters : (now : ℕ) (t : Trace) (ticket status : ℕ) → Entering 0 t (items_of o now t (Done ticket status))
  done_enters now t ticket status = by_command (command_of t ticket) refl
    where
      by_command : (y : Option Command) → command_of t ticket ≡ y → Entering 0 t (completion status y)
      by_command None is = ignored_enters t Stale
      by_command (Some c) is =
          alone 0 t _ (record { form = Completed c status; is = refl; formed = (in-filter (λ (d : Command). d.ticket == ticket && was_free d t) (live t) c (first-in _ c is)).0 })

  pub event_enters : (now : ℕ) (t : Trace) (e : Event) → Entering 1 t (items_of o now t e)
  event_enters now t (Arrive conn header) = arrival_enters t (arrival_of o now t (request_of conn header))
  event_enters now t (Done ticket status) = entering_more 0 1 t _ (omega arith) (done_enters now t ticket status)

  -- a Logout is answered, so that no command enters
  pub parting_enters : (t : Trace) (a : Arrival) → is_immediate a.request ≡ true → opcode a.request ≡ 0x06 → Entering 0 t (arrival o t a)
  parting_enters t a now is =
      elim (is_closed (connection_of a.request) t) as (λ b. Entering 0 t (cond b (ignored Closed) (arrival_open o t a))) [
        | true ↦ ignored_enters t Closed
        | false ↦ subst (λ n. Entering 0 t (arrival_as o t a (cond (n == 0x05 || n == 0x10) PassedOver (cond (n == 0x00 || n == 0x01 || n == 0x02 || n == 0x04 || n == 0x06) ExecutesKind Unknown)))) (sym is)
            (subst (λ b. Entering 0 t (cond b (with_turns o t (immediate_item o t a)) (numbered o t a))) (sym now)
            (subst (λ n. Entering 0 t (with_turns o t (cond (n == 0x02 && may_wait a.request) (elim (refusal_of_function o a.request) [ Some reply ↦ execution o t (Executes a) a | None ↦ waiting_item o t a ]) (execution o t (Executes a) a)))) (sym is) (by_does (does_after o t AtArrival a))))
      ]
    where
      logout : 1 ≤ answers (marks_after o ((Executes a ∷ []) ∷ t) a)
      logout = parting_answers o ((Executes a ∷ []) ∷ t) a is

      answered_form : (d : Deeds) → 1 ≤ length (to_list d.reply) → IsFormed o a.event t (Executed AtArrival a d) → pending ((Executes a ∷ marks_done a d) ∷ t) + enters_in (Executes a ∷ marks_done a d) ≤ pending t + 0
      answered_form d some x =
          let ws : List Arrival = filter (λ b. not (b.event == a.event)) (waiting t) in
          omega (arith, some, stored_item (Executes a ∷ marks_done a d) t, ap (count_by any) (admits_done a d), shrinks_done a d any ws, fewer_counted any (λ b. not (b.event == a.event)) (waiting t), ap (count_by any) (enters_form (Executed AtArrival a d)), done_once o t a d x.1.enters)

      by_does : Does o t AtArrival a (marks_after o ((Executes a ∷ []) ∷ t) a) → Entering 0 t (with_turns o t (execution o t (Executes a) a))
      by_does d =
          let f : HasForm o a.event t (execution o t (Executes a) a) = executed_form a.event t AtArrival a _ refl d in
          let replies : filter_map mark_reply (execution o t (Executes a) a) ≡ map (λ reply. (connection_of a.request, reply)) (to_list d.deeds.reply) = ap (filter_map mark_reply) d.is ∙ done_replies a d.deeds in
          let some : 1 ≤ length (to_list d.deeds.reply) = omega (arith, logout, ap length replies, length-map {B = ℕ × Reply} (to_list d.deeds.reply) (λ reply. (connection_of a.request, reply))) in
          turns_enters a.event 0 t (execution o t (Executes a) a) f
          (subst (λ xs. pending ((Executes a ∷ xs) ∷ t) + enters_in (Executes a ∷ xs) ≤ pending t + 0) (sym d.is) (answered_form d.deeds some (refl, d.done)))
