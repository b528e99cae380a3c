-- Each item of an event has a form, in this event.
use Rattle.std.proofs.Common.{◌≡◌, ℕ, zero, suc, ◌+◌, ◌-◌, ◌==◌, ◌&&◌, ◌||◌, not, cond, Bool, true, false, List, [], ◌∷◌, ◌++◌, filter, Option, Some, None, refl, ap, ◌∙◌, nat_lt, nat_le}
use Rattle.iscsi_wire.specs.declared.reply.Reply.{Reply}
use Rattle.iscsi_wire.specs.declared.reply.Reply.TheVariants.{Task, Reject}
use Rattle.iscsi_wire.specs.Fields.{connection_of, header_of, is_immediate, opcode, itt, request_of}
use Rattle.iscsi_rules.specs.declared.effect.Why.{Why}
use Rattle.iscsi_rules.specs.declared.effect.Why.TheVariants.{Outside, Duplicate, Closed, Data, Stale}
use Rattle.iscsi_rules.specs.declared.event.Event.{Event}
use Rattle.iscsi_rules.specs.declared.event.Event.TheVariants.{Arrive, Done}
use Rattle.iscsi_rules.specs.declared.kind.Kind.{Kind}
use Rattle.iscsi_rules.specs.declared.kind.Kind.TheVariants.{PassedOver, Unknown, Executes as ExecutesKind}
use Rattle.iscsi_rules.specs.rules.Settings.{Setting}
use Rattle.iscsi_rules.specs.rules.Trace.{Arrival, Command, Mark, Admits, Executes, Waits, Trace, after_items, is_received, held, waiting, live, was_free, is_closed}
use Rattle.iscsi_rules.specs.rules.Execution.{exp_of, max_of, ignored, completion, reply_on}
use Rattle.iscsi_rules.specs.rules.Management.{may_wait, refusal_of_function, MOST_WAITING, waiting_on}
use Rattle.iscsi_rules.specs.rules.Items.{execution, waiting_item, immediate_item, function_item, item_of, is_waiting, functions, functions_at, turn_at, at_number, agenda}
use Rattle.iscsi_rules.specs.rules.Agenda.{with_turns, numbered, kind_of, arrival_as, arrival_open, arrival, arrival_of, command_of, items_of}
use Rattle.iscsi_rules.proofs.general.ElementLemmas.{in-filter, first-in}
use Rattle.iscsi_rules.proofs.traces.HeldLemmas.{held-number}
use Rattle.iscsi_rules.proofs.items.Forms.{Start, AtTurn, AtArrival, AfterWaiting, start_mark, Ignored, Rejected, Received, Postponed, Completed, Executed, Starts, HasForm}
use Rattle.iscsi_rules.proofs.items.FormItems.{Does, does_reply, does_function, does_after}
use Rattle.iscsi_outbox_rules.proofs.closes.ClosedParts.{EachOn}

module _ (o : Setting) (now : ℕ) where
  -- of these items after a trace each has one
  abbrev pub Formed : Trace → List (List Mark) → Type 0
  Formed t items = EachOn (λ u item. HasForm o now u item) t items

  formed-append : (t : Trace) (xs ys : List (List Mark)) → Formed t xs → Formed (after_items xs t) ys → Formed t (xs ++ ys)
  formed-append t [] ys h k = k
  formed-append t (x ∷ xs) ys h k = (h.0, formed-append (x ∷ t) xs ys h.1 k)

  executed_form : (t : Trace) (start : Start) (a : Arrival) (ms : List Mark) → Starts now t start a → Does o t start a ms → HasForm o now t (start_mark start a ∷ ms)
  executed_form t start a ms starts d = record { form = Executed start a d.deeds; is = ap (λ xs. start_mark start a ∷ xs) d.is; formed = (starts, d.done) }

  -- ---- the agenda

  functions_formed : (as' : List Arrival) (t : Trace) → Formed t (functions o as' t)
  functions_formed [] t = tt
  functions_formed (a ∷ as') t =
      elim (is_waiting a t) as (λ b. is_waiting a t ≡ b → Formed t (let due : List (List Mark) = cond b (function_item o t a ∷ []) [] in due ++ functions o as' (after_items due t))) [
        | true ↦ λ is. (executed_form t AfterWaiting a _ is (does_function o t AfterWaiting a), functions_formed as' (function_item o t a ∷ t))
        | false ↦ λ is. functions_formed as' t
      ] refl

  turn_formed : (n : ℕ) (t : Trace) → Formed t (turn_at o n t)
  turn_formed n t =
      elim (held t n) as (λ y. held t n ≡ y → Formed t (elim y [ Some a ↦ item_of o t a ∷ [] | None ↦ [] ])) [
        | Some a ↦ λ is. (executed_form t AtTurn a _ (ap (held t) (held-number t n a is) ∙ is) (does_after o t AtTurn a), tt)
        | None ↦ λ is. tt
      ] refl

  functions_at_formed : (n : ℕ) (t : Trace) → Formed t (functions_at o n t)
  functions_at_formed n t = functions_formed (filter (λ a. a.number == n) (waiting t)) t

  agenda_formed : (n m : ℕ) (t : Trace) → Formed t (agenda o n m t)
  agenda_formed n zero t = functions_at_formed n t
  agenda_formed n (suc m) t =
      let before : List (List Mark) = functions_at o n t in
      let first : List (List Mark) = at_number o n t in
      formed-append t first (agenda o (n + 1) m (after_items first t)) (formed-append t before (turn_at o n (after_items before t)) (functions_at_formed n t) (turn_formed n (after_items before t))) (agenda_formed (n + 1) m (after_items first t))

  -- ---- an event

  turns_formed : (t : Trace) (item : List Mark) → HasForm o now t item → Formed t (with_turns o t item)
  turns_formed t item f = (f, agenda_formed (exp_of o t) (exp_of o (item ∷ t) - exp_of o t) (item ∷ t))

  ignored_formed : (t : Trace) (why : Why) → Formed t (ignored why)
  ignored_formed t why = (record { form = Ignored why; is = refl; formed = tt }, tt)

  execution_form : (t : Trace) (a : Arrival) → a.event ≡ now → HasForm o now t (execution o t (Executes a) a)
  execution_form t a here = executed_form t AtArrival a _ here (does_after o t AtArrival a)

  waiting_form : (t : Trace) (a : Arrival) → a.event ≡ now → HasForm o now t (waiting_item o t a)
  waiting_form t a here = by_tests (nat_lt (max_of o t + 1) a.number) (nat_lt (exp_of o t) a.number) (nat_le MOST_WAITING (waiting_on (connection_of a.request) t))
    where
      by_tests : (b c d : Bool)
          → HasForm o now t (cond b (Executes a ∷ reply_on a (Task (itt a.request) 255)) (cond (not c) (execution o t (Executes a) a) (cond d (Executes a ∷ reply_on a (Reject 6 (header_of a.request))) (Waits a ∷ []))))
      by_tests true c d = executed_form t AtArrival a _ here (does_reply o t AtArrival a (Task (itt a.request) 255) refl)
      by_tests false false d = execution_form t a here
      by_tests false true true = executed_form t AtArrival a _ here (does_reply o t AtArrival a (Reject 6 (header_of a.request)) refl)
      by_tests false true false = record { form = Postponed a; is = refl; formed = here }

  immediate_form : (t : Trace) (a : Arrival) → a.event ≡ now → HasForm o now t (immediate_item o t a)
  immediate_form t a here = by_tests (opcode a.request == 0x02 && may_wait a.request) (refusal_of_function o a.request)
    where
      by_tests : (b : Bool) (x : Option Reply) → HasForm o now t (cond b (elim x [ Some reply ↦ execution o t (Executes a) a | None ↦ waiting_item o t a ]) (execution o t (Executes a) a))
      by_tests true (Some reply) = execution_form t a here
      by_tests true None = waiting_form t a here
      by_tests false x = execution_form t a here

  numbered_formed : (t : Trace) (a : Arrival) → a.event ≡ now → Formed t (numbered o t a)
  numbered_formed t a here =
      elim (nat_lt a.number (exp_of o t) || nat_lt (max_of o t) a.number) as (λ b. Formed t (cond b (ignored Outside) (cond (is_received t a.number) (ignored Duplicate) (with_turns o t (Admits a ∷ []))))) [
        | true ↦ ignored_formed t Outside
        | false ↦ elim (is_received t a.number) as (λ b. is_received t a.number ≡ b → Formed t (cond b (ignored Duplicate) (with_turns o t (Admits a ∷ [])))) [
          | true ↦ λ is. ignored_formed t Duplicate
          | false ↦ λ is. turns_formed t (Admits a ∷ []) (record { form = Received a; is = refl; formed = (here, is) })
        ] refl
      ]

  arrival_formed : (t : Trace) (a : Arrival) → a.event ≡ now → Formed t (arrival o t a)
  arrival_formed t a here =
      elim (is_closed (connection_of a.request) t) as (λ b. Formed t (cond b (ignored Closed) (arrival_open o t a))) [
        | true ↦ ignored_formed t Closed
        | false ↦ by_kind (kind_of a.request)
      ]
    where
      by_kind : (k : Kind) → Formed t (arrival_as o t a k)
      by_kind PassedOver = ignored_formed t Data
      by_kind Unknown = (record { form = Rejected a; is = refl; formed = tt }, tt)
      by_kind ExecutesKind =
          elim (is_immediate a.request) as (λ b. Formed t (cond b (with_turns o t (immediate_item o t a)) (numbered o t a))) [
            | true ↦ turns_formed t (immediate_item o t a) (immediate_form t a here)
            | false ↦ numbered_formed t a here
          ]

  pub event_formed : (t : Trace) (e : Event) → Formed t (items_of o now t e)
  event_formed t (Arrive conn header) = arrival_formed t (arrival_of o now t (request_of conn header)) refl
  event_formed t (Done ticket status) = by_command (command_of t ticket) refl
    where
      by_command : (y : Option Command) → command_of t ticket ≡ y → Formed t (completion status y)
      by_command None is = ignored_formed t Stale
      by_command (Some c) is = (record { form = Completed c status; is = refl; formed = (in-filter (λ (d : Command). d.ticket == ticket && was_free d t) (live t) c (first-in _ c is)).0 }, tt)
