-- The items of an event by which a request arrives: what the first one is, and that those behind it are due by it.
use Rattle.std.proofs.Common.{◌≡◌, ℕ, zero, suc, ◌+◌, ◌-◌, ◌<◌, ◌==◌, ◌&&◌, ◌||◌, ⊎_elim, not, cond, Bool, true, false, List, [], ◌∷◌, ◌++◌, filter, Option, Some, None, refl, ap, subst, sym, ◌∙◌, nat_lt, nat_le}
use Rattle.std.proofs.lemmas.Bool.{cases_lt, false≢true, le-leb}
use Rattle.iscsi_wire.specs.declared.reply.Reply.{Reply}
use Rattle.iscsi_wire.specs.declared.reply.Reply.TheVariants.{Reject, Task}
use Rattle.iscsi_wire.specs.Fields.{connection_of, header_of, is_immediate, itt, opcode}
use Rattle.iscsi_rules.specs.declared.effect.Why.{Why}
use Rattle.iscsi_rules.specs.declared.effect.Why.TheVariants.{Closed, Data, Duplicate, Outside}
use Rattle.iscsi_rules.specs.declared.kind.Kind.{Kind}
use Rattle.iscsi_rules.specs.declared.kind.Kind.TheVariants.{Executes as ExecutesKind, PassedOver, Unknown}
use Rattle.iscsi_rules.specs.rules.Agenda.{arrival, arrival_as, arrival_open, kind_of, numbered, with_turns}
use Rattle.iscsi_rules.specs.rules.Execution.{exp_of, ignored, max_of, rejected, reply_on}
use Rattle.iscsi_rules.specs.rules.Items.{agenda, at_number, execution, function_item, functions, functions_at, immediate_item, is_waiting, item_of, turn_at, waiting_item}
use Rattle.iscsi_rules.specs.rules.Management.{MOST_WAITING, may_wait, refusal_of_function, waiting_on}
use Rattle.iscsi_rules.specs.rules.Settings.{Setting}
use Rattle.iscsi_rules.specs.rules.Trace.{Admits, Arrival, Delivers, Executes, Ignores, Mark, Trace, Waits, after_items, held, is_closed, is_received, waiting}
use Rattle.iscsi_rules.proofs.items.FormItems.{Does, does_after, does_function, does_reply}
use Rattle.iscsi_rules.proofs.items.Forms.{AfterWaiting, AtArrival, AtTurn, Deeds, IsDone, Start, marks_done, start_mark}
use Rattle.iscsi_rules.proofs.traces.HeldLemmas.{held-number}
use Rattle.iscsi_outbox_rules.proofs.closes.ClosedParts.{EachOn}
use Rattle.iscsi_ffi_law.proofs.arrivals.Opens.{Opens, opens_after, opens_function, opens_reply}

-- why an item is due that isn't the first one
abbrev pub IsDueBy : Trace → Start → Arrival → Type 0
IsDueBy t AtTurn a = held t a.number ≡ Some a
IsDueBy t AtArrival a = ⊥
IsDueBy t AfterWaiting a = is_waiting a t ≡ true

pub record IsDue (o : Setting) (t : Trace) (item : List Mark) : Type 0 where
  pub start : Start
  pub a : Arrival
  pub deeds : Deeds
  pub is : item ≡ start_mark start a ∷ marks_done a deeds
  pub due : IsDueBy t start a
  pub done : IsDone o t start a deeds
  pub opens : Opens o a (marks_done a deeds)

module _ (o : Setting) where
  abbrev pub AreDue : Trace → List (List Mark) → Type 0
  AreDue t items = EachOn (IsDue o) t items

  due-append : (t : Trace) (xs ys : List (List Mark)) → AreDue t xs → AreDue (after_items xs t) ys → AreDue t (xs ++ ys)
  due-append t [] ys h k = k
  due-append t (x ∷ xs) ys h k = (h.0, due-append (x ∷ t) xs ys h.1 k)

  due_by : (t : Trace) (start : Start) (a : Arrival) (ms : List Mark) → IsDueBy t start a → Does o t start a ms → Opens o a ms → IsDue o t (start_mark start a ∷ ms)
  due_by t start a ms due d opens = record { start = start; a = a; deeds = d.deeds; is = ap (λ xs. start_mark start a ∷ xs) d.is; due = due; done = d.done; opens = subst (Opens o a) d.is opens }

  functions_due : (as' : List Arrival) (t : Trace) → AreDue t (functions o as' t)
  functions_due [] t = tt
  functions_due (a ∷ as') t =
      elim (is_waiting a t) as (λ b. is_waiting a t ≡ b → AreDue t (let due : List (List Mark) = cond b (function_item o t a ∷ []) [] in due ++ functions o as' (after_items due t))) [
        | true ↦ λ is. (due_by t AfterWaiting a _ is (does_function o t AfterWaiting a) (opens_function o ((Executes a ∷ []) ∷ t) a), functions_due as' (function_item o t a ∷ t))
        | false ↦ λ is. functions_due as' t
      ] refl

  turn_due : (n : ℕ) (t : Trace) → AreDue t (turn_at o n t)
  turn_due n t =
      elim (held t n) as (λ y. held t n ≡ y → AreDue t (elim y [ Some a ↦ item_of o t a ∷ [] | None ↦ [] ])) [
        | Some a ↦ λ is. (due_by t AtTurn a _ (ap (held t) (held-number t n a is) ∙ is) (does_after o t AtTurn a) (opens_after o ((Delivers a ∷ []) ∷ t) a), tt)
        | None ↦ λ is. tt
      ] refl

  agenda_due : (n m : ℕ) (t : Trace) → AreDue t (agenda o n m t)
  agenda_due n zero t = functions_due (filter (λ a. a.number == n) (waiting t)) t
  agenda_due n (suc m) t =
      let before : List (List Mark) = functions_at o n t in
      let first : List (List Mark) = at_number o n t in
      due-append t first (agenda o (n + 1) m (after_items first t)) (due-append t before (turn_at o n (after_items before t)) (functions_due (filter (λ a. a.number == n) (waiting t)) t) (turn_due n (after_items before t))) (agenda_due (n + 1) m (after_items first t))

  -- ---- the first one

  -- what becomes of a request that arrives
  pub data Becomes (t : Trace) (a : Arrival) (items : List (List Mark)) : Type 0 where
    IsIgnored : (why : Why) → items ≡ (Ignores why ∷ []) ∷ [] → Becomes t a items
    IsRejected : items ≡ rejected a ∷ [] → Becomes t a items
    IsReceived : (rest : List (List Mark)) → is_immediate a.request ≡ false → is_received t a.number ≡ false → items ≡ (Admits a ∷ []) ∷ rest → AreDue ((Admits a ∷ []) ∷ t) rest → Becomes t a items
    IsExecuted : (d : Deeds) (rest : List (List Mark)) → is_immediate a.request ≡ true → IsDone o t AtArrival a d → Opens o a (marks_done a d) → items ≡ (Executes a ∷ marks_done a d) ∷ rest → AreDue ((Executes a ∷ marks_done a d) ∷ t) rest → Becomes t a items
    IsPostponed : (rest : List (List Mark)) → is_immediate a.request ≡ true → waiting_on (connection_of a.request) t < MOST_WAITING → items ≡ (Waits a ∷ []) ∷ rest → AreDue ((Waits a ∷ []) ∷ t) rest → Becomes t a items

  turns : (t : Trace) (item : List Mark) → AreDue (item ∷ t) (agenda o (exp_of o t) (exp_of o (item ∷ t) - exp_of o t) (item ∷ t))
  turns t item = agenda_due (exp_of o t) (exp_of o (item ∷ t) - exp_of o t) (item ∷ t)

  -- an item by which it executes at once
  record Starts (t : Trace) (a : Arrival) (item : List Mark) : Type 0 where
    deeds : Deeds
    is : item ≡ Executes a ∷ marks_done a deeds
    done : IsDone o t AtArrival a deeds
    opens : Opens o a (marks_done a deeds)

  data AtOnce (t : Trace) (a : Arrival) (item : List Mark) : Type 0 where
    Now : Starts t a item → AtOnce t a item
    Later : waiting_on (connection_of a.request) t < MOST_WAITING → item ≡ Waits a ∷ [] → AtOnce t a item

  starts : (t : Trace) (a : Arrival) (ms : List Mark) → Does o t AtArrival a ms → Opens o a ms → AtOnce t a (Executes a ∷ ms)
  starts t a ms d opens = Now (record { deeds = d.deeds; is = ap (λ xs. Executes a ∷ xs) d.is; done = d.done; opens = subst (Opens o a) d.is opens })

  waiting_once : (t : Trace) (a : Arrival) → AtOnce t a (waiting_item o t a)
  waiting_once t a = by_tests (nat_lt (max_of o t + 1) a.number) (nat_lt (exp_of o t) a.number) (nat_le MOST_WAITING (waiting_on (connection_of a.request) t)) refl
    where
      by_tests : (b c d : Bool) → nat_le MOST_WAITING (waiting_on (connection_of a.request) t) ≡ d
          → AtOnce t a (cond b (Executes a ∷ reply_on a (Task (itt a.request) 255)) (cond (not c) (execution o t (Executes a) a) (cond d (Executes a ∷ reply_on a (Reject 6 (header_of a.request))) (Waits a ∷ []))))
      by_tests true c d is = starts t a _ (does_reply o t AtArrival a (Task (itt a.request) 255) refl) (opens_reply o a (Task (itt a.request) 255))
      by_tests false false d is = starts t a _ (does_after o t AtArrival a) (opens_after o ((Executes a ∷ []) ∷ t) a)
      by_tests false true true is = starts t a _ (does_reply o t AtArrival a (Reject 6 (header_of a.request)) refl) (opens_reply o a (Reject 6 (header_of a.request)))
      by_tests false true false is = Later (⊎_elim (λ few. few) (λ many. absurd (false≢true (sym is ∙ le-leb MOST_WAITING (waiting_on (connection_of a.request) t) many))) (cases_lt (waiting_on (connection_of a.request) t) MOST_WAITING)) refl

  immediate_once : (t : Trace) (a : Arrival) → AtOnce t a (immediate_item o t a)
  immediate_once t a = by_tests (opcode a.request == 0x02 && may_wait a.request) (refusal_of_function o a.request)
    where
      by_tests : (b : Bool) (x : Option Reply) → AtOnce t a (cond b (elim x [ Some reply ↦ execution o t (Executes a) a | None ↦ waiting_item o t a ]) (execution o t (Executes a) a))
      by_tests true (Some reply) = starts t a _ (does_after o t AtArrival a) (opens_after o ((Executes a ∷ []) ∷ t) a)
      by_tests true None = waiting_once t a
      by_tests false x = starts t a _ (does_after o t AtArrival a) (opens_after o ((Executes a ∷ []) ∷ t) a)

  immediate_becomes : (t : Trace) (a : Arrival) → is_immediate a.request ≡ true → Becomes t a (with_turns o t (immediate_item o t a))
  immediate_becomes t a is = by_item (immediate_item o t a) refl (immediate_once t a)
    where
      by_item : (item : List Mark) → immediate_item o t a ≡ item → AtOnce t a item → Becomes t a (with_turns o t item)
      by_item item same (Now s) =
          elim_is item (Executes a ∷ marks_done a s.deeds) s.is s.done s.deeds refl
        where
          elim_is : (x y : List Mark) → x ≡ y → IsDone o t AtArrival a s.deeds → (d : Deeds) → y ≡ Executes a ∷ marks_done a s.deeds → Becomes t a (with_turns o t x)
          elim_is x y xy done d yd =
              IsExecuted s.deeds (agenda o (exp_of o t) (exp_of o ((Executes a ∷ marks_done a s.deeds) ∷ t) - exp_of o t) ((Executes a ∷ marks_done a s.deeds) ∷ t)) is done s.opens (ap (with_turns o t) (xy ∙ yd)) (turns t (Executes a ∷ marks_done a s.deeds))
      by_item item same (Later few waits) =
          IsPostponed (agenda o (exp_of o t) (exp_of o ((Waits a ∷ []) ∷ t) - exp_of o t) ((Waits a ∷ []) ∷ t)) is few (ap (with_turns o t) waits) (turns t (Waits a ∷ []))

  numbered_becomes : (t : Trace) (a : Arrival) → is_immediate a.request ≡ false → Becomes t a (numbered o t a)
  numbered_becomes t a is =
      elim (nat_lt a.number (exp_of o t) || nat_lt (max_of o t) a.number) as (λ b. Becomes t a (cond b (ignored Outside) (cond (is_received t a.number) (ignored Duplicate) (with_turns o t (Admits a ∷ []))))) [
        | true ↦ IsIgnored Outside refl
        | false ↦ elim (is_received t a.number) as (λ b. is_received t a.number ≡ b → Becomes t a (cond b (ignored Duplicate) (with_turns o t (Admits a ∷ [])))) [
          | true ↦ λ same. IsIgnored Duplicate refl
          | false ↦ λ new. IsReceived (agenda o (exp_of o t) (exp_of o ((Admits a ∷ []) ∷ t) - exp_of o t) ((Admits a ∷ []) ∷ t)) is new refl (turns t (Admits a ∷ []))
        ] refl
      ]

  pub becomes : (t : Trace) (a : Arrival) → Becomes t a (arrival o t a)
  becomes t a =
      elim (is_closed (connection_of a.request) t) as (λ b. Becomes t a (cond b (ignored Closed) (arrival_open o t a))) [
        | true ↦ IsIgnored Closed refl
        | false ↦ by_kind (kind_of a.request)
      ]
    where
      by_kind : (k : Kind) → Becomes t a (arrival_as o t a k)
      by_kind PassedOver = IsIgnored Data refl
      by_kind Unknown = IsRejected refl
      by_kind ExecutesKind = elim (is_immediate a.request) as (λ b. is_immediate a.request ≡ b → Becomes t a (cond b (with_turns o t (immediate_item o t a)) (numbered o t a))) [
        | true ↦ immediate_becomes t a
        | false ↦ numbered_becomes t a
      ] refl
