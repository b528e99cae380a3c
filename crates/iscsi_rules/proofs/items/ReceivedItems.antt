-- Which numbers an event and its items receive: none, or one.
use Rattle.std.proofs.Common.{arith, Bool, List, ℕ, [], ◌∷◌, ◌≡◌, ◌⊎◌, ◌++◌, refl, ◌&&◌, cond, false, inl, true, ap, None, Some, ◌==◌, ◌∙◌, sym, subst, ◌||◌}
use Rattle.std.specs.List.{filter_map, list_all}
use Rattle.std.proofs.lemmas.List.{append-nil}
use Rattle.std.proofs.lemmas.Bool.Decides.{nat_tests}
use Rattle.iscsi_wire.specs.Fields.{is_immediate, function, opcode}
use Rattle.iscsi_wire.specs.declared.request.Request.{Request}
use Rattle.iscsi_rules.specs.rules.Trace.{Executes, Mark, number_received, Arrival, Trace, Voids, after_items, received}
use Rattle.iscsi_rules.specs.rules.Execution.{ignored}
use Rattle.iscsi_rules.specs.rules.Settings.{Setting}
use Rattle.iscsi_rules.specs.rules.Management.{may_wait, refusal_of_function}
use Rattle.iscsi_rules.specs.rules.Items.{execution, function_item, item_of, waiting_item, immediate_item, functions, is_waiting}
use Rattle.iscsi_rules.specs.promises.Flow.{HasOneMore}
use Rattle.iscsi_rules.specs.declared.kind.Kind.TheVariants.{Executes as ExecutesKind}
use Rattle.iscsi_rules.specs.rules.Agenda.{arrival_open, kind_of, arrival_of, numbered}
use Rattle.iscsi_rules.specs.declared.effect.Why.{Why}
use Rattle.iscsi_rules.proofs.general.BoolLemmas.{and_false, and_parts}
use Rattle.iscsi_rules.proofs.items.Forms.{Start, AtTurn, AtArrival, AfterWaiting, start_mark, Deeds, if_some, marks_done, Form, marks_of_form}
use Rattle.iscsi_rules.proofs.items.FormItems.{Does, does_function, does_after}
use Rattle.iscsi_rules.proofs.items.FormRuns.{AnyArrival, immediate_stands}
use Rattle.iscsi_rules.proofs.items.DeedLemmas.{views}

abbrev received_by : List Mark → List ℕ
received_by item = filter_map number_received item

-- no number, or one
abbrev pub AtMostOne : List ℕ → Type 0
AtMostOne ns = (ns ≡ []) ⊎ ((n : ℕ) × (ns ≡ n ∷ []))

-- ---- items

-- a request that executes receives what it voids
executed_receives : (start : Start) (a : Arrival) (d : Deeds) → received_by (start_mark start a ∷ marks_done a d) ≡ received_by (if_some Voids d.void)
executed_receives start a d = by_start start
  where
    done : received_by (marks_done a d) ≡ received_by (if_some Voids d.void)
    done = simp views

    by_start : (s : Start) → received_by (start_mark s a ∷ marks_done a d) ≡ received_by (if_some Voids d.void)
    by_start s = grind (arith, nat_tests, done)

-- none, where it is no immediate ABORT TASK
receives_none : (o : Setting) (t : Trace) (start : Start) (a : Arrival) (ms : List Mark) → Does o t start a ms → (is_immediate a.request && (function a.request == 1)) ≡ false → received_by (start_mark start a ∷ ms) ≡ []
receives_none o t start a ms d other = grind (arith, executed_receives)

one_received : (form : Form) → AtMostOne (received_by (marks_of_form form))
one_received form = grind (arith, executed_receives)

-- a function that waits is no ABORT TASK
pub no_abort_task : (r : Request) → may_wait r ≡ true → (function r == 1) ≡ false
no_abort_task r may = grind arith

pub function_receives_none : (o : Setting) (t : Trace) (a : Arrival) → may_wait a.request ≡ true → received_by (function_item o t a) ≡ []
function_receives_none o t a may =
    receives_none o t AfterWaiting a _ (does_function o t AfterWaiting a) (ap (λ b. is_immediate a.request && b) (no_abort_task a.request may) ∙ and_false (is_immediate a.request))

-- a numbered request's turn
pub turn_receives_none : (o : Setting) (t : Trace) (a : Arrival) → is_immediate a.request ≡ false → received_by (item_of o t a) ≡ []
turn_receives_none o t a numbered = receives_none o t AtTurn a _ (does_after o t AtTurn a) (ap (λ b. b && (function a.request == 1)) numbered)

-- an immediate request's arrival
pub immediate_receives_one : (o : Setting) (t : Trace) (a : Arrival) → AtMostOne (received_by (immediate_item o t a))
immediate_receives_one o t a = by_test (is_immediate a.request) refl
  where
    by_test : (b : Bool) → is_immediate a.request ≡ b → AtMostOne (received_by (immediate_item o t a))
    by_test true is = let s = immediate_stands AnyArrival o a.event t a refl tt is in subst (λ ms. AtMostOne (received_by ms)) (sym s.has.is) (one_received s.has.form)
    by_test false is =
        let never : (opcode a.request == 0x02 && may_wait a.request) ≡ false = ap (λ b. opcode a.request == 0x02 && (b && (function a.request == 2 || function a.request == 4 || function a.request == 5))) is ∙ and_false (opcode a.request == 0x02) in
        subst (λ b. AtMostOne (received_by (cond b (elim (refusal_of_function o a.request) [ Some reply ↦ execution o t (Executes a) a | None ↦ waiting_item o t a ]) (execution o t (Executes a) a)))) (sym never)
        (inl (receives_none o t AtArrival a _ (does_after o t AtArrival a) (ap (λ b. b && (function a.request == 1)) is)))

-- ---- an arrival that isn't numbered

-- what isn't received
pub ignored_receives : (t : Trace) (items : List (List Mark)) (why : Why) → items ≡ ignored why → HasOneMore (received t) (received (after_items items t))
ignored_receives t items why is = inl (ap (λ (is : List (List Mark)). received (after_items is t)) is ∙ append-nil (received t))

-- it is numbered
pub is_numbered_arrival : (o : Setting) (index : ℕ) (t : Trace) (r : Request) → kind_of r ≡ ExecutesKind → is_immediate r ≡ false → arrival_open o t (arrival_of o index t r) ≡ numbered o t (arrival_of o index t r)
is_numbered_arrival o index t r kind numbered_is = grind arith

-- ---- the functions of the next number

-- the functions of a number receive none
pub functions_receive_none : (o : Setting) (as' : List Arrival) (t : Trace) → list_all (λ a. may_wait a.request) as' ≡ true → received (after_items (functions o as' t) t) ≡ received t
functions_receive_none o [] t may = refl
functions_receive_none o (a ∷ as') t may =
    let parts = and_parts (may_wait a.request) (list_all (λ b. may_wait b.request) as') may in
    elim (is_waiting a t) as (λ b. received (after_items (let now : List (List Mark) = cond b (function_item o t a ∷ []) [] in now ++ functions o as' (after_items now t)) t) ≡ received t) [
      | true ↦ functions_receive_none o as' (function_item o t a ∷ t) parts.1 ∙ ap (λ ns. received t ++ ns) (function_receives_none o t a parts.0) ∙ append-nil (received t)
      | false ↦ functions_receive_none o as' t parts.1
    ]

-- ---- who waits

-- a function that may wait is immediate, and no ABORT TASK
pub may_immediate : (r : Request) → may_wait r ≡ true → is_immediate r ≡ true
may_immediate r may = (and_parts (is_immediate r) (function r == 2 || function r == 4 || function r == 5) may).0
