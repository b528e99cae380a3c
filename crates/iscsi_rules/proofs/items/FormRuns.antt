-- In the trace of a list of events each item has a form, and stands where it is due: the one walk over the agenda.
use Rattle.std.proofs.Common.{◌≡◌, ℕ, zero, suc, ◌+◌, ◌-◌, ◌<◌, ◌≤◌, ◌==◌, ◌&&◌, ◌||◌, inl, inr, not, cond, Bool, true, false, List, [], ◌∷◌, ◌++◌, filter, length, Option, Some, None, refl, ap, sym, subst, ◌∙◌, arith, nat_lt, nat_le}
use Rattle.std.proofs.lemmas.Bool.{eqb-true, false≢true, cond_both}
use Rattle.iscsi_wire.specs.Fields.{connection_of, function, header_of, is_immediate, opcode, itt, request_of}
use Rattle.iscsi_wire.specs.declared.reply.Reply.{Reply}
use Rattle.iscsi_wire.specs.declared.reply.Reply.TheVariants.{Task, Reject}
use Rattle.iscsi_rules.specs.declared.effect.Why.{Why}
use Rattle.iscsi_rules.specs.declared.effect.Why.TheVariants.{Outside, Duplicate, Closed, Data, Stale}
use Rattle.iscsi_rules.specs.declared.event.Event.{Event}
use Rattle.iscsi_rules.specs.declared.event.Event.TheVariants.{Arrive, Done}
use Rattle.iscsi_rules.specs.declared.kind.Kind.{Kind}
use Rattle.iscsi_rules.specs.declared.kind.Kind.TheVariants.{PassedOver, Unknown, Executes as ExecutesKind}
use Rattle.iscsi_rules.specs.rules.Settings.{Setting}
use Rattle.iscsi_rules.specs.rules.Trace.{Arrival, Command, Mark, Admits, Executes, Ignores, Waits, Trace, after_items, is_received, held, waiting, live, was_free, is_closed}
use Rattle.iscsi_rules.specs.rules.Execution.{exp_of, max_of, rejected, ignored, completion, reply_on}
use Rattle.iscsi_rules.specs.rules.Items.{execution, waiting_item, immediate_item, function_item, item_of, is_waiting, functions, functions_at, turn_at, at_number, agenda}
use Rattle.iscsi_rules.specs.rules.Management.{may_wait, refusal_of_function, MOST_WAITING, waiting_on}
use Rattle.iscsi_rules.specs.rules.Agenda.{with_turns, numbered, kind_of, arrival_as, arrival, arrival_of, command_of, items_of}
use Rattle.iscsi_rules.specs.rules.Run.{after_event, after_events, trace_of}
use Rattle.iscsi_rules.specs.promises.Aborts.{is_set_abort, is_abort, is_complete}
use Rattle.iscsi_rules.specs.promises.Answers.{Answers}
use Rattle.iscsi_rules.proofs.general.BoolLemmas.{and_both, and_false, and_first}
use Rattle.iscsi_rules.proofs.general.ElementLemmas.{In, in-filter, first-in}
use Rattle.iscsi_rules.proofs.traces.HeldLemmas.{held-number}
use Rattle.iscsi_rules.proofs.general.Missing.{exp_item}
use Rattle.iscsi_rules.proofs.items.WaitingItems.{still_in}
use Rattle.iscsi_rules.proofs.items.Forms.{Start, AtTurn, AtArrival, AfterWaiting, start_mark, Deeds, idle, Form, Ignored, Rejected, Received, Postponed, Completed, Executed, Starts, begun, is_completed_by, Sweeps, HasForm, is_arrival, is_turn, HaveForms}
use Rattle.iscsi_rules.proofs.items.FormItems.{Does, function_does, any_does, reply_done}

-- ---- where an item stands: at a place in the order of numbers

-- an abort of a whole set that is completed stands at its number or later, and takes out what it covers
abbrev pub Reaches : Setting → ℕ → Trace → Start → Arrival → Deeds → Type 0
Reaches o p t start a d = is_abort a.request ≡ true → is_set_abort a.request ≡ true → is_completed_by a d ≡ true → (a.number ≤ p) × Sweeps o (begun start a t) a d

-- Q holds of each arrival that isn't passed over
module _ (Q : Trace → Arrival → Type 0) (o : Setting) (now : ℕ) where
  -- what is due at the place p
  abbrev pub IsDue : ℕ → Trace → Start → Arrival → Type 0
  IsDue p t AtTurn a = a.number ≡ p
  IsDue p t AtArrival a = Q t a
  IsDue p t AfterWaiting a = (a.number ≡ p) × In a (waiting t)

  abbrev pub StandsAt : ℕ → Trace → Form → Type 0
  StandsAt p t (Ignored why) = Unit {0}
  StandsAt p t (Rejected a) = Q t a
  StandsAt p t (Received a) = Q t a × ((exp_of o t ≤ a.number) × (a.number ≤ max_of o t))
  StandsAt p t (Postponed a) = Q t a
  StandsAt p t (Completed c status) = Unit {0}
  StandsAt p t (Executed start a d) = IsDue p t start a × Reaches o p t start a d

  pub record Stands (p : ℕ) (t : Trace) (item : List Mark) : Type 0 where
    pub has : HasForm o now t item
    pub at : StandsAt p t has.form

  -- the items from p to e, in the event that has begun
  abbrev pub Turns : ℕ → ℕ → Trace → List (List Mark) → Type 0
  Turns p e t [] = p ≤ e
  Turns p e t (item ∷ items) = (q : ℕ) × ((p ≤ q) × ((s : Stands q t item) × ((is_turn s.has.form ≡ true) × Turns q e (item ∷ t) items)))

  -- the items of an event: the first one stands at ExpCmdSN
  abbrev pub TurnsOf : Trace → List (List Mark) → Type 0
  TurnsOf t [] = ⊥
  TurnsOf t (item ∷ items) = Stands (exp_of o t) t item × Turns (exp_of o t) (exp_of o (item ∷ t)) (item ∷ t) items

  -- ---- the agenda

  turns-append : (p q e : ℕ) (t : Trace) (xs ys : List (List Mark)) → Turns p q t xs → Turns q e (after_items xs t) ys → Turns p e t (xs ++ ys)
  turns-append p q e t [] [] x y = omega (arith, x, y)
  turns-append p q e t [] (item ∷ ys) x y = (y.0, ((let z : p ≤ y.0 = omega (arith, x, y.1.0) in z), y.1.1))
  turns-append p q e t (item ∷ xs) ys x y = (x.0, (x.1.0, (x.1.1.0, (x.1.1.1.0, turns-append x.0 q e (item ∷ t) xs ys x.1.1.1.1 y))))

  abbrev executed : (p : ℕ) (t : Trace) (start : Start) (a : Arrival) (ms : List Mark) → Starts now t start a → IsDue p t start a → (d : Does o t start a ms) → Reaches o p t start a d.deeds → Stands p t (start_mark start a ∷ ms)
  executed p t start a ms starts due d reaches = record { has = record { form = Executed start a d.deeds; is = ap (λ xs. start_mark start a ∷ xs) d.is; formed = (starts, d.done) }; at = (due, reaches) }

  -- an item that has its turn at n, and those after it
  turn_first : (n e : ℕ) (t : Trace) (item : List Mark) (items : List (List Mark)) (s : Stands n t item) → is_turn s.has.form ≡ true → Turns n e (item ∷ t) items → Turns n e t (item ∷ items)
  turn_first n e t item items s turn rest = (n, ((let z : n ≤ n = omega arith in z), (s, (turn, rest))))

  -- the functions of a number, which are due at it
  functions_stand : (n e : ℕ) (as' : List Arrival) (t : Trace) → n ≤ e → ((a : Arrival) → In a as' → (a.number ≡ n) × (is_waiting a t ≡ true → In a (waiting t))) → Turns n e t (functions o as' t)
  functions_stand n e [] t last wait = last
  functions_stand n e (a ∷ as') t last wait =
      elim (is_waiting a t) as (λ b. is_waiting a t ≡ b → Turns n e t (let due : List (List Mark) = cond b (function_item o t a ∷ []) [] in due ++ functions o as' (after_items due t))) [
        | true ↦ λ is.
            let here = wait a (inl refl) in
            let number : a.number ≡ n = here.0 in
            let f = function_does o t AfterWaiting a in
            turn_first n e t _ _ (executed n t AfterWaiting a _ is (number, here.1 is) f.does (λ aborts set done. ((let z : a.number ≤ n = omega (arith, number) in z), f.sweeps set done))) refl
            (functions_stand n e as' (function_item o t a ∷ t) last (λ x later. let there = wait x (inr later) in (there.0, still_in o t a x there.1)))
        | false ↦ λ is. functions_stand n e as' t last (λ x later. wait x (inr later))
      ] refl

  functions_at_stand : (n e : ℕ) (t : Trace) → n ≤ e → Turns n e t (functions_at o n t)
  functions_at_stand n e t last = functions_stand n e (filter (λ a. a.number == n) (waiting t)) t last (λ a h. let there = in-filter (λ (b : Arrival). b.number == n) (waiting t) a h in (eqb-true a.number n there.1, λ waits. there.0))

  turn_stands : (n e : ℕ) (t : Trace) → n ≤ e → Turns n e t (turn_at o n t)
  turn_stands n e t last =
      elim (held t n) as (λ y. held t n ≡ y → Turns n e t (elim y [ Some a ↦ item_of o t a ∷ [] | None ↦ [] ])) [
        | Some a ↦ λ is.
            let number : a.number ≡ n = held-number t n a is in
            let x = any_does o t AtTurn a in
            turn_first n e t _ [] (executed n t AtTurn a _ (ap (held t) number ∙ is) number x.does (λ aborts set done. ((let z : a.number ≤ n = omega (arith, number) in z), x.sweeps aborts set done))) refl last
        | None ↦ λ is. last
      ] refl

  agenda_stands : (n m e : ℕ) (t : Trace) → n + m ≤ e → Turns n e t (agenda o n m t)
  agenda_stands n zero e t last = functions_at_stand n e t (omega (arith, last))
  agenda_stands n (suc m) e t last =
      let first : List (List Mark) = functions_at o n t in
      let due : List (List Mark) = at_number o n t in
      turns-append n (n + 1) e t due (agenda o (n + 1) m (after_items due t))
      (turns-append n n (n + 1) t first (turn_at o n (after_items first t)) (functions_at_stand n n t (omega arith)) (turn_stands n (n + 1) (after_items first t) (omega arith)))
      (agenda_stands (n + 1) m e (after_items due t) (omega (arith, last)))

  -- ---- an event

  alone : (t : Trace) (item : List Mark) → Stands (exp_of o t) t item → TurnsOf t (item ∷ [])
  alone t item s = (s, exp_item o item t)

  turns_stand : (t : Trace) (item : List Mark) → Stands (exp_of o t) t item → TurnsOf t (with_turns o t item)
  turns_stand t item s = (s, agenda_stands (exp_of o t) (exp_of o (item ∷ t) - exp_of o t) (exp_of o (item ∷ t)) (item ∷ t) (omega (arith, exp_item o item t)))

  ignored_stands : (t : Trace) (why : Why) → TurnsOf t (ignored why)
  ignored_stands t why = alone t (Ignores why ∷ []) (record { has = record { form = Ignored why; is = refl; formed = tt }; at = tt })

  numbered_stands : (t : Trace) (a : Arrival) → a.event ≡ now → Q t a → TurnsOf t (numbered o t a)
  numbered_stands t a here q =
      cond_both (nat_lt a.number (exp_of o t) || nat_lt (max_of o t) a.number) _ _ (TurnsOf t) (λ outside. ignored_stands t Outside) (λ inside.
      cond_both (is_received t a.number) _ _ (TurnsOf t) (λ is. ignored_stands t Duplicate) (λ new.
      turns_stand t (Admits a ∷ []) (record { has = record { form = Received a; is = refl; formed = (here, new) }; at = (q, in_window inside) })))
    where
      in_window : (nat_lt a.number (exp_of o t) || nat_lt (max_of o t) a.number) ≡ false → (exp_of o t ≤ a.number) × (a.number ≤ max_of o t)
      in_window inside = grind arith

  -- a request that executes as it arrives
  starts_at_once : (t : Trace) (a : Arrival) → a.event ≡ now → Q t a → (is_abort a.request ≡ true → is_set_abort a.request ≡ true → is_completed_by a (any_does o t AtArrival a).does.deeds ≡ true → a.number ≤ exp_of o t) → Stands (exp_of o t) t (execution o t (Executes a) a)
  starts_at_once t a here q reaches = let x = any_does o t AtArrival a in executed (exp_of o t) t AtArrival a _ here q x.does (λ aborts set done. (reaches aborts set done, x.sweeps aborts set done))

  refused_stands : (t : Trace) (a : Arrival) (reply : Reply) → a.event ≡ now → Q t a → Answers a.request reply → is_complete (itt a.request) reply ≡ false → Stands (exp_of o t) t (Executes a ∷ reply_on a reply)
  refused_stands t a reply here q fits incomplete =
      executed (exp_of o t) t AtArrival a _ here q (record { deeds = record idle { reply = Some reply }; is = refl; done = reply_done o t AtArrival a reply fits }) (λ aborts set done. absurd (false≢true (sym incomplete ∙ done)))

  waiting_stands : (t : Trace) (a : Arrival) → a.event ≡ now → Q t a → Stands (exp_of o t) t (waiting_item o t a)
  waiting_stands t a here q = by_tests (nat_lt (max_of o t + 1) a.number) (nat_lt (exp_of o t) a.number) refl (nat_le MOST_WAITING (waiting_on (connection_of a.request) t))
    where
      by_tests : (b c : Bool) → nat_lt (exp_of o t) a.number ≡ c → (d : Bool)
          → Stands (exp_of o t) t (cond b (Executes a ∷ reply_on a (Task (itt a.request) 255)) (cond (not c) (execution o t (Executes a) a) (cond d (Executes a ∷ reply_on a (Reject 6 (header_of a.request))) (Waits a ∷ []))))
      by_tests true c is d = refused_stands t a (Task (itt a.request) 255) here q refl (and_false (itt a.request == itt a.request))
      by_tests false false is d = starts_at_once t a here q (λ aborts set done. let by : a.number ≤ exp_of o t = grind arith in by)
      by_tests false true is true = refused_stands t a (Reject 6 (header_of a.request)) here q refl refl
      by_tests false true is false = record { has = record { form = Postponed a; is = refl; formed = here }; at = q }

  pub immediate_stands : (t : Trace) (a : Arrival) → a.event ≡ now → Q t a → is_immediate a.request ≡ true → Stands (exp_of o t) t (immediate_item o t a)
  immediate_stands t a here q at_once = by_tests (opcode a.request == 0x02 && may_wait a.request) (refusal_of_function o a.request) refl refl
    where
      by_tests : (b : Bool) (x : Option Reply) → (opcode a.request == 0x02 && may_wait a.request) ≡ b → refusal_of_function o a.request ≡ x
          → Stands (exp_of o t) t (cond b (elim x [ Some reply ↦ execution o t (Executes a) a | None ↦ waiting_item o t a ]) (execution o t (Executes a) a))
      by_tests true (Some reply) may is = starts_at_once t a here q (λ aborts set done. let none : None ≡ Some reply = sym ((any_does o t AtArrival a).accepted aborts done) ∙ is in absurd cc)
      by_tests true None may is = waiting_stands t a here q
      by_tests false x may is = starts_at_once t a here q (λ aborts set done.
          absurd (false≢true (sym may ∙ and_both (opcode a.request == 0x02) (may_wait a.request) (and_first (opcode a.request == 0x02) (function a.request == 1 || is_set_abort a.request) aborts) (and_both (is_immediate a.request) (is_set_abort a.request) at_once set))))

  arrival_stands : (t : Trace) (a : Arrival) → a.event ≡ now → (is_closed (connection_of a.request) t ≡ false → Q t a) → TurnsOf t (arrival o t a)
  arrival_stands t a here comes =
      cond_both (is_closed (connection_of a.request) t) _ _ (TurnsOf t) (λ is. ignored_stands t Closed) (λ is. by_kind (comes is) (kind_of a.request))
    where
      by_kind : Q t a → (k : Kind) → TurnsOf t (arrival_as o t a k)
      by_kind q PassedOver = ignored_stands t Data
      by_kind q Unknown = alone t (rejected a) (record { has = record { form = Rejected a; is = refl; formed = tt }; at = q })
      by_kind q ExecutesKind =
          cond_both (is_immediate a.request) _ _ (TurnsOf t)
          (λ is. turns_stand t (immediate_item o t a) (immediate_stands t a here q is)) (λ is. numbered_stands t a here q)

  completion_stands : (t : Trace) (ticket status : ℕ) → TurnsOf t (completion status (command_of t ticket))
  completion_stands t ticket status = by_command (command_of t ticket) refl
    where
      by_command : (y : Option Command) → command_of t ticket ≡ y → TurnsOf t (completion status y)
      by_command None is = ignored_stands t Stale
      by_command (Some c) is =
          alone t _ (record { has = record { form = Completed c status; is = refl; formed = (in-filter (λ (d : Command). d.ticket == ticket && was_free d t) (live t) c (first-in _ c is)).0 }; at = tt })

  -- so it is with what the event brings
  abbrev pub Brings : Trace → Event → Type 0
  Brings t (Arrive conn header) = let a : Arrival = arrival_of o now t (request_of conn header) in is_closed (connection_of a.request) t ≡ false → Q t a
  Brings t (Done ticket status) = Unit {0}

  pub event_stands : (t : Trace) (e : Event) → Brings t e → TurnsOf t (items_of o now t e)
  event_stands t (Arrive conn header) comes = arrival_stands t (arrival_of o now t (request_of conn header)) refl comes
  event_stands t (Done ticket status) comes = completion_stands t ticket status

-- ---- the trace

-- of any arrival
abbrev pub AnyArrival : Trace → Arrival → Type 0
AnyArrival t a = Unit {0}

pub any_brought : (o : Setting) (now : ℕ) (t : Trace) (e : Event) → Brings AnyArrival o now t e
any_brought o now t e = grind arith

HaveForms-on : (o : Setting) (p q : ℕ) (t : Trace) → p ≤ q → HaveForms o p t → HaveForms o q t
HaveForms-on o p q [] on x = tt
HaveForms-on o p q (item ∷ t) on x = (x.0, ((let z : x.0 < q = omega (arith, x.1.0) in z), x.1.1))

-- an item that has its turn begins no arrival
turn_arrives_not : (form : Form) → is_turn form ≡ true → is_arrival form ≡ false
turn_arrives_not form h = grind arith

-- one item more: the first of its event, or one that has its turn
HaveForms-more : (o : Setting) (now : ℕ) (t : Trace) (item : List Mark) (f : HasForm o now t item) → HaveForms o (cond (is_arrival f.form) now (now + 1)) t → HaveForms o (now + 1) (item ∷ t)
HaveForms-more o now t item f x = (now, ((let z : now < now + 1 = omega arith in z), (f, x)))

turns_going : (o : Setting) (now p e : ℕ) (t : Trace) (items : List (List Mark)) → Turns AnyArrival o now p e t items → HaveForms o (now + 1) t → HaveForms o (now + 1) (after_items items t)
turns_going o now p e t [] s x = x
turns_going o now p e t (item ∷ items) s x =
    let f : HasForm o now t item = s.1.1.0.has in
    turns_going o now s.0 e (item ∷ t) items s.1.1.1.1 (HaveForms-more o now t item f (subst (λ b. HaveForms o (cond b now (now + 1)) t) (sym (turn_arrives_not f.form s.1.1.1.0)) x))

pub event_going : (o : Setting) (now : ℕ) (t : Trace) (e : Event) → HaveForms o now t → HaveForms o (now + 1) (after_event o now t e)
event_going o now t e x = by_items (items_of o now t e) (event_stands AnyArrival o now t e (any_brought o now t e))
  where
    by_items : (items : List (List Mark)) → TurnsOf AnyArrival o now t items → HaveForms o (now + 1) (after_items items t)
    by_items items s = grind (arith, turns_going, HaveForms-on)

events_have_forms : (o : Setting) (now : ℕ) (t : Trace) (h : List Event) → HaveForms o now t → HaveForms o (now + length h) (after_events o now t h)
events_have_forms o now t [] x = HaveForms-on o now (now + 0) t (omega arith) x
events_have_forms o now t (e ∷ h) x = grind (arith, events_have_forms o (now + 1) (after_event o now t e) h, event_going)

-- each item of the trace of these events has a form
pub trace_has_forms : (o : Setting) (h : List Event) → HaveForms o (length h) (trace_of o h)
trace_has_forms o h = HaveForms-on o (0 + length h) (length h) (trace_of o h) (omega arith) (events_have_forms o 0 [] h tt)
