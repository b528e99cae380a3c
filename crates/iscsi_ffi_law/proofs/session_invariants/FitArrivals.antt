-- What holds of each request that the session had, where it holds of each that arrives.
use Rattle.std.proofs.Common.{◌≡◌, ℕ, zero, suc, ◌+◌, ◌-◌, ◌==◌, ◌&&◌, ◌||◌, not, cond, Bool, true, false, List, [], ◌∷◌, ◌++◌, filter, filter_map, Option, Some, None, refl, ap, sym, subst, ◌∙◌, nat_lt, nat_le}
use Rattle.iscsi_wire.specs.declared.reply.Reply.{Reply}
use Rattle.iscsi_wire.specs.declared.reply.Reply.TheVariants.{Reject, Task}
use Rattle.iscsi_wire.specs.Fields.{connection_of, header_of, is_immediate, itt, opcode, request_of}
use Rattle.iscsi_rules.specs.declared.effect.Why.{Why}
use Rattle.iscsi_rules.specs.declared.effect.Why.TheVariants.{Closed, Data, Duplicate, Outside, Stale}
use Rattle.iscsi_rules.specs.declared.event.Event.{Event}
use Rattle.iscsi_rules.specs.declared.event.Event.TheVariants.{Arrive, Done}
use Rattle.iscsi_rules.specs.declared.kind.Kind.{Kind}
use Rattle.iscsi_rules.specs.declared.kind.Kind.TheVariants.{Executes as ExecutesKind, PassedOver, Unknown}
use Rattle.iscsi_rules.specs.rules.Agenda.{arrival, arrival_as, arrival_of, arrival_open, command_of, items_of, kind_of, numbered, with_turns}
use Rattle.iscsi_rules.specs.rules.Execution.{completion, exp_of, ignored, max_of, reply_on}
use Rattle.iscsi_rules.specs.rules.Items.{agenda, at_number, execution, function_item, functions, functions_at, immediate_item, is_waiting, item_of, turn_at, waiting_item}
use Rattle.iscsi_rules.specs.rules.Management.{MOST_WAITING, may_wait, refusal_of_function, waiting_on}
use Rattle.iscsi_rules.specs.rules.Settings.{Setting}
use Rattle.iscsi_rules.specs.rules.Trace.{Admits, Arrival, ClosesConn, ClosesSession, Command, Delivers, Empties, Enters, Executes, Ignores, Leaves, Mark, Sends, Trace, Voids, Waits, after_items, entered, enters, held, is_closed, is_received, live, shown, waiting, waiting_through, was_free}
use Rattle.iscsi_rules.proofs.general.ElementLemmas.{first-in, in-filter}
use Rattle.iscsi_rules.proofs.items.FormItems.{Does, does_after, does_function, does_reply}
use Rattle.iscsi_rules.proofs.items.Forms.{AfterWaiting, AtArrival, AtTurn, Completed, Each, EntersAs, Executed, Form, HasForm, Ignored, IsFormed, Postponed, Received, Rejected, Start, Starts, marks_done, marks_of_form, start_mark}
use Rattle.iscsi_rules.proofs.traces.HeldLemmas.{admitted_of_held, held-number}
use Rattle.iscsi_rules.proofs.promises.NumberingLemmas.{to_list, unseen}
use Rattle.iscsi_rules.proofs.promises.ReplyForms.{replies_seen}
use Rattle.iscsi_rules.proofs.promises.ReplyTurns.{admitted_there}
use Rattle.iscsi_rules.proofs.items.TouchLemmas.{entering_in, enters_form}
use Rattle.iscsi_outbox_law.specs.private.Pairs.{EachOf}
use Rattle.iscsi_outbox_law.proofs.general.PairLemmas.{each-append, each-filter, each-weaken}
use Rattle.iscsi_ffi_rules.specs.rules.Needs.{admitted_by}
use Rattle.iscsi_ffi_law.proofs.general.Members.{each_in}

-- of each that it admitted, that waits, or whose command entered
pub record AllAre (Q : Arrival → Type 0) (t : Trace) : Type 0 where
  pub admitted : EachOf Q (shown admitted_by t)
  pub waits : EachOf Q (waiting t)
  pub entered_by : EachOf (λ (c : Command). Q c.arrival) (entered t)

pub all_none : (Q : Arrival → Type 0) → AllAre Q []
all_none Q = record { admitted = tt; waits = tt; entered_by = tt }

pub all_weaken : (Q R : Arrival → Type 0) (t : Trace) → ((a : Arrival) → Q a → R a) → AllAre Q t → AllAre R t
all_weaken Q R t f h = record {
  admitted = each-weaken Q R (shown admitted_by t) f h.admitted;
  waits = each-weaken Q R (waiting t) f h.waits;
  entered_by = each-weaken (λ (c : Command). Q c.arrival) (λ (c : Command). R c.arrival) (entered t) (λ c. f c.arrival) h.entered_by;
}

-- of the request that an item of this form takes, or that executes in it
abbrev pub OfForm : (Arrival → Type 0) → Form → Type 0
OfForm Q (Rejected a) = Q a
OfForm Q (Received a) = Q a
OfForm Q (Postponed a) = Q a
OfForm Q (Executed start a d) = Q a
OfForm Q _ = Unit {0}

pub record IsItemOf (o : Setting) (now : ℕ) (Q : Arrival → Type 0) (t : Trace) (item : List Mark) : Type 0 where
  pub has : HasForm o now t item
  pub of : OfForm Q has.form

-- ---- an item

abbrev pub waits_by : Mark → Option Arrival
waits_by (Waits a) = Some a
waits_by _ = None

pub through : (Q : Arrival → Type 0) (ms : List Mark) (ws : List Arrival) → EachOf Q (filter_map waits_by ms) → EachOf Q ws → EachOf Q (waiting_through ms ws)
through Q [] ws new old = old
through Q (Waits a ∷ ms) ws new old = through Q ms (ws ++ a ∷ []) new.1 (each-append Q ws (a ∷ []) old (new.0, tt))
through Q (Executes a ∷ ms) ws new old = through Q ms (filter (λ b. not (b.event == a.event)) ws) new (each-filter Q (λ b. not (b.event == a.event)) ws old)
through Q (ClosesConn conn ∷ ms) ws new old = through Q ms (filter (λ b. not (connection_of b.request == conn)) ws) new (each-filter Q (λ b. not (connection_of b.request == conn)) ws old)
through Q (ClosesSession ∷ ms) ws new old = through Q ms [] new tt
through Q (Admits a ∷ ms) ws new old = through Q ms ws new old
through Q (Delivers a ∷ ms) ws new old = through Q ms ws new old
through Q (Voids n ∷ ms) ws new old = through Q ms ws new old
through Q (Empties a ∷ ms) ws new old = through Q ms ws new old
through Q (Leaves c ∷ ms) ws new old = through Q ms ws new old
through Q (Enters c ∷ ms) ws new old = through Q ms ws new old
through Q (Sends conn reply ∷ ms) ws new old = through Q ms ws new old
through Q (Ignores why ∷ ms) ws new old = through Q ms ws new old

module _ (o : Setting) (now : ℕ) (Q : Arrival → Type 0) (t : Trace) where
  new_waits : (form : Form) → OfForm Q form → EachOf Q (filter_map waits_by (marks_of_form form))
  new_waits (Ignored why) q = tt
  new_waits (Rejected a) q = tt
  new_waits (Received a) q = tt
  new_waits (Postponed a) q = (q, tt)
  new_waits (Completed c status) q = tt
  new_waits (Executed start a d) q = by_start start
    where
      done : EachOf Q (filter_map waits_by (marks_done a d))
      done =
          subst (EachOf Q) (sym (replies_seen waits_by (λ n. refl) (λ c. refl) (λ b. refl) (λ c. refl) (λ conn. refl) refl a d ∙ unseen waits_by (Sends (connection_of a.request)) d.reply (λ reply. refl))) tt

      by_start : (s : Start) → EachOf Q (filter_map waits_by (start_mark s a ∷ marks_done a d))
      by_start AtTurn = done
      by_start AtArrival = done
      by_start AfterWaiting = done

  new_admitted : (form : Form) → OfForm Q form → EachOf Q (filter_map admitted_by (marks_of_form form))
  new_admitted (Ignored why) q = tt
  new_admitted (Rejected a) q = tt
  new_admitted (Received a) q = (q, tt)
  new_admitted (Postponed a) q = tt
  new_admitted (Completed c status) q = tt
  new_admitted (Executed start a d) q = by_start start
    where
      done : EachOf Q (filter_map admitted_by (marks_done a d))
      done =
          subst (EachOf Q) (sym (replies_seen admitted_by (λ n. refl) (λ c. refl) (λ b. refl) (λ c. refl) (λ conn. refl) refl a d ∙ unseen admitted_by (Sends (connection_of a.request)) d.reply (λ reply. refl))) tt

      by_start : (s : Start) → EachOf Q (filter_map admitted_by (start_mark s a ∷ marks_done a d))
      by_start AtTurn = done
      by_start AtArrival = done
      by_start AfterWaiting = done

  new_entered : (form : Form) → IsFormed o now t form → OfForm Q form → EachOf (λ (c : Command). Q c.arrival) (filter_map enters (marks_of_form form))
  new_entered form formed q = subst (EachOf (λ (c : Command). Q c.arrival)) (sym (enters_form form)) (by_form form formed q)
    where
      by_form : (g : Form) → IsFormed o now t g → OfForm Q g → EachOf (λ (c : Command). Q c.arrival) (to_list (entering_in g))
      by_form (Ignored why) h k = tt
      by_form (Rejected a) h k = tt
      by_form (Received a) h k = tt
      by_form (Postponed a) h k = tt
      by_form (Completed c status) h k = tt
      by_form (Executed start a d) h k = by_entering d.entering h.1.enters
        where
          by_entering : (y : Option Command) → Each (EntersAs o t a d) y → EachOf (λ (c : Command). Q c.arrival) (to_list y)
          by_entering None e = tt
          by_entering (Some c) e = (subst Q (sym (ap (λ (z : Command). z.arrival) e.next)) k, tt)

  pub all_item : (item : List Mark) → IsItemOf o now Q t item → AllAre Q t → AllAre Q (item ∷ t)
  all_item item f h = record {
    admitted = each-append Q (shown admitted_by t) (filter_map admitted_by item) h.admitted (subst (λ ms. EachOf Q (filter_map admitted_by ms)) (sym f.has.is) (new_admitted f.has.form f.of));
    waits = through Q item (waiting t) (subst (λ ms. EachOf Q (filter_map waits_by ms)) (sym f.has.is) (new_waits f.has.form f.of)) h.waits;
    entered_by = each-append (λ (c : Command). Q c.arrival) (entered t) (filter_map enters item) h.entered_by
        (subst (λ ms. EachOf (λ (c : Command). Q c.arrival) (filter_map enters ms)) (sym f.has.is) (new_entered f.has.form f.has.formed f.of));
  }

-- ---- items one after the other

module _ (o : Setting) (now : ℕ) (Q : Arrival → Type 0) where
  -- each is of such a request
  abbrev pub Items : Trace → List (List Mark) → Type 0
  Items t [] = AllAre Q t
  Items t (item ∷ items) = AllAre Q t × IsItemOf o now Q t item × Items (item ∷ t) items

  pub items_end : (t : Trace) (items : List (List Mark)) → Items t items → AllAre Q (after_items items t)
  items_end t [] h = h
  items_end t (item ∷ items) h = items_end (item ∷ t) items h.2

  items_append : (t : Trace) (xs ys : List (List Mark)) → Items t xs → (AllAre Q (after_items xs t) → Items (after_items xs t) ys) → Items t (xs ++ ys)
  items_append t [] ys h k = k h
  items_append t (x ∷ xs) ys h k = (h.0, h.1, items_append (x ∷ t) xs ys h.2 k)

  items_one : (t : Trace) (item : List Mark) → AllAre Q t → IsItemOf o now Q t item → Items t (item ∷ [])
  items_one t item h f = (h, f, all_item o now Q t item f h)

  executed : (t : Trace) (start : Start) (a : Arrival) (ms : List Mark) → Starts now t start a → Q a → Does o t start a ms → IsItemOf o now Q t (start_mark start a ∷ ms)
  executed t start a ms starts q d = record { has = record { form = Executed start a d.deeds; is = ap (λ xs. start_mark start a ∷ xs) d.is; formed = (starts, d.done) }; of = q }

  -- ---- the agenda

  functions_items : (as' : List Arrival) (t : Trace) → EachOf Q as' → AllAre Q t → Items t (functions o as' t)
  functions_items [] t each h = h
  functions_items (a ∷ as') t each h =
      elim (is_waiting a t) as (λ b. is_waiting a t ≡ b → Items t (let due : List (List Mark) = cond b (function_item o t a ∷ []) [] in due ++ functions o as' (after_items due t))) [
        | true ↦ λ is. let f : IsItemOf o now Q t (function_item o t a) = executed t AfterWaiting a _ is each.0 (does_function o t AfterWaiting a) in (h, f, functions_items as' (function_item o t a ∷ t) each.1 (all_item o now Q t (function_item o t a) f h))
        | false ↦ λ is. functions_items as' t each.1 h
      ] refl

  held_is : (t : Trace) (n : ℕ) (a : Arrival) → held t n ≡ Some a → AllAre Q t → Q a
  held_is t n a is h = each_in Q (shown admitted_by t) a (admitted_there n t a (first-in _ a (admitted_of_held t n a is))) h.admitted

  turn_items : (n : ℕ) (t : Trace) → AllAre Q t → Items t (turn_at o n t)
  turn_items n t h =
      elim (held t n) as (λ y. held t n ≡ y → Items t (elim y [ Some a ↦ item_of o t a ∷ [] | None ↦ [] ])) [
        | Some a ↦ λ is. items_one t (item_of o t a) h (executed t AtTurn a _ (ap (held t) (held-number t n a is) ∙ is) (held_is t n a is h) (does_after o t AtTurn a))
        | None ↦ λ is. h
      ] refl

  functions_at_items : (n : ℕ) (t : Trace) → AllAre Q t → Items t (functions_at o n t)
  functions_at_items n t h = functions_items (filter (λ a. a.number == n) (waiting t)) t (each-filter Q (λ a. a.number == n) (waiting t) h.waits) h

  agenda_items : (n m : ℕ) (t : Trace) → AllAre Q t → Items t (agenda o n m t)
  agenda_items n zero t h = functions_at_items n t h
  agenda_items n (suc m) t h =
      let before : List (List Mark) = functions_at o n t in
      let first : List (List Mark) = at_number o n t in
      items_append t first (agenda o (n + 1) m (after_items first t)) (items_append t before (turn_at o n (after_items before t)) (functions_at_items n t h) (turn_items n (after_items before t))) (agenda_items (n + 1) m (after_items first t))

  -- ---- an event

  turns_items : (t : Trace) (item : List Mark) → AllAre Q t → IsItemOf o now Q t item → Items t (with_turns o t item)
  turns_items t item h f = (h, f, agenda_items (exp_of o t) (exp_of o (item ∷ t) - exp_of o t) (item ∷ t) (all_item o now Q t item f h))

  ignored_items : (t : Trace) (why : Why) → AllAre Q t → Items t (ignored why)
  ignored_items t why h = items_one t _ h (record { has = record { form = Ignored why; is = refl; formed = tt }; of = tt })

  module _ (t : Trace) (a : Arrival) (here : a.event ≡ now) (q : Q a) (h : AllAre Q t) where
    executes_now : IsItemOf o now Q t (execution o t (Executes a) a)
    executes_now = executed t AtArrival a _ here q (does_after o t AtArrival a)

    waits_now : IsItemOf o now Q t (waiting_item o t a)
    waits_now = by_tests (nat_lt (max_of o t + 1) a.number) (nat_lt (exp_of o t) a.number) (nat_le MOST_WAITING (waiting_on (connection_of a.request) t))
      where
        by_tests : (b c d : Bool)
            → IsItemOf o now Q t (cond b (Executes a ∷ reply_on a (Task (itt a.request) 255)) (cond (not c) (execution o t (Executes a) a) (cond d (Executes a ∷ reply_on a (Reject 6 (header_of a.request))) (Waits a ∷ []))))
        by_tests true c d = executed t AtArrival a _ here q (does_reply o t AtArrival a (Task (itt a.request) 255) refl)
        by_tests false false d = executes_now
        by_tests false true true = executed t AtArrival a _ here q (does_reply o t AtArrival a (Reject 6 (header_of a.request)) refl)
        by_tests false true false = record { has = record { form = Postponed a; is = refl; formed = here }; of = q }

    immediate_now : IsItemOf o now Q t (immediate_item o t a)
    immediate_now = by_tests (opcode a.request == 0x02 && may_wait a.request) (refusal_of_function o a.request)
      where
        by_tests : (b : Bool) (x : Option Reply) → IsItemOf o now Q t (cond b (elim x [ Some reply ↦ execution o t (Executes a) a | None ↦ waiting_item o t a ]) (execution o t (Executes a) a))
        by_tests true (Some reply) = executes_now
        by_tests true None = waits_now
        by_tests false x = executes_now

    numbered_items : Items t (numbered o t a)
    numbered_items =
        elim (nat_lt a.number (exp_of o t) || nat_lt (max_of o t) a.number) as (λ b. Items t (cond b (ignored Outside) (cond (is_received t a.number) (ignored Duplicate) (with_turns o t (Admits a ∷ []))))) [
          | true ↦ ignored_items t Outside h
          | false ↦ elim (is_received t a.number) as (λ b. is_received t a.number ≡ b → Items t (cond b (ignored Duplicate) (with_turns o t (Admits a ∷ [])))) [
            | true ↦ λ is. ignored_items t Duplicate h
            | false ↦ λ is. turns_items t (Admits a ∷ []) h (record { has = record { form = Received a; is = refl; formed = (here, is) }; of = q })
          ] refl
        ]

    arrival_items : Items t (arrival o t a)
    arrival_items =
        elim (is_closed (connection_of a.request) t) as (λ b. Items t (cond b (ignored Closed) (arrival_open o t a))) [
          | true ↦ ignored_items t Closed h
          | false ↦ by_kind (kind_of a.request)
        ]
      where
        by_kind : (k : Kind) → Items t (arrival_as o t a k)
        by_kind PassedOver = ignored_items t Data h
        by_kind Unknown = items_one t _ h (record { has = record { form = Rejected a; is = refl; formed = tt }; of = q })
        by_kind ExecutesKind =
            elim (is_immediate a.request) as (λ b. Items t (cond b (with_turns o t (immediate_item o t a)) (numbered o t a))) [
              | true ↦ turns_items t (immediate_item o t a) h immediate_now
              | false ↦ numbered_items
            ]

  -- of the request that arrives
  abbrev pub OfEvent : Trace → Event → Type 0
  OfEvent t (Arrive conn header) = Q (arrival_of o now t (request_of conn header))
  OfEvent t (Done ticket status) = Unit {0}

  pub event_items : (t : Trace) (e : Event) → OfEvent t e → AllAre Q t → Items t (items_of o now t e)
  event_items t (Arrive conn header) q h = arrival_items t (arrival_of o now t (request_of conn header)) refl q h
  event_items t (Done ticket status) q h = by_command (command_of t ticket) refl
    where
      by_command : (y : Option Command) → command_of t ticket ≡ y → Items t (completion status y)
      by_command None is = ignored_items t Stale h
      by_command (Some c) is =
          items_one t _ h (record { has = record { form = Completed c status; is = refl; formed = (in-filter (λ (d : Command). d.ticket == ticket && was_free d t) (live t) c (first-in _ c is)).0 }; of = tt })
