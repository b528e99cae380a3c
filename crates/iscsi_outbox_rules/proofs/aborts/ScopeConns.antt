-- Where each event of a session comes on one of its connections, each command that enters came on one.
use Rattle.std.proofs.Common.{◌≡◌, ℕ, zero, suc, ◌+◌, ◌-◌, ◌==◌, ◌&&◌, ◌||◌, not, cond, Bool, true, false, List, [], ◌∷◌, ◌++◌, map, filter, filter_map, Option, Some, None, refl, sym, subst, ◌∙◌, nat_le, nat_lt}
use Rattle.std.specs.List.{list_all, cons_option}
use Rattle.std.proofs.lemmas.Bool.{cond_both}
use Rattle.iscsi_wire.specs.declared.reply.Reply.{Reply}
use Rattle.iscsi_wire.specs.declared.reply.Reply.TheVariants.{Task, Reject}
use Rattle.iscsi_wire.specs.Fields.{connection_of, header_of, is_immediate, opcode, itt, request_of}
use Rattle.iscsi_rules.specs.declared.effect.Why.TheVariants.{Outside, Duplicate, Closed}
use Rattle.iscsi_rules.specs.declared.event.Event.{Event}
use Rattle.iscsi_rules.specs.declared.event.Event.TheVariants.{Arrive, Done}
use Rattle.iscsi_rules.specs.declared.kind.Kind.{Kind}
use Rattle.iscsi_rules.specs.declared.kind.Kind.TheVariants.{PassedOver, Unknown, Executes as ExecutesKind}
use Rattle.iscsi_rules.specs.rules.Settings.{Setting, is_known}
use Rattle.iscsi_rules.specs.rules.Trace.{Arrival, Command, Mark, Admits, Delivers, Executes, Voids, Empties, Waits, Leaves, Enters, Sends, ClosesConn, ClosesSession, Ignores, Trace, after_items, first_of, shown, admits_at, enters, entered, is_received, held, waiting_by, waiting_through, waiting, is_closed}
use Rattle.iscsi_rules.specs.rules.Execution.{exp_of, max_of, ignored, completion, reply_on}
use Rattle.iscsi_rules.specs.rules.Items.{execution, waiting_item, immediate_item, function_item, item_of, is_waiting, functions, functions_at, turn_at, at_number, agenda}
use Rattle.iscsi_rules.specs.rules.Management.{may_wait, refusal_of_function, MOST_WAITING, waiting_on}
use Rattle.iscsi_rules.specs.rules.Agenda.{with_turns, numbered, kind_of, arrival_as, arrival_open, arrival, arrival_of, command_of, belongs}
use Rattle.iscsi_rules.specs.rules.Run.{after_event, after_events, trace_of}
use Rattle.iscsi_rules.proofs.general.BoolLemmas.{and_parts}
use Rattle.iscsi_rules.proofs.traces.TraceLemmas.{after_items-append}
use Rattle.iscsi_rules.proofs.traces.HeldLemmas.{admitted_of_held}
use Rattle.iscsi_rules.proofs.items.Forms.{Start, AtTurn, AtArrival, AfterWaiting, if_some, Deeds, marks_done, Each, EntersAs}
use Rattle.iscsi_rules.proofs.items.FormItems.{Does, does_function, does_after}
use Rattle.iscsi_outbox_rules.proofs.general.EachLemmas.{EachOf, each-append, each-filter}

module _ (o : Setting) where
  abbrev pub IsKnown : Arrival → Type 0
  IsKnown a = is_known (connection_of a.request) o.conns ≡ true

  abbrev MarkKnown : Mark → Type 0
  MarkKnown (Admits a) = IsKnown a
  MarkKnown (Waits a) = IsKnown a
  MarkKnown (Enters c) = IsKnown c.arrival
  MarkKnown _ = Unit {0}

  -- so it is in a trace
  abbrev pub KnownIn : Trace → Type 0
  KnownIn [] = Unit {0}
  KnownIn (item ∷ t) = EachOf MarkKnown item × KnownIn t

  -- ---- what is held, and what waits

  admitted_known : (n : ℕ) (item : List Mark) → EachOf MarkKnown item → EachOf IsKnown (filter_map (admits_at n) item)
  admitted_known n [] h = tt
  admitted_known n (m ∷ item) h = by_mark m h.0 (admitted_known n item h.1)
    where
      by_mark : (x : Mark) → MarkKnown x → EachOf IsKnown (filter_map (admits_at n) item) → EachOf IsKnown (cons_option (admits_at n x) (filter_map (admits_at n) item))
      by_mark (Admits a) k rest = cond_both (a.number == n) (Some a) None (λ (y : Option Arrival). EachOf IsKnown (cons_option y (filter_map (admits_at n) item))) (λ is. (k, rest)) (λ is. rest)
      by_mark (Delivers a) k rest = rest
      by_mark (Executes a) k rest = rest
      by_mark (Voids i) k rest = rest
      by_mark (Empties a) k rest = rest
      by_mark (Waits a) k rest = rest
      by_mark (Leaves c) k rest = rest
      by_mark (Enters c) k rest = rest
      by_mark (Sends conn reply) k rest = rest
      by_mark (ClosesConn conn) k rest = rest
      by_mark ClosesSession k rest = rest
      by_mark (Ignores why) k rest = rest

  all_admitted : (n : ℕ) (t : Trace) → KnownIn t → EachOf IsKnown (shown (admits_at n) t)
  all_admitted n [] h = tt
  all_admitted n (item ∷ t) h = each-append IsKnown (shown (admits_at n) t) (filter_map (admits_at n) item) (all_admitted n t h.1) (admitted_known n item h.0)

  first_known : (as' : List Arrival) (a : Arrival) → first_of as' ≡ Some a → EachOf IsKnown as' → IsKnown a
  first_known [] a is h = absurd cc
  first_known (b ∷ as') a is h = let same : b ≡ a = cc in subst IsKnown same h.0

  held_known : (t : Trace) (n : ℕ) (a : Arrival) → held t n ≡ Some a → KnownIn t → IsKnown a
  held_known t n a is h = first_known (shown (admits_at n) t) a (admitted_of_held t n a is) (all_admitted n t h)

  waits_known : (item : List Mark) (ws : List Arrival) → EachOf MarkKnown item → EachOf IsKnown ws → EachOf IsKnown (waiting_through item ws)
  waits_known [] ws h k = k
  waits_known (m ∷ item) ws h k = waits_known item (waiting_by m ws) h.1 (by_mark m h.0)
    where
      by_mark : (x : Mark) → MarkKnown x → EachOf IsKnown (waiting_by x ws)
      by_mark (Admits a) z = k
      by_mark (Delivers a) z = k
      by_mark (Executes a) z = each-filter IsKnown (λ (b : Arrival). not (b.event == a.event)) ws k
      by_mark (Voids i) z = k
      by_mark (Empties a) z = k
      by_mark (Waits a) z = each-append IsKnown ws (a ∷ []) k (z, tt)
      by_mark (Leaves c) z = k
      by_mark (Enters c) z = k
      by_mark (Sends conn reply) z = k
      by_mark (ClosesConn conn) z = each-filter IsKnown (λ (b : Arrival). not (connection_of b.request == conn)) ws k
      by_mark ClosesSession z = tt
      by_mark (Ignores why) z = k

  pub all_waiting : (t : Trace) → KnownIn t → EachOf IsKnown (waiting t)
  all_waiting [] h = tt
  all_waiting (item ∷ t) h = waits_known item (waiting t) h.0 (all_waiting t h.1)

  -- ---- items

  some_known : {A : Type 0} (f : A → Mark) (x : Option A) → ((y : A) → x ≡ Some y → MarkKnown (f y)) → EachOf MarkKnown (if_some f x)
  some_known f None h = tt
  some_known f (Some y) h = (h y refl, tt)

  map_known : {A : Type 0} (f : A → Mark) (xs : List A) → ((y : A) → MarkKnown (f y)) → EachOf MarkKnown (map f xs)
  map_known f [] h = tt
  map_known f (y ∷ xs) h = (h y, map_known f xs h)

  both_known : (xs ys : List Mark) → EachOf MarkKnown xs → EachOf MarkKnown ys → EachOf MarkKnown (xs ++ ys)
  both_known xs ys h k = each-append MarkKnown xs ys h k

  done_known : (t : Trace) (a : Arrival) (d : Deeds) → IsKnown a → Each (EntersAs o t a d) d.entering → EachOf MarkKnown (marks_done a d)
  done_known t a d known e =
      both_known (if_some Voids d.void) _ (some_known Voids d.void (λ y is. tt))
      (both_known (map Leaves d.leaving) _ (map_known Leaves d.leaving (λ y. tt))
      (both_known (map Empties d.emptied) _ (map_known Empties d.emptied (λ y. tt))
      (both_known (if_some Enters d.entering) _ (some_known Enters d.entering (entering d.entering e))
      (both_known (if_some (Sends (connection_of a.request)) d.reply) _ (some_known (Sends (connection_of a.request)) d.reply (λ y is. tt))
      (both_known (if_some ClosesConn d.closing) _ (some_known ClosesConn d.closing (λ y is. tt)) (ends d.ending))))))
    where
      entering : (x : Option Command) → Each (EntersAs o t a d) x → (y : Command) → x ≡ Some y → IsKnown y.arrival
      entering None f y is = absurd cc
      entering (Some z) f y is = let same : z ≡ y = cc in subst (λ (c : Command). IsKnown c.arrival) (sym f.next ∙ same) known

      ends : (v : Bool) → EachOf MarkKnown (cond v (ClosesSession ∷ []) [])
      ends true = (tt, tt)
      ends false = tt

  does_known : (t : Trace) (start : Start) (a : Arrival) (ms : List Mark) → Does o t start a ms → IsKnown a → EachOf MarkKnown ms
  does_known t start a ms d known = subst (EachOf MarkKnown) (sym d.is) (done_known t a d.deeds known d.done.enters)

  function_known : (t : Trace) (a : Arrival) → IsKnown a → EachOf MarkKnown (function_item o t a)
  function_known t a known = (tt, does_known t AfterWaiting a _ (does_function o t AfterWaiting a) known)

  turn_known : (t : Trace) (a : Arrival) → IsKnown a → EachOf MarkKnown (item_of o t a)
  turn_known t a known = (tt, does_known t AtTurn a _ (does_after o t AtTurn a) known)

  execution_known : (t : Trace) (a : Arrival) → IsKnown a → EachOf MarkKnown (execution o t (Executes a) a)
  execution_known t a known = (tt, does_known t AtArrival a _ (does_after o t AtArrival a) known)

  -- ---- the agenda

  functions_known : (as' : List Arrival) (t : Trace) → EachOf IsKnown as' → KnownIn t → KnownIn (after_items (functions o as' t) t)
  functions_known [] t known h = h
  functions_known (a ∷ as') t known h =
      elim (is_waiting a t) as (λ v. KnownIn (after_items (let due : List (List Mark) = cond v (function_item o t a ∷ []) [] in due ++ functions o as' (after_items due t)) t)) [
        | true ↦ functions_known as' (function_item o t a ∷ t) known.1 (function_known t a known.0, h)
        | false ↦ functions_known as' t known.1 h
      ]

  functions_at_known : (n : ℕ) (t : Trace) → KnownIn t → KnownIn (after_items (functions_at o n t) t)
  functions_at_known n t h = functions_known (filter (λ a. a.number == n) (waiting t)) t (each-filter IsKnown (λ a. a.number == n) (waiting t) (all_waiting t h)) h

  turn_at_known : (n : ℕ) (t : Trace) → KnownIn t → KnownIn (after_items (turn_at o n t) t)
  turn_at_known n t h =
      elim (held t n) as (λ y. held t n ≡ y → KnownIn (after_items (elim y [ Some a ↦ item_of o t a ∷ [] | None ↦ [] ]) t)) [
        | Some a ↦ λ is. (turn_known t a (held_known t n a is h), h)
        | None ↦ λ is. h
      ] refl

  at_number_known : (n : ℕ) (t : Trace) → KnownIn t → KnownIn (after_items (at_number o n t) t)
  at_number_known n t h =
      let before : List (List Mark) = functions_at o n t in
      subst KnownIn (sym (after_items-append before (turn_at o n (after_items before t)) t)) (turn_at_known n (after_items before t) (functions_at_known n t h))

  agenda_known : (n m : ℕ) (t : Trace) → KnownIn t → KnownIn (after_items (agenda o n m t) t)
  agenda_known n zero t h = functions_at_known n t h
  agenda_known n (suc m) t h =
      let due : List (List Mark) = at_number o n t in
      let t' : Trace = after_items due t in
      subst KnownIn (sym (after_items-append due (agenda o (n + 1) m t') t)) (agenda_known (n + 1) m t' (at_number_known n t h))

  -- ---- an event

  turns_known : (t : Trace) (item : List Mark) → EachOf MarkKnown item → KnownIn t → KnownIn (after_items (with_turns o t item) t)
  turns_known t item k h = agenda_known (exp_of o t) (exp_of o (item ∷ t) - exp_of o t) (item ∷ t) (k, h)

  numbered_known : (t : Trace) (a : Arrival) → IsKnown a → KnownIn t → KnownIn (after_items (numbered o t a) t)
  numbered_known t a known h =
      elim (nat_lt a.number (exp_of o t) || nat_lt (max_of o t) a.number) as (λ v. KnownIn (after_items (cond v (ignored Outside) (cond (is_received t a.number) (ignored Duplicate) (with_turns o t (Admits a ∷ [])))) t)) [
        | true ↦ ((tt, tt), h)
        | false ↦ elim (is_received t a.number) as (λ v. KnownIn (after_items (cond v (ignored Duplicate) (with_turns o t (Admits a ∷ []))) t)) [
          | true ↦ ((tt, tt), h)
          | false ↦ turns_known t (Admits a ∷ []) (known, tt) h
        ]
      ]

  waiting_known : (t : Trace) (a : Arrival) → IsKnown a → EachOf MarkKnown (waiting_item o t a)
  waiting_known t a known = by_tests (nat_lt (max_of o t + 1) a.number) (nat_lt (exp_of o t) a.number) (nat_le MOST_WAITING (waiting_on (connection_of a.request) t))
    where
      by_tests : (b c d : Bool)
          → EachOf MarkKnown (cond b (Executes a ∷ reply_on a (Task (itt a.request) 255)) (cond (not c) (execution o t (Executes a) a) (cond d (Executes a ∷ reply_on a (Reject 6 (header_of a.request))) (Waits a ∷ []))))
      by_tests true c d = (tt, (tt, tt))
      by_tests false false d = execution_known t a known
      by_tests false true true = (tt, (tt, tt))
      by_tests false true false = (known, tt)

  immediate_known : (t : Trace) (a : Arrival) → IsKnown a → EachOf MarkKnown (immediate_item o t a)
  immediate_known t a known = by_tests (opcode a.request == 0x02 && may_wait a.request) (refusal_of_function o a.request)
    where
      by_tests : (b : Bool) (x : Option Reply) → EachOf MarkKnown (cond b (elim x [ Some reply ↦ execution o t (Executes a) a | None ↦ waiting_item o t a ]) (execution o t (Executes a) a))
      by_tests true (Some reply) = execution_known t a known
      by_tests true None = waiting_known t a known
      by_tests false x = execution_known t a known

  arrival_known : (t : Trace) (a : Arrival) → IsKnown a → KnownIn t → KnownIn (after_items (arrival o t a) t)
  arrival_known t a known h =
      elim (is_closed (connection_of a.request) t) as (λ v. KnownIn (after_items (cond v (ignored Closed) (arrival_open o t a)) t)) [
        | true ↦ ((tt, tt), h)
        | false ↦ by_kind (kind_of a.request)
      ]
    where
      by_kind : (k : Kind) → KnownIn (after_items (arrival_as o t a k) t)
      by_kind PassedOver = ((tt, tt), h)
      by_kind Unknown = ((tt, tt), h)
      by_kind ExecutesKind =
          elim (is_immediate a.request) as (λ v. KnownIn (after_items (cond v (with_turns o t (immediate_item o t a)) (numbered o t a)) t)) [
            | true ↦ turns_known t (immediate_item o t a) (immediate_known t a known) h
            | false ↦ numbered_known t a known h
          ]

  pub event_known : (now : ℕ) (t : Trace) (e : Event) → belongs o e ≡ true → KnownIn t → KnownIn (after_event o now t e)
  event_known now t (Arrive conn header) known h = arrival_known t (arrival_of o now t (request_of conn header)) known h
  event_known now t (Done ticket status) known h =
      elim (command_of t ticket) as (λ y. KnownIn (after_items (completion status y) t)) [ Some c ↦ ((tt, (tt, tt)), h) | None ↦ ((tt, tt), h) ]

  events_known : (now : ℕ) (t : Trace) (h : List Event) → list_all (belongs o) h ≡ true → KnownIn t → KnownIn (after_events o now t h)
  events_known now t [] all k = k
  events_known now t (e ∷ h) all k = let parts = and_parts (belongs o e) (list_all (belongs o) h) all in events_known (now + 1) (after_event o now t e) h parts.1 (event_known now t e parts.0 k)

  pub trace_known : (h : List Event) → list_all (belongs o) h ≡ true → KnownIn (trace_of o h)
  trace_known h all = events_known 0 [] h all tt

  -- ---- the commands

  entered_known : (item : List Mark) → EachOf MarkKnown item → EachOf (λ (c : Command). IsKnown c.arrival) (filter_map enters item)
  entered_known [] h = tt
  entered_known (m ∷ item) h = by_mark m h.0 (entered_known item h.1)
    where
      by_mark : (x : Mark) → MarkKnown x → EachOf (λ (c : Command). IsKnown c.arrival) (filter_map enters item) → EachOf (λ (c : Command). IsKnown c.arrival) (cons_option (enters x) (filter_map enters item))
      by_mark (Admits a) k rest = rest
      by_mark (Delivers a) k rest = rest
      by_mark (Executes a) k rest = rest
      by_mark (Voids i) k rest = rest
      by_mark (Empties a) k rest = rest
      by_mark (Waits a) k rest = rest
      by_mark (Leaves c) k rest = rest
      by_mark (Enters c) k rest = (k, rest)
      by_mark (Sends conn reply) k rest = rest
      by_mark (ClosesConn conn) k rest = rest
      by_mark ClosesSession k rest = rest
      by_mark (Ignores why) k rest = rest

  pub commands_known : (t : Trace) → KnownIn t → EachOf (λ (c : Command). IsKnown c.arrival) (entered t)
  commands_known [] h = tt
  commands_known (item ∷ t) h = each-append (λ (c : Command). IsKnown c.arrival) (entered t) (filter_map enters item) (commands_known t h.1) (entered_known item h.0)
