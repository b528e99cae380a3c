-- The limits of a session hold after each of its events.
use Rattle.std.proofs.Common.{◌≡◌, ℕ, zero, suc, ◌+◌, ◌-◌, ◌≤◌, ◌<◌, ◌==◌, ◌&&◌, ◌||◌, ◌⊎◌, ⊎_elim, inl, inr, not, cond, Bool, true, false, List, [], ◌∷◌, ◌++◌, filter, filter_map, count_by, Option, Some, None, refl, ap, sym, ◌∙◌, subst, arith, nat_le, nat_lt}
use Rattle.std.proofs.lemmas.Bool.{false≢true, eqb-true, cases_lt, ne_eqb}
use Rattle.std.proofs.lemmas.Bool.Decides.{nat_tests}
use Rattle.iscsi_wire.specs.declared.reply.Reply.{Reply}
use Rattle.iscsi_wire.specs.declared.reply.Reply.TheVariants.{Scsi, Task, Reject}
use Rattle.iscsi_wire.specs.Fields.{connection_of, header_of, is_immediate, opcode, itt, request_of}
use Rattle.iscsi_rules.specs.declared.effect.Why.{Why}
use Rattle.iscsi_rules.specs.declared.effect.Why.TheVariants.{Outside, Duplicate, Closed, Data, Stale}
use Rattle.iscsi_rules.specs.declared.event.Event.{Event}
use Rattle.iscsi_rules.specs.declared.event.Event.TheVariants.{Arrive, Done}
use Rattle.iscsi_rules.specs.declared.kind.Kind.{Kind}
use Rattle.iscsi_rules.specs.declared.kind.Kind.TheVariants.{PassedOver, Unknown, Executes as ExecutesKind}
use Rattle.iscsi_rules.specs.rules.Deeds.{marks_after}
use Rattle.iscsi_rules.specs.rules.Settings.{Setting}
use Rattle.iscsi_rules.specs.rules.Trace.{Arrival, Command, Mark, Admits, Delivers, Executes, Waits, Leaves, Ignores, Trace, after_items, number_received, received, is_received, admits_at, held, waiting, live, was_free, is_closed}
use Rattle.iscsi_rules.specs.rules.Execution.{exp_of, max_of, unfinished, live_immediate, rejected, ignored, completion, reply_on, sense_of_status}
use Rattle.iscsi_rules.specs.rules.Management.{may_wait, refusal_of_function, MOST_WAITING, waiting_on}
use Rattle.iscsi_rules.specs.rules.Items.{execution, waiting_item, immediate_item, function_item, item_of, is_waiting, functions, functions_at, turn_at, at_number, agenda}
use Rattle.iscsi_rules.specs.rules.Agenda.{with_turns, numbered, kind_of, arrival_as, arrival_open, arrival, arrival_of, command_of}
use Rattle.iscsi_rules.specs.rules.Run.{after_event}
use Rattle.iscsi_rules.specs.promises.Flow.{HasOneMore}
use Rattle.iscsi_rules.proofs.general.BoolLemmas.{and_second, or_none}
use Rattle.iscsi_rules.proofs.general.ElementLemmas.{In, in-filter, first-in}
use Rattle.iscsi_rules.proofs.general.ListLemmas.{count_by-push}
use Rattle.iscsi_rules.proofs.traces.TraceLemmas.{after_items-append, live-quiet}
use Rattle.iscsi_rules.proofs.general.CountLemmas.{one}
use Rattle.iscsi_rules.proofs.traces.HeldLemmas.{held-number, held-delivered, held-admits}
use Rattle.iscsi_rules.proofs.promises.ReplyForms.{live_form}
use Rattle.iscsi_rules.proofs.promises.ReplyRuns.{one_most}
use Rattle.iscsi_rules.proofs.items.ReceivedItems.{function_receives_none, turn_receives_none, immediate_receives_one, may_immediate}
use Rattle.iscsi_rules.proofs.traces.FlowItems.{same_exp}
use Rattle.iscsi_rules.proofs.items.Forms.{AtTurn, AtArrival, AfterWaiting, begun, Completed}
use Rattle.iscsi_rules.proofs.items.FormItems.{does_reply, does_function, does_after}
use Rattle.iscsi_outbox_rules.proofs.general.EachLemmas.{EachOf, each-filter}
use Rattle.iscsi_outbox_rules.proofs.room.RoomFair.{fair_after, fair_function, fair_reply}
use Rattle.iscsi_outbox_rules.proofs.room.RoomMarks.{MarkKept, Waiter, held_numbered, all_waiters, still_unheld}
use Rattle.iscsi_outbox_rules.proofs.room.RoomLimits.{Executing, executing, Limits, limits_same, limits_more, none_received}

module _ (o : Setting) where
  -- ---- the agenda

  -- while the turns go on, up to ExpCmdSN
  abbrev Turning : ℕ → ℕ → Trace → Type 0
  Turning e n t = Limits o n t × (exp_of o t ≡ e)

  by_executing : (n m : ℕ) (t : Trace) (a : Arrival) (item : List Mark) → Executing o t a item → filter_map number_received item ≡ [] → ((k : ℕ) → k < m → held (item ∷ t) k ≡ None) → unfinished (item ∷ t) + n ≤ unfinished t + m → n ≤ m → m ≤ exp_of o t → Limits o n t → Limits o m (item ∷ t)
  by_executing n m t a item x none turned more on low h =
      limits_same o n m t item none turned x.kept (λ conn. omega (arith, x.waits (λ b. connection_of b.request == conn), h.four conn)) (λ conn. x.immediate conn (h.eight conn)) more on low h

  turned_here : (t : Trace) (a : Arrival) (n : ℕ) (ms : List Mark) → held t n ≡ Some a → ((k : ℕ) → k < n → held ((Delivers a ∷ ms) ∷ t) k ≡ None) → (k : ℕ) → k < n + 1 → held ((Delivers a ∷ ms) ∷ t) k ≡ None
  turned_here t a n ms is before k below =
      ⊎_elim (λ less. before k less) (λ here. held-delivered t a ms k (held-number t n a is ∙ (let z : n ≡ k = omega (arith, here, below) in z))) (cases_lt k n)

  turn_limits : (e n : ℕ) (t : Trace) (a : Arrival) → held t n ≡ Some a → n < e → Turning e n t → Turning e (n + 1) (item_of o t a ∷ t)
  turn_limits e n t a is before h =
      let x : Executing o t a (item_of o t a) = executing o 0 t AtTurn a _ (ap (held t) (held-number t n a is) ∙ is) (does_after o t AtTurn a) (fair_after o (begun AtTurn a t) a) in
      let none : filter_map number_received (item_of o t a) ≡ [] = turn_receives_none o t a (held_numbered t n a is h.0.kept) in (
        by_executing n (n + 1) t a (item_of o t a) x none (turned_here t a n (marks_after o (begun AtTurn a t) a) is (λ k below. still_unheld (item_of o t a) t k (x.admits_none k) (h.0.turned k below))) (omega (arith, x.unfinished_by, one_most (not (is_immediate a.request)))) (omega arith) (omega (arith, before, h.1)) h.0,
        same_exp o (item_of o t a ∷ t) t (none_received o (item_of o t a) t none) ∙ h.1,
      )

  skip_limits : (e n : ℕ) (t : Trace) → held t n ≡ None → n < e → Turning e n t → Turning e (n + 1) t
  skip_limits e n t gone before h = (
    record {
      kept = h.0.kept;
      four = h.0.four;
      eight = h.0.eight;
      near = λ k is. omega (arith, h.0.near k is);
      few = omega (arith, h.0.few);
      low = omega (arith, before, h.1);
      turned = λ k below. ⊎_elim (λ less. h.0.turned k less) (λ here. ap (held t) (let z : k ≡ n = omega (arith, here, below) in z) ∙ gone) (cases_lt k n);
    },
    h.1,
  )

  function_limits : (e n : ℕ) (t : Trace) (a : Arrival) → is_waiting a t ≡ true → Waiter a → Turning e n t → Turning e n (function_item o t a ∷ t)
  function_limits e n t a is may h =
      let x : Executing o t a (function_item o t a) = executing o 0 t AfterWaiting a _ is (does_function o t AfterWaiting a) (fair_function o (begun AfterWaiting a t) a) in
      let none : filter_map number_received (function_item o t a) ≡ [] = function_receives_none o t a may in (
        by_executing n n t a (function_item o t a) x none (λ k below. still_unheld (function_item o t a) t k (x.admits_none k) (h.0.turned k below)) (omega (arith, x.unfinished_by, ap (λ b. one (not b)) (may_immediate a.request may))) (omega arith) h.0.low h.0,
        same_exp o (function_item o t a ∷ t) t (none_received o (function_item o t a) t none) ∙ h.1,
      )

  functions_limits : (e n : ℕ) (as' : List Arrival) (t : Trace) → EachOf Waiter as' → Turning e n t → Turning e n (after_items (functions o as' t) t)
  functions_limits e n [] t may h = h
  functions_limits e n (a ∷ as') t may h =
      elim (is_waiting a t) as (λ v. is_waiting a t ≡ v → Turning e n (after_items (let due : List (List Mark) = cond v (function_item o t a ∷ []) [] in due ++ functions o as' (after_items due t)) t)) [
        | true ↦ λ is. functions_limits e n as' (function_item o t a ∷ t) may.1 (function_limits e n t a is may.0 h)
        | false ↦ λ is. functions_limits e n as' t may.1 h
      ] refl

  functions_at_limits : (e n : ℕ) (t : Trace) → Turning e n t → Turning e n (after_items (functions_at o n t) t)
  functions_at_limits e n t h = functions_limits e n (filter (λ a. a.number == n) (waiting t)) t (each-filter Waiter (λ a. a.number == n) (waiting t) (all_waiters t h.0.kept)) h

  turn_at_limits : (e n : ℕ) (t : Trace) → n < e → Turning e n t → Turning e (n + 1) (after_items (turn_at o n t) t)
  turn_at_limits e n t before h =
      elim (held t n) as (λ y. held t n ≡ y → Turning e (n + 1) (after_items (elim y [ Some a ↦ item_of o t a ∷ [] | None ↦ [] ]) t)) [
        | Some a ↦ λ is. turn_limits e n t a is before h
        | None ↦ λ is. skip_limits e n t is before h
      ] refl

  at_number_limits : (e n : ℕ) (t : Trace) → n < e → Turning e n t → Turning e (n + 1) (after_items (at_number o n t) t)
  at_number_limits e n t before h =
      let due : List (List Mark) = functions_at o n t in
      subst (Turning e (n + 1)) (sym (after_items-append due (turn_at o n (after_items due t)) t)) (turn_at_limits e n (after_items due t) before (functions_at_limits e n t h))

  agenda_limits : (e n m : ℕ) (t : Trace) → n + m ≡ e → Turning e n t → Turning e e (after_items (agenda o n m t) t)
  agenda_limits e n zero t whole h = subst (λ k. Turning e k (after_items (functions_at o n t) t)) (let z : n ≡ e = omega (arith, whole) in z) (functions_at_limits e n t h)
  agenda_limits e n (suc m) t whole h =
      let due : List (List Mark) = at_number o n t in
      let t' : Trace = after_items due t in
      subst (Turning e e) (sym (after_items-append due (agenda o (n + 1) m t') t)) (agenda_limits e (n + 1) m t' (omega (arith, whole)) (at_number_limits e n t (omega (arith, whole)) h))

  -- ---- an event

  -- no turn is to come
  abbrev pub Within : Trace → Type 0
  Within t = Limits o (exp_of o t) t

  turns_limits : (t : Trace) (item : List Mark) → Limits o (exp_of o t) (item ∷ t) → Within (after_items (with_turns o t item) t)
  turns_limits t item h =
      let e : ℕ = exp_of o (item ∷ t) in
      let x : Turning e e (after_items (with_turns o t item) t) = agenda_limits e (exp_of o t) (e - exp_of o t) (item ∷ t) (omega (arith, h.low)) (h, refl) in
      subst (λ k. Limits o k (after_items (with_turns o t item) t)) (sym x.1) x.0

  -- the first item of an event
  record First (t : Trace) (item : List Mark) : Type 0 where
    within : EachOf (λ n. n ≤ max_of o t) (filter_map number_received item)
    kept : EachOf MarkKept item
    four : (conn : ℕ) → waiting_on conn (item ∷ t) ≤ 4
    eight : (conn : ℕ) → live_immediate conn (item ∷ t) ≤ 8
    more : unfinished (item ∷ t) ≤ unfinished t
    turned : (k : ℕ) → k < exp_of o t → held (item ∷ t) k ≡ None

  first_limits : (t : Trace) (item : List Mark) → HasOneMore (received t) (received (item ∷ t)) → Within t → First t item → Within (after_items (with_turns o t item) t)
  first_limits t item one_more h f = turns_limits t item (limits_more o t item one_more f.within f.turned f.kept f.four f.eight f.more h)

  first_executing : (t : Trace) (a : Arrival) (item : List Mark) → is_immediate a.request ≡ true → Within t → Executing o t a item → First t item
  first_executing t a item now h x = record {
    within = x.within;
    kept = x.kept;
    four = λ conn. omega (arith, x.waits (λ b. connection_of b.request == conn), h.four conn);
    eight = λ conn. x.immediate conn (h.eight conn);
    more = omega (arith, x.unfinished_by, ap (λ b. one (not b)) now);
    turned = λ k below. still_unheld item t k (x.admits_none k) (h.turned k below);
  }

  first_execution : (t : Trace) (a : Arrival) → is_immediate a.request ≡ true → Within t → First t (execution o t (Executes a) a)
  first_execution t a now h = first_executing t a (execution o t (Executes a) a) now h (executing o a.event t AtArrival a _ refl (does_after o t AtArrival a) (fair_after o (begun AtArrival a t) a))

  first_waits : (t : Trace) (a : Arrival) → may_wait a.request ≡ true → nat_le MOST_WAITING (waiting_on (connection_of a.request) t) ≡ false → Within t → First t (Waits a ∷ [])
  first_waits t a may few h =
      let same : live ((Waits a ∷ []) ∷ t) ≡ live t = live-quiet (Waits a ∷ []) t refl (λ k. refl) in
      record {
        within = tt;
        kept = (may, tt);
        four = λ conn. by_conn conn (connection_of a.request == conn) refl;
        eight = λ conn. omega (arith, h.eight conn, ap (λ cs. count_by (λ (c : Command). is_immediate c.arrival.request && connection_of c.arrival.request == conn) cs) same);
        more = omega (arith, ap (λ cs. count_by (λ (c : Command). not (is_immediate c.arrival.request)) cs) same);
        turned = λ k below. still_unheld (Waits a ∷ []) t k refl (h.turned k below);
      }
    where
      by_conn : (conn : ℕ) (b : Bool) → (connection_of a.request == conn) ≡ b → waiting_on conn ((Waits a ∷ []) ∷ t) ≤ 4
      by_conn conn false is = omega (arith, count_by-push (λ (b : Arrival). connection_of b.request == conn) (waiting t) a, ap one is, h.four conn)
      by_conn conn true is =
          let here : nat_le 4 (waiting_on conn t) ≡ false = ap (λ k. nat_le 4 (waiting_on k t)) (sym (eqb-true (connection_of a.request) conn is)) ∙ few in
          let less : waiting_on conn t < 4 = grind (arith, nat_tests) in
          omega (arith, count_by-push (λ (b : Arrival). connection_of b.request == conn) (waiting t) a, ap one is, less)

  first_immediate : (t : Trace) (a : Arrival) → is_immediate a.request ≡ true → Within t → First t (immediate_item o t a)
  first_immediate t a now h = by_tests (opcode a.request == 0x02 && may_wait a.request) refl (refusal_of_function o a.request)
    where
      refused : (reply : Reply) → First t (Executes a ∷ reply_on a reply) → First t (Executes a ∷ reply_on a reply)
      refused reply f = f

      waits : may_wait a.request ≡ true → (b c d : Bool) → nat_le MOST_WAITING (waiting_on (connection_of a.request) t) ≡ d
          → First t (cond b (Executes a ∷ reply_on a (Task (itt a.request) 255)) (cond (not c) (execution o t (Executes a) a) (cond d (Executes a ∷ reply_on a (Reject 6 (header_of a.request))) (Waits a ∷ []))))
      waits may true c d is = first_executing t a _ now h (executing o a.event t AtArrival a _ refl (does_reply o t AtArrival a (Task (itt a.request) 255) refl) (fair_reply o (begun AtArrival a t) a (Task (itt a.request) 255)))
      waits may false false d is = first_execution t a now h
      waits may false true true is = first_executing t a _ now h (executing o a.event t AtArrival a _ refl (does_reply o t AtArrival a (Reject 6 (header_of a.request)) refl) (fair_reply o (begun AtArrival a t) a (Reject 6 (header_of a.request))))
      waits may false true false is = first_waits t a may is h

      by_tests : (b : Bool) → (opcode a.request == 0x02 && may_wait a.request) ≡ b → (x : Option Reply) → First t (cond b (elim x [ Some reply ↦ execution o t (Executes a) a | None ↦ waiting_item o t a ]) (execution o t (Executes a) a))
      by_tests true is (Some reply) = first_execution t a now h
      by_tests true is None = waits (and_second (opcode a.request == 0x02) (may_wait a.request) is) (nat_lt (max_of o t + 1) a.number) (nat_lt (exp_of o t) a.number) (nat_le MOST_WAITING (waiting_on (connection_of a.request) t)) refl
      by_tests false is x = first_execution t a now h

  -- ---- items by which nothing executes

  quiet_limits : (t : Trace) (item : List Mark) → filter_map number_received item ≡ [] → ((k : ℕ) → filter_map (admits_at k) item ≡ []) → EachOf MarkKept item → waiting (item ∷ t) ≡ waiting t → live (item ∷ t) ≡ live t → Within t → Within (item ∷ t)
  quiet_limits t item none admits kept ws cs h =
      subst (λ k. Limits o k (item ∷ t)) (sym (same_exp o (item ∷ t) t (none_received o item t none)))
      (limits_same o (exp_of o t) (exp_of o t) t item none (λ k below. still_unheld item t k (admits k) (h.turned k below)) kept
      (λ conn. omega (arith, h.four conn, ap (count_by (λ (b : Arrival). connection_of b.request == conn)) ws))
      (λ conn. omega (arith, h.eight conn, ap (count_by (λ (c : Command). is_immediate c.arrival.request && connection_of c.arrival.request == conn)) cs))
      (omega (arith, ap (count_by (λ (c : Command). not (is_immediate c.arrival.request))) cs)) (omega arith) (omega arith) h)

  ignored_limits : (t : Trace) (why : Why) → Within t → Within ((Ignores why ∷ []) ∷ t)
  ignored_limits t why h = quiet_limits t (Ignores why ∷ []) refl (λ k. refl) (tt, tt) refl (live-quiet (Ignores why ∷ []) t refl (λ k. refl)) h

  completed_limits : (t : Trace) (c : Command) (status : ℕ) → In c (live t) → Within t → Within ((Leaves c ∷ reply_on c.arrival (Scsi (itt c.arrival.request) status (sense_of_status status))) ∷ t)
  completed_limits t c status there h =
      let item : List Mark = Leaves c ∷ reply_on c.arrival (Scsi (itt c.arrival.request) status (sense_of_status status)) in
      let fewer : (p : Command → Bool) → count_by p (live (item ∷ t)) + count_by p (c ∷ []) ≤ count_by p (live t) + 0 = live_form o 0 t (Completed c status) there in
      subst (λ k. Limits o k (item ∷ t)) (sym (same_exp o (item ∷ t) t (none_received o item t refl)))
      (limits_same o (exp_of o t) (exp_of o t) t item refl (λ k below. still_unheld item t k refl (h.turned k below)) (tt, (tt, tt)) h.four
      (λ conn. omega (arith, h.eight conn, fewer (λ (d : Command). is_immediate d.arrival.request && connection_of d.arrival.request == conn)))
      (omega (arith, fewer (λ (d : Command). not (is_immediate d.arrival.request)))) (omega arith) (omega arith) h)

  -- ---- events

  numbered_limits : (t : Trace) (a : Arrival) → is_immediate a.request ≡ false → Within t → Within (after_items (numbered o t a) t)
  numbered_limits t a later h =
      elim (nat_lt a.number (exp_of o t) || nat_lt (max_of o t) a.number) as (λ v. (nat_lt a.number (exp_of o t) || nat_lt (max_of o t) a.number) ≡ v → Within (after_items (cond v (ignored Outside) (cond (is_received t a.number) (ignored Duplicate) (with_turns o t (Admits a ∷ [])))) t)) [
        | true ↦ λ is. ignored_limits t Outside h
        | false ↦ λ is. elim (is_received t a.number) as (λ v. Within (after_items (cond v (ignored Duplicate) (with_turns o t (Admits a ∷ []))) t)) [
          | true ↦ ignored_limits t Duplicate h
          | false ↦ first_limits t (Admits a ∷ []) (inr (a.number, refl)) h (admitted (or_none (nat_lt a.number (exp_of o t)) (nat_lt (max_of o t) a.number) is))
        ]
      ] refl
    where
      admitted : (nat_lt a.number (exp_of o t) ≡ false) × (nat_lt (max_of o t) a.number ≡ false) → First t (Admits a ∷ [])
      admitted inside =
          let high : nat_lt (max_of o t) a.number ≡ false = inside.1 in
          let ahead : nat_lt a.number (exp_of o t) ≡ false = inside.0 in
          let there : exp_of o t ≤ a.number = grind (arith, nat_tests) in
          let same : live ((Admits a ∷ []) ∷ t) ≡ live t = live-quiet (Admits a ∷ []) t refl (λ k. refl) in
          record {
            within = ((let z : a.number ≤ max_of o t = grind (arith, nat_tests) in z), tt);
            kept = (later, tt);
            four = h.four;
            eight = λ conn. omega (arith, h.eight conn, ap (λ cs. count_by (λ (c : Command). is_immediate c.arrival.request && connection_of c.arrival.request == conn) cs) same);
            more = omega (arith, ap (λ cs. count_by (λ (c : Command). not (is_immediate c.arrival.request)) cs) same);
            turned = λ k below. held-admits t a k (ne_eqb a.number k (λ same. omega (arith, there, below, same))) ∙ h.turned k below;
          }

  immediate_limits : (t : Trace) (a : Arrival) → is_immediate a.request ≡ true → Within t → Within (after_items (with_turns o t (immediate_item o t a)) t)
  immediate_limits t a now h = first_limits t (immediate_item o t a) (one_more (immediate_receives_one o t a)) h (first_immediate t a now h)
    where
      one_more : (filter_map number_received (immediate_item o t a) ≡ []) ⊎ ((n : ℕ) × (filter_map number_received (immediate_item o t a) ≡ n ∷ [])) → HasOneMore (received t) (received (immediate_item o t a ∷ t))
      one_more (inl none) = inl (none_received o (immediate_item o t a) t none)
      one_more (inr some) = inr (some.0, ap (λ ns. received t ++ ns) some.1)

  arrival_limits : (t : Trace) (a : Arrival) → Within t → Within (after_items (arrival o t a) t)
  arrival_limits t a h =
      elim (is_closed (connection_of a.request) t) as (λ v. Within (after_items (cond v (ignored Closed) (arrival_open o t a)) t)) [
        | true ↦ ignored_limits t Closed h
        | false ↦ by_kind (kind_of a.request)
      ]
    where
      by_kind : (k : Kind) → Within (after_items (arrival_as o t a k) t)
      by_kind PassedOver = ignored_limits t Data h
      by_kind Unknown = quiet_limits t (rejected a) refl (λ k. refl) (tt, tt) refl (live-quiet (rejected a) t refl (λ k. refl)) h
      by_kind ExecutesKind =
          elim (is_immediate a.request) as (λ v. is_immediate a.request ≡ v → Within (after_items (cond v (with_turns o t (immediate_item o t a)) (numbered o t a)) t)) [
            | true ↦ λ is. immediate_limits t a is h
            | false ↦ λ is. numbered_limits t a is h
          ] refl

  pub event_limits : (now : ℕ) (t : Trace) (e : Event) → Within t → Within (after_event o now t e)
  event_limits now t (Arrive conn header) h = arrival_limits t (arrival_of o now t (request_of conn header)) h
  event_limits now t (Done ticket status) h = by_command (command_of t ticket) refl
    where
      by_command : (y : Option Command) → command_of t ticket ≡ y → Within (after_items (completion status y) t)
      by_command None is = ignored_limits t Stale h
      by_command (Some c) is = completed_limits t c status (in-filter (λ (d : Command). d.ticket == ticket && was_free d t) (live t) c (first-in _ c is)).0 h

  pub none_limits : Within []
  none_limits = record {
    kept = tt;
    four = λ conn. omega arith;
    eight = λ conn. omega arith;
    near = λ k is. absurd (false≢true is);
    few = omega arith;
    low = omega arith;
    turned = λ k below. refl;
  }
