-- What an event does to the numbers of a session that were shown: the numbered commands that are live, with the replies to numbered
-- requests and the numbers up to the shown one that are still to come, are no more after it than before.
use Rattle.std.proofs.Common.{◌≡◌, ℕ, zero, suc, ◌+◌, ◌-◌, ◌≤◌, ◌==◌, ◌&&◌, ◌||◌, ◌⊎◌, inl, inr, not, cond, Bool, true, false, List, [], ◌∷◌, ◌++◌, map, filter, filter_map, count_by, Option, Some, None, refl, ap, sym, ◌∙◌, subst, arith, nat_le, nat_lt}
use Rattle.std.proofs.lemmas.Bool.{eqb-true}
use Rattle.iscsi_wire.specs.declared.reply.Reply.{Reply}
use Rattle.iscsi_wire.specs.declared.reply.Reply.TheVariants.{Task, Reject}
use Rattle.iscsi_wire.specs.Fields.{connection_of, header_of, is_immediate, opcode, itt}
use Rattle.iscsi_rules.specs.declared.effect.Effect.{Effect}
use Rattle.iscsi_rules.specs.declared.effect.Effect.TheVariants.{Enable}
use Rattle.iscsi_rules.specs.declared.effect.Why.{Why}
use Rattle.iscsi_rules.specs.declared.effect.Why.TheVariants.{Outside, Duplicate, Closed, Data}
use Rattle.iscsi_rules.specs.declared.kind.Kind.{Kind}
use Rattle.iscsi_rules.specs.declared.kind.Kind.TheVariants.{PassedOver, Unknown, Executes as ExecutesKind}
use Rattle.iscsi_rules.specs.rules.Settings.{Setting}
use Rattle.iscsi_rules.specs.rules.Trace.{Arrival, Command, Mark, Admits, Executes, Waits, Ignores, Trace, after_items, number_received, received, is_received, admits_at, held, waiting, live, is_closed}
use Rattle.iscsi_rules.specs.rules.Execution.{exp_of, max_of, unfinished, rejected, ignored, reply_on}
use Rattle.iscsi_rules.specs.rules.Management.{may_wait, refusal_of_function, MOST_WAITING, waiting_on}
use Rattle.iscsi_rules.specs.rules.Items.{execution, waiting_item, immediate_item, function_item, item_of, is_waiting, functions, functions_at, turn_at, at_number, agenda}
use Rattle.iscsi_rules.specs.rules.Agenda.{with_turns, numbered, kind_of, arrival_as, arrival_open, arrival}
use Rattle.iscsi_rules.specs.rules.Run.{newly_enabled, effects_of_item}
use Rattle.iscsi_rules.specs.promises.Flow.{HasOneMore}
use Rattle.iscsi_rules.proofs.general.BoolLemmas.{and_second}
use Rattle.iscsi_rules.proofs.general.CountLemmas.{one, count-cons}
use Rattle.iscsi_rules.proofs.traces.TraceLemmas.{after_items-append, live-quiet}
use Rattle.iscsi_rules.proofs.traces.HeldLemmas.{held-number, held-admits, held_before}
use Rattle.iscsi_rules.proofs.promises.ReplyRuns.{one_most}
use Rattle.iscsi_rules.proofs.items.ReceivedItems.{function_receives_none, turn_receives_none, immediate_receives_one, may_immediate}
use Rattle.iscsi_rules.proofs.traces.FlowItems.{same_exp, exp_stays}
use Rattle.iscsi_rules.proofs.items.Forms.{AtTurn, AtArrival, AfterWaiting, begun}
use Rattle.iscsi_rules.proofs.items.FormItems.{Does, does_reply, does_function, does_after}
use Rattle.iscsi_outbox_rules.specs.rules.Items.{tickets_left}
use Rattle.iscsi_outbox_rules.proofs.general.EachLemmas.{EachOf, each-filter}
use Rattle.iscsi_outbox_rules.proofs.closes.ClosedParts.{effects_each}
use Rattle.iscsi_outbox_rules.proofs.room.RoomFair.{Fair, fair_after, fair_function, fair_reply}
use Rattle.iscsi_outbox_rules.proofs.room.RoomMarks.{KeptIn, Waiter, held_numbered, all_waiters}
use Rattle.iscsi_outbox_rules.proofs.room.RoomLimits.{Executing, executing as is_executing, none_received}
use Rattle.iscsi_outbox_rules.proofs.numbers.ShownReplies.{answers, answers_numbered}
use Rattle.iscsi_outbox_rules.proofs.numbers.ShownAnswers.{sends_none, answered_item}

-- no number above `s` was shown
module _ (o : Setting) (s : ℕ) where
  -- what is held is at a number that was shown
  abbrev pub Below : Trace → Type 0
  Below t = (k : ℕ) (a : Arrival) → held t k ≡ Some a → k ≤ s

  pub still_below : (item : List Mark) (t : Trace) → ((k : ℕ) → filter_map (admits_at k) item ≡ []) → Below t → Below (item ∷ t)
  still_below item t none below = λ k a is. below k a (held_before item t k a (none k) is)

  abbrev pub numbering : List (List Effect) → ℕ
  numbering items = count_by answers_numbered items

  numbering-append : (t : Trace) (xs ys : List (List Mark)) → numbering (effects_each o t (xs ++ ys)) ≡ numbering (effects_each o t xs) + numbering (effects_each o (after_items xs t) ys)
  numbering-append t [] ys = omega arith
  numbering-append t (x ∷ xs) ys =
      omega (
        arith,
        count-cons answers_numbered (effects_of_item o t x) (effects_each o (x ∷ t) (xs ++ ys)),
        count-cons answers_numbered (effects_of_item o t x) (effects_each o (x ∷ t) xs),
        numbering-append (x ∷ t) xs ys,
      )

  -- ---- the agenda

  -- what these items do, from the turn of the number n to that of m
  record Going (n m : ℕ) (t : Trace) (items : List (List Mark)) : Type 0 where
    kept : KeptIn (after_items items t)
    below : Below (after_items items t)
    exp : exp_of o (after_items items t) ≡ exp_of o t
    more : unfinished (after_items items t) + n ≤ unfinished t + m
    less : unfinished (after_items items t) + numbering (effects_each o t items) + (s + 1 - m) ≤ unfinished t + (s + 1 - n)

  going_none : (n m : ℕ) (t : Trace) → n ≤ m → KeptIn t → Below t → Going n m t []
  going_none n m t on kept below = record { kept = kept; below = below; exp = refl; more = omega (arith, on); less = omega (arith, on) }

  going-append : (n m l : ℕ) (t : Trace) (xs ys : List (List Mark)) → Going n m t xs → Going m l (after_items xs t) ys → Going n l t (xs ++ ys)
  going-append n m l t xs ys g h =
      let same : after_items (xs ++ ys) t ≡ after_items ys (after_items xs t) = after_items-append xs ys t in
      record {
        kept = subst KeptIn (sym same) h.kept;
        below = subst Below (sym same) h.below;
        exp = ap (exp_of o) same ∙ h.exp ∙ g.exp;
        more = omega (arith, ap unfinished same, g.more, h.more);
        less = omega (arith, ap unfinished same, numbering-append t xs ys, g.less, h.less);
      }

  turn_going : (n : ℕ) (t : Trace) → KeptIn t → Below t → Going n (n + 1) t (turn_at o n t)
  turn_going n t kept below =
      elim (held t n) as (λ y. held t n ≡ y → Going n (n + 1) t (elim y [ Some a ↦ item_of o t a ∷ [] | None ↦ [] ])) [
        | Some a ↦ λ is.
            let here : held t a.number ≡ Some a = ap (held t) (held-number t n a is) ∙ is in
            let x : Executing o t a (item_of o t a) = is_executing o 0 t AtTurn a _ here (does_after o t AtTurn a) (fair_after o (begun AtTurn a t) a) in
            let none : filter_map number_received (item_of o t a) ≡ [] = turn_receives_none o t a (held_numbered t n a is kept) in
            record {
              kept = (x.kept, kept);
              below = still_below (item_of o t a) t x.admits_none below;
              exp = same_exp o (item_of o t a ∷ t) t (none_received o (item_of o t a) t none);
              more = omega (arith, x.unfinished_by, one_most (not (is_immediate a.request)));
              less = omega (arith, answered_item o 0 t AtTurn a _ here (does_after o t AtTurn a), one_most (not (is_immediate a.request)), below n a is, count-cons answers_numbered (effects_of_item o t (item_of o t a)) []);
            }
        | None ↦ λ is. going_none n (n + 1) t (omega arith) kept below
      ] refl

  function_going : (n : ℕ) (t : Trace) (a : Arrival) → is_waiting a t ≡ true → Waiter a → KeptIn t → Below t → Going n n t (function_item o t a ∷ [])
  function_going n t a is may kept below =
      let x : Executing o t a (function_item o t a) = is_executing o 0 t AfterWaiting a _ is (does_function o t AfterWaiting a) (fair_function o (begun AfterWaiting a t) a) in
      let none : filter_map number_received (function_item o t a) ≡ [] = function_receives_none o t a may in
      let immediate : one (not (is_immediate a.request)) ≡ 0 = ap (λ v. one (not v)) (may_immediate a.request may) in
      record {
        kept = (x.kept, kept);
        below = still_below (function_item o t a) t x.admits_none below;
        exp = same_exp o (function_item o t a ∷ t) t (none_received o (function_item o t a) t none);
        more = omega (arith, x.unfinished_by, immediate);
        less = omega (arith, answered_item o 0 t AfterWaiting a _ is (does_function o t AfterWaiting a), immediate, count-cons answers_numbered (effects_of_item o t (function_item o t a)) []);
      }

  functions_going : (n : ℕ) (as' : List Arrival) (t : Trace) → EachOf Waiter as' → KeptIn t → Below t → Going n n t (functions o as' t)
  functions_going n [] t may kept below = going_none n n t (omega arith) kept below
  functions_going n (a ∷ as') t may kept below =
      elim (is_waiting a t) as (λ v. is_waiting a t ≡ v → Going n n t (let due : List (List Mark) = cond v (function_item o t a ∷ []) [] in due ++ functions o as' (after_items due t))) [
        | true ↦ λ is.
            let g : Going n n t (function_item o t a ∷ []) = function_going n t a is may.0 kept below in
            going-append n n n t (function_item o t a ∷ []) (functions o as' (function_item o t a ∷ t)) g (functions_going n as' (function_item o t a ∷ t) may.1 g.kept g.below)
        | false ↦ λ is. functions_going n as' t may.1 kept below
      ] refl

  functions_at_going : (n : ℕ) (t : Trace) → KeptIn t → Below t → Going n n t (functions_at o n t)
  functions_at_going n t kept below = functions_going n (filter (λ a. a.number == n) (waiting t)) t (each-filter Waiter (λ a. a.number == n) (waiting t) (all_waiters t kept)) kept below

  agenda_going : (n m l : ℕ) (t : Trace) → n + m ≡ l → KeptIn t → Below t → Going n l t (agenda o n m t)
  agenda_going n zero l t whole kept below = subst (λ k. Going n k t (functions_at o n t)) (let z : n ≡ l = omega (arith, whole) in z) (functions_at_going n t kept below)
  agenda_going n (suc m) l t whole kept below =
      let before : List (List Mark) = functions_at o n t in
      let turn : List (List Mark) = turn_at o n (after_items before t) in
      let now : List (List Mark) = at_number o n t in
      let f : Going n n t before = functions_at_going n t kept below in
      let g : Going n (n + 1) t now = going-append n n (n + 1) t before turn f (turn_going n (after_items before t) f.kept f.below) in
      going-append n (n + 1) l t now (agenda o (n + 1) m (after_items now t)) g (agenda_going (n + 1) m l (after_items now t) (omega (arith, whole)) g.kept g.below)

  -- ---- an event

  pub record Flown (t : Trace) (items : List (List Mark)) : Type 0 where
    pub below : Below (after_items items t)
    pub more : unfinished (after_items items t) + exp_of o t ≤ unfinished t + exp_of o (after_items items t)
    pub less : unfinished (after_items items t) + numbering (effects_each o t items) + (s + 1 - exp_of o (after_items items t)) ≤ unfinished t + (s + 1 - exp_of o t)

  -- its first item
  record First (t : Trace) (item : List Mark) : Type 0 where
    kept : KeptIn (item ∷ t)
    below : Below (item ∷ t)
    less : unfinished (item ∷ t) + one (answers_numbered (effects_of_item o t item)) ≤ unfinished t

  turns_flown : (t : Trace) (item : List Mark) → HasOneMore (received t) (received (item ∷ t)) → First t item → Flown t (with_turns o t item)
  turns_flown t item one_more f =
      let e : ℕ = exp_of o t in
      let e' : ℕ = exp_of o (item ∷ t) in
      let on : e ≤ e' = exp_stays o t (item ∷ t) one_more in
      let g : Going e e' (item ∷ t) (agenda o e (e' - e) (item ∷ t)) = agenda_going e (e' - e) e' (item ∷ t) (omega (arith, on)) f.kept f.below in
      record {
        below = g.below;
        more = omega (arith, g.more, g.exp, f.less);
        less = omega (arith, g.less, g.exp, f.less, count-cons answers_numbered (effects_of_item o t item) (effects_each o (item ∷ t) (agenda o e (e' - e) (item ∷ t))));
      }

  -- an item that neither receives nor answers a numbered request, after which the same commands are live
  pub quiet_flown : (t : Trace) (item : List Mark) → filter_map number_received item ≡ [] → ((k : ℕ) → filter_map (admits_at k) item ≡ []) → unfinished (item ∷ t) + one (answers_numbered (effects_of_item o t item)) ≤ unfinished t → Below t → Flown t (item ∷ [])
  quiet_flown t item none admits less below =
      let same : exp_of o (item ∷ t) ≡ exp_of o t = same_exp o (item ∷ t) t (none_received o item t none) in
      record {
        below = still_below item t admits below;
        more = omega (arith, same, less);
        less = omega (arith, same, less, count-cons answers_numbered (effects_of_item o t item) []);
      }

  pub ignored_flown : (t : Trace) (why : Why) → Below t → Flown t (ignored why)
  ignored_flown t why below =
      let item : List Mark = Ignores why ∷ [] in
      let same : live (item ∷ t) ≡ live t = live-quiet item t refl (λ k. refl) in
      quiet_flown t item refl (λ k. refl) (omega (arith, ap one (sends_none o t item refl), ap (λ cs. count_by (λ (c : Command). not (is_immediate c.arrival.request)) cs) same)) below

  rejected_flown : (t : Trace) (a : Arrival) → Below t → Flown t (rejected a ∷ [])
  rejected_flown t a below =
      let same : live (rejected a ∷ t) ≡ live t = live-quiet (rejected a) t refl (λ k. refl) in
      quiet_flown t (rejected a) refl (λ k. refl) (omega (arith, none (newly_enabled o t (rejected a)), ap (λ cs. count_by (λ (c : Command). not (is_immediate c.arrival.request)) cs) same)) below
    where
      none : (cs : List Command) → one (answers None (tickets_left (map (λ (c : Command). Enable c.ticket c.unit) cs)) (Some (connection_of a.request, Reject 5 (header_of a.request)))) ≤ 0
      none [] = omega arith
      none (c ∷ cs) = none cs

  -- ---- immediate requests

  first_executed : (t : Trace) (a : Arrival) (ms : List Mark) → is_immediate a.request ≡ true → Does o t AtArrival a ms → Fair o (begun AtArrival a t) a ms → KeptIn t → Below t → First t (Executes a ∷ ms)
  first_executed t a ms now d f kept below =
      let x : Executing o t a (Executes a ∷ ms) = is_executing o a.event t AtArrival a ms refl d f in
      record {
        kept = (x.kept, kept);
        below = still_below (Executes a ∷ ms) t x.admits_none below;
        less = omega (arith, answered_item o a.event t AtArrival a ms refl d, ap (λ v. one (not v)) now);
      }

  first_execution : (t : Trace) (a : Arrival) → is_immediate a.request ≡ true → KeptIn t → Below t → First t (execution o t (Executes a) a)
  first_execution t a now kept below = first_executed t a _ now (does_after o t AtArrival a) (fair_after o (begun AtArrival a t) a) kept below

  first_waits : (t : Trace) (a : Arrival) → may_wait a.request ≡ true → KeptIn t → Below t → First t (Waits a ∷ [])
  first_waits t a may kept below =
      let item : List Mark = Waits a ∷ [] in
      let same : live (item ∷ t) ≡ live t = live-quiet item t refl (λ k. refl) in
      record {
        kept = ((may, tt), kept);
        below = still_below item t (λ k. refl) below;
        less = omega (arith, ap one (sends_none o t item refl), ap (λ cs. count_by (λ (c : Command). not (is_immediate c.arrival.request)) cs) same);
      }

  first_immediate : (t : Trace) (a : Arrival) → is_immediate a.request ≡ true → KeptIn t → Below t → First t (immediate_item o t a)
  first_immediate t a now kept below = by_tests (opcode a.request == 0x02 && may_wait a.request) refl (refusal_of_function o a.request)
    where
      waits : may_wait a.request ≡ true → (b c d : Bool) → First t (cond b (Executes a ∷ reply_on a (Task (itt a.request) 255)) (cond (not c) (execution o t (Executes a) a) (cond d (Executes a ∷ reply_on a (Reject 6 (header_of a.request))) (Waits a ∷ []))))
      waits may true c d = first_executed t a _ now (does_reply o t AtArrival a (Task (itt a.request) 255) refl) (fair_reply o (begun AtArrival a t) a (Task (itt a.request) 255)) kept below
      waits may false false d = first_execution t a now kept below
      waits may false true true = first_executed t a _ now (does_reply o t AtArrival a (Reject 6 (header_of a.request)) refl) (fair_reply o (begun AtArrival a t) a (Reject 6 (header_of a.request))) kept below
      waits may false true false = first_waits t a may kept below

      by_tests : (b : Bool) → (opcode a.request == 0x02 && may_wait a.request) ≡ b → (x : Option Reply) → First t (cond b (elim x [ Some reply ↦ execution o t (Executes a) a | None ↦ waiting_item o t a ]) (execution o t (Executes a) a))
      by_tests true is (Some reply) = first_execution t a now kept below
      by_tests true is None = waits (and_second (opcode a.request == 0x02) (may_wait a.request) is) (nat_lt (max_of o t + 1) a.number) (nat_lt (exp_of o t) a.number) (nat_le MOST_WAITING (waiting_on (connection_of a.request) t))
      by_tests false is x = first_execution t a now kept below

  immediate_flown : (t : Trace) (a : Arrival) → is_immediate a.request ≡ true → KeptIn t → Below t → Flown t (with_turns o t (immediate_item o t a))
  immediate_flown t a now kept below = turns_flown t (immediate_item o t a) (one_more (immediate_receives_one o t a)) (first_immediate t a now kept below)
    where
      one_more : (filter_map number_received (immediate_item o t a) ≡ []) ⊎ ((n : ℕ) × (filter_map number_received (immediate_item o t a) ≡ n ∷ [])) → HasOneMore (received t) (received (immediate_item o t a ∷ t))
      one_more (inl none) = inl (none_received o (immediate_item o t a) t none)
      one_more (inr some) = inr (some.0, ap (λ ns. received t ++ ns) some.1)

  -- ---- arrivals

  admitted : (t : Trace) (a : Arrival) → is_immediate a.request ≡ false → a.number ≤ s → KeptIn t → Below t → First t (Admits a ∷ [])
  admitted t a later shown kept below =
      let item : List Mark = Admits a ∷ [] in
      let same : live (item ∷ t) ≡ live t = live-quiet item t refl (λ k. refl) in
      record {
        kept = ((later, tt), kept);
        below = λ k b is. by_number k b (a.number == k) refl is;
        less = omega (arith, ap one (sends_none o t item refl), ap (λ cs. count_by (λ (c : Command). not (is_immediate c.arrival.request)) cs) same);
      }
    where
      by_number : (k : ℕ) (b : Arrival) (v : Bool) → (a.number == k) ≡ v → held ((Admits a ∷ []) ∷ t) k ≡ Some b → k ≤ s
      by_number k b true here is = omega (arith, eqb-true a.number k here, shown)
      by_number k b false apart is = below k b (sym (held-admits t a k apart) ∙ is)

  numbered_flown : (t : Trace) (a : Arrival) → is_immediate a.request ≡ false → a.number ≤ s → KeptIn t → Below t → Flown t (numbered o t a)
  numbered_flown t a later shown kept below =
      elim (nat_lt a.number (exp_of o t) || nat_lt (max_of o t) a.number) as (λ v. Flown t (cond v (ignored Outside) (cond (is_received t a.number) (ignored Duplicate) (with_turns o t (Admits a ∷ []))))) [
        | true ↦ ignored_flown t Outside below
        | false ↦ elim (is_received t a.number) as (λ v. Flown t (cond v (ignored Duplicate) (with_turns o t (Admits a ∷ [])))) [
          | true ↦ ignored_flown t Duplicate below
          | false ↦ turns_flown t (Admits a ∷ []) (inr (a.number, refl)) (admitted t a later shown kept below)
        ]
      ]

  -- a request that executes, and is numbered, has a number that was shown
  pub arrival_flown : (t : Trace) (a : Arrival) → (kind_of a.request ≡ ExecutesKind → is_immediate a.request ≡ false → a.number ≤ s) → KeptIn t → Below t → Flown t (arrival o t a)
  arrival_flown t a shown kept below =
      elim (is_closed (connection_of a.request) t) as (λ v. Flown t (cond v (ignored Closed) (arrival_open o t a))) [
        | true ↦ ignored_flown t Closed below
        | false ↦ by_kind (kind_of a.request) refl
      ]
    where
      by_kind : (k : Kind) → kind_of a.request ≡ k → Flown t (arrival_as o t a k)
      by_kind PassedOver is = ignored_flown t Data below
      by_kind Unknown is = rejected_flown t a below
      by_kind ExecutesKind is =
          elim (is_immediate a.request) as (λ v. is_immediate a.request ≡ v → Flown t (cond v (with_turns o t (immediate_item o t a)) (numbered o t a))) [
            | true ↦ λ now. immediate_flown t a now kept below
            | false ↦ λ later. numbered_flown t a later (shown is later) kept below
          ] refl
