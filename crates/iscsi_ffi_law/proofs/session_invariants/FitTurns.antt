-- Between the events of a session nothing is held below ExpCmdSN, and each event receives one number at the most.
use Rattle.std.proofs.Common.{eq-eqb, count_by, ◌≡◌, ℕ, zero, suc, ◌+◌, ◌-◌, ◌≤◌, ◌<◌, ◌==◌, ◌&&◌, ◌||◌, inl, inr, ⊎_elim, not, cond, Bool, true, false, List, [], ◌∷◌, ◌++◌, filter, filter_map, Option, Some, None, refl, ap, sym, ◌∙◌, subst, arith, nat_le, nat_lt}
use Rattle.std.proofs.lemmas.Bool.{and_parts, cases_lt, ne_eqb}
use Rattle.std.proofs.lemmas.Bool.Decides.{nat_tests}
use Rattle.std.proofs.lemmas.List.{append-nil}
use Rattle.iscsi_wire.specs.declared.reply.Reply.{Reply}
use Rattle.iscsi_wire.specs.declared.reply.Reply.TheVariants.{Scsi, Task, Reject}
use Rattle.iscsi_wire.specs.Fields.{connection_of, header_of, is_immediate, opcode, itt, request_of}
use Rattle.iscsi_rules.specs.declared.effect.Why.{Why}
use Rattle.iscsi_rules.specs.declared.effect.Why.TheVariants.{Outside, Duplicate, Closed, Data, Stale}
use Rattle.iscsi_rules.specs.declared.event.Event.{Event}
use Rattle.iscsi_rules.specs.declared.event.Event.TheVariants.{Arrive, Done}
use Rattle.iscsi_rules.specs.declared.kind.Kind.{Kind}
use Rattle.iscsi_rules.specs.declared.kind.Kind.TheVariants.{PassedOver, Unknown, Executes as ExecutesKind}
use Rattle.iscsi_rules.specs.rules.Deeds.{marks_after}
use Rattle.iscsi_rules.specs.rules.Settings.{Setting}
use Rattle.iscsi_rules.specs.rules.Trace.{Admits, Arrival, Command, Delivers, Executes, Ignores, Leaves, Mark, Trace, Waits, after_items, held, is_closed, is_received, number_received, received, waiting}
use Rattle.iscsi_rules.specs.rules.Execution.{completion, exp_of, ignored, max_of, rejected, reply_on, sense_of_status}
use Rattle.iscsi_rules.specs.rules.Management.{MOST_WAITING, may_wait, refusal_of_function, waiting_on}
use Rattle.iscsi_rules.specs.rules.Items.{agenda, at_number, execution, function_item, functions, functions_at, immediate_item, is_waiting, item_of, turn_at, waiting_item}
use Rattle.iscsi_rules.specs.rules.Agenda.{arrival, arrival_as, arrival_of, arrival_open, command_of, kind_of, numbered, with_turns}
use Rattle.iscsi_rules.specs.rules.Run.{after_event}
use Rattle.iscsi_rules.proofs.promises.AbortRuns.{exp_item}
use Rattle.iscsi_rules.proofs.general.BoolLemmas.{or_none}
use Rattle.iscsi_rules.proofs.general.CountLemmas.{one}
use Rattle.iscsi_rules.proofs.items.FormItems.{Does}
use Rattle.iscsi_rules.proofs.general.ListLemmas.{count_by-push}
use Rattle.std.proofs.lemmas.Bool.{eqb-true, leb-false}
use Rattle.std.specs.List.{list_any}
use Rattle.std.proofs.lemmas.Bool.{false≢true, ltb-true}
use Rattle.iscsi_rules.proofs.general.ElementLemmas.{filter-in}
use Rattle.iscsi_rules.proofs.items.WaitingItems.{waiting_after_function}
use Rattle.iscsi_outbox_law.proofs.general.PairLemmas.{each-append, each-weaken}
use Rattle.iscsi_ffi_law.proofs.general.Members.{each_in, in_any, in_each}
use Rattle.iscsi_rules.proofs.traces.FlowItems.{same_exp}
use Rattle.iscsi_rules.proofs.items.FormItems.{does_after, does_function, does_reply}
use Rattle.iscsi_rules.proofs.items.Forms.{AfterWaiting, AtArrival, AtTurn, begun}
use Rattle.iscsi_rules.proofs.traces.HeldLemmas.{held-admits, held-delivered, held-number}
use Rattle.iscsi_rules.proofs.items.ReceivedItems.{AtMostOne, function_receives_none, immediate_receives_one, turn_receives_none}
use Rattle.iscsi_rules.proofs.traces.TraceLemmas.{after_items-append}
use Rattle.iscsi_outbox_law.specs.private.Pairs.{EachOf}
use Rattle.iscsi_outbox_law.proofs.general.PairLemmas.{each-filter}
use Rattle.iscsi_ffi_law.proofs.session_invariants.FitMarks.{fewer_each, fewer_wait, IsExecuting, IsWaiter, KeptIn, all_waiters, executing, held_numbered, still_unheld}

module _ (o : Setting) where
  -- the turns of the numbers before n are over, and functions wait for numbers from m on
  pub record Turned (m n : ℕ) (t : Trace) : Type 0 where
    pub kept : KeptIn t
    pub ahead : EachOf (λ (b : Arrival). m ≤ b.number) (waiting t)
    pub four : (conn : ℕ) → waiting_on conn t ≤ MOST_WAITING
    pub turned : (k : ℕ) → k < n → held t k ≡ None

  pub none_received : (item : List Mark) (t : Trace) → filter_map number_received item ≡ [] → exp_of o (item ∷ t) ≡ exp_of o t
  none_received item t none = same_exp o (item ∷ t) t (ap (λ ns. received t ++ ns) none ∙ append-nil (received t))

  -- ---- the agenda

  -- while the turns go on, up to ExpCmdSN
  abbrev Turning : ℕ → ℕ → ℕ → Trace → Type 0
  Turning e m n t = Turned m n t × (exp_of o t ≡ e)

  turned_here : (t : Trace) (a : Arrival) (n : ℕ) (ms : List Mark) → held t n ≡ Some a → ((k : ℕ) → k < n → held ((Delivers a ∷ ms) ∷ t) k ≡ None) → (k : ℕ) → k < n + 1 → held ((Delivers a ∷ ms) ∷ t) k ≡ None
  turned_here t a n ms is before k below =
      ⊎_elim (λ less. before k less) (λ here. held-delivered t a ms k (held-number t n a is ∙ (let z : n ≡ k = omega (arith, here, below) in z))) (cases_lt k n)

  turn_turned : (e n : ℕ) (t : Trace) (a : Arrival) → held t n ≡ Some a → Turning e (n + 1) n t → Turning e (n + 1) (n + 1) (item_of o t a ∷ t)
  turn_turned e n t a is h =
      let x : IsExecuting (item_of o t a) = executing o t AtTurn a _ (does_after o t AtTurn a) in
      let none : filter_map number_received (item_of o t a) ≡ [] = turn_receives_none o t a (held_numbered t n a is h.0.kept) in (
        record {
          kept = (x.kept, h.0.kept);
          ahead = fewer_each o t AtTurn a _ (does_after o t AtTurn a) (λ (b : Arrival). n + 1 ≤ b.number) h.0.ahead;
          four = λ conn. (let less = fewer_wait o t AtTurn a _ (does_after o t AtTurn a) (λ (b : Arrival). connection_of b.request == conn) in let most = h.0.four conn in omega (arith, less, most));
          turned = turned_here t a n (marks_after o (begun AtTurn a t) a) is (λ k below. still_unheld (item_of o t a) t k (x.admits_none k) (h.0.turned k below));
        },
        none_received (item_of o t a) t none ∙ h.1,
      )

  skip_turned : (e n : ℕ) (t : Trace) → held t n ≡ None → Turning e (n + 1) n t → Turning e (n + 1) (n + 1) t
  skip_turned e n t gone h = (
    record {
      kept = h.0.kept;
      ahead = h.0.ahead;
      four = h.0.four;
      turned = λ k below. ⊎_elim (λ less. h.0.turned k less) (λ here. ap (held t) (let z : k ≡ n = omega (arith, here, below) in z) ∙ gone) (cases_lt k n);
    },
    h.1,
  )

  function_turned : (e n : ℕ) (t : Trace) (a : Arrival) → IsWaiter a → Turning e n n t → Turning e n n (function_item o t a ∷ t)
  function_turned e n t a may h =
      let x : IsExecuting (function_item o t a) = executing o t AfterWaiting a _ (does_function o t AfterWaiting a) in
      let none : filter_map number_received (function_item o t a) ≡ [] = function_receives_none o t a may in (
        record { kept = (x.kept, h.0.kept); ahead = fewer_each o t AfterWaiting a _ (does_function o t AfterWaiting a) (λ (b : Arrival). n ≤ b.number) h.0.ahead; four = λ conn. (let less = fewer_wait o t AfterWaiting a _ (does_function o t AfterWaiting a) (λ (b : Arrival). connection_of b.request == conn) in let most = h.0.four conn in omega (arith, less, most)); turned = λ k below. still_unheld (function_item o t a) t k (x.admits_none k) (h.0.turned k below) },
        none_received (function_item o t a) t none ∙ h.1,
      )

  functions_turned : (e n : ℕ) (as' : List Arrival) (t : Trace) → EachOf IsWaiter as' → Turning e n n t → Turning e n n (after_items (functions o as' t) t)
  functions_turned e n [] t may h = h
  functions_turned e n (a ∷ as') t may h =
      elim (is_waiting a t) as (λ v. Turning e n n (after_items (let due : List (List Mark) = cond v (function_item o t a ∷ []) [] in due ++ functions o as' (after_items due t)) t)) [
        | true ↦ functions_turned e n as' (function_item o t a ∷ t) may.1 (function_turned e n t a may.0 h)
        | false ↦ functions_turned e n as' t may.1 h
      ]

  -- the functions that execute wait no more
  functions_ahead : (n : ℕ) (as' : List Arrival) (t : Trace) → EachOf (λ (b : Arrival). (n ≤ b.number) × ((b.number == n) ≡ true → list_any (λ (x : Arrival). x.event == b.event) as' ≡ true)) (waiting t)
      → EachOf (λ (b : Arrival). n + 1 ≤ b.number) (waiting (after_items (functions o as' t) t))
  functions_ahead n [] t each =
      each-weaken (λ (b : Arrival). (n ≤ b.number) × ((b.number == n) ≡ true → list_any (λ (x : Arrival). x.event == b.event) [] ≡ true)) (λ (b : Arrival). n + 1 ≤ b.number) (waiting t) (λ b k. by_number b k.0 k.1 (b.number == n) refl) each
    where
      by_number : (b : Arrival) → n ≤ b.number → ((b.number == n) ≡ true → false ≡ true) → (v : Bool) → (b.number == n) ≡ v → n + 1 ≤ b.number
      by_number b le none true is = absurd (false≢true (none is))
      by_number b le none false is = ⊎_elim (λ lt. omega (arith, lt)) (λ ge. absurd (false≢true (sym is ∙ eq-eqb b.number n (omega (arith, le, ge))))) (cases_lt n b.number)
  functions_ahead n (a ∷ as') t each =
      elim (is_waiting a t) as (λ v. is_waiting a t ≡ v → EachOf (λ (b : Arrival). n + 1 ≤ b.number) (waiting (after_items (let due : List (List Mark) = cond v (function_item o t a ∷ []) [] in due ++ functions o as' (after_items due t)) t))) [
        | true ↦ λ is. functions_ahead n as' (function_item o t a ∷ t) (subst (EachOf (Q as')) (sym (waiting_after_function o t a)) (without (waiting t) each))
        | false ↦ λ is. functions_ahead n as' t (apart (waiting t) is each)
      ] refl
    where
      Q : List Arrival → Arrival → Type 0
      Q bs b = (n ≤ b.number) × ((b.number == n) ≡ true → list_any (λ (x : Arrival). x.event == b.event) bs ≡ true)

      later : (b : Arrival) → (b.event == a.event) ≡ false → ((b.number == n) ≡ true → ((a.event == b.event) || list_any (λ (x : Arrival). x.event == b.event) as') ≡ true) → (b.number == n) ≡ true → list_any (λ (x : Arrival). x.event == b.event) as' ≡ true
      later b other k is = ap (λ v. v || list_any (λ (x : Arrival). x.event == b.event) as') (sym (ne_eqb a.event b.event (λ same. false≢true (sym other ∙ eq-eqb b.event a.event (sym same))))) ∙ k is

      without : (ws : List Arrival) → EachOf (Q (a ∷ as')) ws → EachOf (Q as') (filter (λ (b : Arrival). not (b.event == a.event)) ws)
      without [] h = tt
      without (b ∷ ws) h = by_event (without ws h.1) (b.event == a.event) refl
        where
          by_event : EachOf (Q as') (filter (λ (x : Arrival). not (x.event == a.event)) ws) → (v : Bool) → (b.event == a.event) ≡ v → EachOf (Q as') (cond (not v) (b ∷ filter (λ (x : Arrival). not (x.event == a.event)) ws) (filter (λ (x : Arrival). not (x.event == a.event)) ws))
          by_event rest true is = rest
          by_event rest false is = ((h.0.0, later b is h.0.1), rest)

      apart : (ws : List Arrival) → list_any (λ (b : Arrival). b.event == a.event) ws ≡ false → EachOf (Q (a ∷ as')) ws → EachOf (Q as') ws
      apart [] is h = tt
      apart (b ∷ ws) is h = let parts = or_none (b.event == a.event) (list_any (λ (x : Arrival). x.event == a.event) ws) is in ((h.0.0, later b parts.0 h.0.1), apart ws parts.1 h.1)

  functions_at_turned : (e n : ℕ) (t : Trace) → Turning e n n t → Turning e (n + 1) n (after_items (functions_at o n t) t)
  functions_at_turned e n t h =
      let these : List Arrival = filter (λ a. a.number == n) (waiting t) in
      let x = functions_turned e n these t (each-filter IsWaiter (λ a. a.number == n) (waiting t) (all_waiters t h.0.kept)) h in (
        record {
          kept = x.0.kept;
          ahead = functions_ahead n these t
              (in_each (λ (b : Arrival). (n ≤ b.number) × ((b.number == n) ≡ true → list_any (λ (y : Arrival). y.event == b.event) these ≡ true)) (waiting t)
              (λ b at. (each_in (λ (y : Arrival). n ≤ y.number) (waiting t) b at h.0.ahead, λ is. in_any (λ (y : Arrival). y.event == b.event) these b (filter-in (λ (y : Arrival). y.number == n) (waiting t) b at is) (eq-eqb b.event b.event refl))));
          four = x.0.four;
          turned = x.0.turned;
        },
        x.1,
      )

  turn_at_turned : (e n : ℕ) (t : Trace) → Turning e (n + 1) n t → Turning e (n + 1) (n + 1) (after_items (turn_at o n t) t)
  turn_at_turned e n t h =
      elim (held t n) as (λ y. held t n ≡ y → Turning e (n + 1) (n + 1) (after_items (elim y [ Some a ↦ item_of o t a ∷ [] | None ↦ [] ]) t)) [
        | Some a ↦ λ is. turn_turned e n t a is h
        | None ↦ λ is. skip_turned e n t is h
      ] refl

  at_number_turned : (e n : ℕ) (t : Trace) → Turning e n n t → Turning e (n + 1) (n + 1) (after_items (at_number o n t) t)
  at_number_turned e n t h =
      let due : List (List Mark) = functions_at o n t in
      subst (Turning e (n + 1) (n + 1)) (sym (after_items-append due (turn_at o n (after_items due t)) t)) (turn_at_turned e n (after_items due t) (functions_at_turned e n t h))

  agenda_turned : (e n m : ℕ) (t : Trace) → n + m ≡ e → Turning e n n t → Turning e (e + 1) e (after_items (agenda o n m t) t)
  agenda_turned e n zero t whole h = subst (λ k. Turning e (k + 1) k (after_items (functions_at o n t) t)) (let z : n ≡ e = omega (arith, whole) in z) (functions_at_turned e n t h)
  agenda_turned e n (suc m) t whole h =
      let due : List (List Mark) = at_number o n t in
      let t' : Trace = after_items due t in
      subst (Turning e (e + 1) e) (sym (after_items-append due (agenda o (n + 1) m t') t)) (agenda_turned e (n + 1) m t' (omega (arith, whole)) (at_number_turned e n t h))

  -- ---- an event

  -- no turn is to come
  abbrev pub IsTurned : Trace → Type 0
  IsTurned t = Turned (exp_of o t + 1) (exp_of o t) t

  -- from a trace to the one that an event makes of it: so it is then, and ExpCmdSN is as the first item left it, which receives one number at the most
  pub record GoesOn (t t' : Trace) : Type 0 where
    pub turned : IsTurned t'
    pub first : List Mark
    pub receives : AtMostOne (filter_map number_received first)
    pub exp : exp_of o t' ≡ exp_of o (first ∷ t)

  turns_turned : (t : Trace) (item : List Mark) → AtMostOne (filter_map number_received item) → Turned (exp_of o t) (exp_of o t) (item ∷ t) → GoesOn t (after_items (with_turns o t item) t)
  turns_turned t item receives h =
      let e : ℕ = exp_of o (item ∷ t) in
      let up = exp_item o item t in
      let x : Turning e (e + 1) e (after_items (with_turns o t item) t) = agenda_turned e (exp_of o t) (e - exp_of o t) (item ∷ t) (omega (arith, up)) (h, refl) in
      record { turned = subst (λ k. Turned (k + 1) k (after_items (with_turns o t item) t)) (sym x.1) x.0; first = item; receives = receives; exp = x.1 }

  first_executing : (t : Trace) (item : List Mark) → IsExecuting item → ((conn : ℕ) → waiting_on conn (item ∷ t) ≤ MOST_WAITING) → EachOf (λ (b : Arrival). exp_of o t ≤ b.number) (waiting (item ∷ t)) → IsTurned t → Turned (exp_of o t) (exp_of o t) (item ∷ t)
  first_executing t item x four ahead h = record { kept = (x.kept, h.kept); ahead = ahead; four = four; turned = λ k below. still_unheld item t k (x.admits_none k) (h.turned k below) }

  less_ahead : (e : ℕ) (ws : List Arrival) → EachOf (λ (b : Arrival). e + 1 ≤ b.number) ws → EachOf (λ (b : Arrival). e ≤ b.number) ws
  less_ahead e ws h = each-weaken (λ (b : Arrival). e + 1 ≤ b.number) (λ (b : Arrival). e ≤ b.number) ws (λ b le. omega (arith, le)) h

  -- the item of an immediate request
  pub record First (t : Trace) (item : List Mark) : Type 0 where
    pub executes : IsExecuting item
    four : (conn : ℕ) → waiting_on conn (item ∷ t) ≤ MOST_WAITING
    ahead : EachOf (λ (b : Arrival). exp_of o t ≤ b.number) (waiting (item ∷ t))

  first_does : (t : Trace) (a : Arrival) (ms : List Mark) → IsTurned t → Does o t AtArrival a ms → First t (Executes a ∷ ms)
  first_does t a ms h d = record {
    executes = executing o t AtArrival a ms d;
    four = λ conn. (let less = fewer_wait o t AtArrival a ms d (λ (b : Arrival). connection_of b.request == conn) in let most = h.four conn in omega (arith, less, most));
    ahead = fewer_each o t AtArrival a ms d (λ (b : Arrival). exp_of o t ≤ b.number) (less_ahead (exp_of o t) (waiting t) h.ahead);
  }

  first_waits : (t : Trace) (a : Arrival) → may_wait a.request ≡ true → nat_lt (exp_of o t) a.number ≡ true → nat_le MOST_WAITING (waiting_on (connection_of a.request) t) ≡ false → IsTurned t → First t (Waits a ∷ [])
  first_waits t a may far few h = record { executes = record { kept = (may, tt); admits_none = λ k. refl }; ahead = each-append (λ (b : Arrival). exp_of o t ≤ b.number) (waiting t) (a ∷ []) (less_ahead (exp_of o t) (waiting t) h.ahead) ((let lt = ltb-true (exp_of o t) a.number far in omega (arith, lt)), tt); four = λ conn. by_conn conn (connection_of a.request == conn) refl }
    where
      by_conn : (conn : ℕ) (b : Bool) → (connection_of a.request == conn) ≡ b → waiting_on conn ((Waits a ∷ []) ∷ t) ≤ MOST_WAITING
      by_conn conn false is = let most = h.four conn in let here = ap one is in omega (arith, count_by-push (λ (b : Arrival). connection_of b.request == conn) (waiting t) a, here, most)
      by_conn conn true is =
          let less : waiting_on conn t < MOST_WAITING = leb-false MOST_WAITING (waiting_on conn t) (ap (λ k. nat_le MOST_WAITING (waiting_on k t)) (sym (eqb-true (connection_of a.request) conn is)) ∙ few) in
          let here : one (connection_of a.request == conn) ≡ 1 = ap one is in
          omega (arith, count_by-push (λ (b : Arrival). connection_of b.request == conn) (waiting t) a, here, less)

  pub first_immediate : (t : Trace) (a : Arrival) → IsTurned t → First t (immediate_item o t a)
  first_immediate t a h = by_tests (opcode a.request == 0x02 && may_wait a.request) refl (refusal_of_function o a.request)
    where
      waits : may_wait a.request ≡ true → (b c d : Bool) → nat_lt (exp_of o t) a.number ≡ c → nat_le MOST_WAITING (waiting_on (connection_of a.request) t) ≡ d
          → First t (cond b (Executes a ∷ reply_on a (Task (itt a.request) 255)) (cond (not c) (execution o t (Executes a) a) (cond d (Executes a ∷ reply_on a (Reject 6 (header_of a.request))) (Waits a ∷ []))))
      waits may true c d far is = first_does t a _ h (does_reply o t AtArrival a (Task (itt a.request) 255) refl)
      waits may false false d far is = first_does t a _ h (does_after o t AtArrival a)
      waits may false true true far is = first_does t a _ h (does_reply o t AtArrival a (Reject 6 (header_of a.request)) refl)
      waits may false true false far is = first_waits t a may far is h

      by_tests : (b : Bool) → (opcode a.request == 0x02 && may_wait a.request) ≡ b → (x : Option Reply) → First t (cond b (elim x [ Some reply ↦ execution o t (Executes a) a | None ↦ waiting_item o t a ]) (execution o t (Executes a) a))
      by_tests true is (Some reply) = first_does t a _ h (does_after o t AtArrival a)
      by_tests true is None = waits (and_parts (opcode a.request == 0x02) (may_wait a.request) is).1 (nat_lt (max_of o t + 1) a.number) (nat_lt (exp_of o t) a.number) (nat_le MOST_WAITING (waiting_on (connection_of a.request) t)) refl refl
      by_tests false is x = first_does t a _ h (does_after o t AtArrival a)

  -- items by which nothing executes
  quiet_turned : (t : Trace) (item : List Mark) → filter_map number_received item ≡ [] → IsExecuting item → waiting (item ∷ t) ≡ waiting t → IsTurned t → GoesOn t (item ∷ t)
  quiet_turned t item none x same h = record {
    turned = subst (λ k. Turned (k + 1) k (item ∷ t)) (sym (none_received item t none))
        (record {
          kept = (x.kept, h.kept);
          ahead = subst (EachOf (λ (b : Arrival). exp_of o t + 1 ≤ b.number)) (sym same) h.ahead;
          four = λ conn. (let most = h.four conn in let is = ap (count_by (λ (b : Arrival). connection_of b.request == conn)) same in omega (arith, most, is));
          turned = λ k below. still_unheld item t k (x.admits_none k) (h.turned k below);
        });
    first = item;
    receives = inl none;
    exp = refl;
  }

  ignored_turned : (t : Trace) (why : Why) → IsTurned t → GoesOn t ((Ignores why ∷ []) ∷ t)
  ignored_turned t why h = quiet_turned t (Ignores why ∷ []) refl (record { kept = (tt, tt); admits_none = λ k. refl }) refl h

  numbered_turned : (t : Trace) (a : Arrival) → is_immediate a.request ≡ false → IsTurned t → GoesOn t (after_items (numbered o t a) t)
  numbered_turned t a later h =
      elim (nat_lt a.number (exp_of o t) || nat_lt (max_of o t) a.number) as (λ v. (nat_lt a.number (exp_of o t) || nat_lt (max_of o t) a.number) ≡ v → GoesOn t (after_items (cond v (ignored Outside) (cond (is_received t a.number) (ignored Duplicate) (with_turns o t (Admits a ∷ [])))) t)) [
        | true ↦ λ is. ignored_turned t Outside h
        | false ↦ λ is. elim (is_received t a.number) as (λ v. GoesOn t (after_items (cond v (ignored Duplicate) (with_turns o t (Admits a ∷ []))) t)) [
          | true ↦ ignored_turned t Duplicate h
          | false ↦ turns_turned t (Admits a ∷ []) (inr (a.number, refl)) (admitted (or_none (nat_lt a.number (exp_of o t)) (nat_lt (max_of o t) a.number) is))
        ]
      ] refl
    where
      admitted : (nat_lt a.number (exp_of o t) ≡ false) × (nat_lt (max_of o t) a.number ≡ false) → Turned (exp_of o t) (exp_of o t) ((Admits a ∷ []) ∷ t)
      admitted inside =
          let ahead : nat_lt a.number (exp_of o t) ≡ false = inside.0 in
          let there : exp_of o t ≤ a.number = grind (arith, nat_tests) in
          record { kept = ((later, tt), h.kept); ahead = less_ahead (exp_of o t) (waiting t) h.ahead; four = h.four; turned = λ k below. held-admits t a k (ne_eqb a.number k (λ same. omega (arith, there, below, same))) ∙ h.turned k below }

  arrival_turned : (t : Trace) (a : Arrival) → IsTurned t → GoesOn t (after_items (arrival o t a) t)
  arrival_turned t a h =
      elim (is_closed (connection_of a.request) t) as (λ v. GoesOn t (after_items (cond v (ignored Closed) (arrival_open o t a)) t)) [
        | true ↦ ignored_turned t Closed h
        | false ↦ by_kind (kind_of a.request)
      ]
    where
      by_kind : (k : Kind) → GoesOn t (after_items (arrival_as o t a k) t)
      by_kind PassedOver = ignored_turned t Data h
      by_kind Unknown = quiet_turned t (rejected a) refl (record { kept = (tt, tt); admits_none = λ k. refl }) refl h
      by_kind ExecutesKind =
          elim (is_immediate a.request) as (λ v. is_immediate a.request ≡ v → GoesOn t (after_items (cond v (with_turns o t (immediate_item o t a)) (numbered o t a)) t)) [
            | true ↦ λ is. (let f = first_immediate t a h in turns_turned t (immediate_item o t a) (immediate_receives_one o t a) (first_executing t (immediate_item o t a) f.executes f.four f.ahead h))
            | false ↦ λ is. numbered_turned t a is h
          ] refl

  pub event_goes : (now : ℕ) (t : Trace) (e : Event) → IsTurned t → GoesOn t (after_event o now t e)
  event_goes now t (Arrive conn header) h = arrival_turned t (arrival_of o now t (request_of conn header)) h
  event_goes now t (Done ticket status) h = by_command (command_of t ticket)
    where
      by_command : (y : Option Command) → GoesOn t (after_items (completion status y) t)
      by_command None = ignored_turned t Stale h
      by_command (Some c) = quiet_turned t (Leaves c ∷ reply_on c.arrival (Scsi (itt c.arrival.request) status (sense_of_status status))) refl (record { kept = (tt, (tt, tt)); admits_none = λ k. refl }) refl h

  pub event_turned : (now : ℕ) (t : Trace) (e : Event) → IsTurned t → IsTurned (after_event o now t e)
  event_turned now t e h = (event_goes now t e h).turned

  pub none_turned : IsTurned []
  none_turned = record { kept = tt; ahead = tt; four = λ conn. omega arith; turned = λ k below. refl }
