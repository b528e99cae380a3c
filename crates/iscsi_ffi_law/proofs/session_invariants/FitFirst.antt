-- The functions that wait for a number execute in the order of their arrival: each is the first one of its number as it executes.
use Rattle.std.proofs.Common.{◌≡◌, ℕ, zero, suc, ◌+◌, ◌-◌, ◌≤◌, ◌==◌, ◌&&◌, ◌||◌, ◌⊎◌, inl, inr, not, cond, nat_le, nat_lt, Bool, true, false, List, [], ◌∷◌, ◌++◌, filter, length, Option, Some, None, refl, ap, sym, subst, ◌∙◌, arith, eq-eqb}
use Rattle.std.proofs.lemmas.Bool.{eqb-true}
use Rattle.iscsi_wire.specs.declared.reply.Reply.{Reply}
use Rattle.iscsi_wire.specs.declared.reply.Reply.TheVariants.{Reject, Task}
use Rattle.iscsi_wire.specs.Fields.{connection_of, header_of, is_immediate, itt, opcode}
use Rattle.iscsi_rules.specs.declared.effect.Why.TheVariants.{Closed, Duplicate, Outside}
use Rattle.iscsi_rules.specs.declared.kind.Kind.{Kind}
use Rattle.iscsi_rules.specs.declared.kind.Kind.TheVariants.{Executes as ExecutesKind, PassedOver, Unknown}
use Rattle.iscsi_rules.specs.rules.Agenda.{arrival, arrival_as, arrival_open, kind_of, numbered, with_turns}
use Rattle.iscsi_rules.specs.rules.Execution.{exp_of, ignored, max_of, reply_on}
use Rattle.iscsi_rules.specs.rules.Items.{agenda, at_number, execution, function_item, functions, functions_at, immediate_item, item_of, turn_at, waiting_item}
use Rattle.iscsi_rules.specs.rules.Management.{MOST_WAITING, may_wait, refusal_of_function, waiting_on}
use Rattle.iscsi_rules.specs.rules.Settings.{Setting}
use Rattle.iscsi_rules.specs.rules.Trace.{Admits, Arrival, Executes, Mark, Trace, Waits, after_items, first_of, held, is_closed, is_received, waiting}
use Rattle.iscsi_rules.proofs.general.ListLemmas.{filter-shorter, filter-swap}
use Rattle.iscsi_rules.proofs.items.WaitingItems.{first_function, waiting_after_function, waits_itself, without_event}
use Rattle.iscsi_outbox_rules.proofs.closes.ClosedParts.{EachOn}

on-append : (P : Trace → List Mark → Type 0) (t : Trace) (xs ys : List (List Mark)) → EachOn P t xs → EachOn P (after_items xs t) ys → EachOn P t (xs ++ ys)
on-append P t [] ys h k = k
on-append P t (x ∷ xs) ys h k = (h.0, on-append P (x ∷ t) xs ys h.1 k)

-- where an item begins with a function that executes, that one is the first that waits for its number
abbrev pub IsInOrder : Trace → List Mark → Type 0
IsInOrder t item = (a : Arrival) → first_of item ≡ Some (Executes a) → (rest : List Arrival) × (filter (λ (b : Arrival). b.number == a.number) (waiting t) ≡ a ∷ rest)

-- what is first among those that pass, passes
first_passes : {A : Type 0} (p : A → Bool) (xs : List A) (x : A) (rest : List A) → filter p xs ≡ x ∷ rest → p x ≡ true
first_passes p [] x rest h = absurd cc
first_passes p (y ∷ xs) x rest h =
    elim (p y) as (λ v. p y ≡ v → cond v (y ∷ filter p xs) (filter p xs) ≡ x ∷ rest → p x ≡ true) [
      | true ↦ λ is k. let same : y ≡ x = cc in ap p (sym same) ∙ is
      | false ↦ λ is k. first_passes p xs x rest k
    ] refl h

module _ (o : Setting) where
  abbrev these : ℕ → Trace → List Arrival
  these n t = filter (λ (b : Arrival). b.number == n) (waiting t)

  -- ---- the functions of a number

  fewer_these : (n k : ℕ) (t : Trace) (a : Arrival) (rest : List Arrival) → these n t ≡ a ∷ rest → length (these n t) ≤ suc k → length (these n (function_item o t a ∷ t)) ≤ k
  fewer_these n k t a rest is few =
      let later : filter (λ (b : Arrival). b.number == n) (waiting (function_item o t a ∷ t)) ≡ filter (λ (b : Arrival). not (b.event == a.event)) rest =
      ap (filter (λ (b : Arrival). b.number == n)) (waiting_after_function o t a)
      ∙ filter-swap (λ (b : Arrival). b.number == n) (λ (b : Arrival). not (b.event == a.event)) (waiting t)
      ∙ ap (without_event a.event) is
      ∙ ap (λ v. cond (not v) (a ∷ without_event a.event rest) (without_event a.event rest)) (eq-eqb a.event a.event refl) in
      let same = ap length later in
      let all = ap length is in
      let less = filter-shorter (λ (b : Arrival). not (b.event == a.event)) rest in
      omega (arith, same, all, less, few)

  in_order : (n : ℕ) (t : Trace) (a : Arrival) (rest : List Arrival) → these n t ≡ a ∷ rest → IsInOrder t (function_item o t a)
  in_order n t a rest is b first =
      let same : a ≡ b = cc in
      let here : b.number ≡ n = ap (λ (x : Arrival). x.number) (sym same) ∙ eqb-true a.number n (first_passes (λ (x : Arrival). x.number == n) (waiting t) a rest is) in
      (rest, ap (λ k. filter (λ (x : Arrival). x.number == k) (waiting t)) here ∙ is ∙ ap (λ x. x ∷ rest) same)

  -- .. where no more of them than that wait
  functions_in_order : (k n : ℕ) (t : Trace) → length (these n t) ≤ k → EachOn IsInOrder t (functions_at o n t)
  functions_in_order zero n t few = by_these (these n t) refl
    where
      by_these : (as' : List Arrival) → these n t ≡ as' → EachOn IsInOrder t (functions_at o n t)
      by_these [] is = subst (λ bs. EachOn IsInOrder t (functions o bs t)) (sym is) tt
      by_these (a ∷ as') is = absurd (let all = ap length is in let z : ⊥ = omega (arith, all, few) in z)
  functions_in_order (suc k) n t few = by_these (functions_in_order k n) (these n t) refl
    where
      by_these : ((u : Trace) → length (these n u) ≤ k → EachOn IsInOrder u (functions_at o n u)) → (as' : List Arrival) → these n t ≡ as' → EachOn IsInOrder t (functions_at o n t)
      by_these later [] is = subst (λ bs. EachOn IsInOrder t (functions o bs t)) (sym is) tt
      by_these later (a ∷ as') is =
          subst (EachOn IsInOrder t) (sym (first_function o n t a as' is (waits_itself (λ (b : Arrival). b.number == n) (waiting t) a as' is)))
          (in_order n t a as' is, later (function_item o t a ∷ t) (fewer_these n k t a as' is few))

  -- ---- the agenda

  turn_in_order : (n : ℕ) (t : Trace) → EachOn IsInOrder t (turn_at o n t)
  turn_in_order n t =
      elim (held t n) as (λ y. EachOn IsInOrder t (elim y [ Some a ↦ item_of o t a ∷ [] | None ↦ [] ])) [
        | Some a ↦ ((λ b first. absurd cc), tt)
        | None ↦ tt
      ]

  functions_at_in_order : (n : ℕ) (t : Trace) → EachOn IsInOrder t (functions_at o n t)
  functions_at_in_order n t = functions_in_order (length (these n t)) n t (omega arith)

  agenda_in_order : (n m : ℕ) (t : Trace) → EachOn IsInOrder t (agenda o n m t)
  agenda_in_order n zero t = functions_at_in_order n t
  agenda_in_order n (suc m) t =
      let before : List (List Mark) = functions_at o n t in
      let first : List (List Mark) = at_number o n t in
      on-append IsInOrder t first (agenda o (n + 1) m (after_items first t)) (on-append IsInOrder t before (turn_at o n (after_items before t)) (functions_at_in_order n t) (turn_in_order n (after_items before t))) (agenda_in_order (n + 1) m (after_items first t))

  -- ---- an event

  -- what comes behind the first item of an arrival
  abbrev IsBehind : Trace → List Mark → List (List Mark) → Type 0
  IsBehind t item rest = (rest ≡ []) ⊎ (rest ≡ agenda o (exp_of o t) (exp_of o (item ∷ t) - exp_of o t) (item ∷ t))

  behind_one : (t : Trace) (item x : List Mark) (rest : List (List Mark)) → x ∷ [] ≡ item ∷ rest → IsBehind t item rest
  behind_one t item x rest is = inl (let z : rest ≡ [] = cc in z)

  behind_turns : (t : Trace) (item x : List Mark) (rest : List (List Mark)) → with_turns o t x ≡ item ∷ rest → IsBehind t item rest
  behind_turns t item x rest is =
      let same : x ≡ item = cc in
      let later : agenda o (exp_of o t) (exp_of o (x ∷ t) - exp_of o t) (x ∷ t) ≡ rest = cc in
      inr (sym later ∙ ap (λ (ms : List Mark). agenda o (exp_of o t) (exp_of o (ms ∷ t) - exp_of o t) (ms ∷ t)) same)

  pub behind : (t : Trace) (a : Arrival) (item : List Mark) (rest : List (List Mark)) → arrival o t a ≡ item ∷ rest → IsBehind t item rest
  behind t a item rest same =
      (elim (is_closed (connection_of a.request) t) as (λ v. cond v (ignored Closed) (arrival_open o t a) ≡ item ∷ rest → IsBehind t item rest) [
        | true ↦ λ s. behind_one t item _ rest s
        | false ↦ by_kind (kind_of a.request)
      ]) same
    where
      by_numbered : numbered o t a ≡ item ∷ rest → IsBehind t item rest
      by_numbered =
          elim (nat_lt a.number (exp_of o t) || nat_lt (max_of o t) a.number) as (λ v. cond v (ignored Outside) (cond (is_received t a.number) (ignored Duplicate) (with_turns o t (Admits a ∷ []))) ≡ item ∷ rest → IsBehind t item rest) [
            | true ↦ λ s. behind_one t item _ rest s
            | false ↦ elim (is_received t a.number) as (λ v. cond v (ignored Duplicate) (with_turns o t (Admits a ∷ [])) ≡ item ∷ rest → IsBehind t item rest) [
              | true ↦ λ s. behind_one t item _ rest s
              | false ↦ λ s. behind_turns t item (Admits a ∷ []) rest s
            ]
          ]

      by_kind : (k : Kind) → arrival_as o t a k ≡ item ∷ rest → IsBehind t item rest
      by_kind PassedOver s = behind_one t item _ rest s
      by_kind Unknown s = behind_one t item _ rest s
      by_kind ExecutesKind s =
          (elim (is_immediate a.request) as (λ v. cond v (with_turns o t (immediate_item o t a)) (numbered o t a) ≡ item ∷ rest → IsBehind t item rest) [
            | true ↦ λ e. behind_turns t item (immediate_item o t a) rest e
            | false ↦ by_numbered
          ]) s

  pub behind_in_order : (t : Trace) (a : Arrival) (item : List Mark) (rest : List (List Mark)) → arrival o t a ≡ item ∷ rest → EachOn IsInOrder (item ∷ t) rest
  behind_in_order t a item rest same = by_behind (behind t a item rest same)
    where
      by_behind : IsBehind t item rest → EachOn IsInOrder (item ∷ t) rest
      by_behind (inl none) = subst (EachOn IsInOrder (item ∷ t)) (sym none) tt
      by_behind (inr turns) = subst (EachOn IsInOrder (item ∷ t)) (sym turns) (agenda_in_order (exp_of o t) (exp_of o (item ∷ t) - exp_of o t) (item ∷ t))

  -- ---- a function that waits from now on

  -- its number lies behind ExpCmdSN, and by one at most behind MaxCmdSN
  pub record IsAhead (t : Trace) (a : Arrival) : Type 0 where
    pub low : nat_lt (exp_of o t) a.number ≡ true
    pub high : nat_lt (max_of o t + 1) a.number ≡ false

  waiting_ahead : (t : Trace) (a : Arrival) → waiting_item o t a ≡ Waits a ∷ [] → IsAhead t a
  waiting_ahead t a = by_tests (nat_lt (max_of o t + 1) a.number) (nat_lt (exp_of o t) a.number) (nat_le MOST_WAITING (waiting_on (connection_of a.request) t)) refl refl
    where
      by_tests : (b c d : Bool) → nat_lt (max_of o t + 1) a.number ≡ b → nat_lt (exp_of o t) a.number ≡ c
          → cond b (Executes a ∷ reply_on a (Task (itt a.request) 255)) (cond (not c) (execution o t (Executes a) a) (cond d (Executes a ∷ reply_on a (Reject 6 (header_of a.request))) (Waits a ∷ []))) ≡ Waits a ∷ [] → IsAhead t a
      by_tests true c d high low s = absurd cc
      by_tests false false d high low s = absurd cc
      by_tests false true true high low s = absurd cc
      by_tests false true false high low s = record { low = low; high = high }

  immediate_ahead : (t : Trace) (a : Arrival) → immediate_item o t a ≡ Waits a ∷ [] → IsAhead t a
  immediate_ahead t a = by_tests (opcode a.request == 0x02 && may_wait a.request) (refusal_of_function o a.request)
    where
      by_tests : (b : Bool) (x : Option Reply) → cond b (elim x [ Some reply ↦ execution o t (Executes a) a | None ↦ waiting_item o t a ]) (execution o t (Executes a) a) ≡ Waits a ∷ [] → IsAhead t a
      by_tests true (Some reply) s = absurd cc
      by_tests true None s = waiting_ahead t a s
      by_tests false x s = absurd cc

  pub postponed_ahead : (t : Trace) (a : Arrival) (rest : List (List Mark)) → arrival o t a ≡ (Waits a ∷ []) ∷ rest → IsAhead t a
  postponed_ahead t a rest same =
      (elim (is_closed (connection_of a.request) t) as (λ v. cond v (ignored Closed) (arrival_open o t a) ≡ (Waits a ∷ []) ∷ rest → IsAhead t a) [
        | true ↦ λ s. absurd cc
        | false ↦ by_kind (kind_of a.request)
      ]) same
    where
      by_numbered : numbered o t a ≡ (Waits a ∷ []) ∷ rest → IsAhead t a
      by_numbered =
          elim (nat_lt a.number (exp_of o t) || nat_lt (max_of o t) a.number) as (λ v. cond v (ignored Outside) (cond (is_received t a.number) (ignored Duplicate) (with_turns o t (Admits a ∷ []))) ≡ (Waits a ∷ []) ∷ rest → IsAhead t a) [
            | true ↦ λ s. absurd cc
            | false ↦ elim (is_received t a.number) as (λ v. cond v (ignored Duplicate) (with_turns o t (Admits a ∷ [])) ≡ (Waits a ∷ []) ∷ rest → IsAhead t a) [
              | true ↦ λ s. absurd cc
              | false ↦ λ s. absurd cc
            ]
          ]

      by_kind : (k : Kind) → arrival_as o t a k ≡ (Waits a ∷ []) ∷ rest → IsAhead t a
      by_kind PassedOver s = absurd cc
      by_kind Unknown s = absurd cc
      by_kind ExecutesKind s =
          (elim (is_immediate a.request) as (λ v. cond v (with_turns o t (immediate_item o t a)) (numbered o t a) ≡ (Waits a ∷ []) ∷ rest → IsAhead t a) [
            | true ↦ λ e. immediate_ahead t a (let z : immediate_item o t a ≡ Waits a ∷ [] = cc in z)
            | false ↦ by_numbered
          ]) s
