-- A function that has waited is the first one that waits on its connection with its number, as it executes.
use Rattle.std.proofs.Common.{◌≡◌, ℕ, ◌+◌, ◌-◌, ◌≤◌, ◌<◌, ◌==◌, ◌&&◌, cond, Bool, true, false, List, [], ◌∷◌, ◌++◌, filter, find, Option, Some, None, inl, inr, refl, ap, sym, subst, ◌∙◌, ◌⊎◌, arith, eq-eqb, ne_eqb}
use Rattle.std.specs.List.{list_any}
use Rattle.std.proofs.lemmas.List.{append-nil}
use Rattle.std.proofs.lemmas.Bool.{and_parts, eqb-true, false≢true, ltb-false, ltb-true}
use Rattle.iscsi_wire.specs.Fields.{cmd_sn, connection_of, request_of}
use Rattle.iscsi_rules.specs.declared.event.Event.{Event}
use Rattle.iscsi_rules.specs.declared.event.Event.TheVariants.{Arrive, Done}
use Rattle.iscsi_rules.specs.rules.Agenda.{arrival, arrival_of, command_of}
use Rattle.iscsi_rules.specs.rules.Execution.{completion, exp_of, max_of}
use Rattle.iscsi_rules.specs.rules.Items.{agenda, functions}
use Rattle.iscsi_rules.specs.rules.Run.{after_event}
use Rattle.iscsi_rules.specs.rules.Settings.{Setting}
use Rattle.iscsi_rules.specs.rules.Trace.{Admits, Arrival, Command, Executes, Mark, Trace, Waits, after_items, first_of, received, waiting}
use Rattle.iscsi_rules.proofs.promises.AbortRuns.{exp_items}
use Rattle.iscsi_rules.proofs.general.ElementLemmas.{In, in-filter}
use Rattle.iscsi_rules.proofs.traces.FlowItems.{same_exp}
use Rattle.iscsi_rules.proofs.items.Forms.{AtArrival, marks_done}
use Rattle.iscsi_rules.proofs.general.Missing.{expected_low}
use Rattle.iscsi_outbox_rules.proofs.closes.ClosedParts.{EachOn}
use Rattle.iscsi_outbox_law.specs.private.Pairs.{EachOf}
use Rattle.iscsi_outbox_law.proofs.general.PairLemmas.{each-append, each-weaken}
use Rattle.iscsi_ffi_law.specs.Arrived.{is_first_waiting}
use Rattle.iscsi_ffi_law.proofs.session_invariants.FitFirst.{IsInOrder, behind, behind_in_order, postponed_ahead}
use Rattle.iscsi_ffi_law.proofs.session_invariants.FitMarks.{fewer_each}
use Rattle.iscsi_ffi_law.proofs.session_invariants.FitPrompt.{none_at}
use Rattle.iscsi_ffi_law.proofs.session_invariants.FitReceived.{IsWired}
use Rattle.iscsi_ffi_law.proofs.session_invariants.FitTurns.{IsTurned}
use Rattle.iscsi_ffi_law.proofs.general.Members.{any_in, each_in}
use Rattle.iscsi_ffi_law.proofs.arrivals.Turns.{AreDue, Becomes, IsDue, IsExecuted, IsIgnored, IsPostponed, IsReceived, IsRejected, becomes}

-- the first that passes one test is the first that passes another, where no other passes that one
first_found : {A : Type 0} (p q : A → Bool) (xs : List A) (x : A) (rest : List A) → EachOf (λ y. p y ≡ true → q y ≡ true) xs → p x ≡ true → filter q xs ≡ x ∷ rest → find p xs ≡ Some x
first_found p q [] x rest each passes is = absurd cc
first_found p q (y ∷ xs) x rest each passes is = by_tests (first_found p q xs x rest each.1 passes) (q y) (p y) refl refl is
  where
    by_tests : (filter q xs ≡ x ∷ rest → find p xs ≡ Some x) → (u v : Bool) → q y ≡ u → p y ≡ v → cond u (y ∷ filter q xs) (filter q xs) ≡ x ∷ rest → cond v (Some y) (find p xs) ≡ Some x
    by_tests later true true e f k = let same : y ≡ x = cc in ap Some same
    by_tests later true false e f k = let same : y ≡ x = cc in absurd (false≢true (sym f ∙ ap p same ∙ passes))
    by_tests later false true e f k = absurd (false≢true (sym e ∙ each.0 f))
    by_tests later false false e f k = later k

module _ (o : Setting) where
  -- ---- what waits, behind items

  due_each : (P : Arrival → Type 0) (t : Trace) (item : List Mark) → IsDue o t item → EachOf P (waiting t) → EachOf P (waiting (item ∷ t))
  due_each P t item d h =
      subst (λ ms. EachOf P (waiting (ms ∷ t))) (sym d.is) (fewer_each o t d.start d.a (marks_done d.a d.deeds) (record { deeds = d.deeds; is = refl; done = d.done }) P h)

  dues_each : (P : Arrival → Type 0) (t : Trace) (items : List (List Mark)) → AreDue o t items → EachOf P (waiting t) → EachOf P (waiting (after_items items t))
  dues_each P t [] due h = h
  dues_each P t (item ∷ items) due h = dues_each P (item ∷ t) items due.1 (due_each P t item due.0 h)

  -- ---- the numbers of the functions that wait are near

  abbrev pub AreNear : Trace → Type 0
  AreNear t = EachOf (λ (b : Arrival). b.number ≤ exp_of o t + o.window) (waiting t)

  -- .. than as far as they were
  near_on : (items : List (List Mark)) (t : Trace) → EachOf (λ (b : Arrival). b.number ≤ exp_of o t + o.window) (waiting (after_items items t)) → AreNear (after_items items t)
  near_on items t h =
      each-weaken (λ (b : Arrival). b.number ≤ exp_of o t + o.window) (λ (b : Arrival). b.number ≤ exp_of o (after_items items t) + o.window) (waiting (after_items items t)) (λ b le. (let up = exp_items o items t in omega (arith, le, up))) h

  near_arrival : (t : Trace) (a : Arrival) → AreNear t → AreNear (after_items (arrival o t a) t)
  near_arrival t a h = near_on (arrival o t a) t (by_first (arrival o t a) refl (becomes o t a))
    where
      P : Arrival → Type 0
      P b = b.number ≤ exp_of o t + o.window

      by_first : (items : List (List Mark)) → arrival o t a ≡ items → Becomes o t a items → EachOf P (waiting (after_items items t))
      by_first items same (IsIgnored why is) = subst (λ its. EachOf P (waiting (after_items its t))) (sym is) h
      by_first items same (IsRejected is) = subst (λ its. EachOf P (waiting (after_items its t))) (sym is) h
      by_first items same (IsReceived rest later new is due) = subst (λ its. EachOf P (waiting (after_items its t))) (sym is) (dues_each P ((Admits a ∷ []) ∷ t) rest due h)
      by_first items same (IsExecuted d rest now done opens is due) =
          subst (λ its. EachOf P (waiting (after_items its t))) (sym is)
          (dues_each P ((Executes a ∷ marks_done a d) ∷ t) rest due (fewer_each o t AtArrival a (marks_done a d) (record { deeds = d; is = refl; done = done }) P h))
      by_first items same (IsPostponed rest now few is due) =
          let x = postponed_ahead o t a rest (same ∙ is) in
          let high = ltb-false (max_of o t + 1) a.number x.high in
          let low = expected_low o.first t in
          subst (λ its. EachOf P (waiting (after_items its t))) (sym is) (dues_each P ((Waits a ∷ []) ∷ t) rest due (each-append P (waiting t) (a ∷ []) h (omega (arith, high, low), tt)))

  pub near_event : (now : ℕ) (t : Trace) (e : Event) → AreNear t → AreNear (after_event o now t e)
  near_event now t (Arrive conn header) h = near_arrival t (arrival_of o now t (request_of conn header)) h
  near_event now t (Done ticket status) h = by_command (command_of t ticket)
    where
      by_command : (y : Option Command) → AreNear (after_items (completion status y) t)
      by_command None = near_on (completion status None) t h
      by_command (Some c) = near_on (completion status (Some c)) t h

  -- ---- each is the first one

  -- what an item that begins with a function that waited is to come to
  abbrev pub IsWaited : ℕ → Trace → List Mark → Type 0
  IsWaited now t item = (a : Arrival) → first_of item ≡ Some (Executes a) → list_any (λ (b : Arrival). b.event == a.event) (waiting t) ≡ true → ((a.event == now) ≡ false) × is_first_waiting t a

  module _ (now e : ℕ) where
    -- of a function that waits, in the event `now`, at whose begin ExpCmdSN was e
    pub record IsOld (b : Arrival) : Type 0 where
      pub event : b.event < now
      pub low : e + 1 ≤ b.number
      pub high : b.number ≤ e + o.window
      pub wired : IsWired b

    waited_item : (t : Trace) (item : List Mark) → o.window ≤ 1024 → EachOf IsOld (waiting t) → IsInOrder t item → IsWaited now t item
    waited_item t item window each order a first waits =
        let x = order a first in
        let there : In a (waiting t) = (in-filter (λ (b : Arrival). b.number == a.number) (waiting t) a (subst (In a) (sym x.1) (inl refl))).0 in
        let old : IsOld a = each_in IsOld (waiting t) a there each in (
          ne_eqb a.event now (λ same. (let lt = old.event in let z : ⊥ = omega (arith, lt, same) in z)),
          first_found (λ (b : Arrival). connection_of b.request == connection_of a.request && cmd_sn b.request == cmd_sn a.request) (λ (b : Arrival). b.number == a.number) (waiting t) a x.0
              (each-weaken IsOld (λ (b : Arrival). (connection_of b.request == connection_of a.request && cmd_sn b.request == cmd_sn a.request) ≡ true → (b.number == a.number) ≡ true) (waiting t) (λ b k passes. same_number b a k old (and_parts (connection_of b.request == connection_of a.request) (cmd_sn b.request == cmd_sn a.request) passes).1) each)
              (ap (λ v. v && cmd_sn a.request == cmd_sn a.request) (eq-eqb (connection_of a.request) (connection_of a.request) refl) ∙ eq-eqb (cmd_sn a.request) (cmd_sn a.request) refl)
              x.1,
        )
      where
        same_number : (b c : Arrival) → IsOld b → IsOld c → (cmd_sn b.request == cmd_sn c.request) ≡ true → (b.number == c.number) ≡ true
        same_number b c k l is =
            let same = eqb-true (cmd_sn b.request) (cmd_sn c.request) is in
            let p = k.wired.same in
            let q = l.wired.same in
            let low = k.low in
            let high = k.high in
            let low' = l.low in
            let high' = l.high in
            eq-eqb b.number c.number (omega (arith, same, p, q, low, high, low', high', window))

    waited_items : (t : Trace) (items : List (List Mark)) → o.window ≤ 1024 → AreDue o t items → EachOn IsInOrder t items → EachOf IsOld (waiting t) → EachOn (IsWaited now) t items
    waited_items t [] window due order each = tt
    waited_items t (item ∷ items) window due order each = (waited_item t item window each order.0, waited_items (item ∷ t) items window due.1 order.1 (due_each IsOld t item due.0 each))

  pub waited_arrival : (now : ℕ) (t : Trace) (a : Arrival) → o.window ≤ 1024 → a.event ≡ now → IsTurned o t → EachOf (IsOld now (exp_of o t)) (waiting t) → EachOn (IsWaited now) t (arrival o t a)
  waited_arrival now t a window here turned each = by_first (arrival o t a) refl (becomes o t a)
    where
      e : ℕ
      e = exp_of o t

      -- it didn't wait before its event
      never : (b : Arrival) → a ≡ b → list_any (λ (x : Arrival). x.event == b.event) (waiting t) ≡ true → ⊥
      never b same waits =
          let x = any_in (λ (y : Arrival). y.event == b.event) (waiting t) waits in
          let old = each_in (IsOld now (exp_of o t)) (waiting t) x.x x.there each in
          let lt = old.event in
          let is = eqb-true x.x.event b.event x.passes in
          let its = ap (λ (y : Arrival). y.event) same in
          omega (arith, lt, is, its, here)

      -- nothing comes behind a function that waits from now on
      none_behind : (rest : List (List Mark)) → arrival o t a ≡ (Waits a ∷ []) ∷ rest → rest ≡ []
      none_behind rest is = by_behind (behind o t a (Waits a ∷ []) rest is)
        where
          none : filter (λ (b : Arrival). b.number == exp_of o t) (waiting t ++ a ∷ []) ≡ []
          none =
              let x = postponed_ahead o t a rest is in
              let low = ltb-true (exp_of o t) a.number x.low in
              none_at (exp_of o t) (waiting t ++ a ∷ []) (each-append (λ (b : Arrival). exp_of o t + 1 ≤ b.number) (waiting t) (a ∷ []) turned.ahead (omega (arith, low), tt))

          by_behind : (rest ≡ []) ⊎ (rest ≡ agenda o (exp_of o t) (exp_of o ((Waits a ∷ []) ∷ t) - exp_of o t) ((Waits a ∷ []) ∷ t)) → rest ≡ []
          by_behind (inl none') = none'
          by_behind (inr turns) =
              let stays = same_exp o ((Waits a ∷ []) ∷ t) t (append-nil (received t)) in
              let none_more : exp_of o ((Waits a ∷ []) ∷ t) - exp_of o t ≡ 0 = omega (arith, stays) in
              turns ∙ ap (λ m. agenda o (exp_of o t) m ((Waits a ∷ []) ∷ t)) none_more ∙ ap (λ bs. functions o bs ((Waits a ∷ []) ∷ t)) none

      by_first : (items : List (List Mark)) → arrival o t a ≡ items → Becomes o t a items → EachOn (IsWaited now) t items
      by_first items same (IsIgnored why is) = subst (EachOn (IsWaited now) t) (sym is) ((λ b first. absurd cc), tt)
      by_first items same (IsRejected is) = subst (EachOn (IsWaited now) t) (sym is) ((λ b first. absurd cc), tt)
      by_first items same (IsReceived rest later new is due) =
          subst (EachOn (IsWaited now) t) (sym is) ((λ b first. absurd cc), waited_items now (exp_of o t) ((Admits a ∷ []) ∷ t) rest window due (behind_in_order o t a (Admits a ∷ []) rest (same ∙ is)) each)
      by_first items same (IsExecuted d rest by done opens is due) =
          subst (EachOn (IsWaited now) t) (sym is) (
            (λ b first waits. absurd (never b (let z : a ≡ b = cc in z) waits)),
            waited_items now (exp_of o t) ((Executes a ∷ marks_done a d) ∷ t) rest window due (behind_in_order o t a (Executes a ∷ marks_done a d) rest (same ∙ is))
                (fewer_each o t AtArrival a (marks_done a d) (record { deeds = d; is = refl; done = done }) (IsOld now (exp_of o t)) each),
          )
      by_first items same (IsPostponed rest by few is due) =
          subst (EachOn (IsWaited now) t) (sym is) ((λ b first. absurd cc), subst (EachOn (IsWaited now) ((Waits a ∷ []) ∷ t)) (sym (none_behind rest (same ∙ is))) tt)
