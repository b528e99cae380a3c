-- MaxCmdSN of the outbox is that of the session, which goes on by little more than the window with each event.
use Rattle.std.proofs.Common.{◌≡◌, ℕ, ◌+◌, ◌-◌, ◌*◌, ◌^◌, ◌≤◌, ◌<◌, ◌==◌, ◌||◌, inl, inr, ⊎_elim, Bool, true, false, List, [], ◌∷◌, filter_map, refl, ap, sym, subst, ◌∙◌, arith}
use Rattle.std.proofs.lemmas.Bool.{cases_lt, eqb-true, false≢true}
use Rattle.iscsi_wire.specs.Serial.{lift, number_of_first, wire}
use Rattle.iscsi_rules.specs.declared.event.Event.{Event}
use Rattle.iscsi_rules.specs.rules.Execution.{exp_of, max_of}
use Rattle.iscsi_rules.specs.rules.Run.{after_event, entry_of}
use Rattle.iscsi_rules.specs.rules.Settings.{Setting, are_distinct}
use Rattle.iscsi_rules.specs.rules.Trace.{Mark, Trace, contains, is_received, number_received}
use Rattle.iscsi_rules.proofs.promises.AbortRuns.{exp_item}
use Rattle.iscsi_rules.proofs.general.BoolLemmas.{and_parts}
use Rattle.iscsi_rules.proofs.general.Missing.{expected_below, expected_low}
use Rattle.iscsi_rules.proofs.items.ReceivedItems.{AtMostOne}
use Rattle.iscsi_rules.proofs.traces.TraceLemmas.{received-item}
use Rattle.iscsi_outbox_rules.specs.promises.Room.{Both, Happens, Other, Step, after_step, after_steps, all_are, begun, is_read_with_room}
use Rattle.iscsi_outbox_rules.specs.rules.Calls.{Call, Opening}
use Rattle.iscsi_outbox_rules.proofs.room.RoomTheorem.{Stands, begun_stands, step_stands}
use Rattle.iscsi_ffi_law.proofs.outbox_invariants.FitNumbers.{call_max, event_lifts}
use Rattle.iscsi_ffi_law.proofs.outbox_invariants.FitReached.{Reached}
use Rattle.iscsi_ffi_law.proofs.side_invariants.FitSides.{none_taken}
use Rattle.iscsi_ffi_law.proofs.session_invariants.FitTurns.{GoesOn, IsTurned, event_goes, none_turned}

-- the number nearest to another one
lift_near : (e n : ℕ) → 2 ^ 31 ≤ e → e ≤ n + 2 ^ 30 → n ≤ e + 2 ^ 30 → lift e (wire n) ≡ n
lift_near e n big low high = omega arith

-- ---- ExpCmdSN

module _ (o : Setting) (t : Trace) (first : List Mark) (near : (k : ℕ) → is_received t k ≡ true → k < exp_of o t + o.window) where
  -- what is received now, and is far, is received by the item
  received_now : (k : ℕ) → exp_of o t + o.window ≤ k → k < exp_of o (first ∷ t) → contains (filter_map number_received first) k ≡ true
  received_now k far below = by_before (is_received t k) refl (sym (received-item first t k) ∙ expected_below o.first (first ∷ t) k (let low = expected_low o.first t in omega (arith, low, far)) below)
    where
      by_before : (v : Bool) → is_received t k ≡ v → (v || contains (filter_map number_received first) k) ≡ true → contains (filter_map number_received first) k ≡ true
      by_before true is any = absurd (let lt = near k is in let z : ⊥ = omega (arith, lt, far) in z)
      by_before false is any = any

  exp_step : AtMostOne (filter_map number_received first) → exp_of o (first ∷ t) ≤ exp_of o t + o.window + 1
  exp_step one =
      ⊎_elim
      (λ far. absurd (never (filter_map number_received first) one (received_now (exp_of o t + o.window) (omega arith) (omega (arith, far))) (received_now (exp_of o t + o.window + 1) (omega arith) far)))
      (λ le. le) (cases_lt (exp_of o t + o.window + 1) (exp_of o (first ∷ t)))
    where
      same : (n k : ℕ) → ((n == k) || false) ≡ true → n ≡ k
      same n k = by_test (n == k) refl
        where
          by_test : (v : Bool) → (n == k) ≡ v → (v || false) ≡ true → n ≡ k
          by_test true is some = eqb-true n k is
          by_test false is some = absurd (false≢true some)

      -- two numbers aren't one
      never : (ns : List ℕ) → AtMostOne ns → contains ns (exp_of o t + o.window) ≡ true → contains ns (exp_of o t + o.window + 1) ≡ true → ⊥
      never ns (inl none) here next = false≢true (sym (ap (λ ms. contains ms (exp_of o t + o.window)) none) ∙ here)
      never ns (inr only) here next =
          let a = same only.0 (exp_of o t + o.window) (sym (ap (λ ms. contains ms (exp_of o t + o.window)) only.1) ∙ here) in
          let b = same only.0 (exp_of o t + o.window + 1) (sym (ap (λ ms. contains ms (exp_of o t + o.window + 1)) only.1) ∙ next) in
          omega (arith, a, b)

-- ---- behind steps that are read with room

abbrev pub first_max : Opening → ℕ
first_max o = number_of_first o.session.first + o.session.window - 1

module _ (o : Opening) (distinct : are_distinct o.session.conns ≡ true) (window : o.session.window ≤ 1024) where
  record IsShown (b : Both) : Type 0 where
    stands : Stands o b
    turned : IsTurned o.session b.trace
    max_is : b.box.max ≡ max_of o.session b.trace
    exp_is : exp_of o.session b.trace ≤ number_of_first o.session.first + 1025 * b.event

  shown_event : (b : Both) (e : Event) → is_read_with_room o b (Happens e) ≡ true → IsShown b → IsShown (after_step o b (Happens e))
  shown_event b e read h =
      let t : Trace = b.trace in
      let t' : Trace = after_event o.session b.event b.trace e in
      let entry = entry_of o.session b.event b.trace e in
      let stands = step_stands o b (Happens e) read h.stands in
      let g : GoesOn o.session t t' = event_goes o.session b.event t e h.turned in
      let near = λ (k : ℕ) (is : is_received t k ≡ true). (let lt = h.stands.within.near k is in let z : k < exp_of o.session t + o.session.window = omega (arith, lt) in z) in
      let up = exp_step o.session t g.first near g.receives in
      let on = exp_item o.session g.first t in
      let exp = g.exp in
      let few = h.stands.within.few in
      let few' = stands.within.few in
      let low = expected_low o.session.first t in
      let was = h.exp_is in
      let rises : lift (max_of o.session t) (wire (max_of o.session t')) ≡ max_of o.session t' = lift_near (max_of o.session t) (max_of o.session t') (omega (arith, low, few)) (omega (arith, on, exp, few, few', window)) (omega (arith, up, exp, few, few', window)) in
      record {
        stands = stands;
        turned = g.turned;
        max_is = event_lifts o b.box entry.effects entry.numbers ∙ ap (λ m. lift m (wire (max_of o.session t'))) h.max_is ∙ rises;
        exp_is = omega (arith, up, exp, was, window);
      }

  shown_other : (b : Both) (c : Call) → is_read_with_room o b (Other c) ≡ true → IsShown b → IsShown (after_step o b (Other c))
  shown_other b c other h = record { stands = step_stands o b (Other c) other h.stands; turned = h.turned; max_is = call_max o b.box c (none_taken o c other) ∙ h.max_is; exp_is = h.exp_is }

  shown_from : (b : Both) (steps : List Step) → all_are (is_read_with_room o) o b steps ≡ true → IsShown b → IsShown (after_steps o b steps)
  shown_from b [] all h = h
  shown_from b (Happens e ∷ steps) all h =
      let parts = and_parts (is_read_with_room o b (Happens e)) (all_are (is_read_with_room o) o (after_step o b (Happens e)) steps) all in
      shown_from (after_step o b (Happens e)) steps parts.1 (shown_event b e parts.0 h)
  shown_from b (Other c ∷ steps) all h =
      let parts = and_parts (is_read_with_room o b (Other c)) (all_are (is_read_with_room o) o (after_step o b (Other c)) steps) all in
      shown_from (after_step o b (Other c)) steps parts.1 (shown_other b c parts.0 h)

  shown_begun : IsShown (begun o)
  shown_begun = record { stands = begun_stands o distinct; turned = none_turned o.session; max_is = omega arith; exp_is = omega arith }

  pub max_reached : (b : Both) → Reached o b → b.box.max ≤ first_max o + 1025 * b.event
  max_reached b r =
      let h : IsShown b = subst IsShown r.is (shown_from (begun o) r.steps r.read shown_begun) in
      let same = h.max_is in
      let exp = h.exp_is in
      omega (arith, same, exp)
