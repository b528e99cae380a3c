-- How many commands use their requests: no more than are live or owe.
use Rattle.std.proofs.Common.{◌≡◌, ℕ, ◌+◌, ◌<◌, ◌≤◌, ◌==◌, ◌&&◌, ◌||◌, not, cond, Bool, true, false, List, [], ◌∷◌, length, filter, count_by, refl, ap, sym, ◌∙◌, arith, ⊎_elim}
use Rattle.std.specs.List.{list_any}
use Rattle.std.proofs.lemmas.Bool.{and_parts, cond_both, eqb-true}
use Rattle.iscsi_rules.proofs.general.BoolLemmas.{or_first}
use Rattle.iscsi_rules.proofs.general.CountLemmas.{count-cons, count-weaker, one}
use Rattle.iscsi_rules.proofs.general.ElementLemmas.{In}
use Rattle.iscsi_rules.proofs.general.ListLemmas.{count_by-map, fewer_counted}
use Rattle.iscsi_rules.specs.rules.Trace.{Command as RulesCommand, Trace, entered, has, leaves_ticket}
use Rattle.iscsi_outbox_rules.specs.promises.Room.{tasks_kept}
use Rattle.iscsi_outbox_rules.specs.rules.Boxes.{Box, Task}
use Rattle.iscsi_outbox_rules.specs.rules.Words.{has_under_way, is_left_phase, is_running, is_running_phase, owes, owing}
use Rattle.iscsi_outbox_rules.proofs.room.RoomLives.{same_count}
use Rattle.iscsi_outbox_law.specs.private.Pairs.{InOrder}
use Rattle.iscsi_outbox_law.proofs.general.PairLemmas.{pairs-count}
use Rattle.iscsi_outbox_law.proofs.commands.Stops.{stops_answered}
use Rattle.iscsi_outbox_steps.specs.Steps.{is_running_ticket}
use Rattle.iscsi_ffi_rules.specs.rules.Calls.{Interface}
use Rattle.iscsi_ffi_rules.specs.rules.Sides.{Side}
use Rattle.iscsi_ffi_steps.specs.Steps.{Side as StepsSide}
use Rattle.iscsi_ffi_law.specs.Parts.{IsCommand, is_named}
use Rattle.iscsi_ffi_law.specs.Sides.{IsOpening}
use Rattle.iscsi_ffi_law.specs.Stands.{Stands}
use Rattle.iscsi_ffi_law.specs.Uses.{is_used}
use Rattle.iscsi_ffi_law.proofs.premises.FitFacts.{limits}
use Rattle.iscsi_ffi_law.proofs.side_invariants.FitHolds.{Holds}
use Rattle.iscsi_ffi_law.proofs.outbox_invariants.FitLives.{home_of_command, home_of_task}
use Rattle.iscsi_ffi_law.proofs.outbox_invariants.FitReached.{sound_reached}
use Rattle.iscsi_ffi_law.proofs.calls.Fitting.{count_inside}
use Rattle.iscsi_ffi_law.proofs.general.Members.{any_in, each_in, in_each}

-- ---- counts

either_counted : {A : Type 0} (p q : A → Bool) (xs : List A) → count_by (λ x. p x || q x) xs ≤ count_by p xs + count_by q xs
either_counted p q [] = omega arith
either_counted p q (x ∷ xs) = omega (arith, either_counted p q xs, small (p x) (q x), count-cons p x xs, count-cons q x xs, count-cons (λ y. p y || q y) x xs)
  where
    small : (u v : Bool) → one (u || v) ≤ one u + one v
    small true v = omega arith
    small false v = omega arith

count_filtered : {A : Type 0} (p : A → Bool) (xs : List A) → count_by p xs ≡ length (filter p xs)
count_filtered p [] = refl
count_filtered p (x ∷ xs) =
    let rest = count_filtered p xs in
    cond_both (p x) (x ∷ filter p xs) (filter p xs) (λ ys. one (p x) + count_by p xs ≡ length ys → count_by p (x ∷ xs) ≡ length ys) (λ is e. omega (arith, e, count-cons p x xs)) (λ is e. omega (arith, e, count-cons p x xs)) (by_first (p x) rest)
  where
    by_first : (v : Bool) → count_by p xs ≡ length (filter p xs) → one v + count_by p xs ≡ length (cond v (x ∷ filter p xs) (filter p xs))
    by_first true rest = omega (arith, rest)
    by_first false rest = omega (arith, rest)

-- tickets that go up are apart
same_task : (ts : List Task) → InOrder (λ (t u : Task). t.ticket < u.ticket) ts → (x y : Task) → In x ts → In y ts → x.ticket ≡ y.ticket → x ≡ y
same_task [] order x y h k same = absurd h
same_task (t ∷ ts) order x y h k same =
    ⊎_elim
    (λ (first : t ≡ x). ⊎_elim (λ (too : t ≡ y). sym first ∙ too)
    (λ later. absurd (let lt = each_in (λ (u : Task). t.ticket < u.ticket) ts y later order.0 in let e = ap (λ (u : Task). u.ticket) first in let z : ⊥ = omega (arith, lt, e, same) in z)) k)
    (λ before. ⊎_elim (λ (too : t ≡ y). absurd (let lt = each_in (λ (u : Task). t.ticket < u.ticket) ts x before order.0 in let e = ap (λ (u : Task). u.ticket) too in let z : ⊥ = omega (arith, lt, e, same) in z))
    (λ later. same_task ts order.1 x y before later same) k) h

module _ (i : Interface) (opening : IsOpening i) (n : ℕ) (s : StepsSide) (r : Side) (st : Stands i s r) (h : Holds i n r) where
  abbrev b : Box
  b = r.both.box

  abbrev t : Trace
  t = r.both.trace

  -- those that run are as many as run in the outbox
  running_few : count_by (λ (d : RulesCommand). is_running r.both.box d.ticket) (entered r.both.trace) ≤ owing i.outbox r.both.box
  running_few =
      let sound = (sound_reached i.outbox (limits i opening).distinct r.both h.good.reached).0 in
      let by_commands = count_by-map (λ (y : ℕ × ℕ). is_running r.both.box y.0) home_of_command (entered r.both.trace) in
      let by_tasks = count_by-map (λ (y : ℕ × ℕ). is_running r.both.box y.0) home_of_task r.both.box.tasks in
      let same = ap (count_by (λ (y : ℕ × ℕ). is_running r.both.box y.0)) h.together.homes in
      let inside = count_inside (λ (x : Task). In x r.both.box.tasks) (λ (x : Task). is_running r.both.box x.ticket) (λ (x : Task). is_running_phase x.phase) r.both.box.tasks (in_each (λ (x : Task). In x r.both.box.tasks) r.both.box.tasks (λ x there. there))
      (λ x there is.
      let y = any_in (λ (u : Task). u.ticket == x.ticket && is_running_phase u.phase) r.both.box.tasks is in
      let parts = and_parts (y.x.ticket == x.ticket) (is_running_phase y.x.phase) y.passes in
      ap (λ (u : Task). is_running_phase u.phase) (same_task r.both.box.tasks sound.homes.ascending x y.x there y.there (sym (eqb-true y.x.ticket x.ticket parts.0))) ∙ parts.1) in
      let owed = count-weaker (λ (x : Task). is_running_phase x.phase) (owes i.outbox r.both.box) r.both.box.tasks (λ x is. or_first (is_running_phase x.phase) (is_left_phase x.phase && list_any (has_under_way i.outbox (λ ticket. ticket == x.ticket)) r.both.box.links) is) in
      omega (arith, by_commands, by_tasks, same, inside, owed)

  pub used_few : count_by (is_used s.state.outbox) s.state.commands.items ≤ tasks_kept i.outbox r.both.box
  used_few =
      let q : RulesCommand → Bool = λ d. not (has (leaves_ticket d.ticket) r.both.trace) || is_running r.both.box d.ticket in
      let sound = (sound_reached i.outbox (limits i opening).distinct r.both h.good.reached).0 in
      let pairs = pairs-count (IsCommand st.names r) (is_used s.state.outbox) (λ d. not (has (leaves_ticket d.ticket) r.both.trace) || is_running r.both.box d.ticket) s.state.commands.items (filter (is_named st.names) (entered r.both.trace))
      (λ c d k. ap (λ v. v || is_running_ticket c.ticket s.state.outbox) k.live ∙ ap (λ v. not (has (leaves_ticket d.ticket) r.both.trace) || v) (stops_answered i.outbox s.state.outbox r.both.box st.outbox sound (limits i opening).distinct c.ticket ∙ ap (is_running r.both.box) k.ticket)) st.requests.commands in
      let fewer = fewer_counted (λ (d : RulesCommand). not (has (leaves_ticket d.ticket) r.both.trace) || is_running r.both.box d.ticket) (is_named st.names) (entered r.both.trace) in
      let either = either_counted (λ (d : RulesCommand). not (has (leaves_ticket d.ticket) r.both.trace)) (λ (d : RulesCommand). is_running r.both.box d.ticket) (entered r.both.trace) in
      let alive = count_filtered (λ (d : RulesCommand). not (has (leaves_ticket d.ticket) r.both.trace)) (entered r.both.trace) in
      let many = same_count i.outbox r.both.box r.both.trace h.together.lives in
      omega (arith, pairs, fewer, either, alive, many, running_few)
