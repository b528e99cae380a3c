-- What the lines tell of the answer that is due first, as the call has it.
use Rattle.std.proofs.Common.{◌≡◌, ℕ, ◌+◌, ◌<◌, ◌≤◌, Bool, List, [], length, filter, get_or, Some, None, ap, sym, subst, ◌∙◌, arith}
use Rattle.std.proofs.lemmas.Bool.{or_parts}
use Rattle.iscsi_slots.specs.Places.{AreAscending}
use Rattle.iscsi_slots.specs.Slots.{times}
use Rattle.iscsi_slots.proofs.SlotLemmas.{times_at}
use Rattle.iscsi_lists.specs.Lists.{AreApart, Listed, first_of, linked_in}
use Rattle.iscsi_outbox_state.specs.declared.lane.Left.{Left}
use Rattle.iscsi_outbox_state.specs.declared.lane.Undue.{Undue}
use Rattle.iscsi_outbox_state.specs.declared.lane.Standing.{Standing}
use Rattle.iscsi_outbox_state.specs.declared.lane.Standing.TheVariants.{Left as IsLeft, Undue as IsUndue}
use Rattle.iscsi_outbox_state.specs.Lane.{due_behind, is_due, is_of_logout}
use Rattle.iscsi_scopes.specs.Scopes.{Scoped}
use Rattle.iscsi_lane.specs.Standings.{at, items_in, slots_at, standings}
use Rattle.iscsi_lane.specs.Scoping.{told}
use Rattle.iscsi_lane.specs.Following.{FollowsLog}
use Rattle.iscsi_lane.specs.Times.{IsUp, time_of}
use Rattle.iscsi_lane.specs.Walking.{AreTold, IsDueFirst, NoneIsDue, before_slot}
use Rattle.iscsi_lane.proofs.CountLemmas.{due_none}
use Rattle.iscsi_lane.proofs.DueLemmas.{AllTold, answer_in, answer_of}
use Rattle.iscsi_lane.proofs.DropLemmas.{alone}
use Rattle.iscsi_lane.proofs.FollowLemmas.{has_is}
use Rattle.iscsi_lane.proofs.LaneLemmas.{first_there as first_in}
use Rattle.iscsi_lane.proofs.OrderLemmas.{filter_few, stands_in, up_filter}
use Rattle.iscsi_lane.proofs.ResultLemmas.{left_are, result_is}
use Rattle.iscsi_lane.proofs.StampLemmas.{once_at, within_at}
use Rattle.iscsi_lane.proofs.ToldLemmas.{tells}
use Rattle.iscsi_lane.proofs.WalkLemmas.{before_it}

module _ (log : Listed Standing) (units tags : Scoped) (due : List ℕ) (capacity : ℕ) (f : FollowsLog log units tags due capacity) (all : AllTold log.values (told units tags log.values) [] (slots_at log 2)) (known : AreApart (linked_in log)) where
  once : (t : ℕ) → times t (slots_at log 2) ≤ 1
  once t = once_at log known 2 t

  told_is : due_behind [] (items_in log) ≡ answer_of log.values (first_of due)
  told_is = result_is units tags log.values (slots_at log 2) due f.follows all once

  none_is : due_behind [] (items_in log) ≡ None → NoneIsDue log
  none_is none = record { due = none; others = due_none [] (items_in log) none }

  pub none_told : first_of due ≡ None → NoneIsDue log
  none_told none = none_is (told_is ∙ ap (answer_of log.values) none)

  module _ (s : ℕ) (first : first_of due ≡ Some s) where
    pub none_of_left : (c : Left) → at log.values s ≡ IsLeft c → NoneIsDue log
    none_of_left c is = none_is (told_is ∙ ap (answer_of log.values) first ∙ ap answer_in is)

    pub told_there : 1 ≤ times s (slots_at log 2)
    told_there =
        let a = first_in s due first in let b = ap (times s) f.follows.is_due in
        let d = filter_few s (told units tags log.values) (slots_at log 2) in omega (arith, a, b, d)

    pub told_within : s ≤ log.room
    told_within = within_at log known 2 s told_there

    pub told_first : (a : Undue) → at log.values s ≡ IsUndue a → IsDueFirst log s a
    told_first a is = record {
      there = told_there;
      is = is;
      due = told_is ∙ ap (answer_of log.values) first ∙ ap answer_in is;
      others = left_are units tags log.values (slots_at log 2) due f.follows all once s first;
    }

-- ---- what a look for a slot among those that are due asks for, and what it tells

module _ (log : Listed Standing) (units tags : Scoped) (due : List ℕ) (capacity : ℕ) (f : FollowsLog log units tags due capacity) (known : AreApart (linked_in log)) where
  abbrev order : List ℕ
  order = slots_at log 2

  -- some in the order of the log
  module _ (test : ℕ → Bool) (kept : List ℕ) (is : kept ≡ filter test order) where
    pub kept_there : (t : ℕ) → 1 ≤ times t kept → 1 ≤ times t order
    kept_there t there = let a = ap (times t) is in let b = filter_few t test order in omega (arith, a, b, there)

    pub kept_within : (ts : List ℕ) → length ts ≡ log.room + 1 → (j : ℕ) → j < length kept → get_or kept j 0 < length ts
    kept_within ts long j l = let a = within_at log known 2 (get_or kept j 0) (kept_there (get_or kept j 0) (times_at kept j l)) in omega (arith, a, long)

    pub kept_up : (ts : List ℕ) → IsUp ts order → AreAscending (time_of ts) kept
    kept_up ts up = subst (AreAscending (time_of ts)) (sym is) (up_filter ts test order up)

  pub due_within : (ts : List ℕ) → length ts ≡ log.room + 1 → (j : ℕ) → j < length due → get_or due j 0 < length ts
  due_within = kept_within (told units tags log.values) due f.follows.is_due

  pub due_up : (ts : List ℕ) → IsUp ts order → AreAscending (time_of ts) due
  due_up = kept_up (told units tags log.values) due f.follows.is_due

  pub are_told : AreTold log due
  are_told s a there is off =
      let once : (t : ℕ) → times t order ≤ 1 = λ t. once_at log known 2 t in
      let p = stands_in s order there in
      has_is (told units tags log.values) order due f.follows.is_due s there
      ∙ tells units tags log.values order f.follows.of_units f.follows.of_tags once s p.front p.back (IsUndue a) p.at_it is (or_parts (is_of_logout a.aim) a.ends off)
      ∙ ap (λ r. is_due (standings log.values r) a) (sym (ap (before_slot s) p.at_it ∙ before_it s p.front p.back (alone order p.front s p.back p.at_it (once s)).0))
