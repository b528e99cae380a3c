-- An answer waits for other sessions no more: lines by key and the answers that are due follow.
use Rattle.std.proofs.Common.{◌≡◌, ℕ, ◌+◌, ◌<◌, ◌≤◌, ◌==◌, ◌||◌, ◌&&◌, not, Bool, true, false, List, length, filter, set, refl, ap, sym, subst, ◌∙◌, arith, ⊎_elim, eq-eqb}
use Rattle.std.proofs.lemmas.Bool.{cases_eq, eqb-true, false≢true}
use Rattle.std.proofs.lemmas.List.{get_or-set_same, get_or-set_other}
use Rattle.iscsi_slots.specs.Slots.{times}
use Rattle.iscsi_lists.specs.Lists.{AreApart, Listed, linked_in}
use Rattle.iscsi_outbox_state.specs.declared.lane.Aim.{Aim}
use Rattle.iscsi_outbox_state.specs.declared.lane.Aim.TheVariants.{Tag, Unit as AtUnit, Conn, Session, Nothing}
use Rattle.iscsi_outbox_state.specs.declared.lane.Undue.{Undue}
use Rattle.iscsi_outbox_state.specs.declared.lane.Standing.{Standing}
use Rattle.iscsi_outbox_state.specs.declared.lane.Standing.TheVariants.{Undue as IsUndue}
use Rattle.iscsi_outbox_state.specs.Lane.{as_cleared, is_same_aim, waits_for_clear}
use Rattle.iscsi_scopes.specs.Scopes.{Scoped, slots_of}
use Rattle.iscsi_lane.specs.Standings.{NOBODY, at, slots_at}
use Rattle.iscsi_lane.specs.Scoping.{Mirrors, as_item, due_of, is_it, is_untold, stands_in, told, told_of, untold_at}
use Rattle.iscsi_lane.specs.Times.{InOrder, gains, has}
use Rattle.iscsi_lane.specs.Following.{Follows, FollowsLog}
use Rattle.iscsi_lane.proofs.FollowLemmas.{has_is, in_order_of, unit_gain, unit_or}
use Rattle.iscsi_lane.proofs.JoinLemmas.{stands_there}
use Rattle.iscsi_lane.proofs.MirrorLemmas.{stays_as}
use Rattle.iscsi_lane.proofs.StampLemmas.{within_at}
use Rattle.iscsi_lane.proofs.LiningLemmas.{untold_set}
use Rattle.iscsi_lane.proofs.TurnLemmas.{same_filter}

and_parts : (p q : Bool) → (p && q) ≡ true → (p ≡ true) × (q ≡ true)
and_parts true q on = (refl, on)
and_parts false q on = absurd (false≢true on)

-- it waits for them, and aims at the unit
waits_aim : (unit : ℕ) (aim : Aim) → elim aim [ AtUnit u ↦ u == unit | Tag tag ↦ false | Conn conn ↦ false | Session ↦ false | Nothing ↦ false ] ≡ true → aim ≡ AtUnit unit
waits_aim unit (AtUnit u) on = ap AtUnit (eqb-true u unit on)
waits_aim unit (Tag tag) on = absurd (false≢true on)
waits_aim unit (Conn conn) on = absurd (false≢true on)
waits_aim unit Session on = absurd (false≢true on)
waits_aim unit Nothing on = absurd (false≢true on)

module _ (units tags : Scoped) (xs : List Standing) (order due : List ℕ) (f : Follows units tags xs order due) (s : ℕ) (l : s < length xs)
    (unit : ℕ) (a : Undue) (is : at xs s ≡ IsUndue a) (waits : waits_for_clear unit a ≡ true) where
  abbrev with_clear : List Standing
  with_clear = set xs s (IsUndue (as_cleared a))

  of_it : a.aim ≡ AtUnit unit
  of_it = waits_aim unit a.aim (and_parts a.uncleared _ waits).1

  at_it : at with_clear s ≡ IsUndue (as_cleared a)
  at_it = get_or-set_same xs s (IsUndue (as_cleared a)) NOBODY l

  pub clear_units : Mirrors AtUnit units with_clear order
  clear_units = stays_as AtUnit units xs order f.of_units s (IsUndue (as_cleared a)) l (λ k. sym (ap (stands_in (AtUnit k)) is)) (ap as_item (sym is))

  clear_tags : Mirrors Tag tags with_clear order
  clear_tags = stays_as Tag tags xs order f.of_tags s (IsUndue (as_cleared a)) l (λ k. sym (ap (stands_in (Tag k)) is)) (ap as_item (sym is))

  not_before : told units tags xs s ≡ false
  not_before = ap (told_of units tags s) is ∙ ap (λ b. not b && is_it s (due_of units tags a.aim)) (and_parts a.uncleared _ waits).0

  clear_it : (told units tags xs s || gains units unit with_clear s) ≡ told units tags with_clear s
  clear_it =
      ap (λ b. b || gains units unit with_clear s) not_before
      ∙ unit_gain units tags s unit (at with_clear s) (ap (stands_in (AtUnit unit)) at_it ∙ ap (is_same_aim (AtUnit unit)) of_it ∙ eq-eqb unit unit refl)

  clear_each : (t : ℕ) → 1 ≤ times t order → (has due t || gains units unit with_clear t) ≡ told units tags with_clear t
  clear_each t there =
      let before = has_is (told units tags xs) order due f.is_due t there in
      ⊎_elim
      (λ (same : t ≡ s). ap (λ b. b || gains units unit with_clear t) before ∙ subst (λ k. (told units tags xs k || gains units unit with_clear k) ≡ told units tags with_clear k) (sym same) clear_it)
      (λ other.
      unit_or units tags t unit with_clear order clear_units (has due t)
      (before ∙ ap (told_of units tags t) (sym (get_or-set_other xs s t (IsUndue (as_cleared a)) NOBODY other))))
      (cases_eq t s)

  pub clears : (due' : List ℕ) → due' ≡ filter (λ t. has due t || gains units unit with_clear t) order → Follows units tags with_clear order due'
  clears due' e = record {
    of_units = clear_units;
    of_tags = clear_tags;
    is_due = e ∙ same_filter (λ t. has due t || gains units unit with_clear t) (told units tags with_clear) order clear_each;
  }

-- as the call has it
module _ (log : Listed Standing) (units tags : Scoped) (due : List ℕ) (capacity : ℕ) (f : FollowsLog log units tags due capacity) (known : AreApart (linked_in log)) (long : length log.values ≡ log.room + 1)
    (s : ℕ) (there : 1 ≤ times s (slots_at log 2)) (unit : ℕ) (a : Undue) (is : at log.values s ≡ IsUndue a) (waits : waits_for_clear unit a ≡ true)
    (t : Listed Standing) (is_t : t ≡ record log { values = set log.values s (IsUndue (as_cleared a)) }) where
  inside : s < length log.values
  inside = let b = within_at log known 2 s there in omega (arith, b, long)

  t_values : t.values ≡ set log.values s (IsUndue (as_cleared a))
  t_values = ap (λ (u : Listed Standing). u.values) is_t

  pub t_order : slots_at t 2 ≡ slots_at log 2
  t_order = ap (λ (u : Listed Standing). slots_at u 2) is_t

  pub t_room : t.room ≡ log.room
  t_room = ap (λ (u : Listed Standing). u.room) is_t

  pub clear_order : InOrder due (slots_at t 2)
  clear_order = subst (InOrder due) (sym t_order) (in_order_of (told units tags log.values) (slots_at log 2) due f.follows.is_due)

  pub clear_stands : (k : ℕ) → 1 ≤ times k (slots_of unit units.lines) → 1 ≤ times k (slots_at t 2)
  clear_stands k in_it = subst (λ o. 1 ≤ times k o) (sym t_order) (stands_there AtUnit units log.values (slots_at log 2) f.follows.of_units unit k in_it)

  pub clear_untold : filter (untold_at t.values) (slots_at t 2) ≡ filter (untold_at log.values) (slots_at log 2)
  clear_untold = ap (λ (u : Listed Standing). filter (untold_at u.values) (slots_at u 2)) is_t ∙ untold_set log.values s (IsUndue (as_cleared a)) (slots_at log 2) inside (sym (ap is_untold is))

  pub clear_follows : (due' : List ℕ) (capacity' : ℕ) → due' ≡ filter (λ k. has due k || gains units unit t.values k) (slots_at t 2) → capacity ≤ capacity' → FollowsLog t units tags due' capacity'
  clear_follows due' capacity' e more = record {
    follows =
        subst (λ v. Follows units tags v (slots_at t 2) due') (sym t_values)
        (subst (λ o. Follows units tags (set log.values s (IsUndue (as_cleared a))) o due') (sym t_order)
        (clears units tags log.values (slots_at log 2) due f.follows s inside unit a is waits due'
        (e ∙ ap (λ v. filter (λ k. has due k || gains units unit v k) (slots_at t 2)) t_values
        ∙ ap (λ o. filter (λ k. has due k || gains units unit (set log.values s (IsUndue (as_cleared a))) k) o) t_order)));
    units_room = f.units_room ∙ sym t_room;
    tags_room = f.tags_room ∙ sym t_room;
    due_room = let b = t_room in let d = f.due_room in omega (arith, b, d, more);
  }
