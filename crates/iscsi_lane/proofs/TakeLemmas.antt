-- An answer goes, as the call has it.
use Rattle.std.proofs.Common.{◌≡◌, ℕ, ◌≤◌, ◌||◌, true, List, map, filter, ap, sym, subst, ◌∙◌, arith}
use Rattle.iscsi_slots.specs.Slots.{times}
use Rattle.iscsi_lists.specs.Lists.{AreApart, Listed, linked_in, times_in, with_last, without}
use Rattle.iscsi_lists.proofs.PlaceLemmas.{times_any}
use Rattle.iscsi_outbox_state.specs.declared.lane.Aim.TheVariants.{Tag, Unit as AtUnit}
use Rattle.iscsi_outbox_state.specs.declared.lane.Undue.{Undue}
use Rattle.iscsi_outbox_state.specs.declared.lane.Standing.{Standing}
use Rattle.iscsi_outbox_state.specs.declared.lane.Standing.TheVariants.{Undue as IsUndue}
use Rattle.iscsi_outbox_state.specs.Lane.{is_of_logout}
use Rattle.iscsi_scopes.specs.Scopes.{AreKeysAscending, Scoped, left, scoped, slots_of}
use Rattle.iscsi_lane.specs.Standings.{at, slots_at}
use Rattle.iscsi_lane.specs.Times.{InOrder, IsUp, gains, has}
use Rattle.iscsi_lane.specs.Following.{Follows, FollowsLog}
use Rattle.iscsi_lane.proofs.LaneLemmas.{moved_other, moved_room, moved_values}
use Rattle.iscsi_lane.proofs.JoinLemmas.{stands_there}
use Rattle.iscsi_lane.proofs.LessLemmas.{beside_taken, in_line_of_tag, in_line_of_unit, rest_in_order, tag_left_line, tag_taken, unit_left_line, unit_taken}
use Rattle.iscsi_lane.proofs.StampLemmas.{once_at, up_goes}

module _ (log : Listed Standing) (units tags : Scoped) (due : List ℕ) (capacity : ℕ) (f : FollowsLog log units tags due capacity) (known : AreApart (linked_in log))
    (up_u : AreKeysAscending units.lines) (up_t : AreKeysAscending tags.lines) (s : ℕ) (there : 1 ≤ times s (slots_at log 2)) (rest : List ℕ) (is_rest : rest ≡ without s due) where
  abbrev order : List ℕ
  order = slots_at log 2

  once : (t : ℕ) → times t order ≤ 1
  once t = once_at log known 2 t

  pub in_log : 1 ≤ times_in s log.lists
  in_log = let a = times_any s 2 log.lists in omega (arith, a, there)

  module _ (t : Listed Standing) (is_t : t ≡ record log { lists = with_last 1 s (map (without s) log.lists) }) where
    t_order : slots_at t 2 ≡ without s order
    t_order = moved_other log t 1 s is_t 2 (λ e. omega (arith, e))

    t_values : t.values ≡ log.values
    t_values = moved_values log t 1 s is_t

    pub t_room : t.room ≡ log.room
    t_room = moved_room log t 1 s is_t

    pub taken_order : InOrder rest (slots_at t 2)
    taken_order = subst (InOrder rest) (sym t_order) (rest_in_order units tags log.values order due f.follows up_u up_t s once rest is_rest)

    pub taken_up : (ts : List ℕ) → IsUp ts order → IsUp ts (slots_at t 2)
    taken_up ts up = subst (IsUp ts) (sym t_order) (up_goes ts s order up)

    module _ (a : Undue) (is : at log.values s ≡ IsUndue a) (key : ℕ) (of_it : a.aim ≡ AtUnit key) where
      pub unit_line_there : 1 ≤ times s (slots_of key units.lines)
      unit_line_there = in_line_of_unit units tags log.values order due f.follows up_u up_t s once rest is_rest a is key of_it there

      module _ (units' : Scoped) (is_s : units' ≡ scoped (left key s units.lines) units.items units.room) where
        pub unit_left_there : (k : ℕ) → 1 ≤ times k (slots_of key units'.lines) → 1 ≤ times k (slots_at t 2)
        unit_left_there k in_it = subst (λ o. 1 ≤ times k o) (sym t_order)
            (stands_there AtUnit (scoped (left key s units.lines) units.items units.room) log.values (without s order) (unit_left_line units tags log.values order due f.follows up_u up_t s once rest is_rest a is key of_it) key k (subst (λ (u : Scoped). 1 ≤ times k (slots_of key u.lines)) is_s in_it))

        pub unit_goes : (due' : List ℕ) (capacity' : ℕ) → due' ≡ filter (λ k. has rest k || gains units' key t.values k) (slots_at t 2) → capacity ≤ capacity' → FollowsLog t units' tags due' capacity'
        unit_goes due' capacity' e more = record {
          follows =
              subst (λ u. Follows u tags t.values (slots_at t 2) due') (sym is_s)
              (subst (λ v. Follows (scoped (left key s units.lines) units.items units.room) tags v (slots_at t 2) due') (sym t_values)
              (subst (λ o. Follows (scoped (left key s units.lines) units.items units.room) tags log.values o due') (sym t_order)
              (unit_taken units tags log.values order due f.follows up_u up_t s once rest is_rest a is key of_it due'
              (e ∙ ap (λ u. filter (λ k. has rest k || gains u key t.values k) (slots_at t 2)) is_s
              ∙ ap (λ v. filter (λ k. has rest k || gains (scoped (left key s units.lines) units.items units.room) key v k) (slots_at t 2)) t_values
              ∙ ap (λ o. filter (λ k. has rest k || gains (scoped (left key s units.lines) units.items units.room) key log.values k) o) t_order))));
          units_room = ap (λ (u : Scoped). u.room) is_s ∙ f.units_room ∙ sym t_room;
          tags_room = f.tags_room ∙ sym t_room;
          due_room = let a = t_room in let b = f.due_room in omega (arith, a, b, more);
        }

    module _ (a : Undue) (is : at log.values s ≡ IsUndue a) (key : ℕ) (of_it : a.aim ≡ Tag key) where
      pub tag_line_there : 1 ≤ times s (slots_of key tags.lines)
      tag_line_there = in_line_of_tag units tags log.values order due f.follows up_u up_t s once rest is_rest a is key of_it there

      module _ (tags' : Scoped) (is_s : tags' ≡ scoped (left key s tags.lines) tags.items tags.room) where
        pub tag_left_there : (k : ℕ) → 1 ≤ times k (slots_of key tags'.lines) → 1 ≤ times k (slots_at t 2)
        tag_left_there k in_it = subst (λ o. 1 ≤ times k o) (sym t_order)
            (stands_there Tag (scoped (left key s tags.lines) tags.items tags.room) log.values (without s order) (tag_left_line units tags log.values order due f.follows up_u up_t s once rest is_rest a is key of_it) key k (subst (λ (u : Scoped). 1 ≤ times k (slots_of key u.lines)) is_s in_it))

        pub tag_goes : (due' : List ℕ) (capacity' : ℕ) → due' ≡ filter (λ k. has rest k || gains tags' key t.values k) (slots_at t 2) → capacity ≤ capacity' → FollowsLog t units tags' due' capacity'
        tag_goes due' capacity' e more = record {
          follows =
              subst (λ u. Follows units u t.values (slots_at t 2) due') (sym is_s)
              (subst (λ v. Follows units (scoped (left key s tags.lines) tags.items tags.room) v (slots_at t 2) due') (sym t_values)
              (subst (λ o. Follows units (scoped (left key s tags.lines) tags.items tags.room) log.values o due') (sym t_order)
              (tag_taken units tags log.values order due f.follows up_u up_t s once rest is_rest a is key of_it due'
              (e ∙ ap (λ u. filter (λ k. has rest k || gains u key t.values k) (slots_at t 2)) is_s
              ∙ ap (λ v. filter (λ k. has rest k || gains (scoped (left key s tags.lines) tags.items tags.room) key v k) (slots_at t 2)) t_values
              ∙ ap (λ o. filter (λ k. has rest k || gains (scoped (left key s tags.lines) tags.items tags.room) key log.values k) o) t_order))));
          units_room = f.units_room ∙ sym t_room;
          tags_room = ap (λ (u : Scoped). u.room) is_s ∙ f.tags_room ∙ sym t_room;
          due_room = let a = t_room in let b = f.due_room in omega (arith, a, b, more);
        }

    module _ (a : Undue) (is : at log.values s ≡ IsUndue a) (logout : is_of_logout a.aim ≡ true) where
      pub beside_goes : (capacity' : ℕ) → capacity ≤ capacity' → FollowsLog t units tags rest capacity'
      beside_goes capacity' more = record {
        follows =
            subst (λ v. Follows units tags v (slots_at t 2) rest) (sym t_values)
            (subst (λ o. Follows units tags log.values o rest) (sym t_order)
            (beside_taken units tags log.values order due f.follows up_u up_t s once rest is_rest a is logout));
        units_room = f.units_room ∙ sym t_room;
        tags_room = f.tags_room ∙ sym t_room;
        due_room = let a = t_room in let b = f.due_room in omega (arith, a, b, more);
      }
