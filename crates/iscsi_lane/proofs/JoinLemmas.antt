-- An answer comes to the lane, as the call has it.
use Rattle.std.proofs.Common.{◌≡◌, ℕ, ◌+◌, ◌<◌, ◌≤◌, ◌||◌, true, List, [], ◌∷◌, ◌++◌, length, map, filter, set, ap, sym, subst, ◌∙◌, arith}
use Rattle.iscsi_slots.specs.Slots.{times}
use Rattle.iscsi_lists.specs.Lists.{Listed, with_last, without}
use Rattle.iscsi_lists.proofs.WithoutLemmas.{without_none}
use Rattle.iscsi_outbox_state.specs.declared.lane.Aim.{Aim}
use Rattle.iscsi_outbox_state.specs.declared.lane.Aim.TheVariants.{Tag, Unit as AtUnit}
use Rattle.iscsi_outbox_state.specs.declared.lane.Left.{Left}
use Rattle.iscsi_outbox_state.specs.declared.lane.Undue.{Undue}
use Rattle.iscsi_outbox_state.specs.declared.lane.Standing.{Standing}
use Rattle.iscsi_outbox_state.specs.declared.lane.Standing.TheVariants.{Left as IsLeft, Undue as IsUndue}
use Rattle.iscsi_outbox_state.specs.Lane.{is_of_logout}
use Rattle.iscsi_scopes.specs.Scopes.{AreKeysAscending, Scoped, entered, scoped, slots_of, times_over}
use Rattle.iscsi_lane.specs.Standings.{slots_at}
use Rattle.iscsi_lane.specs.Scoping.{Mirrors, as_item, told}
use Rattle.iscsi_lane.specs.Times.{InOrder, gains, has}
use Rattle.iscsi_lane.specs.Following.{Follows, FollowsLog}
use Rattle.iscsi_lane.proofs.LaneLemmas.{moved_here, moved_room, moved_values}
use Rattle.iscsi_lane.proofs.MirrorLemmas.{line_few, no_line}
use Rattle.iscsi_lane.proofs.FollowLemmas.{beside_comes, in_order_push, left_comes, tag_comes, tag_line, unit_comes, unit_line}

-- what stands in a line stands in the log
pub stands_there : (aim : ℕ → Aim) (scopes : Scoped) (xs : List Standing) (order : List ℕ) → Mirrors aim scopes xs order → (key s : ℕ) → 1 ≤ times s (slots_of key scopes.lines) → 1 ≤ times s order
stands_there aim scopes xs order mirrors key s there = let a = ap (times s) (mirrors.lines key) in let b = line_few (aim key) xs s order in omega (arith, a, b, there)

module _ (log p t : Listed Standing) (units tags : Scoped) (due : List ℕ) (capacity : ℕ) (f : FollowsLog log units tags due capacity) (long : length log.values ≡ log.room + 1) (lists : length log.lists ≡ 3)
    (up_u : AreKeysAscending units.lines) (up_t : AreKeysAscending tags.lines) (long_u : length units.items ≡ units.room + 1) (long_t : length tags.items ≡ tags.room + 1)
    (slot : ℕ) (x : Standing) (is_p : p ≡ record log { lists = with_last 2 slot (map (without slot) log.lists) }) (is_t : t ≡ record p { values = set p.values slot x })
    (within : slot ≤ log.room) (none : times slot (slots_at log 2) ≡ 0) where
  t_values : t.values ≡ set log.values slot x
  t_values = ap (λ (u : Listed Standing). u.values) is_t ∙ ap (λ v. set v slot x) (moved_values log p 2 slot is_p)

  pub t_order : slots_at t 2 ≡ slots_at log 2 ++ slot ∷ []
  t_order = ap (λ (u : Listed Standing). slots_at u 2) is_t ∙ moved_here log p 2 slot is_p (omega (arith, lists)) ∙ ap (λ q. q ++ slot ∷ []) (without_none slot (slots_at log 2) none)

  pub t_room : t.room ≡ log.room
  t_room = ap (λ (u : Listed Standing). u.room) is_t ∙ moved_room log p 2 slot is_p

  inside : slot < length log.values
  inside = omega (arith, within, long)

  in_u : slot < length units.items
  in_u = let a = f.units_room in omega (arith, within, long_u, a)

  in_t : slot < length tags.items
  in_t = let a = f.tags_room in omega (arith, within, long_t, a)

  pub no_unit : times_over slot units.lines ≡ 0
  no_unit = no_line AtUnit units log.values (slots_at log 2) f.follows.of_units slot up_u none

  pub no_tag : times_over slot tags.lines ≡ 0
  no_tag = no_line Tag tags log.values (slots_at log 2) f.follows.of_tags slot up_t none

  pub join_order : InOrder due (slots_at t 2)
  join_order = subst (InOrder due) (sym t_order) (in_order_push (told units tags log.values) (slots_at log 2) due f.follows.is_due slot none)

  module _ (a : Undue) (is_x : x ≡ IsUndue a) (key : ℕ) (of_it : a.aim ≡ AtUnit key) (units' : Scoped)
      (is_s : units' ≡ scoped (entered key slot units.lines) (set units.items slot (as_item (IsUndue a))) units.room) where
    unit_values : t.values ≡ set log.values slot (IsUndue a)
    unit_values = t_values ∙ ap (set log.values slot) is_x

    unit_mirrors : Mirrors AtUnit units' t.values (slots_at t 2)
    unit_mirrors =
        subst (λ u. Mirrors AtUnit u t.values (slots_at t 2)) (sym is_s)
        (subst (λ v. Mirrors AtUnit (scoped (entered key slot units.lines) (set units.items slot (as_item (IsUndue a))) units.room) v (slots_at t 2)) (sym unit_values)
        (subst (λ o. Mirrors AtUnit (scoped (entered key slot units.lines) (set units.items slot (as_item (IsUndue a))) units.room) (set log.values slot (IsUndue a)) o) (sym t_order)
        (unit_line units tags log.values (slots_at log 2) due f.follows up_u up_t slot inside none in_u in_t a key of_it)))

    pub unit_stands : (s : ℕ) → 1 ≤ times s (slots_of key units'.lines) → 1 ≤ times s (slots_at t 2)
    unit_stands s there = stands_there AtUnit units' t.values (slots_at t 2) unit_mirrors key s there

    pub unit_joins : (due' : List ℕ) (capacity' : ℕ) → due' ≡ filter (λ k. has due k || gains units' key t.values k) (slots_at t 2) → capacity ≤ capacity' → FollowsLog t units' tags due' capacity'
    unit_joins due' capacity' e more = record {
      follows =
          subst (λ u. Follows u tags t.values (slots_at t 2) due') (sym is_s)
          (subst (λ v. Follows (scoped (entered key slot units.lines) (set units.items slot (as_item (IsUndue a))) units.room) tags v (slots_at t 2) due') (sym unit_values)
          (subst (λ o. Follows (scoped (entered key slot units.lines) (set units.items slot (as_item (IsUndue a))) units.room) tags (set log.values slot (IsUndue a)) o due') (sym t_order)
          (unit_comes units tags log.values (slots_at log 2) due f.follows up_u up_t slot inside none in_u in_t a key of_it due'
          (e ∙ ap (λ u. filter (λ k. has due k || gains u key t.values k) (slots_at t 2)) is_s
          ∙ ap (λ v. filter (λ k. has due k || gains (scoped (entered key slot units.lines) (set units.items slot (as_item (IsUndue a))) units.room) key v k) (slots_at t 2)) unit_values
          ∙ ap (λ o. filter (λ k. has due k || gains (scoped (entered key slot units.lines) (set units.items slot (as_item (IsUndue a))) units.room) key (set log.values slot (IsUndue a)) k) o) t_order))));
      units_room = ap (λ (u : Scoped). u.room) is_s ∙ f.units_room ∙ sym t_room;
      tags_room = f.tags_room ∙ sym t_room;
      due_room = let a = t_room in let b = f.due_room in omega (arith, a, b, more);
    }

  module _ (a : Undue) (is_x : x ≡ IsUndue a) (key : ℕ) (of_it : a.aim ≡ Tag key) (tags' : Scoped)
      (is_s : tags' ≡ scoped (entered key slot tags.lines) (set tags.items slot (as_item (IsUndue a))) tags.room) where
    tag_values : t.values ≡ set log.values slot (IsUndue a)
    tag_values = t_values ∙ ap (set log.values slot) is_x

    tag_mirrors : Mirrors Tag tags' t.values (slots_at t 2)
    tag_mirrors =
        subst (λ u. Mirrors Tag u t.values (slots_at t 2)) (sym is_s)
        (subst (λ v. Mirrors Tag (scoped (entered key slot tags.lines) (set tags.items slot (as_item (IsUndue a))) tags.room) v (slots_at t 2)) (sym tag_values)
        (subst (λ o. Mirrors Tag (scoped (entered key slot tags.lines) (set tags.items slot (as_item (IsUndue a))) tags.room) (set log.values slot (IsUndue a)) o) (sym t_order)
        (tag_line units tags log.values (slots_at log 2) due f.follows up_u up_t slot inside none in_u in_t a key of_it)))

    pub tag_stands : (s : ℕ) → 1 ≤ times s (slots_of key tags'.lines) → 1 ≤ times s (slots_at t 2)
    tag_stands s there = stands_there Tag tags' t.values (slots_at t 2) tag_mirrors key s there

    pub tag_joins : (due' : List ℕ) (capacity' : ℕ) → due' ≡ filter (λ k. has due k || gains tags' key t.values k) (slots_at t 2) → capacity ≤ capacity' → FollowsLog t units tags' due' capacity'
    tag_joins due' capacity' e more = record {
      follows =
          subst (λ u. Follows units u t.values (slots_at t 2) due') (sym is_s)
          (subst (λ v. Follows units (scoped (entered key slot tags.lines) (set tags.items slot (as_item (IsUndue a))) tags.room) v (slots_at t 2) due') (sym tag_values)
          (subst (λ o. Follows units (scoped (entered key slot tags.lines) (set tags.items slot (as_item (IsUndue a))) tags.room) (set log.values slot (IsUndue a)) o due') (sym t_order)
          (tag_comes units tags log.values (slots_at log 2) due f.follows up_u up_t slot inside none in_u in_t a key of_it due'
          (e ∙ ap (λ u. filter (λ k. has due k || gains u key t.values k) (slots_at t 2)) is_s
          ∙ ap (λ v. filter (λ k. has due k || gains (scoped (entered key slot tags.lines) (set tags.items slot (as_item (IsUndue a))) tags.room) key v k) (slots_at t 2)) tag_values
          ∙ ap (λ o. filter (λ k. has due k || gains (scoped (entered key slot tags.lines) (set tags.items slot (as_item (IsUndue a))) tags.room) key (set log.values slot (IsUndue a)) k) o) t_order))));
      units_room = f.units_room ∙ sym t_room;
      tags_room = ap (λ (u : Scoped). u.room) is_s ∙ f.tags_room ∙ sym t_room;
      due_room = let a = t_room in let b = f.due_room in omega (arith, a, b, more);
    }

  -- an answer that has no line
  module _ (a : Undue) (is_x : x ≡ IsUndue a) (logout : is_of_logout a.aim ≡ true) where
    pub beside_joins : FollowsLog t units tags due capacity
    beside_joins = record {
      follows =
          subst (λ v. Follows units tags v (slots_at t 2) due) (sym (t_values ∙ ap (set log.values slot) is_x))
          (subst (λ o. Follows units tags (set log.values slot (IsUndue a)) o due) (sym t_order)
          (beside_comes units tags log.values (slots_at log 2) due f.follows up_u up_t slot inside none in_u in_t a logout));
      units_room = f.units_room ∙ sym t_room;
      tags_room = f.tags_room ∙ sym t_room;
      due_room = let a = t_room in let b = f.due_room in omega (arith, a, b);
    }

  -- a command comes
  module _ (c : Left) (is_x : x ≡ IsLeft c) (units' tags' : Scoped) (is_u : units' ≡ scoped (entered c.unit slot units.lines) (set units.items slot (as_item (IsLeft c))) units.room) (is_g : tags' ≡ scoped (entered c.tag slot tags.lines) (set tags.items slot (as_item (IsLeft c))) tags.room) where
    pub left_joins : FollowsLog t units' tags' due capacity
    left_joins = record {
      follows =
          subst (λ u. Follows u tags' t.values (slots_at t 2) due) (sym is_u)
          (subst (λ g. Follows (scoped (entered c.unit slot units.lines) (set units.items slot (as_item (IsLeft c))) units.room) g t.values (slots_at t 2) due) (sym is_g)
          (subst (λ v. Follows (scoped (entered c.unit slot units.lines) (set units.items slot (as_item (IsLeft c))) units.room) (scoped (entered c.tag slot tags.lines) (set tags.items slot (as_item (IsLeft c))) tags.room) v (slots_at t 2) due) (sym (t_values ∙ ap (set log.values slot) is_x))
          (subst (λ o. Follows (scoped (entered c.unit slot units.lines) (set units.items slot (as_item (IsLeft c))) units.room) (scoped (entered c.tag slot tags.lines) (set tags.items slot (as_item (IsLeft c))) tags.room) (set log.values slot (IsLeft c)) o due) (sym t_order)
          (left_comes units tags log.values (slots_at log 2) due f.follows up_u up_t slot inside none in_u in_t c))));
      units_room = ap (λ (u : Scoped). u.room) is_u ∙ f.units_room ∙ sym t_room;
      tags_room = ap (λ (u : Scoped). u.room) is_g ∙ f.tags_room ∙ sym t_room;
      due_room = let a = t_room in let b = f.due_room in omega (arith, a, b);
    }
