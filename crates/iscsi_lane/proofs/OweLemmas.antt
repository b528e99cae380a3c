-- A command owes less in the lane, as the call has it.
use Rattle.std.proofs.Common.{◌≡◌, ℕ, ◌+◌, ◌<◌, ◌≤◌, ◌==◌, ◌||◌, ◌&&◌, not, true, false, List, length, map, filter, set, ap, sym, subst, ◌∙◌, arith, ⊎_elim}
use Rattle.std.proofs.lemmas.Bool.{cases_Bool, false_from_ne_true, or_from, or_parts, true≢false}
use Rattle.iscsi_slots.specs.Slots.{times}
use Rattle.iscsi_lists.specs.Lists.{AreApart, Listed, linked_in, with_last, without}
use Rattle.iscsi_lines.specs.Settling.{IsLess}
use Rattle.iscsi_outbox_state.specs.declared.lane.Aim.TheVariants.{Tag, Unit as AtUnit}
use Rattle.iscsi_outbox_state.specs.declared.lane.Left.{Left}
use Rattle.iscsi_outbox_state.specs.declared.lane.Standing.{Standing}
use Rattle.iscsi_outbox_state.specs.declared.lane.Standing.TheVariants.{Left as IsLeft}
use Rattle.iscsi_outbox_state.specs.Lane.{owes}
use Rattle.iscsi_scopes.specs.Scopes.{AreKeysAscending, Scoped, item_of, left, scoped, slots_of}
use Rattle.iscsi_lane.specs.Standings.{at, slots_at}
use Rattle.iscsi_lane.specs.Scoping.{as_item, blocks, owing_of, told}
use Rattle.iscsi_lane.specs.Times.{InOrder, IsUp, gains, has}
use Rattle.iscsi_lane.specs.Following.{Follows, FollowsLog}
use Rattle.iscsi_lane.proofs.LaneLemmas.{moved_other, moved_room, moved_values}
use Rattle.iscsi_lane.proofs.FollowLemmas.{in_order_of}
use Rattle.iscsi_lane.proofs.JoinLemmas.{stands_there}
use Rattle.iscsi_lane.proofs.LessLemmas.{gone_follows, gone_in_order, gone_tags, gone_units, in_tag, in_unit, less_follows, less_tags, less_units, tag_item, unit_item}
use Rattle.iscsi_lane.proofs.StampLemmas.{once_at, up_goes, within_at}

pub less_blocks : (c d : Left) → IsLess (as_item (IsLeft c)) (owing_of d) → (conn : ℕ) → blocks conn (as_item (IsLeft c)) ≡ false → blocks conn (as_item (IsLeft d)) ≡ false
less_blocks c d less conn off =
    let parts = or_parts c.running (c.under_way && not (c.conn == conn)) off in
    or_from d.running (d.under_way && not (d.conn == conn))
    (false_from_ne_true d.running (λ yes. true≢false (sym (less.1.0 yes) ∙ parts.0)))
    (⊎_elim
    (λ (on : d.under_way ≡ true).
    ap (λ b. b && not (d.conn == conn)) on ∙ ap (λ k. not (k == conn)) less.0
    ∙ sym (ap (λ b. b && not (c.conn == conn)) (less.1.1 on)) ∙ parts.1)
    (λ (none : d.under_way ≡ false). ap (λ b. b && not (d.conn == conn)) none)
    (cases_Bool d.under_way))

-- what the looks at two lines need, and what they leave
pub record Looks (units tags : Scoped) (xs : List Standing) (order ts due : List ℕ) (unit tag : ℕ) : Type 0 where
  pub stands_u : (s : ℕ) → 1 ≤ times s (slots_of unit units.lines) → 1 ≤ times s order
  pub stands_t : (s : ℕ) → 1 ≤ times s (slots_of tag tags.lines) → 1 ≤ times s order
  pub in_order : InOrder due order
  pub up : IsUp ts order
  pub after : (due1 due2 : List ℕ) → due1 ≡ filter (λ k. has due k || gains units unit xs k) order → due2 ≡ filter (λ k. has due1 k || gains tags tag xs k) order → Follows units tags xs order due2

module _ (log : Listed Standing) (units tags : Scoped) (due ts : List ℕ) (capacity : ℕ) (f : FollowsLog log units tags due capacity) (known : AreApart (linked_in log)) (long : length log.values ≡ log.room + 1)
    (up_u : AreKeysAscending units.lines) (up_t : AreKeysAscending tags.lines) (long_u : length units.items ≡ units.room + 1) (long_t : length tags.items ≡ tags.room + 1)
    (up : IsUp ts (slots_at log 2)) (s : ℕ) (there : 1 ≤ times s (slots_at log 2)) (c : Left) (is : at log.values s ≡ IsLeft c) where
  abbrev xs : List Standing
  xs = log.values

  abbrev order : List ℕ
  order = slots_at log 2

  once : (t : ℕ) → times t order ≤ 1
  once t = once_at log known 2 t

  within : s ≤ log.room
  within = within_at log known 2 s there

  inside : s < length xs
  inside = let a = within in omega (arith, a, long)

  in_u : s < length units.items
  in_u = let a = within in let b = f.units_room in omega (arith, a, b, long_u)

  in_t : s < length tags.items
  in_t = let a = within in let b = f.tags_room in omega (arith, a, b, long_t)

  pub unit_there : (key : ℕ) → key ≡ c.unit → 1 ≤ times s (slots_of key units.lines)
  unit_there key e = subst (λ k. 1 ≤ times s (slots_of k units.lines)) (sym e) (in_unit units tags xs order due f.follows up_u up_t s once c is there)

  pub tag_there : (key : ℕ) → key ≡ c.tag → 1 ≤ times s (slots_of key tags.lines)
  tag_there key e = subst (λ k. 1 ≤ times s (slots_of k tags.lines)) (sym e) (in_tag units tags xs order due f.follows up_u up_t s once c is there)

  module _ (d : Left) (less : IsLess (as_item (IsLeft c)) (owing_of d)) where
    pub unit_less : IsLess (item_of units s) (owing_of d)
    unit_less = subst (λ i. IsLess i (owing_of d)) (sym (unit_item units tags xs order due f.follows up_u up_t s once c is there)) less

    pub tag_less : IsLess (item_of tags s) (owing_of d)
    tag_less = subst (λ i. IsLess i (owing_of d)) (sym (tag_item units tags xs order due f.follows up_u up_t s once c is there)) less

    module _ (same_unit : d.unit ≡ c.unit) (same_tag : d.tag ≡ c.tag) where
      abbrev units_kept : Scoped
      units_kept = scoped units.lines (set units.items s (as_item (IsLeft d))) units.room

      abbrev tags_kept : Scoped
      tags_kept = scoped tags.lines (set tags.items s (as_item (IsLeft d))) tags.room

      kept_looks : Looks units_kept tags_kept (set xs s (IsLeft d)) order ts due c.unit c.tag
      kept_looks = record {
        stands_u = λ k in_it. stands_there AtUnit units_kept (set xs s (IsLeft d)) order (less_units units tags xs order due f.follows up_u up_t s once c is d same_unit same_tag (less_blocks c d less) there inside in_u in_t) c.unit k in_it;
        stands_t = λ k in_it. stands_there Tag tags_kept (set xs s (IsLeft d)) order (less_tags units tags xs order due f.follows up_u up_t s once c is d same_unit same_tag (less_blocks c d less) there inside in_u in_t) c.tag k in_it;
        in_order = in_order_of (told units tags xs) order due f.follows.is_due;
        up = up;
        after = λ due1 due2 e1 e2. less_follows units tags xs order due f.follows up_u up_t s once c is d same_unit same_tag (less_blocks c d less) there inside in_u in_t due1 due2 e1 e2;
      }

      abbrev units_left : Scoped
      units_left = scoped (left c.unit s units.lines) units.items units.room

      abbrev tags_left : Scoped
      tags_left = scoped (left c.tag s tags.lines) tags.items tags.room

      gone_looks : Looks units_left tags_left xs (without s order) ts due c.unit c.tag
      gone_looks = record {
        stands_u = λ k in_it. stands_there AtUnit units_left xs (without s order) (gone_units units tags xs order due f.follows up_u up_t s once c is) c.unit k in_it;
        stands_t = λ k in_it. stands_there Tag tags_left xs (without s order) (gone_tags units tags xs order due f.follows up_u up_t s once c is) c.tag k in_it;
        in_order = gone_in_order units tags xs order due f.follows up_u up_t s once c is;
        up = up_goes ts s order up;
        after = λ due1 due2 e1 e2. gone_follows units tags xs order due f.follows up_u up_t s once c is due1 due2 e1 e2;
      }

      module _ (t : Listed Standing) (r : ℕ) (units' tags' : Scoped) (unit tag : ℕ) (is_unit : unit ≡ c.unit) (is_tag : tag ≡ c.tag)
          (kept : owes d ≡ true → (r ≡ 0) × (t ≡ record log { values = set log.values s (IsLeft d) }))
          (gone : owes d ≡ false → (r ≡ 1) × (t ≡ record log { lists = with_last 0 s (map (without s) log.lists) }))
          (kept_u : owes d ≡ true → units' ≡ scoped units.lines (set units.items s (as_item (IsLeft d))) units.room)
          (gone_u : owes d ≡ false → units' ≡ scoped (left unit s units.lines) units.items units.room)
          (kept_t : owes d ≡ true → tags' ≡ scoped tags.lines (set tags.items s (as_item (IsLeft d))) tags.room)
          (gone_t : owes d ≡ false → tags' ≡ scoped (left tag s tags.lines) tags.items tags.room) where
        by_keys : Looks units' tags' t.values (slots_at t 2) ts due c.unit c.tag
        by_keys = ⊎_elim
            (λ on.
            subst (λ u. Looks u tags' t.values (slots_at t 2) ts due c.unit c.tag) (sym (kept_u on))
            (subst (λ g. Looks units_kept g t.values (slots_at t 2) ts due c.unit c.tag) (sym (kept_t on))
            (subst (λ (z : Listed Standing). Looks units_kept tags_kept z.values (slots_at z 2) ts due c.unit c.tag) (sym (kept on).1) kept_looks)))
            (λ off.
            subst (λ u. Looks u tags' t.values (slots_at t 2) ts due c.unit c.tag) (sym (gone_u off ∙ ap (λ k. scoped (left k s units.lines) units.items units.room) is_unit))
            (subst (λ g. Looks units_left g t.values (slots_at t 2) ts due c.unit c.tag) (sym (gone_t off ∙ ap (λ k. scoped (left k s tags.lines) tags.items tags.room) is_tag))
            (subst (λ v. Looks units_left tags_left v (slots_at t 2) ts due c.unit c.tag) (sym (moved_values log t 0 s (gone off).1))
            (subst (λ o. Looks units_left tags_left xs o ts due c.unit c.tag) (sym (moved_other log t 0 s (gone off).1 2 (λ e. omega (arith, e)))) gone_looks))))
            (cases_Bool (owes d))

        pub looks : Looks units' tags' t.values (slots_at t 2) ts due unit tag
        looks = subst (λ k. Looks units' tags' t.values (slots_at t 2) ts due k tag) (sym is_unit) (subst (λ k. Looks units' tags' t.values (slots_at t 2) ts due c.unit k) (sym is_tag) by_keys)

        pub room_same : t.room ≡ log.room
        room_same = ⊎_elim
            (λ on. ap (λ (z : Listed Standing). z.room) (kept on).1)
            (λ off. moved_room log t 0 s (gone off).1)
            (cases_Bool (owes d))

        units_same : units'.room ≡ units.room
        units_same = ⊎_elim (λ on. ap (λ (z : Scoped). z.room) (kept_u on)) (λ off. ap (λ (z : Scoped). z.room) (gone_u off)) (cases_Bool (owes d))

        tags_same : tags'.room ≡ tags.room
        tags_same = ⊎_elim (λ on. ap (λ (z : Scoped). z.room) (kept_t on)) (λ off. ap (λ (z : Scoped). z.room) (gone_t off)) (cases_Bool (owes d))

        pub looked_order : (due1 : List ℕ) → due1 ≡ filter (λ k. has due k || gains units' unit t.values k) (slots_at t 2) → InOrder due1 (slots_at t 2)
        looked_order due1 e1 = in_order_of (λ k. has due k || gains units' unit t.values k) (slots_at t 2) due1 e1

        pub looked : (due1 due2 : List ℕ) (capacity' : ℕ) → due1 ≡ filter (λ k. has due k || gains units' unit t.values k) (slots_at t 2)
            → due2 ≡ filter (λ k. has due1 k || gains tags' tag t.values k) (slots_at t 2) → capacity ≤ capacity' → FollowsLog t units' tags' due2 capacity'
        looked due1 due2 capacity' e1 e2 more = record {
          follows = looks.after due1 due2 e1 e2;
          units_room = units_same ∙ f.units_room ∙ sym room_same;
          tags_room = tags_same ∙ f.tags_room ∙ sym room_same;
          due_room = let a = room_same in let b = f.due_room in omega (arith, a, b, more);
        }
