use Rattle.std.proofs.Common.{◌∙◌, ⊎_elim, refl, set, ap, sym, subst}
use Rattle.iscsi_lists.specs.Lists.{Listed}
use Rattle.iscsi_outbox_state.specs.declared.lane.Standing.{Standing}
use Rattle.iscsi_outbox_state.specs.declared.lane.Aim.TheVariants.{Unit as AtUnit}
use Rattle.iscsi_outbox_state.specs.Lane.{is_of_logout}
use Rattle.iscsi_outbox_state.specs.declared.lane.Standing.TheVariants.{Undue as IsUndue}
use Rattle.iscsi_lane.specs.Times.{IsUp}
use Rattle.iscsi_lane.proofs.JoinLemmas.{beside_joins, join_order, no_tag, no_unit, t_order, tag_joins, tag_stands, unit_joins, unit_stands}
use Rattle.iscsi_lane.proofs.StampLemmas.{once_at, within_at}
use Rattle.iscsi_lane.proofs.following.join.Goals as goal

pub push-requires-clause-none : goal.push-requires-clause-none
push-requires-clause-none c =
    no_unit c.args.log.now c.move_to_back.new.self c.set.new.self c.args.units.now c.args.tags.now c.args.due.now.items _ c.requires.follows c.known.ensures.values c.requires.lists c.known-2.ensures.ascending c.known-3.ensures.ascending c.known-2.ensures.items c.known-3.ensures.items
    c.args.slot (IsUndue c.args.answer) c.move_to_back.ensures.state c.set.ensures c.requires.within c.requires.none

pub examine-requires-clause-stands : goal.examine-requires-clause-stands
examine-requires-clause-stands c =
    unit_stands c.args.log.now c.move_to_back.new.self c.set.new.self c.args.units.now c.args.tags.now c.args.due.now.items _ c.requires.follows c.known.ensures.values c.requires.lists c.known-2.ensures.ascending c.known-3.ensures.ascending c.known-2.ensures.items c.known-3.ensures.items
    c.args.slot (IsUndue c.args.answer) c.move_to_back.ensures.state c.set.ensures c.requires.within c.requires.none
    c.args.answer refl c.from-key.result (c.in-Unit.is ∙ ap AtUnit (sym c.from-key.ensures)) c.push.new.self c.push.ensures

pub examine-requires-clause-within : goal.examine-requires-clause-within
examine-requires-clause-within c s there = within_at c.set.new.self c.known-4.ensures.apart 2 s there

pub examine-requires-clause-once : goal.examine-requires-clause-once
examine-requires-clause-once c s = once_at c.set.new.self c.known-4.ensures.apart 2 s

pub examine-requires-clause-up : goal.examine-requires-clause-up
examine-requires-clause-up c = subst (IsUp c.args.stamps.now) (sym (t_order c.args.log.now c.move_to_back.new.self c.set.new.self c.args.units.now c.args.tags.now c.args.due.now.items _ c.requires.follows c.known.ensures.values c.requires.lists c.known-2.ensures.ascending c.known-3.ensures.ascending c.known-2.ensures.items c.known-3.ensures.items
    c.args.slot (IsUndue c.args.answer) c.move_to_back.ensures.state c.set.ensures c.requires.within c.requires.none)) c.requires.up

pub examine-requires-clause-order : goal.examine-requires-clause-order
examine-requires-clause-order c =
    join_order c.args.log.now c.move_to_back.new.self c.set.new.self c.args.units.now c.args.tags.now c.args.due.now.items _ c.requires.follows c.known.ensures.values c.requires.lists c.known-2.ensures.ascending c.known-3.ensures.ascending c.known-2.ensures.items c.known-3.ensures.items
    c.args.slot (IsUndue c.args.answer) c.move_to_back.ensures.state c.set.ensures c.requires.within c.requires.none

pub returns-in-Unit-clause-follows : goal.returns-in-Unit-clause-follows
returns-in-Unit-clause-follows c =
    unit_joins c.args.log.now c.move_to_back.new.self c.set.new.self c.args.units.now c.args.tags.now c.args.due.now.items _ c.requires.follows c.known.ensures.values c.requires.lists c.known-2.ensures.ascending c.known-3.ensures.ascending c.known-2.ensures.items c.known-3.ensures.items
    c.args.slot (IsUndue c.args.answer) c.move_to_back.ensures.state c.set.ensures c.requires.within c.requires.none
    c.args.answer refl c.from-key.result (c.in-Unit.is ∙ ap AtUnit (sym c.from-key.ensures)) c.push.new.self c.push.ensures
    _ _ c.examine.ensures.due c.examine.ensures.capacity

pub push-requires-in-Tag-clause-none : goal.push-requires-in-Tag-clause-none
push-requires-in-Tag-clause-none c =
    no_tag c.args.log.now c.move_to_back.new.self c.set.new.self c.args.units.now c.args.tags.now c.args.due.now.items _ c.requires.follows c.known.ensures.values c.requires.lists c.known-2.ensures.ascending c.known-3.ensures.ascending c.known-2.ensures.items c.known-3.ensures.items
    c.args.slot (IsUndue c.args.answer) c.move_to_back.ensures.state c.set.ensures c.requires.within c.requires.none

pub examine-requires-in-Tag-clause-stands : goal.examine-requires-in-Tag-clause-stands
examine-requires-in-Tag-clause-stands c =
    tag_stands c.args.log.now c.move_to_back.new.self c.set.new.self c.args.units.now c.args.tags.now c.args.due.now.items _ c.requires.follows c.known.ensures.values c.requires.lists c.known-2.ensures.ascending c.known-3.ensures.ascending c.known-2.ensures.items c.known-3.ensures.items
    c.args.slot (IsUndue c.args.answer) c.move_to_back.ensures.state c.set.ensures c.requires.within c.requires.none
    c.args.answer refl c.in-Tag.tag (c.in-Tag.is) c.push-in-Tag.new.self c.push-in-Tag.ensures

pub examine-requires-in-Tag-clause-within : goal.examine-requires-in-Tag-clause-within
examine-requires-in-Tag-clause-within c s there = within_at c.set.new.self c.known-4.ensures.apart 2 s there

pub examine-requires-in-Tag-clause-once : goal.examine-requires-in-Tag-clause-once
examine-requires-in-Tag-clause-once c s = once_at c.set.new.self c.known-4.ensures.apart 2 s

pub examine-requires-in-Tag-clause-up : goal.examine-requires-in-Tag-clause-up
examine-requires-in-Tag-clause-up c = subst (IsUp c.args.stamps.now) (sym (t_order c.args.log.now c.move_to_back.new.self c.set.new.self c.args.units.now c.args.tags.now c.args.due.now.items _ c.requires.follows c.known.ensures.values c.requires.lists c.known-2.ensures.ascending c.known-3.ensures.ascending c.known-2.ensures.items c.known-3.ensures.items
    c.args.slot (IsUndue c.args.answer) c.move_to_back.ensures.state c.set.ensures c.requires.within c.requires.none)) c.requires.up

pub examine-requires-in-Tag-clause-order : goal.examine-requires-in-Tag-clause-order
examine-requires-in-Tag-clause-order c =
    join_order c.args.log.now c.move_to_back.new.self c.set.new.self c.args.units.now c.args.tags.now c.args.due.now.items _ c.requires.follows c.known.ensures.values c.requires.lists c.known-2.ensures.ascending c.known-3.ensures.ascending c.known-2.ensures.items c.known-3.ensures.items
    c.args.slot (IsUndue c.args.answer) c.move_to_back.ensures.state c.set.ensures c.requires.within c.requires.none

pub returns-in-Tag-clause-follows : goal.returns-in-Tag-clause-follows
returns-in-Tag-clause-follows c =
    tag_joins c.args.log.now c.move_to_back.new.self c.set.new.self c.args.units.now c.args.tags.now c.args.due.now.items _ c.requires.follows c.known.ensures.values c.requires.lists c.known-2.ensures.ascending c.known-3.ensures.ascending c.known-2.ensures.items c.known-3.ensures.items
    c.args.slot (IsUndue c.args.answer) c.move_to_back.ensures.state c.set.ensures c.requires.within c.requires.none
    c.args.answer refl c.in-Tag.tag (c.in-Tag.is) c.push-in-Tag.new.self c.push-in-Tag.ensures
    _ _ c.examine-in-Tag.ensures.due c.examine-in-Tag.ensures.capacity

pub returns-in-Conn : goal.returns-in-Conn
returns-in-Conn c = record {
  log = c.set.ensures ∙ ap (λ (u : Listed Standing). record u { values = set u.values c.args.slot (IsUndue c.args.answer) }) c.move_to_back.ensures.state;
  follows = beside_joins c.args.log.now c.move_to_back.new.self c.set.new.self c.args.units.now c.args.tags.now c.args.due.now.items _ c.requires.follows c.known.ensures.values c.requires.lists c.known-2.ensures.ascending c.known-3.ensures.ascending c.known-2.ensures.items c.known-3.ensures.items
      c.args.slot (IsUndue c.args.answer) c.move_to_back.ensures.state c.set.ensures c.requires.within c.requires.none c.args.answer refl (⊎_elim (λ p. ap is_of_logout p.1) (λ r. ⊎_elim (λ e. ap is_of_logout e) (λ e. ap is_of_logout e) r) c.in-Conn.is);
}
