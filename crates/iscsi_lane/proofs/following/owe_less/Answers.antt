use Rattle.std.proofs.Common.{◌∙◌, arith}
use Rattle.iscsi_lane.proofs.OweLemmas.{looked, looked_order, looks, room_same, tag_less, tag_there, unit_less, unit_there}
use Rattle.iscsi_lane.proofs.StampLemmas.{few_at, once_at, within_at}
use Rattle.iscsi_lane.proofs.following.owe_less.Goals as goal

pub lessen-gone-requires-clause-within : goal.lessen-gone-requires-clause-within
lessen-gone-requires-clause-within c = within_at c.args.log.now c.known.ensures.apart 2 c.args.left.command c.requires.there

pub follow-requires-clause-there : goal.follow-requires-clause-there
follow-requires-clause-there c =
    unit_there c.args.log.now c.args.units.now c.args.tags.now c.args.due.now.items c.args.stamps.now _ c.requires.follows c.known.ensures.apart c.known.ensures.values c.known-2.ensures.ascending c.known-3.ensures.ascending c.known-2.ensures.items c.known-3.ensures.items
    c.requires.up c.args.left.command c.requires.there c.args.before c.requires.is c.from-unit.result (c.from-unit.ensures ∙ c.requires.unit)

pub follow-requires-clause-less : goal.follow-requires-clause-less
follow-requires-clause-less c =
    unit_less c.args.log.now c.args.units.now c.args.tags.now c.args.due.now.items c.args.stamps.now _ c.requires.follows c.known.ensures.apart c.known.ensures.values c.known-2.ensures.ascending c.known-3.ensures.ascending c.known-2.ensures.items c.known-3.ensures.items
    c.requires.up c.args.left.command c.requires.there c.args.before c.requires.is c.args.left c.requires.less

pub follow-requires-2-clause-there : goal.follow-requires-2-clause-there
follow-requires-2-clause-there c =
    tag_there c.args.log.now c.args.units.now c.args.tags.now c.args.due.now.items c.args.stamps.now _ c.requires.follows c.known.ensures.apart c.known.ensures.values c.known-2.ensures.ascending c.known-3.ensures.ascending c.known-2.ensures.items c.known-3.ensures.items
    c.requires.up c.args.left.command c.requires.there c.args.before c.requires.is c.args.left.tag c.requires.tag

pub follow-requires-2-clause-less : goal.follow-requires-2-clause-less
follow-requires-2-clause-less c =
    tag_less c.args.log.now c.args.units.now c.args.tags.now c.args.due.now.items c.args.stamps.now _ c.requires.follows c.known.ensures.apart c.known.ensures.values c.known-2.ensures.ascending c.known-3.ensures.ascending c.known-2.ensures.items c.known-3.ensures.items
    c.requires.up c.args.left.command c.requires.there c.args.before c.requires.is c.args.left c.requires.less

pub examine-requires-clause-stands : goal.examine-requires-clause-stands
examine-requires-clause-stands c =
    (looks c.args.log.now c.args.units.now c.args.tags.now c.args.due.now.items c.args.stamps.now _ c.requires.follows c.known.ensures.apart c.known.ensures.values c.known-2.ensures.ascending c.known-3.ensures.ascending c.known-2.ensures.items c.known-3.ensures.items
    c.requires.up c.args.left.command c.requires.there c.args.before c.requires.is c.args.left c.requires.less c.requires.unit c.requires.tag c.lessen-gone.new.log c.lessen-gone.result c.follow.new.scopes c.follow-2.new.scopes c.from-unit.result c.args.left.tag
    (c.from-unit.ensures ∙ c.requires.unit) c.requires.tag c.lessen-gone.ensures.kept c.lessen-gone.ensures.gone c.follow.ensures.kept c.follow.ensures.gone c.follow-2.ensures.kept c.follow-2.ensures.gone).stands_u

pub examine-requires-clause-within : goal.examine-requires-clause-within
examine-requires-clause-within c s there = within_at c.lessen-gone.new.log c.known-4.ensures.apart 2 s there

pub examine-requires-clause-once : goal.examine-requires-clause-once
examine-requires-clause-once c s = once_at c.lessen-gone.new.log c.known-4.ensures.apart 2 s

pub examine-requires-clause-up : goal.examine-requires-clause-up
examine-requires-clause-up c =
    (looks c.args.log.now c.args.units.now c.args.tags.now c.args.due.now.items c.args.stamps.now _ c.requires.follows c.known.ensures.apart c.known.ensures.values c.known-2.ensures.ascending c.known-3.ensures.ascending c.known-2.ensures.items c.known-3.ensures.items
    c.requires.up c.args.left.command c.requires.there c.args.before c.requires.is c.args.left c.requires.less c.requires.unit c.requires.tag c.lessen-gone.new.log c.lessen-gone.result c.follow.new.scopes c.follow-2.new.scopes c.from-unit.result c.args.left.tag
    (c.from-unit.ensures ∙ c.requires.unit) c.requires.tag c.lessen-gone.ensures.kept c.lessen-gone.ensures.gone c.follow.ensures.kept c.follow.ensures.gone c.follow-2.ensures.kept c.follow-2.ensures.gone).up

pub examine-requires-clause-order : goal.examine-requires-clause-order
examine-requires-clause-order c =
    (looks c.args.log.now c.args.units.now c.args.tags.now c.args.due.now.items c.args.stamps.now _ c.requires.follows c.known.ensures.apart c.known.ensures.values c.known-2.ensures.ascending c.known-3.ensures.ascending c.known-2.ensures.items c.known-3.ensures.items
    c.requires.up c.args.left.command c.requires.there c.args.before c.requires.is c.args.left c.requires.less c.requires.unit c.requires.tag c.lessen-gone.new.log c.lessen-gone.result c.follow.new.scopes c.follow-2.new.scopes c.from-unit.result c.args.left.tag
    (c.from-unit.ensures ∙ c.requires.unit) c.requires.tag c.lessen-gone.ensures.kept c.lessen-gone.ensures.gone c.follow.ensures.kept c.follow.ensures.gone c.follow-2.ensures.kept c.follow-2.ensures.gone).in_order

pub examine-requires-clause-room : goal.examine-requires-clause-room
examine-requires-clause-room c =
    let a = few_at c.lessen-gone.new.log c.known-4.ensures.apart 2 in let b = room_same c.args.log.now c.args.units.now c.args.tags.now c.args.due.now.items c.args.stamps.now _ c.requires.follows c.known.ensures.apart c.known.ensures.values c.known-2.ensures.ascending c.known-3.ensures.ascending c.known-2.ensures.items c.known-3.ensures.items
    c.requires.up c.args.left.command c.requires.there c.args.before c.requires.is c.args.left c.requires.less c.requires.unit c.requires.tag c.lessen-gone.new.log c.lessen-gone.result c.follow.new.scopes c.follow-2.new.scopes c.from-unit.result c.args.left.tag
    (c.from-unit.ensures ∙ c.requires.unit) c.requires.tag c.lessen-gone.ensures.kept c.lessen-gone.ensures.gone c.follow.ensures.kept c.follow.ensures.gone c.follow-2.ensures.kept c.follow-2.ensures.gone in let e = c.requires.follows.due_room in omega (arith, a, b, e)

pub examine-requires-2-clause-stands : goal.examine-requires-2-clause-stands
examine-requires-2-clause-stands c =
    (looks c.args.log.now c.args.units.now c.args.tags.now c.args.due.now.items c.args.stamps.now _ c.requires.follows c.known.ensures.apart c.known.ensures.values c.known-2.ensures.ascending c.known-3.ensures.ascending c.known-2.ensures.items c.known-3.ensures.items
    c.requires.up c.args.left.command c.requires.there c.args.before c.requires.is c.args.left c.requires.less c.requires.unit c.requires.tag c.lessen-gone.new.log c.lessen-gone.result c.follow.new.scopes c.follow-2.new.scopes c.from-unit.result c.args.left.tag
    (c.from-unit.ensures ∙ c.requires.unit) c.requires.tag c.lessen-gone.ensures.kept c.lessen-gone.ensures.gone c.follow.ensures.kept c.follow.ensures.gone c.follow-2.ensures.kept c.follow-2.ensures.gone).stands_t

pub examine-requires-2-clause-within : goal.examine-requires-2-clause-within
examine-requires-2-clause-within c s there = within_at c.lessen-gone.new.log c.known-4.ensures.apart 2 s there

pub examine-requires-2-clause-once : goal.examine-requires-2-clause-once
examine-requires-2-clause-once c s = once_at c.lessen-gone.new.log c.known-4.ensures.apart 2 s

pub examine-requires-2-clause-up : goal.examine-requires-2-clause-up
examine-requires-2-clause-up c =
    (looks c.args.log.now c.args.units.now c.args.tags.now c.args.due.now.items c.args.stamps.now _ c.requires.follows c.known.ensures.apart c.known.ensures.values c.known-2.ensures.ascending c.known-3.ensures.ascending c.known-2.ensures.items c.known-3.ensures.items
    c.requires.up c.args.left.command c.requires.there c.args.before c.requires.is c.args.left c.requires.less c.requires.unit c.requires.tag c.lessen-gone.new.log c.lessen-gone.result c.follow.new.scopes c.follow-2.new.scopes c.from-unit.result c.args.left.tag
    (c.from-unit.ensures ∙ c.requires.unit) c.requires.tag c.lessen-gone.ensures.kept c.lessen-gone.ensures.gone c.follow.ensures.kept c.follow.ensures.gone c.follow-2.ensures.kept c.follow-2.ensures.gone).up

pub examine-requires-2-clause-order : goal.examine-requires-2-clause-order
examine-requires-2-clause-order c =
    looked_order c.args.log.now c.args.units.now c.args.tags.now c.args.due.now.items c.args.stamps.now _ c.requires.follows c.known.ensures.apart c.known.ensures.values c.known-2.ensures.ascending c.known-3.ensures.ascending c.known-2.ensures.items c.known-3.ensures.items
    c.requires.up c.args.left.command c.requires.there c.args.before c.requires.is c.args.left c.requires.less c.requires.unit c.requires.tag c.lessen-gone.new.log c.lessen-gone.result c.follow.new.scopes c.follow-2.new.scopes c.from-unit.result c.args.left.tag
    (c.from-unit.ensures ∙ c.requires.unit) c.requires.tag c.lessen-gone.ensures.kept c.lessen-gone.ensures.gone c.follow.ensures.kept c.follow.ensures.gone c.follow-2.ensures.kept c.follow-2.ensures.gone c.examine.new.due.items c.examine.ensures.due

pub examine-requires-2-clause-room : goal.examine-requires-2-clause-room
examine-requires-2-clause-room c =
    let a = few_at c.lessen-gone.new.log c.known-4.ensures.apart 2 in let b = room_same c.args.log.now c.args.units.now c.args.tags.now c.args.due.now.items c.args.stamps.now _ c.requires.follows c.known.ensures.apart c.known.ensures.values c.known-2.ensures.ascending c.known-3.ensures.ascending c.known-2.ensures.items c.known-3.ensures.items
    c.requires.up c.args.left.command c.requires.there c.args.before c.requires.is c.args.left c.requires.less c.requires.unit c.requires.tag c.lessen-gone.new.log c.lessen-gone.result c.follow.new.scopes c.follow-2.new.scopes c.from-unit.result c.args.left.tag
    (c.from-unit.ensures ∙ c.requires.unit) c.requires.tag c.lessen-gone.ensures.kept c.lessen-gone.ensures.gone c.follow.ensures.kept c.follow.ensures.gone c.follow-2.ensures.kept c.follow-2.ensures.gone in let e = c.requires.follows.due_room in let d = c.examine.ensures.capacity in omega (arith, a, b, e, d)

pub returns-clause-follows : goal.returns-clause-follows
returns-clause-follows c =
    let d = c.examine.ensures.capacity in let e = c.examine-2.ensures.capacity in
    looked c.args.log.now c.args.units.now c.args.tags.now c.args.due.now.items c.args.stamps.now _ c.requires.follows c.known.ensures.apart c.known.ensures.values c.known-2.ensures.ascending c.known-3.ensures.ascending c.known-2.ensures.items c.known-3.ensures.items
    c.requires.up c.args.left.command c.requires.there c.args.before c.requires.is c.args.left c.requires.less c.requires.unit c.requires.tag c.lessen-gone.new.log c.lessen-gone.result c.follow.new.scopes c.follow-2.new.scopes c.from-unit.result c.args.left.tag
    (c.from-unit.ensures ∙ c.requires.unit) c.requires.tag c.lessen-gone.ensures.kept c.lessen-gone.ensures.gone c.follow.ensures.kept c.follow.ensures.gone c.follow-2.ensures.kept c.follow-2.ensures.gone c.examine.new.due.items c.examine-2.new.due.items _ c.examine.ensures.due c.examine-2.ensures.due (omega (arith, d, e))
