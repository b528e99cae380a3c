use Rattle.std.proofs.Common.{◌∙◌, ⊎_elim, ap, sym, arith}
use Rattle.iscsi_outbox_state.specs.declared.lane.Aim.TheVariants.{Unit as AtUnit}
use Rattle.iscsi_outbox_state.specs.Lane.{is_of_logout}
use Rattle.iscsi_lane.proofs.TakeLemmas.{beside_goes, in_log, tag_goes, tag_left_there, tag_line_there, taken_order, taken_up, unit_goes, unit_left_there, unit_line_there}
use Rattle.iscsi_lane.proofs.StampLemmas.{once_at, within_at}
use Rattle.iscsi_lane.proofs.TellLemmas.{due_up, due_within}
use Rattle.iscsi_lane.proofs.following.part.Goals as goal

pub move_to_back-requires-clause-slot : goal.move_to_back-requires-clause-slot
move_to_back-requires-clause-slot c = in_log c.args.log.now c.args.units.now c.args.tags.now c.args.due.now.items _ c.requires.follows c.known.ensures.apart c.known-2.ensures.ascending c.known-3.ensures.ascending c.args.slot c.requires.there c.leave_due.new.due.items c.leave_due.ensures.due

pub take_out-requires : goal.take_out-requires
take_out-requires c =
    unit_line_there c.args.log.now c.args.units.now c.args.tags.now c.args.due.now.items _ c.requires.follows c.known.ensures.apart c.known-2.ensures.ascending c.known-3.ensures.ascending c.args.slot c.requires.there c.leave_due.new.due.items c.leave_due.ensures.due
    c.move_to_back.new.self c.move_to_back.ensures.state c.args.answer c.requires.is c.from-key.result (c.in-Unit.is ∙ ap AtUnit (sym c.from-key.ensures))

pub examine-requires-clause-stands : goal.examine-requires-clause-stands
examine-requires-clause-stands c =
    unit_left_there c.args.log.now c.args.units.now c.args.tags.now c.args.due.now.items _ c.requires.follows c.known.ensures.apart c.known-2.ensures.ascending c.known-3.ensures.ascending c.args.slot c.requires.there c.leave_due.new.due.items c.leave_due.ensures.due
    c.move_to_back.new.self c.move_to_back.ensures.state c.args.answer c.requires.is c.from-key.result (c.in-Unit.is ∙ ap AtUnit (sym c.from-key.ensures)) c.take_out.new.self c.take_out.ensures

pub examine-requires-clause-within : goal.examine-requires-clause-within
examine-requires-clause-within c s there = within_at c.move_to_back.new.self c.known-4.ensures.apart 2 s there

pub examine-requires-clause-once : goal.examine-requires-clause-once
examine-requires-clause-once c s = once_at c.move_to_back.new.self c.known-4.ensures.apart 2 s

pub examine-requires-clause-up : goal.examine-requires-clause-up
examine-requires-clause-up c =
    taken_up c.args.log.now c.args.units.now c.args.tags.now c.args.due.now.items _ c.requires.follows c.known.ensures.apart c.known-2.ensures.ascending c.known-3.ensures.ascending c.args.slot c.requires.there c.leave_due.new.due.items c.leave_due.ensures.due
    c.move_to_back.new.self c.move_to_back.ensures.state c.args.stamps.now c.requires.up

pub examine-requires-clause-order : goal.examine-requires-clause-order
examine-requires-clause-order c =
    taken_order c.args.log.now c.args.units.now c.args.tags.now c.args.due.now.items _ c.requires.follows c.known.ensures.apart c.known-2.ensures.ascending c.known-3.ensures.ascending c.args.slot c.requires.there c.leave_due.new.due.items c.leave_due.ensures.due
    c.move_to_back.new.self c.move_to_back.ensures.state

pub returns-in-Unit-clause-follows : goal.returns-in-Unit-clause-follows
returns-in-Unit-clause-follows c =
    let d = c.examine.ensures.capacity in let h = c.leave_due.ensures.capacity in
    unit_goes c.args.log.now c.args.units.now c.args.tags.now c.args.due.now.items _ c.requires.follows c.known.ensures.apart c.known-2.ensures.ascending c.known-3.ensures.ascending c.args.slot c.requires.there c.leave_due.new.due.items c.leave_due.ensures.due
    c.move_to_back.new.self c.move_to_back.ensures.state c.args.answer c.requires.is c.from-key.result (c.in-Unit.is ∙ ap AtUnit (sym c.from-key.ensures)) c.take_out.new.self c.take_out.ensures _ _ c.examine.ensures.due (omega (arith, d, h))

pub take_out-requires-in-Tag : goal.take_out-requires-in-Tag
take_out-requires-in-Tag c =
    tag_line_there c.args.log.now c.args.units.now c.args.tags.now c.args.due.now.items _ c.requires.follows c.known.ensures.apart c.known-2.ensures.ascending c.known-3.ensures.ascending c.args.slot c.requires.there c.leave_due.new.due.items c.leave_due.ensures.due
    c.move_to_back.new.self c.move_to_back.ensures.state c.args.answer c.requires.is c.in-Tag.tag c.in-Tag.is

pub examine-requires-in-Tag-clause-stands : goal.examine-requires-in-Tag-clause-stands
examine-requires-in-Tag-clause-stands c =
    tag_left_there c.args.log.now c.args.units.now c.args.tags.now c.args.due.now.items _ c.requires.follows c.known.ensures.apart c.known-2.ensures.ascending c.known-3.ensures.ascending c.args.slot c.requires.there c.leave_due.new.due.items c.leave_due.ensures.due
    c.move_to_back.new.self c.move_to_back.ensures.state c.args.answer c.requires.is c.in-Tag.tag c.in-Tag.is c.take_out-in-Tag.new.self c.take_out-in-Tag.ensures

pub examine-requires-in-Tag-clause-within : goal.examine-requires-in-Tag-clause-within
examine-requires-in-Tag-clause-within c s there = within_at c.move_to_back.new.self c.known-4.ensures.apart 2 s there

pub examine-requires-in-Tag-clause-once : goal.examine-requires-in-Tag-clause-once
examine-requires-in-Tag-clause-once c s = once_at c.move_to_back.new.self c.known-4.ensures.apart 2 s

pub examine-requires-in-Tag-clause-up : goal.examine-requires-in-Tag-clause-up
examine-requires-in-Tag-clause-up c =
    taken_up c.args.log.now c.args.units.now c.args.tags.now c.args.due.now.items _ c.requires.follows c.known.ensures.apart c.known-2.ensures.ascending c.known-3.ensures.ascending c.args.slot c.requires.there c.leave_due.new.due.items c.leave_due.ensures.due
    c.move_to_back.new.self c.move_to_back.ensures.state c.args.stamps.now c.requires.up

pub examine-requires-in-Tag-clause-order : goal.examine-requires-in-Tag-clause-order
examine-requires-in-Tag-clause-order c =
    taken_order c.args.log.now c.args.units.now c.args.tags.now c.args.due.now.items _ c.requires.follows c.known.ensures.apart c.known-2.ensures.ascending c.known-3.ensures.ascending c.args.slot c.requires.there c.leave_due.new.due.items c.leave_due.ensures.due
    c.move_to_back.new.self c.move_to_back.ensures.state

pub returns-in-Tag-clause-follows : goal.returns-in-Tag-clause-follows
returns-in-Tag-clause-follows c =
    let d = c.examine-in-Tag.ensures.capacity in let h = c.leave_due.ensures.capacity in
    tag_goes c.args.log.now c.args.units.now c.args.tags.now c.args.due.now.items _ c.requires.follows c.known.ensures.apart c.known-2.ensures.ascending c.known-3.ensures.ascending c.args.slot c.requires.there c.leave_due.new.due.items c.leave_due.ensures.due
    c.move_to_back.new.self c.move_to_back.ensures.state c.args.answer c.requires.is c.in-Tag.tag c.in-Tag.is c.take_out-in-Tag.new.self c.take_out-in-Tag.ensures _ _ c.examine-in-Tag.ensures.due (omega (arith, d, h))

pub leave_due-requires-clause-slot : goal.leave_due-requires-clause-slot
leave_due-requires-clause-slot c = let a = within_at c.args.log.now c.known.ensures.apart 2 c.args.slot c.requires.there in let b = c.requires.long in omega (arith, a, b)

pub leave_due-requires-clause-within : goal.leave_due-requires-clause-within
leave_due-requires-clause-within c = due_within c.args.log.now c.args.units.now c.args.tags.now c.args.due.now.items _ c.requires.follows c.known.ensures.apart c.args.stamps.now c.requires.long

pub leave_due-requires-clause-up : goal.leave_due-requires-clause-up
leave_due-requires-clause-up c = due_up c.args.log.now c.args.units.now c.args.tags.now c.args.due.now.items _ c.requires.follows c.known.ensures.apart c.args.stamps.now c.requires.up

pub returns-in-Conn : goal.returns-in-Conn
returns-in-Conn c = record {
  log = c.move_to_back.ensures.state;
  follows = beside_goes c.args.log.now c.args.units.now c.args.tags.now c.args.due.now.items _ c.requires.follows c.known.ensures.apart c.known-2.ensures.ascending c.known-3.ensures.ascending c.args.slot c.requires.there c.leave_due.new.due.items c.leave_due.ensures.due
      c.move_to_back.new.self c.move_to_back.ensures.state c.args.answer c.requires.is (⊎_elim (λ p. ap is_of_logout p.1) (λ r. ⊎_elim (λ e. ap is_of_logout e) (λ e. ap is_of_logout e) r) c.in-Conn.is) _ c.leave_due.ensures.capacity;
}
