use Rattle.std.proofs.Common.{◌∙◌, ap, sym}
use Rattle.iscsi_outbox_state.specs.Lane.{cleared, with_items}
use Rattle.iscsi_lane.specs.Standings.{items_in, lane_of, slots_at}
use Rattle.iscsi_lane.proofs.StampLemmas.{once_at}
use Rattle.iscsi_lane.proofs.DropLemmas.{cleared_lane, cleared_view, none_to_clear, stands}
use Rattle.iscsi_lane.proofs.standings.Standings.clear.Goals as goal

pub returns-in_default : goal.returns-in_default
returns-in_default c =
    let i = c.self.inside in
    sym c.self.view_is ∙ ap (with_items (lane_of i.log i.conns i.commands i.answers)) (sym (none_to_clear c.args.unit (items_in i.log) c.in_default.ensures))
    ∙ ap (cleared c.args.unit) c.self.view_is

pub clear-requires-clause-there : goal.clear-requires-clause-there
clear-requires-clause-there c =
    let found = c.in-Some.ensures in stands (slots_at c.self.inside.log 2) found.front c.in-Some.slot found.back found.parts

pub invariant_of-self : goal.invariant_of-self
invariant_of-self c =
    let i = c.self.inside in
    let found = c.in-Some.ensures in
    record {
      lane = cleared_lane i.log i.conns i.commands i.answers i.owing i.waiting i.numbered c.self.invariant.lane c.known.ensures.apart c.known.ensures.values c.in-Some.slot c.in-Some.answer
          (stands (slots_at i.log 2) found.front c.in-Some.slot found.back found.parts) found.is c.clear.new.log c.clear.ensures.log;
      lined = c.clear.ensures.lined;
    }

pub returns : goal.returns
returns c =
    let i = c.self.inside in
    let found = c.in-Some.ensures in
    ap (with_items (lane_of i.log i.conns i.commands i.answers))
    (cleared_view i.log i.conns i.commands i.answers i.owing i.waiting i.numbered c.self.invariant.lane c.known.ensures.apart c.known.ensures.values c.in-Some.slot c.in-Some.answer
    (stands (slots_at i.log 2) found.front c.in-Some.slot found.back found.parts) found.is c.clear.new.log c.clear.ensures.log c.args.unit found.front found.back found.parts
    (once_at i.log c.known.ensures.apart 2 c.in-Some.slot) found.on found.none)
    ∙ ap (cleared c.args.unit) c.self.view_is
