use Rattle.std.proofs.Common.{◌∙◌, ap}
use Rattle.iscsi_outbox_state.specs.Lane.{dropped_on, with_items}
use Rattle.iscsi_lane.specs.Standings.{lane_of}
use Rattle.iscsi_lane.proofs.DroppingLemmas.{none_left}
use Rattle.iscsi_lane.proofs.standings.Standings.drop_on.Goals as goal

pub overflow_sub-self : goal.overflow_sub-self
overflow_sub-self c =
    let i = c.self.inside in
    (c.drop_all-dropped.ensures.dropped.less i.commands i.answers i.owing i.waiting i.numbered c.self.invariant.lane).some

pub overflow_sub-self-2 : goal.overflow_sub-self-2
overflow_sub-self-2 c =
    let i = c.self.inside in
    (c.drop_all-dropped.ensures.dropped.less i.commands i.answers i.owing i.waiting i.numbered c.self.invariant.lane).some_numbered

pub invariant_of-self : goal.invariant_of-self
invariant_of-self c =
    let i = c.self.inside in
    record {
      lane = (c.drop_all-dropped.ensures.dropped.less i.commands i.answers i.owing i.waiting i.numbered c.self.invariant.lane).lane;
      lined = c.drop_all-dropped.ensures.lined;
    }

pub returns : goal.returns
returns c =
    let i = c.self.inside in
    ap (with_items (lane_of i.log i.conns i.commands i.answers)) (none_left i.log c.drop_all-dropped.new.log c.args.conn c.drop_all-dropped.result.answers c.drop_all-dropped.result.numbered c.drop_all-dropped.ensures.dropped)
    ∙ ap (dropped_on c.args.conn) c.self.view_is
