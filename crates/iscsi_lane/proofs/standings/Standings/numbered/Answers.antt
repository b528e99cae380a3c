use Rattle.std.proofs.Common.{ap, ◌∙◌}
use Rattle.iscsi_outbox_state.specs.Lane.{count_in, is_numbered}
use Rattle.iscsi_lane.proofs.LaneLemmas.{counted_numbered}
use Rattle.iscsi_lane.proofs.standings.Standings.numbered.Goals as goal

pub returns : goal.returns
returns c =
    let i = c.self.inside in
    counted_numbered i.log i.conns i.commands i.answers i.owing i.waiting i.numbered c.self.invariant.lane ∙ ap (count_in is_numbered) c.self.view_is
