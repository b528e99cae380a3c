use Rattle.std.proofs.Common.{ap, ◌∙◌}
use Rattle.iscsi_outbox_state.specs.Lane.{count_in}
use Rattle.iscsi_lane.specs.Standings.{is_undue}
use Rattle.iscsi_lane.proofs.LaneLemmas.{counted_undue}
use Rattle.iscsi_lane.proofs.standings.Standings.answers_waiting.Goals as goal

pub returns : goal.returns
returns c =
    let i = c.self.inside in
    counted_undue i.log i.conns i.commands i.answers i.owing i.waiting i.numbered c.self.invariant.lane ∙ ap (count_in is_undue) c.self.view_is
