use Rattle.std.proofs.Common.{◌∙◌, ap}
use Rattle.iscsi_outbox_state.specs.Lane.{any_in, is_command}
use Rattle.iscsi_lane.proofs.LaneLemmas.{found_is}
use Rattle.iscsi_lane.proofs.standings.Standings.has.Goals as goal

pub returns : goal.returns
returns c =
    let i = c.self.inside in
    c.is_some.ensures ∙ found_is i.log i.commands c.args.command c.self.invariant.lane.standing c.find.result c.find.ensures
    ∙ ap (any_in (is_command c.args.command)) c.self.view_is
