use Rattle.std.proofs.Common.{subst}
use Rattle.iscsi_lane.specs.Standings.{AreSound}
use Rattle.iscsi_lane.proofs.LaneLemmas.{are_sound}
use Rattle.iscsi_lane.proofs.standings.Standings.known.Goals as goal

pub returns : goal.returns
returns c =
    let i = c.self.inside in
    subst AreSound c.self.view_is (are_sound i.log i.conns i.commands i.answers i.owing i.waiting i.numbered c.self.invariant.lane c.known.ensures.apart c.known.ensures.short)
