use Rattle.std.proofs.Common.{subst}
use Rattle.iscsi_tracked.specs.Tracked.{AreKnown}
use Rattle.iscsi_tracked.proofs.StateLemmas.{are_known}
use Rattle.iscsi_tracked.proofs.tracked.Tracked.known.Goals as goal

pub returns : goal.returns
returns c =
    subst AreKnown c.self.view_is (are_known c.self.inside.tickets c.self.inside.kept c.self.invariant c.known-2.ensures.apart c.known.ensures.ascending c.known.ensures.newest)
