use Rattle.std.proofs.Common.{subst}
use Rattle.iscsi_waiting.specs.Known.{AreWaiting}
use Rattle.iscsi_waiting.proofs.AskLemmas.{all_waiting}
use Rattle.iscsi_waiting.proofs.waits.Waits.known.Goals as goal

pub returns-clause-waiting : goal.returns-clause-waiting
returns-clause-waiting c = subst AreWaiting c.self.view_is (all_waiting c.self.inside.slots c.self.invariant c.known.ensures.apart)
