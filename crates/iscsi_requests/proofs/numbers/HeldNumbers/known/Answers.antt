use Rattle.std.proofs.Common.{subst}
use Rattle.iscsi_requests.specs.Numbers.{AreKnown}
use Rattle.iscsi_requests.proofs.NumberLemmas.{are_known}
use Rattle.iscsi_requests.proofs.numbers.HeldNumbers.known.Goals as goal

pub returns : goal.returns
returns c = subst AreKnown c.self.view_is (are_known (record { places = c.self.inside.places.items }) c.self.inside.size c.self.invariant)
