use Rattle.std.proofs.Common.{subst}
use Rattle.iscsi_requests.specs.Cookies.{AreKnown}
use Rattle.iscsi_requests.proofs.CookieLemmas.{are_known}
use Rattle.iscsi_requests.proofs.cookies.Cookies.known.Goals as goal

pub returns : goal.returns
returns c = subst AreKnown c.self.view_is (are_known c.self.inside.kept c.self.invariant c.known.ensures.apart)
