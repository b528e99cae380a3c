use Rattle.std.proofs.Common.{subst}
use Rattle.iscsi_tickets.specs.Tickets.{AreKnown}
use Rattle.iscsi_tickets.proofs.LogLemmas.{are_known}
use Rattle.iscsi_tickets.proofs.tickets.Tickets.known.Goals as goal

pub returns : goal.returns
returns c = subst AreKnown c.self.view_is (are_known c.self.invariant)
