use Rattle.std.proofs.Common.{subst}
use Rattle.iscsi_requests.specs.Replies.{AreKnown}
use Rattle.iscsi_requests.proofs.ReplyLemmas.{are_known}
use Rattle.iscsi_requests.proofs.replies.WaitingReplies.known.Goals as goal

pub returns : goal.returns
returns c = subst AreKnown c.self.view_is (are_known c.self.inside.tickets c.self.inside.kept c.self.invariant c.known-2.ensures.apart c.known.ensures.newest)
