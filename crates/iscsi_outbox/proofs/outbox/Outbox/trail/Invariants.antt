use Rattle.std.proofs.Common.{◌≡◌, length}
use Rattle.iscsi_outbox_steps.specs.Steps.{trail}
use Rattle.iscsi_tracked.specs.Tracked.{trail_at}
use Rattle.iscsi_outbox.proofs.outbox.Outbox.trail.Given as goal

-- some left the trail: it makes no odds whether that is done before all do
abbrev pub invariant-loop-command : goal.invariant-loop-command
invariant-loop-command l = record {
  state : trail l.conn l.self ≡ trail l.fn.conn l.fn.self;
  conns : length l.self.limits.cids ≡ length l.fn.self.limits.cids;
}

abbrev pub decreases-loop-command : goal.decreases-loop-command
decreases-loop-command l = length (trail_at l.self.tracked l.conn)
