use Rattle.std.proofs.Common.{◌≡◌, ◌<◌, length}
use Rattle.iscsi_outbox_state.specs.Waits.{dropped_on, queue_at}
use Rattle.iscsi_waiting.proofs.waits.Waits.drop_on.Given as goal

-- the first ones were dropped
abbrev pub invariant-loop : goal.invariant-loop
invariant-loop l = record {
  state : dropped_on l.conn l.self ≡ dropped_on l.conn l.fn.self;
  within : l.conn < length l.self.queues;
}

abbrev pub decreases-loop : goal.decreases-loop
decreases-loop l = length (queue_at l.self l.conn)
