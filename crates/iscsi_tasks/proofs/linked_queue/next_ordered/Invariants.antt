use Rattle.std.proofs.Common.{◌≤◌}
use Rattle.iscsi_tasks.proofs.linked_queue.next_ordered.Given as goal
use Rattle.iscsi_tasks.proofs.Names.{IsPastNone}

abbrev pub invariant-loop : goal.invariant-loop
invariant-loop l = record {
  past : IsPastNone l.chain.slots l.chain.members l.slot;
  far : l.counter ≤ past.place;
}
