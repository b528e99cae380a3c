use Rattle.std.proofs.Common.{◌≡◌, ◌≤◌, replicate, vec_capacity}
use Rattle.iscsi_requests.proofs.unwritten.none_yet.Given as goal

-- those so far
abbrev pub invariant-loop : goal.invariant-loop
invariant-loop l = record {
  items : l.counts.items ≡ replicate l.counter 0;
  capacity : l.conns ≤ vec_capacity l.counts;
  within : l.counter ≤ l.conns;
}
