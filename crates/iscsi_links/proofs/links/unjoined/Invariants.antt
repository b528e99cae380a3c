use Rattle.std.proofs.Common.{◌≡◌, ◌≤◌, replicate, vec_capacity}
use Rattle.iscsi_arrivals.specs.Counts.{new_counts}
use Rattle.iscsi_links.proofs.links.unjoined.Given as goal

-- those so far
abbrev pub invariant-loop : goal.invariant-loop
invariant-loop l = record {
  items : l.list.items ≡ replicate l.counter new_counts;
  capacity : l.count ≤ vec_capacity l.list;
  within : l.counter ≤ l.count;
}
