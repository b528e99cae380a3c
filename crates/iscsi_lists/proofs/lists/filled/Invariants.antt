use Rattle.std.proofs.Common.{◌≡◌, ◌≤◌, replicate, vec_capacity}
use Rattle.iscsi_lists.proofs.lists.filled.Given as goal

-- the copies so far
abbrev pub invariant-loop : goal.invariant-loop
invariant-loop g l = record {
  items : l.values.items ≡ replicate l.counter l.value;
  capacity : l.count ≤ vec_capacity l.values;
  within : l.counter ≤ l.count;
}
