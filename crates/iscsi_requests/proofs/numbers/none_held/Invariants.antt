use Rattle.std.proofs.Common.{◌≡◌, ◌≤◌, None, replicate, vec_capacity}
use Rattle.iscsi_requests.proofs.numbers.none_held.Given as goal

-- those so far
abbrev pub invariant-loop : goal.invariant-loop
invariant-loop l = record {
  items : l.places.items ≡ replicate l.counter None;
  capacity : l.size ≤ vec_capacity l.places;
  within : l.counter ≤ l.size;
}
