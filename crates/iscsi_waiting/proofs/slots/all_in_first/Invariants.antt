use Rattle.std.proofs.Common.{◌≡◌, ℕ, ◌+◌, ◌≤◌, [], length}
use Rattle.iscsi_waiting.specs.Marks.{slots_at}
use Rattle.iscsi_waiting.proofs.slots.all_in_first.Given as goal

-- so many slots went into the first list
abbrev pub invariant-loop : goal.invariant-loop
invariant-loop l = record {
  free : length l.slots.free + l.counter ≡ l.room;
  none : (list : ℕ) → 1 ≤ list → slots_at l.slots list ≡ [];
  count : length l.slots.lists ≡ l.lists;
  room : l.slots.room ≡ l.room;
  within : l.counter ≤ l.room;
}
