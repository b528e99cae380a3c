use Rattle.std.proofs.Common.{◌≡◌, ◌≤◌, replicate, vec_capacity}
use Rattle.iscsi_ffi_commands.proofs.commands.zeros.Given as goal

-- those so far
abbrev pub invariant-loop : goal.invariant-loop
invariant-loop l = record {
  items : l.numbers.items ≡ replicate l.counter 0;
  capacity : l.count ≤ vec_capacity l.numbers;
  within : l.counter ≤ l.count;
}
