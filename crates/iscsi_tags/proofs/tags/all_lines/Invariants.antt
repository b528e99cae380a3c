use Rattle.std.proofs.Common.{◌≡◌, ◌≤◌, ℕ, ltb, length, vec_capacity}
use Rattle.iscsi_slots.specs.Slots.{times}
use Rattle.iscsi_tags.proofs.TagLemmas.{one_if}
use Rattle.iscsi_tags.proofs.tags.all_lines.Given as goal

-- so many lines so far
abbrev pub invariant-loop-line : goal.invariant-loop-line
invariant-loop-line l = record {
  lines : (line : ℕ) → times line l.free.items ≡ one_if (ltb line l.line);
  count : length l.free.items ≡ l.line;
  capacity : l.room ≤ vec_capacity l.free;
}
