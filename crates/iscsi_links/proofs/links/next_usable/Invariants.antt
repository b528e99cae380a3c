use Rattle.std.proofs.Common.{length, ◌-◌, ◌≡◌, ℕ, ◌<◌, ◌≤◌, false, slice_index_or}
use Rattle.iscsi_arrivals.specs.Counts.{is_usable_by, new_counts}
use Rattle.iscsi_links.proofs.links.next_usable.Given as goal

-- none so far takes requests
abbrev pub invariant-loop-place : goal.invariant-loop-place
invariant-loop-place l = record {
  within : l.place ≤ length l.list;
  none : (j : ℕ) → j < l.place → is_usable_by (slice_index_or l.list j new_counts) ≡ false;
}

abbrev pub decreases-loop-place : goal.decreases-loop-place
decreases-loop-place l = length l.list - l.place
