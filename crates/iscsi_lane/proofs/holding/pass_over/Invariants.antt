use Rattle.std.proofs.Common.{◌≡◌, ◌+◌, ◌-◌, ◌<◌, ◌≤◌, ◌⊎◌, ℕ, length, get_or}
use Rattle.iscsi_lane.specs.Hints.{hint_at, passed}
use Rattle.iscsi_lane.specs.Standings.{slots_at}
use Rattle.iscsi_lane.proofs.holding.pass_over.Given as goal

-- each has its place, and those so far have passed the slot
abbrev pub invariant-loop-k : goal.invariant-loop-k
invariant-loop-k l = record {
  within : l.k ≤ length l.untold;
  holders : length l.holders.items ≡ l.log.room + 1;
  each : (t : ℕ) → (hint_at l.holders.items t ≡ hint_at l.initial.holders.items t) ⊎ (hint_at l.holders.items t ≡ passed l.slot (slots_at l.log 2) (hint_at l.initial.holders.items t));
  so_far : (j : ℕ) → j < l.k → hint_at l.holders.items (get_or l.untold j 0) ≡ passed l.slot (slots_at l.log 2) (hint_at l.initial.holders.items (get_or l.untold j 0));
}

abbrev pub decreases-loop-k : goal.decreases-loop-k
decreases-loop-k l = length l.untold - l.k
