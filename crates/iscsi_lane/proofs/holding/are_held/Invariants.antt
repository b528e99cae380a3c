use Rattle.std.proofs.Common.{◌≡◌, ◌+◌, ◌-◌, ◌<◌, ◌≤◌, ℕ, length, get_or}
use Rattle.iscsi_lane.specs.Hints.{AreHints, IsNoted}
use Rattle.iscsi_lane.specs.Standings.{slots_at}
use Rattle.iscsi_lane.specs.Walking.{IsHeldAt}
use Rattle.iscsi_lane.proofs.holding.are_held.Given as goal

-- those so far are held back, and what does is noted
abbrev pub invariant-loop-k : goal.invariant-loop-k
invariant-loop-k l = record {
  within : l.k ≤ length l.untold;
  held : (j : ℕ) → j < l.k → IsHeldAt l.log (get_or l.untold j 0);
  noted : (j : ℕ) → j < l.k → IsNoted l.log l.holders.items (get_or l.untold j 0);
  holders : length l.holders.items ≡ l.log.room + 1;
  hints : AreHints (slots_at l.log 2) l.holders.items l.untold;
}

abbrev pub decreases-loop-k : goal.decreases-loop-k
decreases-loop-k l = length l.untold - l.k
