use Rattle.iscsi_lane.specs.Standings.{slots_at}
use Rattle.iscsi_lane.specs.Walking.{IsWalk, still_ahead}
use Rattle.iscsi_lane.proofs.holding.next_holder.Given as goal

-- it walks over the log
abbrev pub invariant-loop-at : goal.invariant-loop-at
invariant-loop-at l = IsWalk (slots_at l.log 2) (λ front back. Unit {0}) l.at

abbrev pub decreases-loop-at : goal.decreases-loop-at
decreases-loop-at l = still_ahead l.at (slots_at l.log 2)
