use Rattle.iscsi_lane.specs.Standings.{slots_at}
use Rattle.iscsi_lane.specs.Walking.{IsPassed, IsWalk, still_ahead}
use Rattle.iscsi_lane.proofs.walking.first_due.Given as goal

-- none so far is due
abbrev pub invariant-loop-at : goal.invariant-loop-at
invariant-loop-at l = IsWalk (slots_at l.log 2) (IsPassed l.log.values (slots_at l.log 2)) l.at

abbrev pub decreases-loop-at : goal.decreases-loop-at
decreases-loop-at l = still_ahead l.at (slots_at l.log 2)
