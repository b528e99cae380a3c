use Rattle.iscsi_lane.specs.Standings.{slots_at}
use Rattle.iscsi_lane.specs.Walking.{IsWalk, NoneSoFar, is_uncleared_of, still_ahead}
use Rattle.iscsi_lane.proofs.walking.first_uncleared.Given as goal

-- none so far is looked for
abbrev pub invariant-loop-at : goal.invariant-loop-at
invariant-loop-at l = IsWalk (slots_at l.log 2) (NoneSoFar (is_uncleared_of l.unit) l.log.values) l.at

abbrev pub decreases-loop-at : goal.decreases-loop-at
decreases-loop-at l = still_ahead l.at (slots_at l.log 2)
