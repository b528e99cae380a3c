use Rattle.iscsi_lane.specs.Standings.{slots_at}
use Rattle.iscsi_lane.specs.Walking.{IsWalk, NoneHolds, still_ahead}
use Rattle.iscsi_lane.proofs.walking.is_due_by_walk.Given as goal

-- none so far holds it back
abbrev pub invariant-loop-at : goal.invariant-loop-at
invariant-loop-at l = IsWalk (slots_at l.log 2) (NoneHolds l.log.values l.answer l.slot) l.at

abbrev pub decreases-loop-at : goal.decreases-loop-at
decreases-loop-at l = still_ahead l.at (slots_at l.log 2)
