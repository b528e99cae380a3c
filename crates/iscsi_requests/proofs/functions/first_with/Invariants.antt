use Rattle.iscsi_requests.specs.Kept.{IsWalk, slots_at, still_ahead}
use Rattle.iscsi_requests.proofs.functions.first_with.Given as goal

-- none so far waits for the number
abbrev pub invariant-loop-at : goal.invariant-loop-at
invariant-loop-at l = IsWalk (slots_at l.kept l.conn) l.kept.values l.number l.at

abbrev pub decreases-loop-at : goal.decreases-loop-at
decreases-loop-at l = still_ahead l.at (slots_at l.kept l.conn)
