use Rattle.std.proofs.Common.{◌-◌, ◌+◌, length}
use Rattle.iscsi_lane.specs.Standings.{slots_at}
use Rattle.iscsi_lane.proofs.StampLemmas.{IsNumbering}
use Rattle.iscsi_lane.proofs.stamps.number_anew.Given as goal

-- so many have their numbers
abbrev pub invariant-loop-at : goal.invariant-loop-at
invariant-loop-at l = IsNumbering (slots_at l.log 2) l.stamps.items l.next (l.log.room + 1) l.at

abbrev pub decreases-loop-at : goal.decreases-loop-at
decreases-loop-at l = length (slots_at l.log 2) - l.next
