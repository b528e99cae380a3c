use Rattle.iscsi_lane.specs.Standings.{slots_at}
use Rattle.iscsi_lane.specs.Dropping.{IsDropping}
use Rattle.iscsi_lane.specs.Lining.{IsLined}
use Rattle.iscsi_lane.specs.Walking.{still_ahead}
use Rattle.iscsi_lane.proofs.dropping.drop_all.Given as goal

-- those so far that would go out on the connection are gone
abbrev pub invariant-loop-at : goal.invariant-loop-at
invariant-loop-at l = record {
  dropping : IsDropping l.fn.log l.log l.conn l.dropped.answers l.dropped.numbered l.at;
  lined : IsLined l.lines l.log;
}

abbrev pub decreases-loop-at : goal.decreases-loop-at
decreases-loop-at l = still_ahead l.at (slots_at l.log 2)
