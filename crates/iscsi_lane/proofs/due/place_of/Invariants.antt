use Rattle.std.proofs.Common.{◌-◌}
use Rattle.iscsi_slots.proofs.HalvingLemmas.{IsHalved}
use Rattle.iscsi_lane.specs.Times.{time_of}
use Rattle.iscsi_lane.proofs.due.place_of.Given as goal

abbrev pub invariant-loop-low : goal.invariant-loop-low
invariant-loop-low l = IsHalved (time_of l.stamps) l.due l.time l.low l.high

abbrev pub decreases-loop-low : goal.decreases-loop-low
decreases-loop-low l = l.high - l.low
