use Rattle.std.proofs.Common.{◌-◌}
use Rattle.iscsi_slots.proofs.HalvingLemmas.{IsHalved}
use Rattle.iscsi_commands.specs.Log.{tag_at}
use Rattle.iscsi_commands.proofs.tag_index.halve.Given as goal

abbrev pub invariant-loop-low : goal.invariant-loop-low
invariant-loop-low l = IsHalved (tag_at l.log) l.others.items l.itt l.low l.high

abbrev pub decreases-loop-low : goal.decreases-loop-low
decreases-loop-low l = l.high - l.low
