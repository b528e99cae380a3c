use Rattle.std.proofs.Common.{◌-◌}
use Rattle.iscsi_slots.proofs.HalvingLemmas.{IsHalved}
use Rattle.iscsi_tasks.proofs.set.TaskSet.first_from.Given as goal

abbrev pub invariant-loop-low : goal.invariant-loop-low
invariant-loop-low l = IsHalved (λ m. m.task.ticket) l.self.list l.ticket l.low l.high

abbrev pub decreases-loop-low : goal.decreases-loop-low
decreases-loop-low l = l.high - l.low
