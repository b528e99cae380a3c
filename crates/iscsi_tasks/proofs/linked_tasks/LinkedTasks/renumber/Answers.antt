use Rattle.std.proofs.Common.{arith}
use Rattle.std.proofs.lemmas.Int.{to_z-of_z}
use Rattle.iscsi_tasks.proofs.Names.{common_steps}
use Rattle.iscsi_tasks.proofs.CoveredFromLemmas.{covered_from_all, covered_from_oldest}
use Rattle.iscsi_tasks.proofs.LinkedSetLemmas.{kept_numbered}
use Rattle.iscsi_tasks.proofs.linked_tasks.LinkedTasks.renumber.Goals as goal

-- where they go up, it is that of the oldest
pub invariant_of-self : goal.invariant_of-self
invariant_of-self c = grind (arith, common_steps, to_z-of_z, kept_numbered, covered_from_oldest)

-- else all were looked at
pub invariant_of-self-2 : goal.invariant_of-self-2
invariant_of-self-2 c = grind (arith, common_steps, to_z-of_z, kept_numbered, covered_from_all)
