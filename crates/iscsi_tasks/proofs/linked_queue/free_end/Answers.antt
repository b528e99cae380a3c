use Rattle.std.proofs.Common.{arith}
use Rattle.iscsi_tasks.proofs.Names.{common_steps}
use Rattle.iscsi_tasks.proofs.ChainLemmas.{not_end, same_to_end}
use Rattle.iscsi_tasks.proofs.CountLemmas.{first-le}
use Rattle.iscsi_tasks.proofs.linked_queue.free_end.Goals.{else-marks-ne-ENDS-via-then-marks-ne-ENDS+else-marks-oldest, else-marks-ne-ENDS-via-else-marks-ne-ENDS}
use Rattle.iscsi_tasks.proofs.linked_queue.free_end.Goals as goal

pub returns-then-marks-oldest : goal.returns-then-marks-oldest
returns-then-marks-oldest c = grind (arith, common_steps, first-le, same_to_end)

pub returns-else-marks-ne-ENDS : goal.returns-else-marks-ne-ENDS
returns-else-marks-ne-ENDS c = grind (arith, common_steps, not_end)
