use Rattle.std.proofs.Common.{arith}
use Rattle.std.proofs.lemmas.List.{get_or_past}
use Rattle.iscsi_tasks.proofs.Names.{common_steps}
use Rattle.iscsi_tasks.proofs.ChainLemmas.{not_end}
use Rattle.iscsi_tasks.proofs.MarkedLemmas.{within_some}
use Rattle.iscsi_tasks.proofs.linked_queue.younger.Goals.{else-one-ne-ENDS-via-then-one-ne-ENDS+else-is_before, else-one-ne-ENDS-via-else-one-ne-ENDS}
use Rattle.iscsi_tasks.proofs.linked_queue.younger.Goals as goal

pub returns-else-one-ne-ENDS : goal.returns-else-one-ne-ENDS
returns-else-one-ne-ENDS c j k one other = grind (arith, common_steps, within_some, get_or_past, not_end)
