use Rattle.iscsi_outbox_rules.proofs.fences.FenceTheorem.{fence_before, fence_behind}
use Rattle.iscsi_outbox_rules.proofs.fences.FenceOrder.{fence_in_order}
use Rattle.iscsi_outbox_rules.proofs.order.PlaceTheorem.{fence_first}
use Rattle.iscsi_outbox_rules.proofs.laws.fence_law.Goals as goal

pub returns-clause-before : goal.returns-clause-before
returns-clause-before c = fence_before

pub returns-clause-behind : goal.returns-clause-behind
returns-clause-behind c = fence_behind

pub returns-clause-order : goal.returns-clause-order
returns-clause-order c = fence_in_order

pub returns-clause-first : goal.returns-clause-first
returns-clause-first c = fence_first
