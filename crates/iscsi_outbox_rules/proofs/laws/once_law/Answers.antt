use Rattle.iscsi_outbox_rules.proofs.order.MomentTheorem.{enters_in_order}
use Rattle.iscsi_outbox_rules.proofs.order.InOrderTheorem.{goes_in_order}
use Rattle.iscsi_outbox_rules.proofs.order.OnceTheorem.{sends_what_was_sent, goes_once}
use Rattle.iscsi_outbox_rules.proofs.laws.once_law.Goals as goal

pub returns-clause-sent : goal.returns-clause-sent
returns-clause-sent c = sends_what_was_sent

pub returns-clause-once : goal.returns-clause-once
returns-clause-once c = goes_once

pub returns-clause-order : goal.returns-clause-order
returns-clause-order c = goes_in_order

pub returns-clause-moments : goal.returns-clause-moments
returns-clause-moments c = enters_in_order
