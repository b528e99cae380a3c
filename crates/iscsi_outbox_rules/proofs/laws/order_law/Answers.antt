use Rattle.iscsi_outbox_rules.proofs.commands.CommandTheorem.{keeps_command_order}
use Rattle.iscsi_outbox_rules.proofs.order.OwnTheorem.{keeps_connection_order}
use Rattle.iscsi_outbox_rules.proofs.commands.ResponseTheorem.{sends_all_before}
use Rattle.iscsi_outbox_rules.proofs.laws.order_law.Goals as goal

pub returns-clause-of_command : goal.returns-clause-of_command
returns-clause-of_command c = keeps_command_order

pub returns-clause-of_connection : goal.returns-clause-of_connection
returns-clause-of_connection c = keeps_connection_order

pub returns-clause-response : goal.returns-clause-response
returns-clause-response c = sends_all_before
