use Rattle.iscsi_outbox_rules.proofs.PromisesTheorem.{keeps_promises}
use Rattle.iscsi_outbox_rules.proofs.laws.promises_law.Goals as goal

pub returns : goal.returns
returns c = record { promises = keeps_promises }
