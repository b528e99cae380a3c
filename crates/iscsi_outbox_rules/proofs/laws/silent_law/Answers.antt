use Rattle.iscsi_outbox_rules.proofs.aborts.PastTheorem.{is_silent_after}
use Rattle.iscsi_outbox_rules.proofs.laws.silent_law.Goals as goal

pub returns : goal.returns
returns c = record { silent = is_silent_after }
