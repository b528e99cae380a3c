use Rattle.iscsi_outbox_rules.proofs.progress.DeadlockTheorem.{no_deadlock}
use Rattle.iscsi_outbox_rules.proofs.laws.deadlock_law.Goals as goal

pub returns : goal.returns
returns c = record { gives = no_deadlock }
