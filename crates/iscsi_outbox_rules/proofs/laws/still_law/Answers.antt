use Rattle.iscsi_outbox_rules.proofs.aborts.ScopeTheorem.{stops_before}
use Rattle.iscsi_outbox_rules.proofs.aborts.DueTheorem.{arrives_before}
use Rattle.iscsi_outbox_rules.proofs.aborts.PastTheorem.{completes_before}
use Rattle.iscsi_outbox_rules.proofs.laws.still_law.Goals as goal

pub returns : goal.returns
returns c = record { stopped = stops_before; through = arrives_before; completed = completes_before }
