use Rattle.iscsi_outbox_law.proofs.calls.Alike.{answers_alike}
use Rattle.iscsi_outbox_law.proofs.laws.steps_law.Goals as goal

pub returns : goal.returns
returns c = record { alike = answers_alike }
