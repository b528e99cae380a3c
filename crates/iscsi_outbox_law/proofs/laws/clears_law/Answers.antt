use Rattle.iscsi_outbox_law.proofs.calls.Clears.{clears_stands}
use Rattle.iscsi_outbox_law.proofs.laws.clears_law.Goals as goal

pub returns : goal.returns
returns c = record { stands = clears_stands }
