use Rattle.iscsi_outbox_law.proofs.calls.Opened.{stands_opened}
use Rattle.iscsi_outbox_law.proofs.laws.opened_law.Goals as goal

pub returns : goal.returns
returns c = record { opened = stands_opened }
