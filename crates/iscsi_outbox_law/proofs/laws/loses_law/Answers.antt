use Rattle.iscsi_outbox_law.proofs.connections.Losing.{loses_stands}
use Rattle.iscsi_outbox_law.proofs.laws.loses_law.Goals as goal

pub returns : goal.returns
returns c = record { stands = λ o s b h sound distinct fits cid timed. loses_stands o s b h sound distinct fits cid timed }
