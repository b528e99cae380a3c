use Rattle.iscsi_outbox_law.proofs.arrivals.Hearing.{writes_stands}
use Rattle.iscsi_outbox_law.proofs.laws.writes_law.Goals as goal

pub returns : goal.returns
returns c = record { stands = λ o s b h sound distinct fits cid timed. writes_stands o s b h sound distinct fits cid timed }
