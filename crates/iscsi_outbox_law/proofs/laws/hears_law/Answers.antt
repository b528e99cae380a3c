use Rattle.iscsi_outbox_law.proofs.arrivals.Hearing.{hears_stands}
use Rattle.iscsi_outbox_law.proofs.laws.hears_law.Goals as goal

pub returns : goal.returns
returns c = record { stands = λ o s b h sound distinct fits cid exp_stat_sn tag timed. hears_stands o s b h sound distinct fits cid exp_stat_sn tag timed }
