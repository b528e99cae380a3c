use Rattle.std.proofs.Common.{ap}
use Rattle.iscsi_outbox_steps.specs.Run.{Gives}
use Rattle.iscsi_outbox_law.proofs.sending.Giving.{gives_answered}
use Rattle.iscsi_outbox_law.proofs.sending.NextAfter.{nexts_stands}
use Rattle.iscsi_outbox_law.proofs.laws.nexts_law.Goals as goal

pub returns-clause-answer : goal.returns-clause-answer
returns-clause-answer c = λ o s b h sound distinct few cid. ap Gives (gives_answered o s b h sound distinct few cid)

pub returns-clause-stands : goal.returns-clause-stands
returns-clause-stands c = nexts_stands
