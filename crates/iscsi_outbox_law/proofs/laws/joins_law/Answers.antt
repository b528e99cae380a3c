use Rattle.std.proofs.Common.{ap}
use Rattle.iscsi_outbox_steps.specs.Run.{Joined}
use Rattle.iscsi_outbox_law.proofs.connections.Joins.{joins_answered, joins_stands}
use Rattle.iscsi_outbox_law.proofs.laws.joins_law.Goals as goal

pub returns-clause-answer : goal.returns-clause-answer
returns-clause-answer c = λ o s b h distinct cid n. ap Joined (joins_answered o s b h distinct cid)

pub returns-clause-stands : goal.returns-clause-stands
returns-clause-stands c = joins_stands
