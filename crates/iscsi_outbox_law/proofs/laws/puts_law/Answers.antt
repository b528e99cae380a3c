use Rattle.std.proofs.Common.{ap}
use Rattle.iscsi_outbox_steps.specs.Run.{Put}
use Rattle.iscsi_outbox_law.proofs.queues.PutStands.{puts_answered, puts_stands}
use Rattle.iscsi_outbox_law.proofs.laws.puts_law.Goals as goal

pub returns-clause-answer : goal.returns-clause-answer
returns-clause-answer c = λ o s b h sound distinct p. ap Put (puts_answered o s b h sound distinct p)

pub returns-clause-stands : goal.returns-clause-stands
returns-clause-stands c = puts_stands
