use Rattle.std.proofs.Common.{ap}
use Rattle.iscsi_outbox_steps.specs.Run.{Stopped}
use Rattle.iscsi_outbox_law.proofs.commands.Stops.{stops_answered, stops_stands}
use Rattle.iscsi_outbox_law.proofs.laws.stops_law.Goals as goal

pub returns-clause-answer : goal.returns-clause-answer
returns-clause-answer c = λ o s b h sound distinct ticket. ap Stopped (stops_answered o s b h sound distinct ticket)

pub returns-clause-stands : goal.returns-clause-stands
returns-clause-stands c = stops_stands
