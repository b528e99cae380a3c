use Rattle.iscsi_outbox_rules.proofs.numbers.NumberTheorem.{none_unjoined, none_lost}
use Rattle.iscsi_outbox_rules.proofs.closes.ClosedTheorem.{none_behind}
use Rattle.iscsi_outbox_rules.proofs.laws.closed_law.Goals as goal

pub returns-clause-behind : goal.returns-clause-behind
returns-clause-behind c = none_behind

pub returns-clause-joined : goal.returns-clause-joined
returns-clause-joined c = none_unjoined

pub returns-clause-lost : goal.returns-clause-lost
returns-clause-lost c = none_lost
