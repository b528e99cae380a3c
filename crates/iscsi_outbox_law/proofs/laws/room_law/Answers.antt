use Rattle.iscsi_outbox_law.proofs.queues.Waiting.{may_take_is, max_shown_is}
use Rattle.iscsi_outbox_law.proofs.laws.room_law.Goals as goal

pub returns-clause-may : goal.returns-clause-may
returns-clause-may c = may_take_is

pub returns-clause-shown : goal.returns-clause-shown
returns-clause-shown c = max_shown_is
