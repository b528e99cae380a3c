use Rattle.iscsi_outbox_law.proofs.calls.Called.{keeps, keeps_all, may_take_by_rules}
use Rattle.iscsi_outbox_law.proofs.laws.calls_law.Goals as goal

pub returns : goal.returns
returns c = record { rules = keeps; promises = keeps_all; may = may_take_by_rules }
