use Rattle.std.proofs.Common.{◌∙◌, arith, rules}
use Rattle.std.proofs.lemmas.Grind.{common_steps}
use Rattle.iscsi_outbox_law.proofs.calls.Called.{may_take_by_rules}
use Rattle.iscsi_outbox.proofs.outbox.Outbox.may_take.Goals as goal

pub returns-then-saturating_add-room-clause-rules : goal.returns-then-saturating_add-room-clause-rules
returns-then-saturating_add-room-clause-rules c = λ o cs came run. (first_of (search rules, grind (arith, common_steps))) ∙ may_take_by_rules c.args.self.now o cs came run

pub returns-else-saturating_add-room-clause-rules : goal.returns-else-saturating_add-room-clause-rules
returns-else-saturating_add-room-clause-rules c = λ o cs came run. (first_of (search rules, grind (arith, common_steps))) ∙ may_take_by_rules c.args.self.now o cs came run
