use Rattle.std.proofs.Common.{rules, arith, refl}
use Rattle.std.proofs.lemmas.Grind.{common_steps}
use Rattle.iscsi_outbox.proofs.CalledLemmas.{follows_silent}
use Rattle.iscsi_outbox_rules.specs.rules.Calls.{Writes}
use Rattle.iscsi_outbox.proofs.outbox.Outbox.written.Goals as goal

pub returns-in-Some-clause-rules : goal.returns-in-Some-clause-rules
returns-in-Some-clause-rules c = follows_silent _ (Writes c.args.cid) _ refl (first_of (search rules, grind (arith, common_steps)))

pub returns-in_default-clause-rules : goal.returns-in_default-clause-rules
returns-in_default-clause-rules c = follows_silent _ (Writes c.args.cid) _ refl (first_of (search rules, grind (arith, common_steps)))
