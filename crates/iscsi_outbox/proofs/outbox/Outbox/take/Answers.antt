use Rattle.std.proofs.Common.{rules, arith, refl}
use Rattle.std.proofs.lemmas.Grind.{common_steps}
use Rattle.iscsi_outbox.proofs.CalledLemmas.{follows_silent}
use Rattle.iscsi_outbox_rules.specs.rules.Calls.{Takes}
use Rattle.iscsi_outbox.proofs.outbox.Outbox.take.Goals as goal

pub returns-clause-rules : goal.returns-clause-rules
returns-clause-rules c = follows_silent _ (Takes c.args.effects.now c.args.numbers) _ refl (first_of (search rules, grind (arith, common_steps)))
