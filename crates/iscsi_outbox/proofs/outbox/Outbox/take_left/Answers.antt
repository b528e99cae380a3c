use Rattle.std.proofs.Common.{rules, arith, refl, [], ◌∷◌}
use Rattle.std.proofs.lemmas.Grind.{common_steps}
use Rattle.iscsi_rules.specs.declared.effect.Effect.TheVariants.{Leave, Send}
use Rattle.iscsi_outbox.proofs.CalledLemmas.{follows_silent}
use Rattle.iscsi_outbox_rules.specs.rules.Calls.{Takes}
use Rattle.iscsi_outbox.proofs.outbox.Outbox.take_left.Goals as goal

pub returns-clause-rules : goal.returns-clause-rules
returns-clause-rules c = λ unit stat_sn. follows_silent _ (Takes (Leave c.args.ticket unit ∷ Send c.args.cid stat_sn c.args.reply.now ∷ []) c.args.numbers) _ refl (first_of (search rules, grind (arith, common_steps)))
