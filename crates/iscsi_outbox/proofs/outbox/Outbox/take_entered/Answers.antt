use Rattle.std.proofs.Common.{◌∙◌, ap, refl, [], ◌∷◌}
use Rattle.iscsi_rules.specs.declared.effect.Effect.TheVariants.{Deliver, Enable, Enter}
use Rattle.iscsi_outbox.proofs.CalledLemmas.{follows_silent}
use Rattle.iscsi_outbox_steps.specs.State.{State}
use Rattle.iscsi_outbox.specs.private.Walks.{numbered_by}
use Rattle.iscsi_outbox_rules.specs.rules.Calls.{Takes}
use Rattle.iscsi_outbox.proofs.outbox.Outbox.take_entered.Goals as goal

pub returns-clause-state : goal.returns-clause-state
returns-clause-state c = λ attr of. c.number.ensures ∙ ap (λ (s : State). numbered_by c.args.numbers s) (c.take_command.ensures attr of)

pub returns-clause-rules : goal.returns-clause-rules
returns-clause-rules c = λ attr of. follows_silent _ (Takes (Deliver c.args.request.now ∷ Enter c.args.ticket c.args.unit attr ∷ Enable c.args.enabled of ∷ []) c.args.numbers) _ refl (returns-clause-state c attr of)
