use Rattle.std.proofs.Common.{ap, ◌∙◌, [], ◌∷◌}
use Rattle.iscsi_rules.specs.declared.effect.Effect.TheVariants.{Leave, Send}
use Rattle.iscsi_outbox_rules.specs.rules.Calls.{Takes}
use Rattle.iscsi_outbox_steps.specs.State.{State as OutboxState}
use Rattle.iscsi_outbox.proofs.LimitsLemmas.{limits_stay}
use Rattle.iscsi_ffi_desk.proofs.TakeLemmas.{outbox_changed}
use Rattle.iscsi_ffi_desk.proofs.desk.Desk.tell_left.Goals as goal

pub invariant_of-self : goal.invariant_of-self
invariant_of-self c =
    outbox_changed _ c.take_left.new.self _ _ _ c.self.invariant
    (ap (λ (o : OutboxState). o.limits) (c.take_left.ensures.state 0 0) ∙ limits_stay c.self.inside.outbox (Takes (Leave c.args.ticket 0 ∷ Send c.args.cid 0 c.args.reply.now ∷ []) c.args.numbers))
