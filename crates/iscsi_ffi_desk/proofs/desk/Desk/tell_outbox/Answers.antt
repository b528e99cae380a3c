use Rattle.std.proofs.Common.{ap, ◌∙◌}
use Rattle.iscsi_outbox_rules.specs.rules.Calls.{Takes}
use Rattle.iscsi_outbox_steps.specs.State.{State as OutboxState}
use Rattle.iscsi_outbox.proofs.LimitsLemmas.{limits_stay}
use Rattle.iscsi_ffi_desk.proofs.TakeLemmas.{outbox_changed}
use Rattle.iscsi_ffi_desk.proofs.desk.Desk.tell_outbox.Goals as goal

pub invariant_of-self : goal.invariant_of-self
invariant_of-self c = outbox_changed _ c.take.new.self _ _ _ c.self.invariant (ap (λ (o : OutboxState). o.limits) c.take.ensures.state ∙ limits_stay c.self.inside.outbox (Takes c.args.effects.now c.args.numbers))
