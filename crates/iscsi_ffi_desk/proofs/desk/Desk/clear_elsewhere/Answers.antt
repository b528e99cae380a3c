use Rattle.std.proofs.Common.{ap, ◌∙◌}
use Rattle.iscsi_outbox_rules.specs.rules.Calls.{Clears}
use Rattle.iscsi_outbox.proofs.LimitsLemmas.{limits_stay}
use Rattle.iscsi_outbox_steps.specs.State.{State}
use Rattle.iscsi_ffi_desk.proofs.OutboxLemmas.{desk_over}
use Rattle.iscsi_ffi_desk.proofs.desk.Desk.clear_elsewhere.Goals as goal

pub invariant_of-self : goal.invariant_of-self
invariant_of-self c =
    desk_over _ _ (ap (λ (s : State). s.limits) c.clear.ensures.state ∙ limits_stay c.self.inside.outbox (Clears c.args.unit)) c.self.invariant
