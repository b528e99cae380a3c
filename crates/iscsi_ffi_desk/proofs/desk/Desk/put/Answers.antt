use Rattle.std.proofs.Common.{ap, ◌∙◌}
use Rattle.iscsi_outbox_rules.specs.rules.Calls.{Puts}
use Rattle.iscsi_outbox.proofs.LimitsLemmas.{limits_stay}
use Rattle.iscsi_outbox_steps.specs.State.{State}
use Rattle.iscsi_ffi_desk.proofs.OutboxLemmas.{desk_over}
use Rattle.iscsi_ffi_desk.proofs.desk.Desk.put.Goals as goal

pub invariant_of-self-in_default : goal.invariant_of-self-in_default
invariant_of-self-in_default c =
    desk_over _ _ (ap (λ (s : State). s.limits) c.put.ensures.state ∙ limits_stay c.self.inside.outbox (Puts c.args.pdu.now)) c.self.invariant
