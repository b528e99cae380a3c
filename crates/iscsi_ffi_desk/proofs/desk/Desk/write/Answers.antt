use Rattle.std.proofs.Common.{ap, ◌∙◌}
use Rattle.iscsi_outbox_rules.specs.rules.Calls.{Writes}
use Rattle.iscsi_outbox.proofs.LimitsLemmas.{limits_stay}
use Rattle.iscsi_outbox_steps.specs.State.{State}
use Rattle.iscsi_ffi_steps.specs.Walk.{Doing}
use Rattle.iscsi_ffi_desk.proofs.OutboxLemmas.{desk_over, within_limits}
use Rattle.iscsi_ffi_desk.proofs.desk.Desk.write.Goals as goal

pub invariant_of-self : goal.invariant_of-self
invariant_of-self c =
    desk_over _ _ (ap (λ (s : State). s.limits) c.written.ensures.state ∙ limits_stay c.self.inside.outbox (Writes c.args.cid)) c.self.invariant

pub write_oldest-requires : goal.write_oldest-requires
write_oldest-requires c =
    within_limits c.args.conn c.args.self.now c.written.new.self (ap (λ (s : State). s.limits) c.written.ensures.state ∙ limits_stay c.self.inside.outbox (Writes c.args.cid) ∙ ap (λ (d : Doing). d.state.outbox.limits) c.self.view_is) c.requires
