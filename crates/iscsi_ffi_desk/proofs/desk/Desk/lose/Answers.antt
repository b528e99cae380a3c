use Rattle.std.proofs.Common.{ap, ◌∙◌}
use Rattle.iscsi_outbox_rules.specs.rules.Calls.{Loses}
use Rattle.iscsi_outbox.proofs.LimitsLemmas.{limits_stay}
use Rattle.iscsi_outbox_steps.specs.State.{State}
use Rattle.iscsi_ffi_steps.specs.Walk.{Doing}
use Rattle.iscsi_ffi_desk.proofs.DropLemmas.{waiting_limits}
use Rattle.iscsi_ffi_desk.specs.contracts.desk.Desk.{the_view}
use Rattle.iscsi_ffi_desk.proofs.OutboxLemmas.{desk_over, within_limits}
use Rattle.iscsi_ffi_desk.proofs.desk.Desk.lose.Goals as goal

pub invariant_of-self : goal.invariant_of-self
invariant_of-self c = desk_over _ _ (ap (λ (s : State). s.limits) c.lose.ensures.state ∙ limits_stay c.self.inside.outbox (Loses c.args.cid)) c.self.invariant

pub drop_waiting-requires : goal.drop_waiting-requires
drop_waiting-requires c =
    within_limits c.args.conn c.args.self.now c.lose.new.self (ap (λ (s : State). s.limits) c.lose.ensures.state ∙ limits_stay c.self.inside.outbox (Loses c.args.cid) ∙ ap (λ (d : Doing). d.state.outbox.limits) c.self.view_is) c.requires

pub drop_unwritten-requires : goal.drop_unwritten-requires
drop_unwritten-requires c =
    within_limits c.args.conn c.args.self.now c.drop_waiting.new.self.state.outbox
    (waiting_limits c.args.conn (the_view (record c.self.inside { outbox = c.lose.new.self })) c.drop_waiting.new.self c.drop_waiting.ensures ∙ (ap (λ (s : State). s.limits) c.lose.ensures.state ∙ limits_stay c.self.inside.outbox (Loses c.args.cid) ∙ ap (λ (d : Doing). d.state.outbox.limits) c.self.view_is)) c.requires
