use Rattle.std.proofs.Common.{ap, ◌∙◌, [], ◌∷◌}
use Rattle.iscsi_tasks.specs.declared.task.Attr.TheVariants.{Simple}
use Rattle.iscsi_rules.specs.declared.effect.Effect.TheVariants.{Deliver, Enable, Enter}
use Rattle.iscsi_outbox_rules.specs.rules.Calls.{Takes}
use Rattle.iscsi_outbox_steps.specs.State.{State as OutboxState}
use Rattle.iscsi_outbox.proofs.LimitsLemmas.{limits_stay}
use Rattle.iscsi_outbox_steps.specs.Steps.{taken}
use Rattle.iscsi_ffi_steps.specs.Walk.{Doing}
use Rattle.iscsi_ffi_desk.specs.Calls.{with_outbox}
use Rattle.iscsi_ffi_desk.specs.contracts.desk.Desk.{the_view}
use Rattle.iscsi_ffi_desk.proofs.TakeLemmas.{outbox_changed}
use Rattle.iscsi_ffi_desk.proofs.desk.Desk.tell_entered.Goals as goal

pub invariant_of-self : goal.invariant_of-self
invariant_of-self c =
    outbox_changed _ c.take_entered.new.self _ _ _ c.self.invariant
    (ap (λ (o : OutboxState). o.limits) (c.take_entered.ensures.state Simple 0) ∙ limits_stay c.self.inside.outbox (Takes (Deliver c.args.request.now ∷ Enter c.args.ticket c.args.unit Simple ∷ Enable c.args.enabled 0 ∷ []) c.args.numbers))

pub returns : goal.returns
returns c = λ attr of.
    let es = Deliver c.args.request.now ∷ Enter c.args.ticket c.args.unit attr ∷ Enable c.args.enabled of ∷ [] in
    ap (λ (o : OutboxState). with_outbox o (the_view c.self.inside)) (c.take_entered.ensures.state attr of)
    ∙ ap (λ (d : Doing). with_outbox (taken es c.args.numbers d.state.outbox) d) c.self.view_is
