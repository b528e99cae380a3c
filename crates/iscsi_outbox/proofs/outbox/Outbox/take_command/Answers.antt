use Rattle.std.proofs.Common.{Some, sym, ap, ◌∙◌}
use Rattle.iscsi_tracked.specs.declared.command.Phase.TheVariants.{Fresh, Started}
use Rattle.iscsi_outbox_steps.specs.State.{State}
use Rattle.iscsi_outbox_steps.specs.Steps.{in_phase_if, is_dormant, is_fresh, settle}
use Rattle.iscsi_outbox.specs.private.Walks.{entered_one}
use Rattle.iscsi_outbox.proofs.CloseLemmas.{close_nothing}
use Rattle.iscsi_outbox.proofs.outbox.Outbox.take_command.Goals as goal

pub returns : goal.returns
returns c = λ attr unit.
    let r = c.args.request.now in
    let enabled = c.args.enabled in
    let enter = λ (s : State). entered_one r c.args.ticket c.args.unit s in
    c.enable_behind.ensures
    ∙ ap (λ (s : State). in_phase_if is_fresh Started enabled (settle (in_phase_if is_dormant Fresh enabled s))) (c.enter_one-place.ensures.state ∙ ap enter c.settle.ensures ∙ sym (close_nothing (Some r) (enter (settle c.args.self.now))))
