use Rattle.std.proofs.Common.{ap, ◌∙◌}
use Rattle.iscsi_tracked.specs.declared.command.Phase.TheVariants.{Started}
use Rattle.iscsi_outbox_steps.specs.State.{State}
use Rattle.iscsi_outbox_steps.specs.Steps.{in_phase_if, is_fresh, settle}
use Rattle.iscsi_outbox.proofs.CommonestLemmas.{fresh_if, started_if}
use Rattle.iscsi_outbox.proofs.outbox.Outbox.start_behind.Goals as goal

pub returns : goal.returns
returns c =
    c.change_phase-2.ensures
    ∙ started_if c.args.ticket c.settle.new.self
    ∙ ap (λ (s : State). in_phase_if is_fresh Started c.args.ticket s) (c.settle.ensures ∙ ap settle (c.change_phase.ensures ∙ fresh_if c.args.ticket c.args.self.now))
