use Rattle.std.proofs.Common.{◌≡◌, not, sym, ap, ◌∙◌}
use Rattle.iscsi_tracked.specs.declared.command.Phase.TheVariants.{Started}
use Rattle.iscsi_outbox_state.specs.Lane.{count_in, is_left}
use Rattle.iscsi_outbox_steps.specs.State.{State}
use Rattle.iscsi_outbox_steps.specs.Steps.{in_phase_if, is_fresh}
use Rattle.iscsi_outbox.proofs.CommonestLemmas.{none_due}
use Rattle.iscsi_outbox.proofs.outbox.Outbox.enable_one.Goals as goal

pub returns-then-answers_waiting-eq0 : goal.returns-then-answers_waiting-eq0
returns-then-answers_waiting-eq0 c =
    let now = c.args.self.now in
    let none : count_in (λ x. not (is_left x)) now.lane ≡ 0 = sym (c.answers_waiting.ensures ∙ ap (λ (s : State). count_in (λ x. not (is_left x)) s.lane) c.self.view_is) ∙ c.if-answers_waiting-eq0.true in
    c.start_at_once.ensures ∙ ap (in_phase_if is_fresh Started c.args.ticket) (sym (none_due c.args.ticket now none))
