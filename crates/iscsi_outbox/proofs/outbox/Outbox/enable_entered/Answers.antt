use Rattle.std.proofs.Common.{◌≡◌, ◌||◌, ℕ, Bool, true, not, sym, ap, subst, ◌∙◌}
use Rattle.iscsi_tracked.specs.declared.command.Phase.TheVariants.{Started}
use Rattle.iscsi_tracked.specs.Tracked.{Tracked, has_place, in_phase}
use Rattle.iscsi_outbox_state.specs.Lane.{count_in, is_left}
use Rattle.iscsi_outbox_steps.specs.State.{State}
use Rattle.iscsi_outbox_steps.specs.Steps.{in_phase_if, is_fresh}
use Rattle.iscsi_outbox.specs.contracts.outbox.Outbox.{the_view}
use Rattle.iscsi_outbox.proofs.KnownLemmas.{ticket_has}
use Rattle.iscsi_outbox.proofs.CommonestLemmas.{none_due, one_starts}
use Rattle.iscsi_outbox.proofs.outbox.Outbox.enable_entered.Goals as goal

pub set_phase-requires : goal.set_phase-requires
set_phase-requires c =
    let now = c.args.self.now in
    let e = c.requires in
    let there : has_place c.args.place now.tracked ≡ true = subst (λ (n : ℕ). has_place n now.tracked ≡ true) e.at (ticket_has now.tracked c.args.ticket e.command e.found) in
    subst (λ (s : State). has_place c.args.place s.tracked ≡ true) (sym c.self.view_is) there

pub returns-then-answers_waiting-eq0 : goal.returns-then-answers_waiting-eq0
returns-then-answers_waiting-eq0 c =
    let now = c.args.self.now in
    let e = c.requires in
    let none : count_in (λ x. not (is_left x)) now.lane ≡ 0 = sym (c.answers_waiting.ensures ∙ ap (λ (s : State). count_in (λ x. not (is_left x)) s.lane) c.self.view_is) ∙ c.if-answers_waiting-eq0.true in
    ap (λ (t : Tracked). record (the_view c.self.inside) { tracked = t }) c.set_phase.ensures
    ∙ ap (λ (s : State). record s { tracked = in_phase Started c.args.place s.tracked }) c.self.view_is
    ∙ ap (λ (n : ℕ). record now { tracked = in_phase Started n now.tracked }) (sym e.at)
    ∙ sym (one_starts c.args.ticket now e.command e.found (ap (λ (b : Bool). b || is_fresh e.command) e.dormant))
    ∙ ap (in_phase_if is_fresh Started c.args.ticket) (sym (none_due c.args.ticket now none))
