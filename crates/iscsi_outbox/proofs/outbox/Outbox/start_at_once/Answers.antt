use Rattle.std.proofs.Common.{◌≡◌, Some, sym, ap, ◌∙◌}
use Rattle.iscsi_tracked.specs.declared.command.Phase.TheVariants.{Started}
use Rattle.iscsi_tracked.specs.Tracked.{Tracked, find_ticket, in_phase}
use Rattle.iscsi_outbox_steps.specs.State.{State}
use Rattle.iscsi_outbox.proofs.KnownLemmas.{ticket_has}
use Rattle.iscsi_outbox.specs.contracts.outbox.Outbox.{the_view}
use Rattle.iscsi_outbox.proofs.CommonestLemmas.{one_starts}
use Rattle.iscsi_outbox.proofs.outbox.Outbox.start_at_once.Goals as goal

pub set_phase-requires : goal.set_phase-requires
set_phase-requires c = ticket_has c.self.inside.tracked c.args.ticket c.in-Some.command (sym c.find.ensures ∙ c.in-Some.is)

pub returns-then-is_unstarted : goal.returns-then-is_unstarted
returns-then-is_unstarted c =
    let now = c.args.self.now in
    let place = c.in-Some.command.place in
    let found : find_ticket c.args.ticket now.tracked ≡ Some c.in-Some.command = ap (λ (s : State). find_ticket c.args.ticket s.tracked) (sym c.self.view_is) ∙ sym c.find.ensures ∙ c.in-Some.is in
    ap (λ (t : Tracked). record (the_view c.self.inside) { tracked = t }) c.set_phase.ensures
    ∙ ap (λ (s : State). record s { tracked = in_phase Started place s.tracked }) c.self.view_is
    ∙ sym (one_starts c.args.ticket now c.in-Some.command found (sym c.is_unstarted.ensures ∙ c.if-is_unstarted.true))
