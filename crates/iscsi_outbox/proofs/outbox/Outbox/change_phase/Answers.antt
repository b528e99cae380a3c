use Rattle.std.proofs.Common.{sym, ◌∙◌}
use Rattle.iscsi_outbox.proofs.KnownLemmas.{ticket_has}
use Rattle.iscsi_outbox.proofs.outbox.Outbox.change_phase.Goals as goal

pub set_phase-requires : goal.set_phase-requires
set_phase-requires c = ticket_has c.self.inside.tracked c.args.ticket c.in-Some.command (sym c.find.ensures ∙ c.in-Some.is)
