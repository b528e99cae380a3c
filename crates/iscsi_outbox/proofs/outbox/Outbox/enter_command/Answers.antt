use Rattle.std.proofs.Common.{ap, refl, ◌∙◌, arith}
use Rattle.iscsi_tracked.specs.Tracked.{as_command, find_ticket}
use Rattle.iscsi_outbox.proofs.KnownLemmas.{newest_found}
use Rattle.iscsi_outbox.proofs.outbox.Outbox.enter_command.Goals as goal

pub returns-then-from-self-clause-place : goal.returns-then-from-self-clause-place
returns-then-from-self-clause-place c = λ some. record {
  command = as_command c.args.command c.enter.result;
  found = ap (find_ticket c.args.command.ticket) c.enter.ensures.state ∙ newest_found c.self.inside.tracked c.args.command c.enter.result c.known.ensures (omega (arith, c.if-last-command.true, c.last.ensures));
  at = refl;
  dormant = refl;
}
