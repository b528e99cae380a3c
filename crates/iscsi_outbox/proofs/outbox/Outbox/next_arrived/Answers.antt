use Rattle.std.proofs.Common.{sym, ap, subst, length, ◌≡◌, true, ◌∙◌, arith}
use Rattle.iscsi_outbox_steps.specs.State.{State}
use Rattle.iscsi_tracked.specs.Tracked.{has_place}
use Rattle.iscsi_outbox.proofs.TrailLemmas.{first_has_place}
use Rattle.iscsi_outbox.proofs.KnownLemmas.{has_found}
use Rattle.iscsi_outbox.proofs.outbox.Outbox.next_arrived.Goals as goal

pub at-command-requires : goal.at-command-requires
at-command-requires c =
    let v = ap (λ (s : State). length s.limits.cids) c.self.view_is in
    first_has_place c.self.inside.tracked c.args.conn c.in_ok-place.place c.known.ensures (omega (arith, v, c.requires, c.self.invariant.of_trails)) (sym c.first_out.ensures ∙ c.in_ok-place.was)

pub returns-in_default-clause-place : goal.returns-in_default-clause-place
returns-in_default-clause-place c = subst (λ (s : State). has_place c.at-command.result.place s.tracked ≡ true) c.self.view_is
    (has_found c.self.inside.tracked c.in_ok-place.place c.at-command.result c.at-command.ensures.found c.at-command.ensures.place)

pub returns-in_default-2-clause-place : goal.returns-in_default-2-clause-place
returns-in_default-2-clause-place c = subst (λ (s : State). has_place c.at-command.result.place s.tracked ≡ true) c.self.view_is
    (has_found c.self.inside.tracked c.in_ok-place.place c.at-command.result c.at-command.ensures.found c.at-command.ensures.place)
