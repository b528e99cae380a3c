use Rattle.std.proofs.Common.{◌≡◌, true, length, sym, ap, subst, ◌∙◌, arith}
use Rattle.iscsi_outbox_steps.specs.State.{State}
use Rattle.iscsi_tracked.specs.Tracked.{has_place}
use Rattle.iscsi_outbox.proofs.KnownLemmas.{conn_within, place_high, place_low, ticket_has}
use Rattle.iscsi_outbox.proofs.outbox.Outbox.kept.Goals as goal

pub returns-in-Some-clause-conn : goal.returns-in-Some-clause-conn
returns-in-Some-clause-conn c =
    let k = conn_within c.self.inside.tracked c.args.ticket c.in-Some.command c.known.ensures (sym c.find.ensures ∙ c.in-Some.is) in
    let v = ap (λ (s : State). length s.limits.cids) c.self.view_is in
    omega (arith, k, v, c.self.invariant.of_trails)

pub returns-in-Some-clause-low : goal.returns-in-Some-clause-low
returns-in-Some-clause-low c = place_low c.self.inside.tracked c.args.ticket c.in-Some.command c.known.ensures (sym c.find.ensures ∙ c.in-Some.is)

pub returns-in-Some-clause-high : goal.returns-in-Some-clause-high
returns-in-Some-clause-high c =
    let k = place_high c.self.inside.tracked c.args.ticket c.in-Some.command c.known.ensures (sym c.find.ensures ∙ c.in-Some.is) in
    let v = ap (λ (s : State). s.waits.commands) c.self.view_is in
    omega (arith, k, v, c.self.invariant.of_tracked, c.self.invariant.of_waits)

pub returns-in-Some-clause-there : goal.returns-in-Some-clause-there
returns-in-Some-clause-there c =
    let there = ticket_has c.self.inside.tracked c.args.ticket c.in-Some.command (sym c.find.ensures ∙ c.in-Some.is) in
    subst (λ (s : State). has_place c.in-Some.command.place s.tracked ≡ true) c.self.view_is there
