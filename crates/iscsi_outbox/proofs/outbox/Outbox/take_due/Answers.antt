use Rattle.std.proofs.Common.{length, sym, ap, ◌∙◌}
use Rattle.iscsi_outbox_steps.specs.State.{State}
use Rattle.iscsi_outbox.proofs.SettleLemmas.{some_within}
use Rattle.iscsi_outbox.proofs.outbox.Outbox.take_due.Goals as goal

pub returns-clause-conn : goal.returns-clause-conn
returns-clause-conn c =
    let cids = ap (λ (s : State). length s.limits.cids) c.self.view_is in
    some_within c.self.inside.lane (length c.args.self.now.limits.cids) c.take_due.result c.known.ensures.within (c.self.invariant.of_conns ∙ cids) (sym c.take_due.ensures.answer)
