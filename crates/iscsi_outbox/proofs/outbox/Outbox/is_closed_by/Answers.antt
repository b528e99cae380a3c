use Rattle.std.proofs.Common.{◌==◌, length, sym, ap, ◌∙◌, arith}
use Rattle.std.specs.List.{list_any}
use Rattle.iscsi_rules.specs.declared.effect.Effect.{Effect}
use Rattle.iscsi_outbox_steps.specs.State.{State}
use Rattle.iscsi_outbox_steps.specs.Steps.{closed_by}
use Rattle.iscsi_outbox.proofs.CloseLemmas.{counted_has}
use Rattle.iscsi_outbox.proofs.outbox.Outbox.is_closed_by.Goals as goal

pub returns-in-CloseSession : goal.returns-in-CloseSession
returns-in-CloseSession c =
    let now = c.args.self.now in
    let links = ap (λ (s : State). length s.links) c.self.view_is in
    let cids = ap (λ (s : State). length s.limits.cids) c.self.view_is in
    let of_links = c.self.invariant.of_links in
    sym (
    ap (λ (e : Effect). list_any (λ p. p == c.args.conn) (closed_by now e)) c.in-CloseSession.is
    ∙ counted_has c.args.conn 0 now.links (omega arith) (omega (arith, links, cids, of_links, c.requires))
    )
