use Rattle.std.proofs.Common.{◌≡◌, Option, Some, None, length, sym, ap, ◌∙◌, arith}
use Rattle.iscsi_wire.specs.declared.request.Request.{Request}
use Rattle.iscsi_wire.specs.Fields.{connection_of}
use Rattle.iscsi_outbox_steps.specs.State.{State, place_of}
use Rattle.iscsi_outbox_steps.specs.Steps.{close, closed_in, newly_closed}
use Rattle.iscsi_outbox.proofs.SendLemmas.{place_is}
use Rattle.iscsi_outbox.proofs.CloseLemmas.{close_at, close_nowhere, closes_nothing, newly_where}
use Rattle.iscsi_outbox.proofs.outbox.Outbox.close.Goals as goal

pub returns-then-not-closes_any : goal.returns-then-not-closes_any
returns-then-not-closes_any c = sym (closes_nothing c.args.request c.args.self.now c.args.item.now (sym c.closes_any.ensures ∙ c.if-not-closes_any.true))

pub returns-in-Some-place : goal.returns-in-Some-place
returns-in-Some-place c =
    let now = c.args.self.now in
    let conns = newly_closed now (closed_in now c.args.item.now) in
    let at : place_of now (connection_of c.in-Some.request) ≡ Some c.in-Some-place.by = place_is now c.self.inside.cids.cids c.conn.result (connection_of c.in-Some.request) (Some c.in-Some-place.by) (ap (λ (s : State). s.limits.cids) c.self.view_is) c.conn.ensures (sym c.place.ensures ∙ c.in-Some-place.is) in
    let links = ap (λ (s : State). length s.links) c.self.view_is in
    let cids = ap (λ (s : State). length s.limits.cids) c.self.view_is in
    c.close_each.ensures
    ∙ newly_where now c.args.item.now c.before-before.result c.in-Some-place.by (omega (arith, links, cids, c.self.invariant.of_links)) c.before-before.ensures
    ∙ sym (ap (λ (r : Option Request). close r conns now) c.in-Some.is ∙ close_at c.in-Some.request c.in-Some-place.by conns now at)

pub returns-in_default-place : goal.returns-in_default-place
returns-in_default-place c =
    let now = c.args.self.now in
    let conns = newly_closed now (closed_in now c.args.item.now) in
    let at : place_of now (connection_of c.in-Some.request) ≡ None = place_is now c.self.inside.cids.cids c.conn.result (connection_of c.in-Some.request) None (ap (λ (s : State). s.limits.cids) c.self.view_is) c.conn.ensures (sym c.place.ensures ∙ c.in_default-place.is) in
    sym (ap (λ (r : Option Request). close r conns now) c.in-Some.is ∙ close_nowhere c.in-Some.request conns now at)
