use Rattle.std.proofs.Common.{◌≡◌, ◌≢◌, ℕ, List, Some, ap, sym, subst, ◌∙◌}
use Rattle.iscsi_tickets.specs.declared.kept.Kept.{Kept}
use Rattle.iscsi_tickets.specs.Tickets.{IsLiveAt, Known, kept_at, ticket_of, value_of}
use Rattle.iscsi_tickets.proofs.LogLemmas.{found, none_found}
use Rattle.iscsi_tickets.proofs.tickets.Tickets.find.Goals as goal

pub returns-in_err-k : goal.returns-in_err-k
returns-in_err-k c =
    let none = subst (λ (log : List Kept). (k : ℕ) → IsLiveAt log k → ticket_of (kept_at log k) ≢ c.args.ticket) c.deref.ensures.value c.in_err-k.ensures in
    c.from_residual.ensures ∙ sym (none_found c.self.inside.log.items c.args.ticket none) ∙ ap (λ (v : Known). value_of c.args.ticket v.entries) c.self.view_is

pub returns : goal.returns
returns c =
    let k = c.in_ok-k.k in
    let here = subst (λ (log : List Kept). IsLiveAt log k × (ticket_of (kept_at log k) ≡ c.args.ticket)) c.deref.ensures.value c.in_ok-k.ensures in
    ap (λ (e : Kept). Some e.value) (c.kept_at.ensures ∙ ap (λ log. kept_at log k) c.deref-2.ensures.value)
    ∙ sym (found c.self.inside.log.items c.args.ticket k c.self.invariant.ascending here.0 here.1)
    ∙ ap (λ (v : Known). value_of c.args.ticket v.entries) c.self.view_is
