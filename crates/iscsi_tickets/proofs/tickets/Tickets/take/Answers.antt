use Rattle.std.proofs.Common.{◌≡◌, ◌≢◌, ◌+◌, ℕ, List, Some, set, vec_capacity, ap, sym, subst, ◌∙◌}
use Rattle.iscsi_tickets.specs.declared.kept.Kept.{Kept}
use Rattle.iscsi_tickets.specs.Tickets.{AreLogged, IsLiveAt, Known, ended, kept_at, known, live_in, ticket_of, value_of, without_ticket}
use Rattle.iscsi_tickets.proofs.LogLemmas.{found, logged_without, none_found, none_taken, taken}
use Rattle.iscsi_tickets.proofs.tickets.Tickets.take.Goals as goal

pub returns-in_err-k-clause-value : goal.returns-in_err-k-clause-value
returns-in_err-k-clause-value c =
    let none = subst (λ (log : List Kept). (k : ℕ) → IsLiveAt log k → ticket_of (kept_at log k) ≢ c.args.ticket) c.deref.ensures.value c.in_err-k.ensures in
    c.from_residual.ensures ∙ sym (none_found c.self.inside.log.items c.args.ticket none) ∙ ap (λ (v : Known). value_of c.args.ticket v.entries) c.self.view_is

pub returns-in_err-k-clause-others : goal.returns-in_err-k-clause-others
returns-in_err-k-clause-others c =
    let none = subst (λ (log : List Kept). (k : ℕ) → IsLiveAt log k → ticket_of (kept_at log k) ≢ c.args.ticket) c.deref.ensures.value c.in_err-k.ensures in
    sym c.self.view_is
    ∙ ap (λ es. known es c.self.inside.last c.self.inside.room) (sym (none_taken c.self.inside.log.items c.args.ticket none))
    ∙ ap (λ (v : Known). known (without_ticket c.args.ticket v.entries) v.last v.room) c.self.view_is

pub invariant_of-self : goal.invariant_of-self
invariant_of-self c =
    let log = c.self.inside.log.items in
    let k = c.in_ok-k.k in
    let here = subst (λ (l : List Kept). IsLiveAt l k × (ticket_of (kept_at l k) ≡ c.args.ticket)) c.deref.ensures.value c.in_ok-k.ensures in
    subst (λ (l : List Kept). AreLogged l (vec_capacity c.end.new.log) (c.self.inside.ended + 1) c.self.inside.last c.self.inside.room) (sym c.end.ensures.log)
    (subst (λ n. AreLogged (set log k (ended (kept_at log k))) n (c.self.inside.ended + 1) c.self.inside.last c.self.inside.room) (sym c.end.ensures.capacity)
    (logged_without c.self.invariant k here.0))

pub returns-clause-value : goal.returns-clause-value
returns-clause-value c =
    let k = c.in_ok-k.k in
    let here = subst (λ (log : List Kept). IsLiveAt log k × (ticket_of (kept_at log k) ≡ c.args.ticket)) c.deref.ensures.value c.in_ok-k.ensures in
    ap Some c.end.ensures.value
    ∙ sym (found c.self.inside.log.items c.args.ticket k c.self.invariant.ascending here.0 here.1)
    ∙ ap (λ (v : Known). value_of c.args.ticket v.entries) c.self.view_is

pub returns-clause-others : goal.returns-clause-others
returns-clause-others c =
    let k = c.in_ok-k.k in
    let here = subst (λ (log : List Kept). IsLiveAt log k × (ticket_of (kept_at log k) ≡ c.args.ticket)) c.deref.ensures.value c.in_ok-k.ensures in
    ap (λ (log : List Kept). known (live_in log) c.self.inside.last c.self.inside.room) c.end.ensures.log
    ∙ ap (λ es. known es c.self.inside.last c.self.inside.room) (taken c.self.inside.log.items c.args.ticket k c.self.invariant.ascending here.0 here.1)
    ∙ ap (λ (v : Known). known (without_ticket c.args.ticket v.entries) v.last v.room) c.self.view_is
