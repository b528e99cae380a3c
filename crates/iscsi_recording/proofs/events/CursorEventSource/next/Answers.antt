use Rattle.std.proofs.Common.{◌-◌, List, take, drop, ◌∷◌, ◌∙◌, sym, ap, ap₂}
use Rattle.iscsi_recording.specs.Dense.{events_of, event_in}
use Rattle.iscsi_rules.specs.declared.event.Event.{Event}
use Rattle.iscsi_recording.proofs.DenseLemmas.{next_of}
use Rattle.iscsi_recording.proofs.events.CursorEventSource.next.Goals as goal

pub invariant_of-self : goal.invariant_of-self
invariant_of-self c =
    let n = c.self.inside.count in
    let next = next_of n c.self.inside.left.now c.if-self-eq0.false c.self.invariant in
    rw (c.split_at.ensures.back, c.first_size.ensures) next.rest

pub returns-clause-some : goal.returns-clause-some
returns-clause-some c is =
    let n = c.self.inside.count in
    let next = next_of n c.self.inside.left.now c.if-self-eq0.false c.self.invariant in
    sym c.self.view_is ∙ next.is
    ∙ ap₂ (λ x (xs : List Event). x ∷ xs)
    (ap (λ k. event_in (take k c.self.inside.left.now)) (sym c.first_size.ensures) ∙ ap event_in (sym c.split_at.ensures.front) ∙ sym c.read_event.ensures)
    (ap (λ k. events_of (n - 1) (drop k c.self.inside.left.now)) (sym c.first_size.ensures) ∙ ap (events_of (n - 1)) (sym c.split_at.ensures.back))
