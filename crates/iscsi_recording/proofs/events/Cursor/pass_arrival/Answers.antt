use Rattle.std.proofs.Common.{◌-◌, List, ◌∷◌, drop, ap, ap₂, sym, ◌∙◌}
use Rattle.byteorder.specs.Endian.{big_number}
use Rattle.iscsi_rules.specs.declared.event.Event.{Event}
use Rattle.iscsi_rules.specs.declared.event.Event.TheVariants.{Arrive}
use Rattle.iscsi_wire.specs.Fields.{connection_of, header_of}
use Rattle.iscsi_wire.specs.declared.request.Request.{Request}
use Rattle.iscsi_recording.specs.Dense.{events_of}
use Rattle.iscsi_recording.specs.Firsts.{begins_with_arrival}
use Rattle.iscsi_recording.proofs.NextLemmas.{arrival_next}
use Rattle.iscsi_recording.proofs.events.Cursor.pass_arrival.Goals as goal

-- a request as the event of its arrival
abbrev arrived : Request → Event
arrived r = Arrive (connection_of r) (header_of r)

pub invariant_of-self : goal.invariant_of-self
invariant_of-self c =
    let next = arrival_next c.self.inside.count c.self.inside.left.now c.self.invariant (ap begins_with_arrival c.self.view_is ∙ c.requires) in
    rw c.split_at.ensures.back next.rest

pub returns : goal.returns
returns c =
    let n = c.self.inside.count in
    let left = c.self.inside.left.now in
    let next = arrival_next n left c.self.invariant (ap begins_with_arrival c.self.view_is ∙ c.requires) in
    sym c.self.view_is ∙ next.is
    ∙ ap₂ (λ e (es : List Event). e ∷ es)
    (ap (λ l. Arrive (big_number 2 (drop 1 l)) (drop 3 l)) (sym c.split_at.ensures.front) ∙ ap arrived (sym c.request_in.ensures))
    (ap (events_of (n - 1)) (sym c.split_at.ensures.back))
