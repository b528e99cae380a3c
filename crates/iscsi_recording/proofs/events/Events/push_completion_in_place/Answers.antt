use Rattle.std.proofs.Common.{arith, add-one}
use Rattle.iscsi_rules.specs.declared.event.Event.{Event}
use Rattle.iscsi_rules.specs.declared.event.Event.TheVariants.{Done}
use Rattle.iscsi_recording.specs.Dense.{bytes_of}
use Rattle.iscsi_recording.proofs.DenseLemmas.{count_short, dense_more, events_more, one_of}
use Rattle.iscsi_recording.proofs.events.Events.push_completion_in_place.Goals as goal

pub overflow_add-self : goal.overflow_add-self
overflow_add-self c =
    let e = c.self.inside in
    let few = count_short e.count e.bytes c.self.invariant in
    omega (arith, few, c.put_completion_in_place.ensures.few)

pub invariant_of-self-2 : goal.invariant_of-self-2
invariant_of-self-2 c =
    let e = c.self.inside in
    let event : Event = Done c.args.ticket c.args.status in
    let put = c.put_completion_in_place.ensures.put c.if-not-put_completion_in_place.false in
    rw (put, add-one) (dense_more e.count e.bytes (bytes_of event) event c.self.invariant (one_of event c.put_completion_in_place.ensures.fits))

pub returns-clause-put : goal.returns-clause-put
returns-clause-put c is =
    let e = c.self.inside in
    let event : Event = Done c.args.ticket c.args.status in
    let put = c.put_completion_in_place.ensures.put c.if-not-put_completion_in_place.false in
    rw (put, add-one, ← c.self.view_is) (events_more e.count e.bytes (bytes_of event) event c.self.invariant (one_of event c.put_completion_in_place.ensures.fits))
