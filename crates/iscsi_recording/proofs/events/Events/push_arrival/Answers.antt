use Rattle.std.proofs.Common.{arith, add-one}
use Rattle.iscsi_rules.specs.declared.event.Event.{Event}
use Rattle.iscsi_rules.specs.declared.event.Event.TheVariants.{Arrive}
use Rattle.iscsi_recording.specs.Dense.{bytes_of}
use Rattle.iscsi_recording.proofs.DenseLemmas.{count_short, dense_more, events_more, one_of}
use Rattle.iscsi_recording.proofs.events.Events.push_arrival.Goals as goal

pub overflow_add-self : goal.overflow_add-self
overflow_add-self c =
    let e = c.self.inside in
    let few = count_short e.count e.bytes c.self.invariant in
    omega (arith, few, c.put_arrival.ensures.few)

pub invariant_of-self-2 : goal.invariant_of-self-2
invariant_of-self-2 c =
    let e = c.self.inside in
    let event : Event = Arrive c.args.conn c.args.header.now in
    rw (c.in_ok-put_arrival.ensures.ok, add-one) (dense_more e.count e.bytes (bytes_of event) event c.self.invariant (one_of event c.put_arrival.ensures.fits))

pub returns-clause-ok : goal.returns-clause-ok
returns-clause-ok c =
    let e = c.self.inside in
    let event : Event = Arrive c.args.conn c.args.header.now in
    rw (c.in_ok-put_arrival.ensures.ok, add-one, ← c.self.view_is) (events_more e.count e.bytes (bytes_of event) event c.self.invariant (one_of event c.put_arrival.ensures.fits))
