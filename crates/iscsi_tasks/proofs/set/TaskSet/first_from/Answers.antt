use Rattle.std.proofs.Common.{◌+◌, ◌-◌, ◌/◌, ap, arith}
use Rattle.iscsi_slots.proofs.HalvingLemmas.{halved_up, halved_down, half_from, half_to}
use Rattle.iscsi_tasks.proofs.Names.{Member}
use Rattle.iscsi_tasks.proofs.set.TaskSet.first_from.Goals as goal

pub loop-low-preserved-then-at-ticket : goal.loop-low-preserved-then-at-ticket
loop-low-preserved-then-at-ticket c =
    let m = c.loop-low.low + (c.loop-low.high - c.loop-low.low) / 2 in
    let from = half_from c.loop-low.low c.loop-low.high in
    let to = half_to c.loop-low.low c.loop-low.high c.loop-low-test.true in
    halved_up (λ (x : Member). x.task.ticket) c.args.self.now.list c.args.ticket c.len-high.ensures.order c.loop-low.invariant m from to
    (λ d. let is = ap (λ (x : Member). x.task.ticket) (c.at.ensures.member d) in let lower = c.if-at-ticket.true in omega (arith, is, lower))

pub loop-low-preserved : goal.loop-low-preserved
loop-low-preserved c =
    let m = c.loop-low.low + (c.loop-low.high - c.loop-low.low) / 2 in
    let from = half_from c.loop-low.low c.loop-low.high in
    let to = half_to c.loop-low.low c.loop-low.high c.loop-low-test.true in
    halved_down (λ (x : Member). x.task.ticket) c.args.self.now.list c.args.ticket c.len-high.ensures.order c.loop-low.invariant m from to
    (λ d. let is = ap (λ (x : Member). x.task.ticket) (c.at.ensures.member d) in let upper = c.if-at-ticket.false in omega (arith, is, upper))
