use Rattle.std.proofs.Common.{arith}
use Rattle.iscsi_tasks.proofs.Names.{common_steps}
use Rattle.iscsi_slots.proofs.SlotLemmas.{stands}
use Rattle.iscsi_tasks.proofs.linked_queue.is_slot_of.Goals as goal

pub returns-then-holds : goal.returns-then-holds
returns-then-holds c = λ is.
    let at = stands c.args.slot c.args.chain.now.slots (c.holds.ensures.yes c.if-holds.true) in
    let l = at.inside in
    let long = c.holds.ensures.long in
    grind (arith, common_steps)
