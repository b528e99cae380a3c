use Rattle.std.proofs.Common.{◌≡◌, get_or, take}
use Rattle.iscsi_slots.specs.Queued.{queued}
use Rattle.iscsi_tasks.proofs.set.order_anew.Given as goal

abbrev pub invariant-loop : goal.invariant-loop
invariant-loop l = record {
  order : l.order ≡ queued (take l.counter l.tasks.slots) l.fn.order.room;
  there : l.slot ≡ get_or l.tasks.slots l.counter 0;
}
