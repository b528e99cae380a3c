use Rattle.std.proofs.Common.{◌≡◌, ◌==◌, ◌<◌, ℕ, get_or, false}
use Rattle.iscsi_tasks.proofs.Names.{Member}
use Rattle.iscsi_tasks.proofs.linked_queue.seek.Given as goal

-- the commands before the slot have other tickets
abbrev pub invariant-loop : goal.invariant-loop
invariant-loop l = record {
  there : l.slot ≡ get_or l.chain.slots l.counter 0;
  none : (k : ℕ) (d : Member) → k < l.counter → ((get_or l.chain.members k d).task.ticket == l.ticket) ≡ false;
}
