use Rattle.std.proofs.Common.{◌≡◌, ◌≤◌, ◌<◌, ◌+◌, ℕ, get_or, length, true}
use Rattle.iscsi_tasks.proofs.Names.{Member}
use Rattle.iscsi_tasks.proofs.CountLemmas.{enabled_up_to}
use Rattle.iscsi_tasks.proofs.linked_queue.enable.Given as goal

-- the commands from the first slot on up to this one are enabled
abbrev pub invariant-loop : goal.invariant-loop
invariant-loop l = (i j : ℕ) → i ≤ j → j ≤ length l.fn.chain.slots → l.from ≡ get_or l.fn.chain.slots i 0 → l.to ≡ get_or l.fn.chain.slots j 0 → record {
  there : l.slot ≡ get_or l.fn.chain.slots (i + l.counter) 0;
  within : i + l.counter ≤ j;
  slots : l.chain.slots ≡ l.fn.chain.slots;
  state : ((k : ℕ) (d : Member) → k < i → (get_or l.fn.chain.members k d).enabled ≡ true) → l.chain ≡ record l.fn.chain { members = enabled_up_to (i + l.counter) l.fn.chain.members };
}
