use Rattle.std.proofs.Common.{◌≡◌, ◌≤◌, ◌<◌, ℕ, get_or, length, false}
use Rattle.iscsi_tasks.proofs.Names.{Member, is_new}
use Rattle.iscsi_tasks.proofs.linked_queue.first_new.Given as goal

-- the commands before the slot aren't new
abbrev pub invariant-loop : goal.invariant-loop
invariant-loop l = record {
  place : ℕ;
  there : l.slot ≡ get_or l.chain.slots place 0;
  far : l.counter ≤ place;
  none : (k : ℕ) (d : Member) → k < place → k < length l.chain.members → is_new (get_or l.chain.members k d) ≡ false;
}
