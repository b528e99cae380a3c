use Rattle.std.proofs.Common.{◌≡◌, ◌≤◌, ◌+◌, ◌++◌, get_or, take, vec_len, vec_capacity}
use Rattle.iscsi_tasks.proofs.Names.{is_covered, IsMarked, covered_tickets}
use Rattle.iscsi_tasks.proofs.PassingLemmas.{kept_yet, passed}
use Rattle.iscsi_tasks.proofs.linked_front.keep_uncovered.Given as goal

-- the covered ones of the commands so far left
abbrev pub invariant-loop : goal.invariant-loop
invariant-loop l = record {
  members : l.chain.members ≡ kept_yet (λ m. is_covered l.cover m.task) l.fn.chain.members l.counter;
  there : l.slot ≡ get_or l.chain.slots (passed (λ m. is_covered l.cover m.task) l.fn.chain.members l.counter) 0;
  left : l.left.items ≡ l.fn.left.items ++ covered_tickets (is_covered l.cover) (take l.counter l.fn.chain.members);
  spent : vec_len l.left ≤ vec_len l.fn.left + l.counter;
  marked : IsMarked l.marks l.chain.slots l.chain.members;
  room : l.chain.room ≡ l.fn.chain.room;
  capacity : vec_capacity l.left ≡ vec_capacity l.fn.left;
}
