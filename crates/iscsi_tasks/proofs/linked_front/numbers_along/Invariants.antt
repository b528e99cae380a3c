use Rattle.std.proofs.Common.{◌≡◌, get_or, take, true}
use Rattle.iscsi_tasks.proofs.Names.{covered_from_in, IsAscendingTo}
use Rattle.iscsi_tasks.proofs.linked_front.numbers_along.Given as goal

abbrev pub invariant-loop-k : goal.invariant-loop-k
invariant-loop-k l = record {
  least : l.least ≡ covered_from_in (take l.k l.chain.members);
  front : l.ascends ≡ true → IsAscendingTo l.most (take l.k l.chain.members);
  there : l.slot ≡ get_or l.chain.slots l.k 0;
}
