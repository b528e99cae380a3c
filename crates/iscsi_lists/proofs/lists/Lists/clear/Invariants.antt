use Rattle.std.proofs.Common.{[], length, get_or}
use Rattle.iscsi_lists.proofs.ClearLemmas.{IsClearing}
use Rattle.iscsi_lists.proofs.lists.Lists.clear.Given as goal

abbrev pub invariant-loop : goal.invariant-loop
invariant-loop g l = IsClearing l.fn.self l.self l.list

abbrev pub decreases-loop : goal.decreases-loop
decreases-loop g l = length (get_or l.self.lists l.list [])
