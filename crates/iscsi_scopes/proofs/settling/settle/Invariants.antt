use Rattle.std.proofs.Common.{length}
use Rattle.iscsi_lines.specs.Settling.{IsSettling, slots_at}
use Rattle.iscsi_scopes.proofs.settling.settle.Given as goal

-- what stands behind gets less
abbrev pub decreases-loop-slot : goal.decreases-loop-slot
decreases-loop-slot l = length (slots_at l.lists l.behind)

-- some commands came ahead
abbrev pub invariant-loop-slot : goal.invariant-loop-slot
invariant-loop-slot l = IsSettling l.fn.lists l.lists l.on l.ahead l.behind
