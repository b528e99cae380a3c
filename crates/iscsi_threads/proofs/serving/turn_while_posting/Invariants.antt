use Rattle.iscsi_threads.specs.rules.Loops.{SameLoop}
use Rattle.iscsi_threads.proofs.serving.turn_while_posting.Given as goal

abbrev pub invariant-loop : goal.invariant-loop
invariant-loop g l = SameLoop l.initial.core l.core
