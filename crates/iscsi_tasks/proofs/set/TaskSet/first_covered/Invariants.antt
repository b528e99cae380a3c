use Rattle.std.proofs.Common.{◌≡◌, ℕ, ◌<◌, get_or, false}
use Rattle.iscsi_tasks.proofs.Names.{Member, is_covered}
use Rattle.iscsi_tasks.proofs.set.TaskSet.first_covered.Given as goal

abbrev pub invariant-loop-place : goal.invariant-loop-place
invariant-loop-place l = (j : ℕ) (d : Member) → j < l.place → is_covered l.cover (get_or l.self.list j d).task ≡ false
