use Rattle.std.proofs.Common.{◌≡◌, ◌==◌, ℕ, ◌<◌, get_or, false}
use Rattle.iscsi_tasks.proofs.Names.{Member}
use Rattle.iscsi_tasks.proofs.set.TaskSet.find.Given as goal

abbrev pub invariant-loop-place : goal.invariant-loop-place
invariant-loop-place l = (j : ℕ) (d : Member) → j < l.place → ((get_or l.self.list j d).task.itt == l.itt) ≡ false
