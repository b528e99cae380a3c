use Rattle.std.proofs.Common.{ℕ, ◌<◌, get_or}
use Rattle.iscsi_tasks.specs.declared.member.Member.{Member}
use Rattle.check_units.proofs.task_set.is_newest.Given as goal

abbrev pub invariant-loop-place : goal.invariant-loop-place
invariant-loop-place l = (j : ℕ) (d : Member) → j < l.place → (get_or l.set.list j d).task.ticket < l.ticket
