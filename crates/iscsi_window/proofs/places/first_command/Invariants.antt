use Rattle.std.proofs.Common.{◌≡◌, ℕ, ◌-◌, ◌<◌, false, None, get_or}
use Rattle.iscsi_window.specs.Windows.{holds_command}
use Rattle.iscsi_window.proofs.places.first_command.Given as goal

abbrev pub invariant-loop-k : goal.invariant-loop-k
invariant-loop-k l = (j : ℕ) → j < l.k → holds_command l.itt l.unit (get_or l.places.items j None) ≡ false

abbrev pub decreases-loop-k : goal.decreases-loop-k
decreases-loop-k l = l.end - l.k
