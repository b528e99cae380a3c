use Rattle.std.proofs.Common.{◌≡◌, ◌≤◌, ◌<◌, ℕ, false, None, get_or}
use Rattle.iscsi_window.specs.Windows.{holds_command}
use Rattle.iscsi_window.proofs.places.first_between.Given as goal

abbrev pub invariant-loop-k : goal.invariant-loop-k
invariant-loop-k l = (j : ℕ) → l.from ≤ j → j < l.k → holds_command l.itt l.unit (get_or l.places.items j None) ≡ false
