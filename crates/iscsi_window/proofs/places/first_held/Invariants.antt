use Rattle.std.proofs.Common.{◌≡◌, ℕ, ◌<◌, false, None, get_or}
use Rattle.iscsi_window.specs.Windows.{holds_from}
use Rattle.iscsi_window.proofs.places.first_held.Given as goal

abbrev pub invariant-loop-k : goal.invariant-loop-k
invariant-loop-k l = (j : ℕ) → j < l.k → holds_from l.conn (get_or l.places.items j None) ≡ false
