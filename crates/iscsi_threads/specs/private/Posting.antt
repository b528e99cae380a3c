-- What a poster does.
use Rattle.std.specs.Prelude.{◌≡◌, ℕ, Bool, IsTrue, List, ◌++◌}
use mathlib.Core.List.{IsPrefix}
use Rattle.iscsi_threads.specs.declared.port.Port.{Port}
use Rattle.iscsi_threads.specs.rules.Ports.{posted, port_ring}

-- on the same end a front of the list was posted, and the whole list where it is said to be whole
pub record HasPosted (before : Port) (list : List (List ℕ)) (after : Port) (is_whole : Bool) : Type 0 where
  pub ring : port_ring after ≡ port_ring before
  pub front : IsPrefix (posted after) (posted before ++ list)
  pub whole : IsTrue is_whole → posted after ≡ posted before ++ list
