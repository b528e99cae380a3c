-- What an abort of a whole set covers, in the words of its law and in those of the items.
use Rattle.std.proofs.Common.{◌≡◌, arith}
use Rattle.iscsi_rules.specs.rules.Trace.{Arrival, Command}
use Rattle.iscsi_rules.specs.rules.Management.{is_before}
use Rattle.iscsi_rules.specs.promises.Aborts.{came_before}

-- a command came before a function just where the function's item takes it as earlier
pub came_is_before : (f : Arrival) (c : Command) → came_before c.arrival f ≡ is_before f c
came_is_before f c = grind arith
