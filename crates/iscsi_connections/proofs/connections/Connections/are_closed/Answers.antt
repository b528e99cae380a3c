use Rattle.std.proofs.Common.{arith}
use Rattle.std.proofs.lemmas.Bool.Decides.{nat_tests}
use Rattle.iscsi_connections.proofs.OpenLemmas.{none_open}
use Rattle.iscsi_connections.proofs.connections.Connections.are_closed.Goals as goal

pub returns : goal.returns
returns c = grind (arith, nat_tests, none_open c.self.inside.list.items)
