use Rattle.std.proofs.Common.{arith}
use Rattle.std.proofs.lemmas.Bool.Decides.{nat_tests}
use Rattle.iscsi_commands.proofs.LogLemmas.{unused_pushed}
use Rattle.iscsi_commands.proofs.live_commands.append.Goals as goal

pub enter-requires-clause-unused : goal.enter-requires-clause-unused
enter-requires-clause-unused c = grind (arith, nat_tests, unused_pushed)
