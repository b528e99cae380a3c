use Rattle.std.proofs.Common.{arith}
use Rattle.std.proofs.lemmas.Bool.{ltb-true, lt-ltb}
use Rattle.std.proofs.lemmas.Bool.Decides.{nat_tests}
use Rattle.iscsi_commands.proofs.LogLemmas.{newest}
use Rattle.iscsi_commands.proofs.live_commands.is_newest.Goals as goal

pub returns-else-len-eq0 : goal.returns-else-len-eq0
returns-else-len-eq0 c = grind (arith, nat_tests, newest, ltb-true, lt-ltb)
