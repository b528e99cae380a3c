use Rattle.std.proofs.Common.{arith}
use Rattle.std.proofs.lemmas.Bool.Decides.{nat_tests}
use Rattle.iscsi_commands.proofs.LogLemmas.{found_tag, no_tag}
use Rattle.iscsi_commands.proofs.live_commands.LiveCommands.find_tagged.Goals as goal

pub returns-in_err-k-clause-command : goal.returns-in_err-k-clause-command
returns-in_err-k-clause-command c = grind (arith, nat_tests, no_tag)

pub returns-clause-command : goal.returns-clause-command
returns-clause-command c = grind (arith, nat_tests, found_tag)
