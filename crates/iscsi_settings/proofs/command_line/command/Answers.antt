use Rattle.std.proofs.Common.{arith}
use Rattle.std.proofs.lemmas.Result.{IfOk-weaker}
use Rattle.std.proofs.lemmas.Grind.{common_steps}
use Rattle.iscsi_settings.specs.Command.{replay_app}
use Rattle.iscsi_settings.proofs.command_line.command.Goals as goal

pub returns : goal.returns
unfolding replay_app
returns c = grind (arith, common_steps, IfOk-weaker)
