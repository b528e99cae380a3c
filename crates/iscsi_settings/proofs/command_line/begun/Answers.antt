use Rattle.std.proofs.Common.{arith}
use Rattle.std.proofs.lemmas.Result.{IfOk-weaker}
use Rattle.std.proofs.lemmas.Grind.{common_steps}
use Rattle.iscsi_settings.proofs.command_line.begun.Goals as goal

pub returns : goal.returns
returns c = grind (arith, common_steps, IfOk-weaker)
