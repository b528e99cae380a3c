use Rattle.std.proofs.Common.{refl}
use Rattle.iscsi_commands.specs.Log.{group_of}
use Rattle.iscsi_commands.proofs.entry.group_of.Goals as goal

pub returns : goal.returns
unfolding group_of
returns c = refl
