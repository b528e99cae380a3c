use Rattle.std.proofs.Common.{arith}
use Rattle.std.proofs.lemmas.Bool.Decides.{nat_tests}
use Rattle.iscsi_commands.proofs.TagIndexLemmas.{none_tagged}
use Rattle.iscsi_commands.proofs.tag_index.TagIndex.with_room.Goals as goal

pub returns-clause-tagged : goal.returns-clause-tagged
returns-clause-tagged c = grind (arith, nat_tests, none_tagged)
