use Rattle.std.proofs.Common.{arith}
use Rattle.std.proofs.lemmas.List.{get_or_read}
use Rattle.std.proofs.lemmas.Bool.Decides.{nat_tests}
use Rattle.iscsi_commands.specs.Log.{tag_at}
use Rattle.iscsi_commands.proofs.LogLemmas.{group_below}
use Rattle.iscsi_commands.proofs.TagIndexLemmas.{left_first, not_other}
use Rattle.iscsi_commands.proofs.tag_index.TagIndex.leave.Goals as goal

pub returns-then-not-index-clause-tagged : goal.returns-then-not-index-clause-tagged
returns-then-not-index-clause-tagged c = grind (arith, nat_tests, group_below (tag_at c.args.log.now c.args.k), get_or_read, left_first, not_other)
