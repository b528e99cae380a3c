use Rattle.std.proofs.Common.{arith}
use Rattle.std.proofs.lemmas.Bool.Decides.{nat_tests}
use Rattle.iscsi_commands.proofs.RankLemmas.{rank_below}
use Rattle.iscsi_commands.proofs.tag_index.note_ranks.Goals as goal

pub overflow_add-before : goal.overflow_add-before
overflow_add-before c = grind (arith, nat_tests, rank_below c.args.log.now c.loop-k.k)
