use Rattle.std.proofs.Common.{◌≡◌, vec_capacity}
use Rattle.iscsi_commands.proofs.RankLemmas.{IsClosing}
use Rattle.iscsi_commands.proofs.closing.keep_live.Given as goal

abbrev pub invariant-loop-k : goal.invariant-loop-k
invariant-loop-k l = record {
  closing : IsClosing l.fn.log.items l.log.items l.k l.live l.fn.places.items l.places.items l.hints;
  capacity : vec_capacity l.log ≡ vec_capacity l.fn.log;
}
