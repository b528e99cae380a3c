use Rattle.std.proofs.Common.{◌+◌, ◌*◌, arith}
use Rattle.iscsi_recording.proofs.PairLemmas.{part_small, part_weighed, joined_at}
use Rattle.iscsi_recording.proofs.pairs.sixteen_joined.Goals as goal

pub weighed-first-requires-clause-bytes : goal.weighed-first-requires-clause-bytes
weighed-first-requires-clause-bytes c = λ i lt. part_small c.args.values.now (2 * c.args.at) _ i (omega arith) (λ k. (c.type_inv.values k).fits) lt

pub weighed-second-requires-clause-bytes : goal.weighed-second-requires-clause-bytes
weighed-second-requires-clause-bytes c = λ i lt. part_small c.args.values.now (2 * c.args.at + 16) _ i (omega arith) (λ k. (c.type_inv.values k).fits) lt

pub returns-clause-bytes : goal.returns-clause-bytes
returns-clause-bytes c =
    let values = c.args.values.now in
    let from = 2 * c.args.at in
    λ j lt. joined_at values c.weighed-first.result c.weighed-second.result c.args.at j c.requires.room c.requires.raised (λ k. (c.type_inv.values k).fits)
    c.weighed-first.ensures.len c.weighed-second.ensures.len (part_weighed values c.weighed-first.result from _ (omega arith) c.weighed-first.ensures.upper)
    (part_weighed values c.weighed-second.result (from + 16) _ (omega arith) c.weighed-second.ensures.upper) lt
