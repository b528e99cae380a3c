use Rattle.std.proofs.Common.{arith}
use Rattle.iscsi_lane.proofs.StampLemmas.{within_at}
use Rattle.iscsi_lane.proofs.holding.is_held.Goals as goal

pub at-requires : goal.at-requires
at-requires c = within_at c.args.log.now c.known.ensures.apart 2 c.args.slot c.requires.there

pub index-before-requires : goal.index-before-requires
index-before-requires c = let a = within_at c.args.log.now c.known.ensures.apart 2 c.args.slot c.requires.there in let b = c.requires.holders in let d = c.args.holders.now.ok.0 in omega (arith, a, b, d)

pub index_mut-requires : goal.index_mut-requires
index_mut-requires c = let a = within_at c.args.log.now c.known.ensures.apart 2 c.args.slot c.requires.there in let b = c.requires.holders in let d = c.args.holders.now.ok.0 in omega (arith, a, b, d)
