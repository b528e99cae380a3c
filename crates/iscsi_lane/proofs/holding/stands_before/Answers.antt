use Rattle.std.proofs.Common.{arith}
use Rattle.iscsi_lane.proofs.HoldLemmas.{listed_there}
use Rattle.iscsi_lane.proofs.StampLemmas.{within_at}
use Rattle.iscsi_lane.proofs.holding.stands_before.Goals as goal

pub bounds-stamps-slot : goal.bounds-stamps-slot
bounds-stamps-slot c = let a = within_at c.args.log.now c.known.ensures.apart 2 c.args.slot c.requires.there in let b = c.requires.long in omega (arith, a, b)

pub returns-clause-there : goal.returns-clause-there
returns-clause-there c earlier =
    listed_there c.args.log.now c.requires.all c.known.ensures.apart c.args.before 2 c.list_of.result c.if-before-lt1.false (let a = c.if-stamps-before.false in let b = c.requires.long in omega (arith, a, b))
    c.list_of.ensures c.if-list_of-ne-LOG.false
