use Rattle.std.proofs.Common.{arith}
use Rattle.iscsi_lane.specs.Standings.{slots_at}
use Rattle.iscsi_lane.proofs.StampLemmas.{under_comes, up_comes}
use Rattle.iscsi_lane.proofs.stamps.stamp.Goals as goal

pub returns-clause-up : goal.returns-clause-up
returns-clause-up c =
    let n = c.next_stamp-time.ensures in
    up_comes c.next_stamp-time.new.stamps.items c.args.slot c.next_stamp-time.result (let a = n.long in let b = c.requires.within in omega (arith, a, b)) (slots_at c.args.log.now 2) c.requires.none n.under n.up

pub returns-clause-under : goal.returns-clause-under
returns-clause-under c =
    let n = c.next_stamp-time.ensures in
    under_comes c.next_stamp-time.new.stamps.items c.args.slot c.next_stamp-time.result (let a = n.long in let b = c.requires.within in omega (arith, a, b)) (slots_at c.args.log.now 2) c.requires.none n.under
