use Rattle.std.proofs.Common.{arith}
use Rattle.iscsi_lists.proofs.KeptLemmas.{room_at, count_at}
use Rattle.iscsi_lists.proofs.links.Links.known.Goals as goal

pub returns : goal.returns
returns c =
    let room = room_at c.self.invariant c.self.view_is in let count = count_at c.self.invariant c.self.view_is in let short = c.self.invariant.short in
    omega (arith, room, count, short)
