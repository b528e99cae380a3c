use Rattle.std.proofs.Common.{arith}
use Rattle.std.proofs.lemmas.List.{length-map}
use Rattle.iscsi_tasks.proofs.Names.{common_steps, order_in, member_at}
use Rattle.iscsi_tasks.proofs.ChainedLemmas.{long, few, within}
use Rattle.iscsi_tasks.proofs.chain.Chain.len.Goals as goal

pub returns : goal.returns
returns c =
    grind (arith, common_steps, long c.self.invariant, length-map (order_in c.self.inside.nodes.items c.self.inside.len) (member_at c.self.inside.nodes.items), order_in c.self.inside.nodes.items c.self.inside.len, member_at c.self.inside.nodes.items, few c.self.invariant, within c.self.invariant)
