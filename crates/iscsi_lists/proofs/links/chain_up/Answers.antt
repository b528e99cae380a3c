use Rattle.std.proofs.Common.{◌∙◌, ap, length, arith}
use Rattle.iscsi_lists.proofs.OpenLemmas.{first_long}
use Rattle.iscsi_lists.proofs.links.chain_up.Goals as goal

pub push_reserved-requires : goal.push_reserved-requires
push_reserved-requires c =
    let long = ap length c.loop-node.invariant.items ∙ first_long c.loop-node.node in
    let len = c.loop-node.nodes.ok.0 in
    omega (arith, long, len)
