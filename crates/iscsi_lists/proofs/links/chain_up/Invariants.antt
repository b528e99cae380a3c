use Rattle.std.proofs.Common.{◌≡◌, ◌≤◌, vec_capacity}
use Rattle.iscsi_lists.specs.Linking.{first_links}
use Rattle.iscsi_lists.proofs.links.chain_up.Given as goal

-- the nodes so far
abbrev pub invariant-loop-node : goal.invariant-loop-node
invariant-loop-node l = record {
  items : l.nodes.items ≡ first_links l.node;
  capacity : vec_capacity l.nodes ≡ vec_capacity l.fn.nodes;
  within : l.node ≤ l.count;
}
