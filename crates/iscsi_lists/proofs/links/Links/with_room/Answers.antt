use Rattle.std.proofs.Common.{◌≡◌, ◌∙◌, ◌+◌, ◌++◌, ◌∷◌, [], ap, length, arith}
use Rattle.iscsi_lists.proofs.OpenLemmas.{first_long, the_last, all_links, opened_links, opened_view, opened_apart}
use Rattle.iscsi_lists.proofs.links.Links.with_room.Goals as goal

pub push_reserved-requires : goal.push_reserved-requires
push_reserved-requires c =
    let long = ap length c.chain_up.ensures.nodes ∙ first_long (c.args.room + c.args.lists + 1) in
    let len = c.chain_up.new.nodes.ok.0 in
    let room = c.in_ok-nodes.ensures.capacity in
    omega (arith, long, len, room)

nodes_are : (c : goal.After-push_reserved) → c.push_reserved.new.self.items ≡ all_links (c.args.room + c.args.lists + 1)
nodes_are c = c.push_reserved.ensures.items ∙ ap (λ ns. ns ++ the_last (c.args.room + c.args.lists + 1) ∷ []) c.chain_up.ensures.nodes

pub invariant_of-result : goal.invariant_of-result
invariant_of-result c = opened_links c.args.lists c.args.room c.push_reserved.new.self.items (nodes_are c) c.requires

pub returns-clause-state : goal.returns-clause-state
returns-clause-state c = opened_view c.args.lists c.args.room c.push_reserved.new.self.items (nodes_are c)

pub returns-clause-apart : goal.returns-clause-apart
returns-clause-apart c = opened_apart c.args.lists c.args.room c.push_reserved.new.self.items (nodes_are c)
