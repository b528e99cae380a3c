use Rattle.std.proofs.Common.{◌≡◌, not, ap, arith, ne_eqb}
use Rattle.iscsi_lists.specs.declared.link.Link.{Link}
use Rattle.iscsi_lists.specs.Linking.{list_of}
use Rattle.iscsi_lists.proofs.ReadLemmas.{node_read, slot_at_room, slot_low, known}
use Rattle.iscsi_lists.proofs.links.Links.holds.Goals as goal

pub returns-then-slot-self-clause-no : goal.returns-then-slot-self-clause-no
returns-then-slot-self-clause-no c there =
    let nodes = c.self.inside.nodes.items in
    let read : c.index.result.now.list ≡ list_of nodes c.args.slot = ap (λ (n : Link). n.list) (node_read nodes c.args.slot c.index.result.now c.index.ensures (slot_at_room c.self.invariant c.self.view_is c.args.slot (slot_low c.self.invariant c.self.view_is c.args.slot there).1)) in
    let low = known c.self.invariant c.self.view_is c.args.slot there in
    ap not (ne_eqb c.index.result.now.list 4294967295 (λ e. omega (arith, e, read, low)))
