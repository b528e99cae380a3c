use Rattle.std.proofs.Common.{◌∙◌, ap}
use Rattle.iscsi_lists.specs.declared.link.Link.{Link}
use Rattle.iscsi_lists.proofs.ReadLemmas.{node_read, list_is, node_inside}
use Rattle.iscsi_lists.proofs.links.Links.list_of.Goals as goal

pub returns : goal.returns
returns c list l there =
    let i = c.self.inside in
    ap (λ (n : Link). n.list) (node_read i.nodes.items c.args.slot c.index.result.now c.index.ensures (node_inside c.self.invariant c.self.view_is c.args.slot c.requires))
    ∙ list_is c.self.invariant c.self.view_is list l c.args.slot there
