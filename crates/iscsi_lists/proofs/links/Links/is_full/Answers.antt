use Rattle.std.proofs.Common.{◌∙◌, ◌+◌, ap, sym}
use Rattle.std.proofs.lemmas.Bool.{eqb-true}
use Rattle.iscsi_lists.specs.declared.link.Link.{Link}
use Rattle.iscsi_lists.proofs.ReadLemmas.{node_read, last_is, none_of_0, free_some, first_inside}
use Rattle.iscsi_lists.proofs.links.Links.is_full.Goals as goal

pub returns-clause-yes : goal.returns-clause-yes
returns-clause-yes c is_0 =
    let i = c.self.inside in
    none_of_0 c.args.self.now.free (free_some c.self.invariant c.self.view_is)
    (sym (last_is c.self.invariant c.self.view_is)
    ∙ sym (ap (λ (n : Link). n.before) (node_read i.nodes.items (i.room + 1) c.index.result.now c.index.ensures (first_inside c.self.invariant c.self.view_is)))
    ∙ eqb-true c.index.result.now.before 0 is_0)
