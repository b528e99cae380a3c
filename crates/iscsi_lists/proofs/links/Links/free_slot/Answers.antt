use Rattle.std.proofs.Common.{◌≡◌, ◌∙◌, ◌+◌, ◌≤◌, Some, ap, sym, subst}
use Rattle.iscsi_slots.specs.Slots.{times}
use Rattle.iscsi_lists.specs.declared.link.Link.{Link}
use Rattle.iscsi_lists.specs.Lists.{end_of}
use Rattle.iscsi_lists.proofs.ReadLemmas.{node_read, last_is, last_some, last_there, first_inside}
use Rattle.iscsi_lists.proofs.links.Links.free_slot.Goals as goal

read : (c : goal.After-index) → c.index.result.now.before ≡ end_of 0 c.args.self.now.free
read c =
    let i = c.self.inside in
    ap (λ (n : Link). n.before) (node_read i.nodes.items (i.room + 1) c.index.result.now c.index.ensures (first_inside c.self.invariant c.self.view_is))
    ∙ last_is c.self.invariant c.self.view_is

pub returns-clause-slot : goal.returns-clause-slot
returns-clause-slot c = last_some c.args.self.now.free c.requires ∙ sym (ap Some (read c))

pub returns-clause-there : goal.returns-clause-there
returns-clause-there c = subst (λ s. 1 ≤ times s c.args.self.now.free) (sym (read c)) (last_there c.args.self.now.free c.requires)
