use Rattle.std.proofs.Common.{subst, sym, ◌≤◌, IfSome, ◌∙◌, ap}
use Rattle.iscsi_lists.specs.declared.link.Link.{Link}
use Rattle.iscsi_lists.specs.Linking.{a_slot}
use Rattle.iscsi_lists.proofs.ReadLemmas.{node_read, previous_is, node_inside}
use Rattle.iscsi_lists.proofs.KeptLemmas.{room_at}
use Rattle.iscsi_lists.proofs.links.Links.previous.Goals as goal

pub returns-clause-slot : goal.returns-clause-slot
returns-clause-slot c list before after l at =
    let i = c.self.inside in
    c.slot_at.ensures.slot
    ∙ ap (λ (n : Link). a_slot i.room n.before) (node_read i.nodes.items c.args.slot c.index.result.now c.index.ensures (node_inside c.self.invariant c.self.view_is c.args.slot c.requires))
    ∙ previous_is c.self.invariant c.self.view_is list l c.args.slot before after at

pub returns-clause-within : goal.returns-clause-within
returns-clause-within c = subst (λ r. IfSome c.slot_at.result (λ s. s ≤ r)) (sym (room_at c.self.invariant c.self.view_is)) c.slot_at.ensures.within
