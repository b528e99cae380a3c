use Rattle.std.proofs.Common.{subst, sym, ◌≤◌, IfSome, ◌∙◌, ◌+◌, ap}
use Rattle.iscsi_lists.specs.declared.link.Link.{Link}
use Rattle.iscsi_lists.specs.Linking.{a_slot}
use Rattle.iscsi_lists.proofs.ReadLemmas.{node_read, first_is, head_inside}
use Rattle.iscsi_lists.proofs.KeptLemmas.{room_at}
use Rattle.iscsi_lists.proofs.links.Links.first.Goals as goal

pub returns-clause-slot : goal.returns-clause-slot
returns-clause-slot c =
    let i = c.self.inside in
    c.slot_at.ensures.slot
    ∙ ap (λ (n : Link). a_slot i.room n.after) (node_read i.nodes.items (i.room + 1 + c.args.list) c.index.result.now c.index.ensures (head_inside c.self.invariant c.self.view_is c.args.list c.requires))
    ∙ first_is c.self.invariant c.self.view_is c.args.list c.requires

pub returns-clause-within : goal.returns-clause-within
returns-clause-within c = subst (λ r. IfSome c.slot_at.result (λ s. s ≤ r)) (sym (room_at c.self.invariant c.self.view_is)) c.slot_at.ensures.within
