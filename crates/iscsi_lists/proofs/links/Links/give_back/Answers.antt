use Rattle.iscsi_lists.proofs.KeptLemmas.{freed_links, freed_view, freed_apart}
use Rattle.iscsi_lists.proofs.links.Links.give_back.Goals as goal

pub invariant_of-self : goal.invariant_of-self
invariant_of-self c = freed_links c.self.invariant c.self.view_is c.args.slot c.requires.slot c.requires.within c.move_before.new.nodes.items c.move_before.ensures

pub returns-clause-state : goal.returns-clause-state
returns-clause-state c = freed_view c.self.invariant c.self.view_is c.args.slot c.requires.slot c.requires.within c.move_before.new.nodes.items c.move_before.ensures

pub returns-clause-apart : goal.returns-clause-apart
returns-clause-apart c = freed_apart c.self.invariant c.self.view_is c.args.slot c.requires.slot c.requires.within c.move_before.new.nodes.items c.move_before.ensures
