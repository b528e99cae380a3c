use Rattle.std.proofs.Common.{arith}
use Rattle.iscsi_lists.proofs.KeptLemmas.{moved_links, moved_view, moved_apart, slot_inside, target_inside, list_fits}
use Rattle.iscsi_lists.proofs.links.Links.move_to_back.Goals as goal

pub overflow_cast-target : goal.overflow_cast-target
overflow_cast-target c = let a = list_fits c.self.invariant c.self.view_is c.args.list c.requires.list in omega (arith, a)

pub overflow_cast-list : goal.overflow_cast-list
overflow_cast-list c = let a = list_fits c.self.invariant c.self.view_is c.args.list c.requires.list in omega (arith, a)

pub move_before-requires-clause-slot : goal.move_before-requires-clause-slot
move_before-requires-clause-slot c = slot_inside c.self.invariant c.self.view_is c.args.slot c.requires.slot c.requires.within

pub move_before-requires-clause-target : goal.move_before-requires-clause-target
move_before-requires-clause-target c = target_inside c.self.invariant c.self.view_is c.args.list c.requires.list

pub invariant_of-self : goal.invariant_of-self
invariant_of-self c = moved_links c.self.invariant c.self.view_is c.args.slot c.requires.slot c.requires.within c.args.list c.requires.list c.move_before.new.nodes.items c.move_before.ensures

pub returns-clause-state : goal.returns-clause-state
returns-clause-state c = moved_view c.self.invariant c.self.view_is c.args.slot c.requires.slot c.requires.within c.args.list c.requires.list c.move_before.new.nodes.items c.move_before.ensures

pub returns-clause-apart : goal.returns-clause-apart
returns-clause-apart c = moved_apart c.self.invariant c.self.view_is c.args.slot c.requires.slot c.requires.within c.args.list c.requires.list c.move_before.new.nodes.items c.move_before.ensures
