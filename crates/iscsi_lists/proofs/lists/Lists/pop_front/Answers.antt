use Rattle.std.proofs.Common.{sym}
use Rattle.iscsi_lists.proofs.ListedLemmas.{first_shown, popped_shown}
use Rattle.iscsi_lists.proofs.lists.Lists.pop_front.Goals as goal

pub remove-requires : goal.remove-requires
remove-requires g c = first_shown c.self.invariant.apart c.self.view_is c.in_ok-slot.slot c.args.list c.requires (sym c.in_ok-slot.ensures.slot)

pub returns-clause-state : goal.returns-clause-state
returns-clause-state g c slot rest at = popped_shown c.self.invariant.apart c.self.view_is c.in_ok-slot.slot c.args.list c.requires (sym c.in_ok-slot.ensures.slot) c.remove.new.self c.remove.ensures.state slot rest at
