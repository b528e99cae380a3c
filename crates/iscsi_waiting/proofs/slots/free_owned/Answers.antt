use Rattle.std.proofs.Common.{refl, arith}
use Rattle.iscsi_waiting.proofs.MarkLemmas.{goes_moved, goes_nowhere}
use Rattle.iscsi_waiting.proofs.slots.free_owned.Goals as goal

pub list_of-list-requires : goal.list_of-list-requires
list_of-list-requires c = let there = c.requires.slot in c.known.ensures.apart.within c.args.slot (omega (arith, there))

pub returns-then-list-eq-OF_NONE : goal.returns-then-list-eq-OF_NONE
returns-then-list-eq-OF_NONE c = goes_nowhere c.args.owned.now 0 c.args.slot refl c.known.ensures.apart c.requires.slot c.list_of-list.result c.if-list-eq-OF_NONE.true c.list_of-list.ensures

pub returns : goal.returns
returns c = goes_moved c.args.owned.now 0 c.args.slot c.move_to_back.new.self c.move_to_back.ensures.state
