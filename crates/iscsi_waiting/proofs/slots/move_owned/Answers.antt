use Rattle.std.proofs.Common.{ℕ, sym, subst}
use Rattle.iscsi_waiting.specs.Kept.{GoesTo}
use Rattle.iscsi_waiting.proofs.MarkLemmas.{goes_moved}
use Rattle.iscsi_waiting.proofs.slots.move_owned.Goals as goal

pub returns-then-list-eq-OF_NONE : goal.returns-then-list-eq-OF_NONE
returns-then-list-eq-OF_NONE c = subst (λ (n : ℕ). GoesTo c.args.owned.now c.free_owned.new.owned n c.args.slot) (sym c.if-list-eq-OF_NONE.true) c.free_owned.ensures

pub returns-else-list-eq-OF_NONE : goal.returns-else-list-eq-OF_NONE
returns-else-list-eq-OF_NONE c = goes_moved c.args.owned.now c.args.list c.args.slot c.move_to_back.new.self c.move_to_back.ensures.state
