use Rattle.iscsi_window.proofs.FilledLemmas.{bit_cleared}
use Rattle.iscsi_window.proofs.filled_slots.FilledSlots.clear.Goals as goal

pub returns : goal.returns
returns c = rw (← c.self.view_is) (bit_cleared c.self.inside.words c.args.number c.self.invariant)
