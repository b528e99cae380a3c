use Rattle.iscsi_window.proofs.FilledLemmas.{bit_set}
use Rattle.iscsi_window.proofs.filled_slots.FilledSlots.set.Goals as goal

pub returns : goal.returns
returns c = rw (← c.self.view_is) (bit_set c.self.inside.words c.args.number c.self.invariant)
