use Rattle.std.proofs.Common.{sym}
use Rattle.iscsi_waiting.proofs.OutLemmas.{first_waits, popped_state}
use Rattle.iscsi_waiting.proofs.slots.Slots.drop_first.Goals as goal

pub take_out-requires-clause-waits : goal.take_out-requires-clause-waits
take_out-requires-clause-waits c = first_waits c.args.self.now c.args.conn c.in_ok-slot.slot c.known.ensures.apart (sym c.in_ok-slot.ensures.slot)

pub returns-clause-state : goal.returns-clause-state
returns-clause-state c = popped_state c.args.self.now c.args.conn c.in_ok-slot.slot c.known.ensures.apart (sym c.in_ok-slot.ensures.slot) c.take_out.new.self c.take_out.ensures.left
