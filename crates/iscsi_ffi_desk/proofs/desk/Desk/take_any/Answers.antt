use Rattle.iscsi_ffi_desk.proofs.TakeLemmas.{all_taken}
use Rattle.iscsi_ffi_desk.proofs.desk.Desk.take_any.Goals as goal

pub returns : goal.returns
returns c = all_taken c.args.own c.args.numbers c.args.effects.now c.args.self.now c.walk.new.self c.tell_outbox.new.self c.sweep.new.self c.tell_resets.new.self c.start_enabled.new.self c.walk.ensures c.tell_outbox.ensures c.sweep.ensures c.tell_resets.ensures c.start_enabled.ensures
