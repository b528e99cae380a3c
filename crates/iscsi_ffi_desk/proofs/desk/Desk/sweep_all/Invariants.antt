use Rattle.std.proofs.Common.{◌≡◌, drop}
use Rattle.iscsi_outbox_steps.specs.Steps.{counted_from}
use Rattle.iscsi_ffi_steps.specs.Walk.{sweep}
use Rattle.iscsi_ffi_desk.proofs.desk.Desk.sweep_all.Given as goal

abbrev pub invariant-loop-conn : goal.invariant-loop-conn
invariant-loop-conn l = record {
  state : sweep (counted_from l.conn (drop l.conn l.fn.self.state.outbox.links)) l.self ≡ sweep (counted_from 0 l.fn.self.state.outbox.links) l.fn.self;
  outbox : l.self.state.outbox ≡ l.fn.self.state.outbox;
}
