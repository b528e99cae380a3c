use Rattle.std.proofs.Common.{◌≡◌, drop}
use Rattle.iscsi_ffi_steps.specs.Steps.{close_each}
use Rattle.iscsi_ffi_desk.proofs.desk.Desk.tell_each_closed.Given as goal

abbrev pub invariant-loop-conn : goal.invariant-loop-conn
invariant-loop-conn l = record {
  state : close_each l.conn (drop l.conn l.fn.self.state.outbox.limits.cids) l.self ≡ close_each 0 l.fn.self.state.outbox.limits.cids l.fn.self;
  outbox : l.self.state.outbox ≡ l.fn.self.state.outbox;
}
