use Rattle.std.proofs.Common.{◌≡◌, drop}
use Rattle.iscsi_ffi_steps.specs.Steps.{tell_each}
use Rattle.iscsi_ffi_desk.proofs.desk.Desk.tell_each_ready.Given as goal

abbrev pub invariant-loop-conn : goal.invariant-loop-conn
invariant-loop-conn l = record {
  state : tell_each l.conn (drop l.conn l.fn.self.state.outbox.limits.cids) l.self ≡ tell_each 0 l.fn.self.state.outbox.limits.cids l.fn.self;
  outbox : l.self.state.outbox ≡ l.fn.self.state.outbox;
}
