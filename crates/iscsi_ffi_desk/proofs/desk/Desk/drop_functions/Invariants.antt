use Rattle.std.proofs.Common.{◌≡◌, drop}
use Rattle.iscsi_outbox_steps.specs.Steps.{counted_from}
use Rattle.iscsi_ffi_steps.specs.Walk.{drop_each_function}
use Rattle.iscsi_ffi_desk.proofs.desk.Desk.drop_functions.Given as goal

abbrev pub invariant-loop-conn : goal.invariant-loop-conn
invariant-loop-conn l = record {
  state : drop_each_function (counted_from l.conn (drop l.conn l.fn.self.state.outbox.links)) l.self ≡ drop_each_function (counted_from 0 l.fn.self.state.outbox.links) l.fn.self;
  outbox : l.self.state.outbox ≡ l.fn.self.state.outbox;
}
