use Rattle.std.proofs.Common.{◌≡◌, length}
use Rattle.iscsi_requests.specs.Conns.{of_conn}
use Rattle.iscsi_ffi_desk.proofs.DropLemmas.{drop_all_unwritten}
use Rattle.iscsi_ffi_desk.proofs.desk.Desk.drop_unwritten.Given as goal

-- some were dropped: it makes no odds whether that is done before all are
abbrev pub invariant-loop-request : goal.invariant-loop-request
invariant-loop-request l = record {
  state : drop_all_unwritten l.conn l.self ≡ drop_all_unwritten l.fn.conn l.fn.self;
  outbox : l.self.state.outbox ≡ l.fn.self.state.outbox;
}

abbrev pub decreases-loop-request : goal.decreases-loop-request
decreases-loop-request l = length (of_conn l.conn l.self.state.unwritten.handed)
