use Rattle.std.proofs.Common.{◌≡◌, drop}
use Rattle.iscsi_outbox_steps.specs.Steps.{counted_from}
use Rattle.iscsi_outbox.specs.private.Walks.{close_where}
use Rattle.iscsi_outbox.proofs.outbox.Outbox.close_all.Given as goal

abbrev pub invariant-loop-conn : goal.invariant-loop-conn
invariant-loop-conn l = record {
  state : close_where l.by l.before (counted_from l.conn (drop l.conn l.fn.self.links)) l.self ≡ close_where l.by l.before (counted_from 0 l.fn.self.links) l.fn.self;
  limits : l.self.limits ≡ l.fn.self.limits;
}
