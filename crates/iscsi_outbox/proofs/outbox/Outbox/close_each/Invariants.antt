use Rattle.std.proofs.Common.{◌≡◌, drop, length}
use Rattle.iscsi_outbox_steps.specs.Steps.{closed_in}
use Rattle.iscsi_outbox.specs.private.Walks.{close_where}
use Rattle.iscsi_outbox.proofs.outbox.Outbox.close_each.Given as goal

abbrev pub invariant-loop-effect : goal.invariant-loop-effect
invariant-loop-effect l = record {
  state : close_where l.by l.before (closed_in l.fn.self (drop l.effect-index l.item)) l.self ≡ close_where l.by l.before (closed_in l.fn.self l.item) l.fn.self;
  limits : l.self.limits ≡ l.fn.self.limits;
  links : length l.self.links ≡ length l.fn.self.links;
}
