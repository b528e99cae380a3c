use Rattle.std.proofs.Common.{◌≡◌, drop}
use Rattle.iscsi_outbox_rules.specs.rules.Items.{tickets_left}
use Rattle.iscsi_outbox_steps.specs.Steps.{leave}
use Rattle.iscsi_outbox.proofs.outbox.Outbox.leave.Given as goal

abbrev pub invariant-loop-effect : goal.invariant-loop-effect
invariant-loop-effect l = leave l.request (tickets_left (drop l.effect-index l.item)) l.self ≡ leave l.request (tickets_left l.item) l.fn.self
