use Rattle.std.proofs.Common.{◌≡◌, drop, None}
use Rattle.iscsi_outbox_rules.specs.rules.Items.{tickets_left}
use Rattle.iscsi_outbox_steps.specs.Steps.{is_numbered}
use Rattle.iscsi_outbox.proofs.outbox.Outbox.completes_numbered.Given as goal

abbrev pub invariant-loop-effect : goal.invariant-loop-effect
invariant-loop-effect l = is_numbered l.self None (tickets_left (drop l.effect-index l.item)) ≡ is_numbered l.self None (tickets_left l.item)
