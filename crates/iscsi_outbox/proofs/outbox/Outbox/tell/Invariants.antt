use Rattle.std.proofs.Common.{◌≡◌, drop, filter_map}
use Rattle.iscsi_outbox_rules.specs.rules.Items.{ticket_enabled}
use Rattle.iscsi_outbox_steps.specs.Steps.{tell}
use Rattle.iscsi_outbox.proofs.outbox.Outbox.tell.Given as goal

abbrev pub invariant-loop-effect : goal.invariant-loop-effect
invariant-loop-effect l = tell (filter_map ticket_enabled (drop l.effect-index l.effects)) l.self ≡ tell (filter_map ticket_enabled l.effects) l.fn.self
