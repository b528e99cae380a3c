use Rattle.std.proofs.Common.{◌≡◌, drop, filter_map}
use Rattle.iscsi_outbox_rules.specs.rules.Items.{ticket_enabled}
use Rattle.iscsi_outbox_steps.specs.Steps.{enable}
use Rattle.iscsi_outbox.proofs.outbox.Outbox.enable.Given as goal

abbrev pub invariant-loop-effect : goal.invariant-loop-effect
invariant-loop-effect l = enable (filter_map ticket_enabled (drop l.effect-index l.item)) l.self ≡ enable (filter_map ticket_enabled l.item) l.fn.self
