use Rattle.std.proofs.Common.{◌≡◌, drop, filter_map}
use Rattle.iscsi_outbox_rules.specs.rules.Items.{ticket_enabled}
use Rattle.iscsi_ffi_steps.specs.Steps.{start_each}
use Rattle.iscsi_ffi_desk.proofs.desk.Desk.start_enabled.Given as goal

abbrev pub invariant-loop-effect : goal.invariant-loop-effect
invariant-loop-effect l = start_each (filter_map ticket_enabled (drop l.effect-index l.effects)) l.self ≡ start_each (filter_map ticket_enabled l.effects) l.fn.self
