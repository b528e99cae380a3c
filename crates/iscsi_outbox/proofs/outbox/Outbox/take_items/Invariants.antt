use Rattle.std.proofs.Common.{◌≡◌, ◌≤◌, drop, slice_range}
use Rattle.iscsi_rules.specs.promises.Order.{in_parts}
use Rattle.iscsi_outbox_steps.specs.Steps.{after_items}
use Rattle.iscsi_outbox.specs.private.Walks.{before_parts}
use Rattle.iscsi_outbox.proofs.outbox.Outbox.take_items.Given as goal

abbrev pub invariant-loop-at : goal.invariant-loop-at
invariant-loop-at l = record {
  state : after_items (before_parts (slice_range l.effects l.from l.at) (in_parts (drop l.at l.effects))) l.self ≡ after_items (in_parts l.effects) l.fn.self;
  begun : l.from ≤ l.at;
}
