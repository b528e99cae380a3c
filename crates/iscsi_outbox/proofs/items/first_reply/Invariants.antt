use Rattle.std.proofs.Common.{◌≡◌, drop, filter_map}
use Rattle.iscsi_rules.specs.rules.Trace.{first_of}
use Rattle.iscsi_outbox_rules.specs.rules.Items.{reply_sent}
use Rattle.iscsi_outbox.proofs.items.first_reply.Given as goal

abbrev pub invariant-loop-effect : goal.invariant-loop-effect
invariant-loop-effect l = first_of (filter_map reply_sent (drop l.effect-index l.item)) ≡ first_of (filter_map reply_sent l.item)
