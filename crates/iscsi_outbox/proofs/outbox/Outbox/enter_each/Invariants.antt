use Rattle.std.proofs.Common.{◌≡◌, drop}
use Rattle.iscsi_outbox_steps.specs.Steps.{enter_each}
use Rattle.iscsi_outbox.proofs.outbox.Outbox.enter_each.Given as goal

abbrev pub invariant-loop-effect : goal.invariant-loop-effect
invariant-loop-effect l = enter_each l.request (drop l.effect-index l.item) l.self ≡ enter_each l.request l.item l.fn.self
