use Rattle.std.proofs.Common.{◌≡◌, drop}
use Rattle.iscsi_outbox_steps.specs.Steps.{aim_of_logout}
use Rattle.iscsi_outbox.proofs.outbox.Outbox.aim_of_logout.Given as goal

abbrev pub invariant-loop-at : goal.invariant-loop-at
invariant-loop-at l = aim_of_logout (drop l.at l.item) l.self ≡ aim_of_logout l.item l.self
