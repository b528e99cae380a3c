use Rattle.std.proofs.Common.{◌≡◌, ◌==◌, drop}
use Rattle.std.specs.List.{list_any}
use Rattle.iscsi_outbox_steps.specs.Steps.{closed_in}
use Rattle.iscsi_outbox.proofs.outbox.Outbox.closes.Given as goal

abbrev pub invariant-loop-effect : goal.invariant-loop-effect
invariant-loop-effect l = list_any (λ p. p == l.conn) (closed_in l.self (drop l.effect-index l.item)) ≡ list_any (λ p. p == l.conn) (closed_in l.self l.item)
