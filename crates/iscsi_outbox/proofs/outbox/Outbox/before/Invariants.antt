use Rattle.std.proofs.Common.{◌≡◌, ◌<◌, ℕ, false, length, get_or}
use Rattle.iscsi_outbox_steps.specs.State.{link_at}
use Rattle.iscsi_outbox.proofs.outbox.Outbox.before.Given as goal

abbrev pub invariant-loop-conn : goal.invariant-loop-conn
invariant-loop-conn l = record {
  each : (k : ℕ) → k < l.conn → get_or l.before k false ≡ (link_at l.self k).closed;
  long : length l.before ≡ 64;
}
