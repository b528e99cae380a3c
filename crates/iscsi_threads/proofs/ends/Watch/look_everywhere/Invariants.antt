use Rattle.std.proofs.Common.{◌≡◌, ℕ, ◌+◌, ◌<◌}
use Rattle.iscsi_threads.specs.private.Watched.{mark}
use Rattle.iscsi_threads.proofs.ends.Watch.look_everywhere.Given as goal

abbrev pub invariant-loop-conn : goal.invariant-loop-conn
invariant-loop-conn l = (n : ℕ) → n < l.conn → mark l.self.rung.words n ≡ 1

abbrev pub invariant-loop-unit : goal.invariant-loop-unit
invariant-loop-unit l = record {
  of_conns : (n : ℕ) → n < l.conns → mark l.self.rung.words n ≡ 1;
  of_units : (u : ℕ) → u < l.unit → mark l.self.rung.words (64 + u) ≡ 1;
}
