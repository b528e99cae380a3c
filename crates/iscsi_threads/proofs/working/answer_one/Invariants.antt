use Rattle.std.proofs.Common.{◌≡◌}
use Rattle.iscsi_threads.specs.rules.Ports.{taken, answered, unit_rings}
use Rattle.iscsi_threads.proofs.working.answer_one.Given as goal

abbrev pub invariant-loop : goal.invariant-loop
invariant-loop g l = record {
  rings : unit_rings l.port ≡ unit_rings l.initial.port;
  taken : taken l.port ≡ taken l.initial.port;
  answered : answered l.port ≡ answered l.initial.port;
  job : l.job ≡ l.initial.job;
}
