use Rattle.std.proofs.Common.{◌≡◌, map}
use Rattle.iscsi_threads.specs.rules.Ports.{taken, answered, unit_rings}
use Rattle.iscsi_threads.specs.promises.Outcomes.{ticket_of}
use Rattle.iscsi_threads.specs.rules.Works.{ticket_answered}
use Rattle.iscsi_threads.proofs.working.work_all.Given as goal

abbrev pub invariant-loop : goal.invariant-loop
invariant-loop g l = record {
  rings : unit_rings l.port ≡ unit_rings l.initial.port;
  turn : map ticket_answered (answered l.port) ≡ map ticket_of (taken l.port);
}
