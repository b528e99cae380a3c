use Rattle.std.proofs.Common.{◌≡◌, map}
use Rattle.iscsi_threads.specs.rules.Ports.{posted, port_ring}
use Rattle.iscsi_threads.specs.rules.Loops.{SameLoop}
use Rattle.iscsi_threads.proofs.serving.turn_until_quiet.Given as goal

abbrev pub invariant-loop : goal.invariant-loop
invariant-loop g l = record {
  same : SameLoop l.initial.core l.core;
  rings : map port_ring l.ports.items ≡ map port_ring l.initial.ports.items;
  posted : map posted l.ports.items ≡ map posted l.initial.ports.items;
}
