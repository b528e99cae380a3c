use Rattle.std.proofs.Common.{◌≡◌}
use Rattle.iscsi_threads.specs.rules.Ports.{posted, port_ring}
use Rattle.iscsi_threads.proofs.posting.post_one.Given as goal

abbrev pub invariant-loop : goal.invariant-loop
invariant-loop g l = (port_ring l.port ≡ port_ring l.initial.port) × (posted l.port ≡ posted l.initial.port)
