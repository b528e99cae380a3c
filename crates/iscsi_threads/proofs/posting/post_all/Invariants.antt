use Rattle.std.proofs.Common.{◌≡◌, ◌++◌, take}
use Rattle.iscsi_threads.specs.rules.Ports.{posted, port_ring}
use Rattle.iscsi_threads.proofs.posting.post_all.Given as goal

abbrev pub invariant-loop-header : goal.invariant-loop-header
invariant-loop-header g l = record {
  ring : port_ring l.port ≡ port_ring l.initial.port;
  posted : posted l.port ≡ posted l.initial.port ++ take l.header-index l.list;
}
