use Rattle.std.proofs.Common.{◌≡◌, ◌≤◌, [], map, replicate, vec_len, vec_capacity}
use Rattle.iscsi_threads.specs.rules.Ports.{posted, port_ring}
use Rattle.iscsi_threads.specs.rules.Outlets.{got, inlet_ring}
use Rattle.iscsi_threads.proofs.opening.make_inlets.Given as goal

abbrev pub invariant-loop-place : goal.invariant-loop-place
invariant-loop-place l = record {
  rings : map port_ring l.ports.items ≡ map inlet_ring l.inlets.items;
  got : map got l.inlets.items ≡ replicate l.place [];
  posted : map posted l.ports.items ≡ replicate l.place [];
  inlets_len : vec_len l.inlets ≡ l.place;
  ports_len : vec_len l.ports ≡ l.place;
  inlets_room : l.count ≤ vec_capacity l.inlets;
  ports_room : l.count ≤ vec_capacity l.ports;
}
