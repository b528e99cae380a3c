use Rattle.std.proofs.Common.{◌≡◌, ◌<◌, ℕ, map, vec_len, get_or}
use Rattle.iscsi_threads.specs.declared.port.Port.{Port}
use Rattle.iscsi_threads.specs.declared.inlet.Inlet.{Inlet}
use Rattle.iscsi_threads.specs.rules.Ports.{posted, port_ring}
use Rattle.iscsi_threads.specs.rules.Outlets.{got, inlet_ring}
use Rattle.iscsi_threads.proofs.quiet.are_empty.Given as goal

abbrev pub invariant-loop-place : goal.invariant-loop-place
invariant-loop-place l = record {
  all_got : map got l.inlets.items ≡ map got l.initial.inlets.items;
  all_posted : map posted l.ports.items ≡ map posted l.initial.ports.items;
  inlet_rings : map inlet_ring l.inlets.items ≡ map inlet_ring l.initial.inlets.items;
  port_rings : map port_ring l.ports.items ≡ map port_ring l.initial.ports.items;
  inlets_len : vec_len l.inlets ≡ vec_len l.initial.inlets;
  ports_len : vec_len l.ports ≡ vec_len l.initial.ports;
  empty : (k : ℕ) (p : Port) (inlet : Inlet) → k < l.place → posted (get_or l.initial.ports.items k p) ≡ got (get_or l.initial.inlets.items k inlet);
}
