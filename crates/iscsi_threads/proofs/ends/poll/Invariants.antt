use Rattle.std.proofs.Common.{◌≡◌, map, vec_len}
use Rattle.iscsi_threads.specs.rules.Outlets.{given, heard, outlet_rings, got, inlet_ring}
use Rattle.iscsi_threads.proofs.ends.poll.Given as goal

abbrev pub invariant-loop : goal.invariant-loop
invariant-loop l = record {
  got : map got l.inlets.items ≡ map got l.initial.inlets.items;
  heard : map heard l.outlets.items ≡ map heard l.initial.outlets.items;
  given : map given l.outlets.items ≡ map given l.initial.outlets.items;
  inlets : map inlet_ring l.inlets.items ≡ map inlet_ring l.initial.inlets.items;
  rings : map outlet_rings l.outlets.items ≡ map outlet_rings l.initial.outlets.items;
  next : l.next ≡ l.initial.next;
  inlets_len : vec_len l.inlets ≡ vec_len l.initial.inlets;
  len : vec_len l.outlets ≡ vec_len l.initial.outlets;
}
