use Rattle.std.proofs.Common.{◌≡◌, ◌≤◌, [], map, replicate, vec_len, vec_capacity}
use Rattle.iscsi_threads.specs.rules.Ports.{taken, answered, unit_rings}
use Rattle.iscsi_threads.specs.rules.Outlets.{given, heard, outlet_rings}
use Rattle.iscsi_threads.proofs.opening.make_outlets.Given as goal

abbrev pub invariant-loop-unit : goal.invariant-loop-unit
invariant-loop-unit l = record {
  rings : map unit_rings l.ports.items ≡ map outlet_rings l.outlets.items;
  given : map given l.outlets.items ≡ replicate l.unit [];
  heard : map heard l.outlets.items ≡ replicate l.unit [];
  taken : map taken l.ports.items ≡ replicate l.unit [];
  answered : map answered l.ports.items ≡ replicate l.unit [];
  outlets_len : vec_len l.outlets ≡ l.unit;
  ports_len : vec_len l.ports ≡ l.unit;
  outlets_room : l.count ≤ vec_capacity l.outlets;
  ports_room : l.count ≤ vec_capacity l.ports;
}
