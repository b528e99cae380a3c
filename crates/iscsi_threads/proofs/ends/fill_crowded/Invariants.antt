use Rattle.std.proofs.Common.{◌≡◌, ◌≤◌, map, vec_len}
use Rattle.iscsi_threads.specs.rules.Outlets.{given, heard, outlet_rings}
use Rattle.iscsi_threads.proofs.ends.fill_crowded.Given as goal

abbrev pub invariant-loop : goal.invariant-loop
invariant-loop l = record {
  given : map given l.outlets.items ≡ map given l.initial.outlets.items;
  heard : map heard l.outlets.items ≡ map heard l.initial.outlets.items;
  rings : map outlet_rings l.outlets.items ≡ map outlet_rings l.initial.outlets.items;
  len : vec_len l.outlets ≡ vec_len l.initial.outlets;
  first : l.first ≤ 320;
}
