use Rattle.std.proofs.Common.{◌≡◌, ◌+◌, ◌≤◌, drop, vec_len, vec_capacity}
use Rattle.std.specs.Vec.Iter.{into_iter_items, into_iter_len}
use Rattle.iscsi_threads.specs.private.Promises.{AllWorks}
use Rattle.iscsi_threads.proofs.working.start_works.Given as goal

abbrev pub invariant-loop-port : goal.invariant-loop-port
invariant-loop-port g l = record {
  count : vec_len l.handles ≡ l.unit;
  rest : into_iter_items l.port-iterator ≡ drop l.unit l.fn.ports.items;
  left : l.unit + into_iter_len l.port-iterator ≡ vec_len l.fn.ports;
  room : vec_len l.fn.ports ≤ vec_capacity l.handles;
  started : AllWorks l.handles.items l.fn.ports.items l.unit;
}
