use Rattle.std.proofs.Common.{◌≡◌, ◌+◌, ◌≤◌, drop, vec_len, vec_capacity}
use Rattle.std.specs.Vec.Iter.{into_iter_items, into_iter_len}
use Rattle.iscsi_threads.specs.private.Promises.{AllWorkedOn}
use Rattle.iscsi_threads.proofs.working.join_works.Given as goal

abbrev pub invariant-loop-handle : goal.invariant-loop-handle
invariant-loop-handle g l = record {
  rest : into_iter_items l.handle-iterator ≡ drop (vec_len l.ports) l.fn.handles.items;
  left : vec_len l.ports + into_iter_len l.handle-iterator ≡ vec_len l.fn.handles;
  room : vec_len l.fn.handles ≤ vec_capacity l.ports;
  done : AllWorkedOn l.fn.handles.items l.ports.items (vec_len l.ports);
}
