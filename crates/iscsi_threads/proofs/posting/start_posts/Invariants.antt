use Rattle.std.proofs.Common.{◌≡◌, ◌+◌, ◌≤◌, drop, vec_len, vec_capacity}
use Rattle.std.specs.Vec.Iter.{into_iter_items, into_iter_len}
use Rattle.iscsi_threads.specs.private.Promises.{AllPosts}
use Rattle.iscsi_threads.proofs.posting.start_posts.Given as goal

abbrev pub invariant-loop-port : goal.invariant-loop-port
invariant-loop-port g l = record {
  count : vec_len l.handles ≡ l.i;
  rest : into_iter_items l.port-iterator ≡ drop l.i l.fn.ports.items;
  left : l.i + into_iter_len l.port-iterator ≡ vec_len l.fn.ports;
  room : vec_len l.fn.ports ≤ vec_capacity l.handles;
  started : AllPosts l.handles.items l.fn.ports.items l.lists l.i;
}
