use Rattle.std.proofs.Common.{◌≡◌, ◌++◌, map, take, drop, vec_len}
use Rattle.iscsi_connections.specs.Placed.{closed_in}
use Rattle.iscsi_connections.proofs.connections.close_in.Given as goal

-- those before the place are closed
abbrev pub invariant-loop-place : goal.invariant-loop-place
invariant-loop-place l = record {
  items : l.list.items ≡ map (closed_in l.fn.cid) (take l.place l.fn.list.items) ++ drop l.place l.fn.list.items;
  len : vec_len l.list ≡ vec_len l.fn.list;
}
