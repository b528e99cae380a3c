use Rattle.std.proofs.Common.{◌≡◌, ◌≤◌, map, take, length, vec_capacity}
use Rattle.iscsi_connections.specs.Placed.{new_connection}
use Rattle.iscsi_connections.proofs.connections.list_of.Given as goal

-- the connections so far
abbrev pub invariant-loop-conn : goal.invariant-loop-conn
invariant-loop-conn l = record {
  items : l.list.items ≡ map new_connection (take l.conn-index l.conns);
  room : length l.conns ≤ vec_capacity l.list;
}
