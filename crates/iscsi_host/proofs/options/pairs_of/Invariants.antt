use Rattle.std.proofs.Common.{◌≡◌, ◌≤◌, map, take, length, vec_capacity}
use Rattle.iscsi_host.specs.Plain.{connection_pair}
use Rattle.iscsi_host.proofs.options.pairs_of.Given as goal

-- the pairs of the connections so far
abbrev pub invariant-loop-connection : goal.invariant-loop-connection
invariant-loop-connection l = record {
  pairs : l.pairs.items ≡ map connection_pair (take l.connection-index l.connections);
  room : length l.connections ≤ vec_capacity l.pairs;
}
