use Rattle.std.proofs.Common.{◌≡◌, ◌≤◌, map, take, length, vec_capacity}
use Rattle.iscsi_ffi.specs.Options.{connection_of}
use Rattle.iscsi_ffi.proofs.options.PlainOptions.of_session.Given as goal

-- the connections so far
abbrev pub invariant-loop-cid : goal.invariant-loop-cid
invariant-loop-cid l = record {
  pairs : l.conns.items ≡ map connection_of (take l.cid-index l.cids);
  room : length l.cids ≤ vec_capacity l.conns;
}
