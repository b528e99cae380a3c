use Rattle.std.proofs.Common.{◌≡◌, ◌≤◌, [], map, replicate, vec_len, vec_capacity}
use Rattle.iscsi_replay.specs.promises.Threaded.{headers}
use Rattle.iscsi_replay.proofs.threading.empty_lists.Given as goal

abbrev pub invariant-loop-place : goal.invariant-loop-place
invariant-loop-place l = record {
  lists : map headers l.lists.items ≡ replicate l.place [];
  len : vec_len l.lists ≡ l.place;
  room : l.count ≤ vec_capacity l.lists;
}
