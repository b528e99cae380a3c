use Rattle.std.proofs.Common.{◌≡◌, ◌≤◌, length, vec_len, vec_capacity}
use Rattle.iscsi_threads.specs.private.Finishing.{AllReadyFor}
use Rattle.iscsi_threads.proofs.finish.make_job_rooms.Given as goal

abbrev pub invariant-loop-outlet : goal.invariant-loop-outlet
invariant-loop-outlet l = record {
  len : vec_len l.rooms ≡ l.outlet-index;
  ready : AllReadyFor l.outlets l.fresh l.rooms.items l.outlet-index;
  room : length l.outlets ≤ vec_capacity l.rooms;
}
