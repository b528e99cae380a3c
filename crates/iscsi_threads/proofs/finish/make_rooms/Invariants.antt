use Rattle.std.proofs.Common.{◌≡◌, ◌≤◌, vec_len, vec_capacity}
use Rattle.iscsi_threads.specs.private.Finishing.{AllReady}
use Rattle.iscsi_threads.proofs.finish.make_rooms.Given as goal

abbrev pub invariant-loop : goal.invariant-loop
invariant-loop g l = (vec_len l.rooms ≡ l.counter) × AllReady l.rooms.items × (l.rings ≤ vec_capacity l.rooms)
