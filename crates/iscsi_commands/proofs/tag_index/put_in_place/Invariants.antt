use Rattle.std.proofs.Common.{◌≡◌, ◌++◌, map, get_or, take, drop}
use Rattle.iscsi_slots.specs.Queued.{queued}
use Rattle.iscsi_commands.proofs.tag_index.put_in_place.Given as goal

abbrev pub invariant-loop : goal.invariant-loop
invariant-loop l = l.others ≡ queued (drop l.counter l.fn.others.items ++ map (λ k. get_or l.to k 0) (take l.counter l.fn.others.items)) l.fn.others.room
