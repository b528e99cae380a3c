use Rattle.std.proofs.Common.{◌+◌, ◌-◌, ◌≤◌}
use Rattle.iscsi_lane.proofs.OpeningLemmas.{IsOpening}
use Rattle.iscsi_lane.proofs.standings.Standings.with_room.Given as goal

-- so many answers have slots
abbrev pub invariant-loop : goal.invariant-loop
invariant-loop l = record {
  opening : IsOpening l.log (l.fn.commands + l.fn.answers - l.counter) (l.fn.commands + l.fn.answers - l.counter) l.counter (l.fn.commands + l.fn.answers);
  within : l.counter ≤ l.fn.answers;
}

-- and so many commands
abbrev pub invariant-loop-2 : goal.invariant-loop-2
invariant-loop-2 l = record {
  opening : IsOpening l.log l.fn.commands (l.fn.commands - l.counter) l.fn.answers (l.fn.commands + l.fn.answers);
  within : l.counter ≤ l.fn.commands;
}
