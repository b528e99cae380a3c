use Rattle.std.proofs.Common.{◌≡◌, ℕ, ◌+◌, ◌≤◌, List, [], ◌++◌, length}
use Rattle.iscsi_recording.specs.Reading.{IsReading, left_of, weight}
use Rattle.iscsi_recording.proofs.reading.Reading.take_lines.Given as goal

abbrev pub invariant-lines : goal.invariant-lines
invariant-lines l = record {
  ready : IsReading l.self;
  fresh : l.self.pending.items ≡ [];
  read : (rest : List ℕ) → left_of l.self (l.left ++ rest) ≡ left_of l.initial.self (l.chunk ++ rest);
  more : weight l.initial.self + length l.chunk ≤ weight l.self + length l.left;
}

abbrev pub decreases-lines : goal.decreases-lines
decreases-lines l = length l.left
