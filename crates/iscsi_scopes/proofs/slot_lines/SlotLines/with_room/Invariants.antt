use Rattle.iscsi_scopes.proofs.ScopeOpening.{IsOpening}
use Rattle.iscsi_scopes.proofs.slot_lines.SlotLines.with_room.Given as goal

-- so many slots went outside
abbrev pub invariant-loop : goal.invariant-loop
invariant-loop l = IsOpening l.lists l.fn.lines l.room l.counter
