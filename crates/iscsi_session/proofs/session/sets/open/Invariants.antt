use Rattle.iscsi_session.proofs.Names.{◌≡◌, ◌≤◌, replicate, vec_capacity, opened}
use Rattle.iscsi_session.proofs.session.sets.open.Given as goal

-- so many sets are open
abbrev pub invariant-loop : goal.invariant-loop
invariant-loop l = record {
  sets : l.sets.items ≡ replicate l.counter (opened l.fn.depth);
  room : l.fn.units ≤ vec_capacity l.sets;
}
