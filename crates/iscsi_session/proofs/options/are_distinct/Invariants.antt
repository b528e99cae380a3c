use Rattle.iscsi_session.proofs.Names.{◌≡◌, drop, are_distinct}
use Rattle.iscsi_session.proofs.options.are_distinct.Given as goal

-- those that were looked at are unlike all after them
abbrev pub invariant-loop-place : goal.invariant-loop-place
invariant-loop-place l = are_distinct l.conns ≡ are_distinct (drop l.place l.conns)
