use Rattle.std.proofs.Common.{◌≤◌, All, take}
use Rattle.iscsi_session.proofs.session.waiting.lowest_among.Given as goal

abbrev pub invariant-loop-function : goal.invariant-loop-function
invariant-loop-function l = All (λ w. l.lowest ≤ w.turn) (take l.function-index l.waiting)
