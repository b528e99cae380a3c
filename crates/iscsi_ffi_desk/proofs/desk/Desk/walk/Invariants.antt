use Rattle.std.proofs.Common.{◌≡◌, drop, nat_eq, true}
use Rattle.iscsi_ffi_steps.specs.Walk.{on_effects}
use Rattle.iscsi_ffi_steps.specs.Steps.{walk_from}
use Rattle.iscsi_ffi_desk.specs.Courses.{walk_of}
use Rattle.iscsi_ffi_desk.proofs.desk.Desk.walk.Given as goal

abbrev pub invariant-loop-at : goal.invariant-loop-at
invariant-loop-at l = on_effects (nat_eq l.at 0) (drop l.at l.effects) (walk_of l.self l.course) ≡ on_effects true l.effects (walk_from l.fn.own l.fn.self)
