use Rattle.std.proofs.Common.{◌-◌, length}
use Rattle.iscsi_ffi_rules.specs.rules.Calls.{Interface}
use Rattle.iscsi_ffi_steps.specs.Steps.{Going}
use Rattle.iscsi_ffi.specs.Standing.{Begun}
use Rattle.iscsi_ffi.proofs.WithheldLemmas.{IsWithholding}
use Rattle.iscsi_ffi.proofs.side.Side.complete_each.Given as goal

abbrev pub invariant-loop-done : goal.invariant-loop-done
invariant-loop-done l =
    (i : Interface) (g : Going) → Begun i l.fn.self g
    → IsWithholding i (length g.doing.state.commands.items - l._done) (length g.doing.state.commands.items) l.self g
