-- What becomes of a request that arrives. For private contracts alone.
use Rattle.std.specs.Prelude.{ℕ, List, Option, Some, None, if◌then◌else◌}
use Rattle.iscsi_wire.specs.declared.request.Request.{Request}
use Rattle.iscsi_rules.specs.declared.effect.Effect.{Effect}
use Rattle.iscsi_ffi_steps.specs.Walk.{Doing}
use Rattle.iscsi_ffi_steps.specs.Steps.{hold, is_held_first}

-- its place, if it isn't held
abbrev pub own_of : Request → ℕ → List Effect → Option ℕ
own_of r place effects = if is_held_first r effects then None else Some place

-- it is held, if it is received
abbrev pub held_of : Request → ℕ → List Effect → Doing → Doing
held_of r place effects d = if is_held_first r effects then hold r place d else d
