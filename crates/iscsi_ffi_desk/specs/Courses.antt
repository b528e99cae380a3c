-- A walk over the effects of an event, as the code keeps it. For private contracts alone.
use Rattle.std.specs.Prelude.{◌≡◌, ℕ, Option, Some, None}
use Rattle.iscsi_wire.specs.declared.request.Request.{Request}
use Rattle.iscsi_tasks.specs.declared.task.Attr.{Attr}
use Rattle.iscsi_ffi_commands.specs.declared.command.Command.{Command}
use Rattle.iscsi_ffi_commands.specs.declared.command.Stage.TheVariants.{Entered}
use Rattle.iscsi_ffi_commands.specs.Commands.{find_ticket}
use Rattle.iscsi_ffi_steps.specs.Walk.{Doing, Walk, reason_by}
use Rattle.iscsi_ffi_desk.specs.declared.course.Course.{Course}

abbrev pub begun : Option ℕ → ℕ → Course
begun own sent = record { current = None; own = own; by = None; sent = sent }

abbrev pub executing : Request → Option ℕ → Course → Course
executing r request c = record { current = request; own = c.own; by = Some (reason_by r request); sent = c.sent }

abbrev pub answering : Course → Option ℕ
answering c = elim (c.current) [ Some request ↦ Some request | None ↦ c.own ]

-- the walk of what is kept, and of how far it has come
abbrev pub walk_of : Doing → Course → Walk
walk_of d c = record { doing = d; current = c.current; own = c.own; by = c.by; sent = c.sent }

-- a command as it enters
abbrev pub entering : ℕ → ℕ → ℕ → Attr → Command
entering ticket request unit attr = record { ticket = ticket; request = request; unit = unit; attr = attr; stage = Entered }

-- the command with this ticket is that of this request, as it entered
abbrev pub HasEntered : ℕ → ℕ → ℕ → Attr → Doing → Type 0
HasEntered ticket request unit attr d = find_ticket ticket d.state.commands ≡ Some (entering ticket request unit attr)
