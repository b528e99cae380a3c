-- What a desk is opened with.
use Rattle.std.specs.Prelude.{◌&&◌, Bool, [], Option, Some, None, if◌then◌else◌}
use Rattle.iscsi_outbox.specs.declared.fault.OutboxFault.{OutboxFault}
use Rattle.iscsi_outbox.specs.declared.fault.OutboxFault.TheVariants.{BadOptions}
use Rattle.iscsi_outbox.specs.promises.Options.{is_valid as is_valid_outbox, is_within, limits_of}
use Rattle.iscsi_ffi_steps.specs.State.{opened_with}
use Rattle.iscsi_ffi_steps.specs.Walk.{Doing}
use Rattle.iscsi_ffi_desk.specs.declared.desk.opening.DeskOptions.{DeskOptions}

abbrev pub is_valid : DeskOptions → Bool
is_valid o = is_valid_outbox o.outbox && is_within o.unwritten 1024

abbrev pub refusal_of : DeskOptions → Option OutboxFault
refusal_of o = if is_valid o then None else Some BadOptions

-- nothing was told yet
abbrev pub opened : DeskOptions → Doing
opened o = record { state = opened_with o.unwritten (limits_of o.outbox) o.outbox.first; actions = []; forgets = [] }
