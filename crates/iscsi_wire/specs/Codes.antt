-- The codes of requests and replies by their names (RFC 7143 sections 11.2.1.2, 11.5.1, 11.6.1, 11.14.1, 11.15.1 and 11.17.1, RFC 7144).
use Rattle.std.specs.Prelude.{ℕ, ◌==◌, if◌then◌else◌}
use Rattle.iscsi_wire.specs.declared.request.Request.{Request}
use Rattle.iscsi_wire.specs.Fields.{opcode, function}
use Rattle.iscsi_wire.specs.declared.opcode.Opcode.{Opcode}
use Rattle.iscsi_wire.specs.declared.opcode.Opcode.TheVariants.{NopOut, ScsiCommand, TaskManagement, Text, DataOut, Logout, Snack, Unknown}
use Rattle.iscsi_wire.specs.declared.function.Function.{Function}
use Rattle.iscsi_wire.specs.declared.function.Function.TheVariants.{AbortTask, AbortTaskSet, ClearTaskSet, LogicalUnitReset, TaskReassign, QueryTask, QueryTaskSet, Unsupported}
use Rattle.iscsi_wire.specs.declared.logout.LogoutReason.{LogoutReason}
use Rattle.iscsi_wire.specs.declared.logout.LogoutReason.TheVariants.{CloseSession, CloseConn, RemoveForRecovery, Unknown as UnknownReason}
use Rattle.iscsi_wire.specs.declared.logout.LogoutResponse.{LogoutResponse}
use Rattle.iscsi_wire.specs.declared.logout.LogoutResponse.TheVariants.{Closed, NoConn, NoRecovery}
use Rattle.iscsi_wire.specs.declared.reject.RejectReason.{RejectReason}
use Rattle.iscsi_wire.specs.declared.reject.RejectReason.TheVariants.{NotSupported as CommandNotSupported, TooManyImmediate, TaskInProgress, InvalidField}
use Rattle.iscsi_wire.specs.declared.function.FunctionResponse.{FunctionResponse}
use Rattle.iscsi_wire.specs.declared.function.FunctionResponse.TheVariants.{Complete, NoTask, NoUnit, NoReassignment, NotSupported, Succeeded, Rejected}

-- ---- what comes

abbrev pub opcode_named : Request → Opcode
opcode_named r =
    if opcode r == 0x00 then NopOut
    else (if opcode r == 0x01 then ScsiCommand
    else (if opcode r == 0x02 then TaskManagement
    else (if opcode r == 0x04 then Text
    else (if opcode r == 0x05 then DataOut
    else (if opcode r == 0x06 then Logout
    else (if opcode r == 0x10 then Snack
    else Unknown))))))

abbrev pub function_named : Request → Function
function_named r =
    if function r == 1 then AbortTask
    else (if function r == 2 then AbortTaskSet
    else (if function r == 4 then ClearTaskSet
    else (if function r == 5 then LogicalUnitReset
    else (if function r == 8 then TaskReassign
    else (if function r == 9 then QueryTask
    else (if function r == 10 then QueryTaskSet
    else Unsupported))))))

abbrev pub logout_reason_named : Request → LogoutReason
logout_reason_named r =
    if function r == 0 then CloseSession
    else (if function r == 1 then CloseConn
    else (if function r == 2 then RemoveForRecovery
    else UnknownReason))

-- ---- what goes out

abbrev pub response_code : FunctionResponse → ℕ
response_code Complete = 0
response_code NoTask = 1
response_code NoUnit = 2
response_code NoReassignment = 4
response_code NotSupported = 5
response_code Succeeded = 7
response_code Rejected = 255

abbrev pub reason_code : RejectReason → ℕ
reason_code CommandNotSupported = 5
reason_code TooManyImmediate = 6
reason_code TaskInProgress = 7
reason_code InvalidField = 9

abbrev pub logout_response_code : LogoutResponse → ℕ
logout_response_code Closed = 0
logout_response_code NoConn = 1
logout_response_code NoRecovery = 2
