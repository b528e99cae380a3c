use Rattle.iscsi_ffi_law.proofs.calls.AllCalls.{calls_alike}
use Rattle.iscsi_ffi_law.proofs.laws.lists_law.Goals as goal

pub returns : goal.returns
returns c = record { alike = calls_alike }
