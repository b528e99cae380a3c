use Rattle.iscsi_ffi_law.proofs.calls.Quiet.{cleared_alike}
use Rattle.iscsi_ffi_law.proofs.laws.cleared_law.Goals as goal

pub returns : goal.returns
returns c = record { alike = cleared_alike }
