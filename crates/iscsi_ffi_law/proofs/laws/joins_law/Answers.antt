use Rattle.iscsi_ffi_law.proofs.calls.Quiet.{joins_alike}
use Rattle.iscsi_ffi_law.proofs.laws.joins_law.Goals as goal

pub returns : goal.returns
returns c = record { alike = joins_alike }
