use Rattle.iscsi_ffi_law.proofs.resets.Resetting.{clears_alike}
use Rattle.iscsi_ffi_law.proofs.laws.clears_law.Goals as goal

pub returns : goal.returns
returns c = record { alike = clears_alike }
