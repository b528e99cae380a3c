use Rattle.iscsi_ffi_law.proofs.calls.Quiet.{hears_alike}
use Rattle.iscsi_ffi_law.proofs.laws.hears_law.Goals as goal

pub returns : goal.returns
returns c = record { alike = hears_alike }
