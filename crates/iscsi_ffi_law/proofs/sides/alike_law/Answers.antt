use Rattle.iscsi_ffi_law.proofs.premises.FitAlike.{all_alike}
use Rattle.iscsi_ffi_law.proofs.sides.alike_law.Goals as goal

pub returns : goal.returns
returns c = record { alike = all_alike }
