use Rattle.iscsi_ffi_law.proofs.arrivals.Arrivals.{arrives_alike}
use Rattle.iscsi_ffi_law.proofs.laws.arrives_law.Goals as goal

pub returns : goal.returns
returns c = record { alike = arrives_alike }
