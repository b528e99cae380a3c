use Rattle.iscsi_ffi_law.proofs.commands.Stopping.{completes_alike}
use Rattle.iscsi_ffi_law.proofs.laws.completes_law.Goals as goal

pub returns : goal.returns
returns c = record { alike = completes_alike }
