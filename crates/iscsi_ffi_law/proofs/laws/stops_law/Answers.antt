use Rattle.iscsi_ffi_law.proofs.commands.Stopping.{stops_alike}
use Rattle.iscsi_ffi_law.proofs.laws.stops_law.Goals as goal

pub returns : goal.returns
returns c = record { alike = stops_alike }
