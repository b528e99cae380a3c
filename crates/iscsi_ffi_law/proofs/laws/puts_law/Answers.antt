use Rattle.iscsi_ffi_law.proofs.own_pdus.Putting.{puts_alike}
use Rattle.iscsi_ffi_law.proofs.laws.puts_law.Goals as goal

pub returns : goal.returns
returns c = record { alike = puts_alike }
