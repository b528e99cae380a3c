use Rattle.iscsi_ffi_law.proofs.sending.NextCalls.{nexts_alike}
use Rattle.iscsi_ffi_law.proofs.laws.nexts_law.Goals as goal

pub returns : goal.returns
returns c = record { alike = nexts_alike }
