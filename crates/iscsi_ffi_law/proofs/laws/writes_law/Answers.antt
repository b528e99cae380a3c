use Rattle.iscsi_ffi_law.proofs.sending.Writing.{writes_alike}
use Rattle.iscsi_ffi_law.proofs.laws.writes_law.Goals as goal

pub returns : goal.returns
returns c = record { alike = writes_alike }
