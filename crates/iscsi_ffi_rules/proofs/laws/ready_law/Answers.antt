use Rattle.iscsi_ffi_rules.proofs.ReadyTheorem.{ready_holds}
use Rattle.iscsi_ffi_rules.proofs.laws.ready_law.Goals as goal

pub returns : goal.returns
returns c = record { ready = ready_holds }
