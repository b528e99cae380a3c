use Rattle.iscsi_ffi_law.proofs.completions.DoneCalls.{done_alike, stopped_alike}
use Rattle.iscsi_ffi_law.proofs.laws.done_law.Goals as goal

pub returns-clause-alike : goal.returns-clause-alike
returns-clause-alike c = done_alike

pub returns-clause-stops : goal.returns-clause-stops
returns-clause-stops c = stopped_alike
