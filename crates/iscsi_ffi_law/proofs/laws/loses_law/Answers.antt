use Rattle.iscsi_ffi_law.proofs.losses.Losing.{loses_closed}
use Rattle.iscsi_ffi_law.proofs.losses.LossLaw.{loses_open}
use Rattle.iscsi_ffi_law.proofs.laws.loses_law.Goals as goal

pub returns-clause-alike : goal.returns-clause-alike
returns-clause-alike c = loses_closed

pub returns-clause-unclosed : goal.returns-clause-unclosed
returns-clause-unclosed c = loses_open
