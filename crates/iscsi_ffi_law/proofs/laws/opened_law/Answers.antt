use Rattle.iscsi_ffi_law.proofs.calls.Opened.{stands_begun}
use Rattle.iscsi_ffi_law.proofs.laws.opened_law.Goals as goal

pub returns : goal.returns
returns c = record { opened = stands_begun }
