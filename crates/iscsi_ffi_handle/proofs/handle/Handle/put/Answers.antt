use Rattle.iscsi_ffi_handle.proofs.CallLemmas.{not_called}
use Rattle.iscsi_ffi_handle.proofs.handle.Handle.put.Goals as goal

pub returns-in-Err-clause-call : goal.returns-in-Err-clause-call
returns-in-Err-clause-call c = λ long. not_called _ _ _ _ _ _ c.in-Err.ensures.refused
