use Rattle.iscsi_ffi_desk.proofs.OutboxLemmas.{desk_over}
use Rattle.iscsi_ffi_desk.proofs.desk.Desk.next_response.Goals as goal

pub invariant_of-self : goal.invariant_of-self
invariant_of-self c = desk_over _ _ c.next_response-handed.ensures.limits c.self.invariant
