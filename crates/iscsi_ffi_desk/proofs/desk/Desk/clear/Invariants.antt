use Rattle.iscsi_ffi_desk.proofs.ClearLemmas.{IsClearing}
use Rattle.iscsi_ffi_desk.proofs.desk.Desk.clear.Given as goal

abbrev pub invariant-loop-gone : goal.invariant-loop-gone
invariant-loop-gone l = IsClearing l.unit l._gone l.next l.fn.self l.self
