use Rattle.iscsi_ffi_rules.proofs.NeedTheorem.{needed_no_more, keeps_needed}
use Rattle.iscsi_ffi_rules.proofs.laws.needed_law.Goals as goal

pub returns-clause-over : goal.returns-clause-over
returns-clause-over c = needed_no_more

pub returns-clause-kept : goal.returns-clause-kept
returns-clause-kept c = keeps_needed
