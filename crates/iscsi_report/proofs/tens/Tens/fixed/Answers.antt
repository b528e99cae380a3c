use Rattle.iscsi_report.proofs.TensLemmas.{no_tens}
use Rattle.iscsi_report.proofs.tens.Tens.fixed.Goals as goal

pub invariant_of-result : goal.invariant_of-result
invariant_of-result c = record { kept = no_tens _ }
