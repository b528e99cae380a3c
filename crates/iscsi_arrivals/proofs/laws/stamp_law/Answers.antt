use Rattle.iscsi_arrivals.proofs.LastLemmas.{same_stamp}
use Rattle.iscsi_arrivals.proofs.laws.stamp_law.Goals as goal

pub returns : goal.returns
returns c = same_stamp
