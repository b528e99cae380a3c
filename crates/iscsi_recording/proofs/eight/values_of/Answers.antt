use Rattle.iscsi_recording.proofs.EightLemmas.{value_at}
use Rattle.iscsi_recording.proofs.eight.values_of.Goals as goal

pub returns-clause-values : goal.returns-clause-values
returns-clause-values c = λ i lt. value_at c.args.bytes.now i c.requires lt
