use Rattle.iscsi_recording.proofs.PairLemmas.{weighed_at}
use Rattle.iscsi_recording.proofs.pairs.weighed.Goals as goal

pub returns-clause-upper : goal.returns-clause-upper
returns-clause-upper c = λ j lt. weighed_at c.args.values j c.requires.len c.requires.bytes lt
