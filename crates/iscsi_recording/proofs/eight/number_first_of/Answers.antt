use Rattle.iscsi_recording.proofs.EightLemmas.{joined_first}
use Rattle.iscsi_recording.proofs.eight.number_first_of.Goals as goal

pub returns : goal.returns
returns c = joined_first c.args.values c.args.count c.requires.len c.requires.some.0 c.requires.some.1 c.requires.digits
