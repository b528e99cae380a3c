use Rattle.std.proofs.Common.{sym, ◌∙◌}
use Rattle.iscsi_recording.proofs.EightLemmas.{lane, below_ten, ten_or_more}
use Rattle.iscsi_recording.proofs.eight.others_of.Goals as goal

pub returns-clause-digit : goal.returns-clause-digit
returns-clause-digit c = λ i lt none. below_ten _ (sym (lane c.args.values i c.requires lt) ∙ none)

pub returns-clause-other : goal.returns-clause-other
returns-clause-other c = λ i lt one. ten_or_more _ (sym (lane c.args.values i c.requires lt) ∙ one)
