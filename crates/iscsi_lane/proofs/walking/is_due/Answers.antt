use Rattle.std.proofs.Common.{◌∙◌, sym, arith}
use Rattle.iscsi_lane.proofs.StampLemmas.{within_at}
use Rattle.iscsi_lane.proofs.walking.is_due.Goals as goal

pub is_among-requires-clause-slot : goal.is_among-requires-clause-slot
is_among-requires-clause-slot c = let a = within_at c.args.log.now c.known.ensures.apart 2 c.args.slot c.requires.there in let b = c.requires.long in omega (arith, a, b)

pub returns : goal.returns
returns c = c.is_among.ensures ∙ c.requires.told c.args.slot c.args.answer c.requires.there c.requires.is (sym c.is_untold.ensures ∙ c.if-is_untold.false)
