use Rattle.std.proofs.Common.{ap, sym, subst, ◌∙◌, arith}
use Rattle.std.proofs.lemmas.Bool.Decides.{nat_tests}
use Rattle.iscsi_slots.specs.Places.{AreAscending}
use Rattle.iscsi_commands.specs.Log.{live_in, ticket_of}
use Rattle.iscsi_commands.proofs.LogLemmas.{live_again, kept_up, kept_newest}
use Rattle.iscsi_commands.proofs.live_commands.make_way.Goals as goal

pub close_up-requires-clause-tagged : goal.close_up-requires-clause-tagged
close_up-requires-clause-tagged c = c.forget_ended.ensures.tagged c.args.tags.now.places.items c.args.tags.now.crowded.items c.args.tags.now.others.items c.requires.tagged

pub returns-else-len-live-clause-tagged : goal.returns-else-len-live-clause-tagged
returns-else-len-live-clause-tagged c = c.forget_ended.ensures.tagged c.args.tags.now.places.items c.args.tags.now.crowded.items c.args.tags.now.others.items c.requires.tagged

pub returns-then-len-live-clause-same : goal.returns-then-len-live-clause-same
returns-then-len-live-clause-same c = ap live_in c.close_up.ensures.log ∙ live_again c.forget_ended.new.log.items ∙ c.forget_ended.ensures.same

pub returns-then-len-live-clause-ascending : goal.returns-then-len-live-clause-ascending
returns-then-len-live-clause-ascending c = subst (AreAscending ticket_of) (sym c.close_up.ensures.log) (kept_up c.forget_ended.new.log.items c.forget_ended.ensures.ascending)

pub returns-then-len-live-clause-newest : goal.returns-then-len-live-clause-newest
returns-then-len-live-clause-newest c = grind (arith, nat_tests, kept_newest)
