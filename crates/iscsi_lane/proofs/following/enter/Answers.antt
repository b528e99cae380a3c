use Rattle.iscsi_outbox_state.specs.declared.lane.Aim.TheVariants.{Tag, Unit as AtUnit}
use Rattle.iscsi_lane.specs.Standings.{slots_at}
use Rattle.iscsi_lane.proofs.MirrorLemmas.{no_line}
use Rattle.iscsi_lane.proofs.following.enter.Goals as goal

pub push-requires-clause-none : goal.push-requires-clause-none
push-requires-clause-none c =
    no_line AtUnit c.args.units.now c.args.log.now.values (slots_at c.args.log.now 2) c.requires.of_units c.args.left.command c.known.ensures.ascending c.requires.none

pub push-requires-2-clause-none : goal.push-requires-2-clause-none
push-requires-2-clause-none c =
    no_line Tag c.args.tags.now c.args.log.now.values (slots_at c.args.log.now 2) c.requires.of_tags c.args.left.command c.known-2.ensures.ascending c.requires.none
