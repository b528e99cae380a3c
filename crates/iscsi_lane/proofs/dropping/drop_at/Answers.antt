use Rattle.iscsi_lane.proofs.StampLemmas.{within_at}
use Rattle.iscsi_lane.proofs.dropping.drop_at.Goals as goal

pub at-requires : goal.at-requires
at-requires c = within_at c.args.log.now c.known.ensures.apart 2 c.args.slot c.requires.there
