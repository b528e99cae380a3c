use Rattle.iscsi_lane.proofs.OrderLemmas.{is_among}
use Rattle.iscsi_lane.proofs.due.is_among.Goals as goal

pub returns : goal.returns
returns c = is_among c.args.stamps.now c.args.due.now c.args.slot c.place_of-k.result c.requires.up c.place_of-k.ensures.below c.place_of-k.ensures.above c.is_at.result c.is_at.ensures.yes c.is_at.ensures.no
