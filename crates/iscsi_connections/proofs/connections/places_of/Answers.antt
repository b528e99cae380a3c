use Rattle.iscsi_connections.proofs.PlaceLemmas.{told_more}
use Rattle.iscsi_connections.proofs.connections.places_of.Goals as goal

pub loop-place-preserved : goal.loop-place-preserved
loop-place-preserved c = told_more c.loop-place.places.items c.put.new.places.items c.args.list.now c.loop-place.place _ c.loop-place.invariant c.requires.distinct c.loop-place-test.true c.requires.few (λ other. c.in_ok-put.ensures other)
