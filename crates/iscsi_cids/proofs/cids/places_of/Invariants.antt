use Rattle.iscsi_cids.specs.Cids.{TellsPlaces}
use Rattle.iscsi_cids.proofs.cids.places_of.Given as goal

-- the table tells the places so far
abbrev pub invariant-loop-place : goal.invariant-loop-place
invariant-loop-place l = TellsPlaces l.places.items l.cids l.place
