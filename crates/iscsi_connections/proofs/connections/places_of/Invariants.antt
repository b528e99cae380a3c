use Rattle.iscsi_connections.specs.Placed.{TellsPlaces}
use Rattle.iscsi_connections.proofs.connections.places_of.Given as goal

-- the table tells the places so far
abbrev pub invariant-loop-place : goal.invariant-loop-place
invariant-loop-place l = TellsPlaces l.places.items l.list l.place
