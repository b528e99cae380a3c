use Rattle.std.proofs.Common.{arith}
use Rattle.std.proofs.lemmas.Bool.Decides.{nat_tests}
use Rattle.iscsi_window.proofs.RingLemmas.{ring_long, ring_at, ring_set}
use Rattle.iscsi_window.proofs.place_ring.PlaceRing.hold.Goals as goal

pub returns-clause-state : goal.returns-clause-state
returns-clause-state c = grind (arith, nat_tests, ring_long, ring_at, ring_set)
