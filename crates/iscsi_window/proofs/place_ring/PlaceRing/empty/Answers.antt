use Rattle.std.proofs.Common.{arith}
use Rattle.std.proofs.lemmas.Bool.Decides.{nat_tests}
use Rattle.iscsi_window.proofs.RingLemmas.{ring_long, ring_set}
use Rattle.iscsi_window.proofs.place_ring.PlaceRing.empty.Goals as goal

pub returns : goal.returns
returns c = grind (arith, nat_tests, ring_long, ring_set)
