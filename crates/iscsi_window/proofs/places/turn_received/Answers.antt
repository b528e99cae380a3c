use Rattle.std.proofs.Common.{arith, ◌<◌, length}
use Rattle.std.proofs.lemmas.Bool.Decides.{nat_tests}
use Rattle.std.proofs.lemmas.List.{get_or_past}
use Rattle.iscsi_window.proofs.TurnLemmas.{first_turned}
use Rattle.iscsi_window.proofs.places.turn_received.Goals as goal

pub invariant_of-places : goal.invariant_of-places
invariant_of-places c =
    let i = c.places.inside in
    let some : 0 < length i.ring = grind (arith, nat_tests, get_or_past) in
    rw (c.lower.ensures, c.count_held-held.ensures, c.turn.ensures)
    (first_turned i.tags i.bounds i.labels i.filled i.turned i.received i.held i.ring c.places.invariant some c.first-first.result.now c.clear.new.self c.first-first.ensures (grind (arith, nat_tests)) c.clear.ensures)
