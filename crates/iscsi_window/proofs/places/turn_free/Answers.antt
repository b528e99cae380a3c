use Rattle.std.proofs.Common.{arith, refl, ◌≡◌, ◌<◌, ◌∙◌, ap, length, subst, sym, get_or, None}
use Rattle.iscsi_window.specs.PlaceTags.{Placed}
use Rattle.iscsi_window.proofs.ReceivedLemmas.{turns_into_itself}
use Rattle.iscsi_window.proofs.TurnLemmas.{free_turned, alike_turned}
use Rattle.iscsi_window.proofs.places.turn_free.Goals as goal
use Rattle.iscsi_window.proofs.places.turn_free.Goals.{After-places}

-- there is a first place, where nothing was received
some : (c : After-places) → 0 < length c.places.inside.ring
some c = subst (λ (b : Placed). 0 < length b.items) (sym c.places.view_is) c.requires.some

free : (c : After-places) → get_or c.places.inside.ring 0 None ≡ None
free c = ap (λ (b : Placed). get_or b.items 0 None) c.places.view_is ∙ c.requires.free

pub invariant_of-places : goal.invariant_of-places
invariant_of-places c = let i = c.places.inside in let here = (goal.at.invariant_of-places c).After-places in alike_turned i.tags i.bounds i.labels i.filled i.turned i.received i.held i.ring c.places.invariant (some here) c.if-places-eq0.true (free here)

pub returns-then-places-eq0 : goal.returns-then-places-eq0
returns-then-places-eq0 c = let i = c.places.inside in let here = (goal.at.returns-then-places-eq0 c).After-places in
    rw (sym c.places.view_is, turns_into_itself i.ring (some here) (omega (arith, c.if-places-eq0.true, c.places.invariant.sound.as_many))) refl

pub invariant_of-places-2 : goal.invariant_of-places-2
invariant_of-places-2 c = let i = c.places.inside in let here = (goal.at.invariant_of-places-2 c).After-places in rw c.turn_free.ensures (free_turned i.tags i.bounds i.labels i.filled i.turned i.received i.held i.ring c.places.invariant (some here) (free here))
