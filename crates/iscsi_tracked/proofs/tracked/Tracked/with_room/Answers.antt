use Rattle.std.proofs.Common.{[], sym, subst}
use Rattle.iscsi_tickets.specs.Tickets.{Known, known}
use Rattle.iscsi_tracked.specs.Kept.{AreTracked}
use Rattle.iscsi_tracked.proofs.StateLemmas.{opened_are}
use Rattle.iscsi_tracked.proofs.tracked.Tracked.with_room.Goals as goal

pub invariant_of-result : goal.invariant_of-result
invariant_of-result c =
    subst (λ (t : Known). AreTracked t c.in_ok-with_room-2.field-0) (sym c.in_ok-with_room.ensures)
    (subst (AreTracked (known [] 0 c.args.room)) (sym c.in_ok-with_room-2.ensures) (opened_are c.args.conns c.args.room))
