use Rattle.std.proofs.Common.{◌+◌, ◌∙◌, [], ap, sym, subst, replicate, None}
use Rattle.iscsi_tickets.specs.Tickets.{Known, known}
use Rattle.iscsi_requests.specs.Kept.{AreReplies, NO_REPLY, replies_of}
use Rattle.iscsi_requests.proofs.ReplyLemmas.{opened_are}
use Rattle.iscsi_requests.proofs.ValueLemmas.{none_values}
use Rattle.iscsi_requests.proofs.replies.WaitingReplies.with_room.Goals as goal

pub invariant_of-result : goal.invariant_of-result
invariant_of-result c =
    subst (λ (t : Known). AreReplies t c.in_ok-with_room-2.field-0) (sym c.in_ok-with_room.ensures)
    (subst (AreReplies (known [] 0 c.args.room)) (sym c.in_ok-with_room-2.ensures) (opened_are c.args.conns c.args.room))

pub returns : goal.returns
returns c =
    ap (λ (t : Known). replies_of t c.in_ok-with_room-2.field-0) c.in_ok-with_room.ensures
    ∙ ap (replies_of (known [] 0 c.args.room)) c.in_ok-with_room-2.ensures
    ∙ ap (λ ws. record { waiting = ws; last = None; room = c.args.room }) (none_values NO_REPLY (replicate (c.args.room + 1) NO_REPLY) c.args.conns)
