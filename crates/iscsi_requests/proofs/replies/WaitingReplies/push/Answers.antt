use Rattle.std.proofs.Common.{◌+◌, ◌<◌, ◌∙◌, ◌++◌, [], ◌∷◌, length, ap, sym, subst, arith}
use Rattle.iscsi_tickets.specs.Tickets.{Known, known}
use Rattle.iscsi_requests.specs.Conns.{count_all}
use Rattle.iscsi_requests.specs.Replies.{IsAbove, WaitingReplies, pushed}
use Rattle.iscsi_requests.specs.Kept.{AreReplies, NO_REPLY, replies_of}
use Rattle.iscsi_requests.proofs.ValueLemmas.{free_there, long_values}
use Rattle.iscsi_requests.proofs.FoundLemmas.{above_last}
use Rattle.iscsi_requests.proofs.ReplyLemmas.{pushed_are, pushed_state}
use Rattle.iscsi_requests.proofs.replies.WaitingReplies.push.Goals as goal

pub push_back-slot-requires-clause-room : goal.push_back-slot-requires-clause-room
push_back-slot-requires-clause-room c =
    free_there NO_REPLY c.self.inside.kept c.known-2.ensures.apart (subst (λ (v : WaitingReplies). count_all v.waiting < v.room) (sym c.self.view_is) c.requires.room)

pub push-requires-clause-room : goal.push-requires-clause-room
push-requires-clause-room c =
    let i = c.self.inside in
    let some = free_there NO_REPLY i.kept c.known-2.ensures.apart (subst (λ (v : WaitingReplies). count_all v.waiting < v.room) (sym c.self.view_is) c.requires.room) in
    let counted = c.self.invariant.counted in
    let room = c.self.invariant.room in omega (arith, some, counted, room)

pub push-requires-clause-newest : goal.push-requires-clause-newest
push-requires-clause-newest c =
    above_last c.self.inside.tickets.last c.args.log_place (subst (λ (v : WaitingReplies). IsAbove c.args.log_place v.last) (sym c.self.view_is) c.requires.newest)

pub invariant_of-self : goal.invariant_of-self
invariant_of-self c =
    let i = c.self.inside in
    let p = c.push_back-slot in
    let shown = subst (λ (v : WaitingReplies). c.args.conn < length v.waiting) (sym c.self.view_is) c.requires.conn in
    let long = long_values NO_REPLY i.kept.values i.kept.lists in
    let above = above_last i.tickets.last c.args.log_place (subst (λ (v : WaitingReplies). IsAbove c.args.log_place v.last) (sym c.self.view_is) c.requires.newest) in
    subst (λ (t : Known). AreReplies t p.new.self) (sym c.push.ensures)
    (subst (AreReplies (known (i.tickets.entries ++ (c.args.log_place + 1, p.result) ∷ []) (c.args.log_place + 1) i.tickets.room)) (sym p.ensures.state)
    (pushed_are i.tickets i.kept c.self.invariant c.known-2.ensures.apart c.known.ensures.newest c.args.conn p.result c.args.log_place c.args.request
    (omega (arith, shown, long)) p.ensures.slot p.ensures.fresh c.known-2.ensures.values above c.requires.short))

pub returns : goal.returns
returns c =
    let i = c.self.inside in
    let p = c.push_back-slot in
    let shown = subst (λ (v : WaitingReplies). c.args.conn < length v.waiting) (sym c.self.view_is) c.requires.conn in
    let long = long_values NO_REPLY i.kept.values i.kept.lists in
    let above = above_last i.tickets.last c.args.log_place (subst (λ (v : WaitingReplies). IsAbove c.args.log_place v.last) (sym c.self.view_is) c.requires.newest) in
    ap (λ (t : Known). replies_of t p.new.self) c.push.ensures
    ∙ ap (replies_of (known (i.tickets.entries ++ (c.args.log_place + 1, p.result) ∷ []) (c.args.log_place + 1) i.tickets.room)) p.ensures.state
    ∙ pushed_state i.tickets i.kept c.self.invariant c.known-2.ensures.apart c.known.ensures.newest c.args.conn p.result c.args.log_place c.args.request
    (omega (arith, shown, long)) p.ensures.slot p.ensures.fresh c.known-2.ensures.values above c.requires.short
    ∙ ap (pushed c.args.conn (record { log_place = c.args.log_place; request = c.args.request })) c.self.view_is
