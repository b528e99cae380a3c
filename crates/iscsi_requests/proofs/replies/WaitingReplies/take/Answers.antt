use Rattle.std.proofs.Common.{◌+◌, ◌∙◌, Some, ap, sym, subst}
use Rattle.iscsi_tickets.specs.Tickets.{Known, known, without_ticket}
use Rattle.iscsi_requests.specs.declared.replies.WaitingReply.{WaitingReply}
use Rattle.iscsi_requests.specs.Replies.{find_log_place, request_of, taken}
use Rattle.iscsi_requests.specs.Kept.{AreReplies, NO_REPLY, log_place_of, replies_of, ticket_of}
use Rattle.iscsi_requests.proofs.ReplyLemmas.{found_answer, found_state, found_there, none_answer, none_are, none_state, removed_are}
use Rattle.iscsi_requests.proofs.replies.WaitingReplies.take.Goals as goal

pub invariant_of-self : goal.invariant_of-self
invariant_of-self c =
    let i = c.self.inside in
    let is = c.in_err-slot.ensures.others ∙ none_are i.tickets i.kept c.self.invariant c.known-2.ensures.apart (c.args.log_place + 1) (sym c.in_err-slot.ensures.value) in
    subst (λ (t : Known). AreReplies t i.kept) (sym is) c.self.invariant

pub returns-in_err-slot-clause-answer : goal.returns-in_err-slot-clause-answer
returns-in_err-slot-clause-answer c =
    let i = c.self.inside in
    c.from_residual.ensures
    ∙ sym (ap (find_log_place c.args.log_place) (sym c.self.view_is)
    ∙ ap request_of (none_answer i.tickets i.kept c.self.invariant c.known-2.ensures.apart c.args.log_place (sym c.in_err-slot.ensures.value)))

pub returns-in_err-slot-clause-state : goal.returns-in_err-slot-clause-state
returns-in_err-slot-clause-state c =
    let i = c.self.inside in
    let is = c.in_err-slot.ensures.others ∙ none_are i.tickets i.kept c.self.invariant c.known-2.ensures.apart (c.args.log_place + 1) (sym c.in_err-slot.ensures.value) in
    ap (λ (t : Known). replies_of t i.kept) is
    ∙ sym (ap (λ ws. record { waiting = ws; last = log_place_of i.tickets.last; room = i.kept.room })
    (none_state i.tickets i.kept c.self.invariant c.known-2.ensures.apart c.args.log_place (sym c.in_err-slot.ensures.value)))
    ∙ ap (taken c.args.log_place) c.self.view_is

pub remove-requires : goal.remove-requires
remove-requires c =
    let i = c.self.inside in
    let k = found_there i.tickets i.kept c.self.invariant c.known-2.ensures.apart (c.args.log_place + 1) c.in_ok-slot.slot (sym c.in_ok-slot.ensures.value) in
    k.there

pub invariant_of-self-2 : goal.invariant_of-self-2
invariant_of-self-2 c =
    let i = c.self.inside in
    let slot = c.in_ok-slot.slot in
    let k = found_there i.tickets i.kept c.self.invariant c.known-2.ensures.apart (c.args.log_place + 1) slot (sym c.in_ok-slot.ensures.value) in
    let is = c.in_ok-slot.ensures.others ∙ ap (λ n. known (without_ticket n i.tickets.entries) i.tickets.last i.tickets.room) (sym k.ticket) in
    subst (λ (t : Known). AreReplies t c.remove.new.self) (sym is)
    (subst (AreReplies (known (without_ticket (ticket_of i.kept.values slot) i.tickets.entries) i.tickets.last i.tickets.room)) (sym c.remove.ensures.state)
    (removed_are i.tickets i.kept c.self.invariant c.known-2.ensures.apart slot k.there c.known.ensures.ascending))

pub returns-clause-answer : goal.returns-clause-answer
returns-clause-answer c =
    let i = c.self.inside in
    let slot = c.in_ok-slot.slot in
    ap (λ (r : WaitingReply). Some r.request) (c.remove.ensures.value NO_REPLY)
    ∙ sym (ap (find_log_place c.args.log_place) (sym c.self.view_is)
    ∙ ap request_of (found_answer i.tickets i.kept c.self.invariant c.known-2.ensures.apart c.args.log_place slot (sym c.in_ok-slot.ensures.value)))

pub returns-clause-state : goal.returns-clause-state
returns-clause-state c =
    let i = c.self.inside in
    let slot = c.in_ok-slot.slot in
    ap (λ (t : Known). replies_of t c.remove.new.self) c.in_ok-slot.ensures.others
    ∙ ap (replies_of (known (without_ticket (c.args.log_place + 1) i.tickets.entries) i.tickets.last i.tickets.room)) c.remove.ensures.state
    ∙ ap (λ ws. record { waiting = ws; last = log_place_of i.tickets.last; room = i.kept.room })
    (found_state i.tickets i.kept c.self.invariant c.known-2.ensures.apart c.args.log_place slot (sym c.in_ok-slot.ensures.value))
    ∙ ap (taken c.args.log_place) c.self.view_is
