use Rattle.std.proofs.Common.{◌<◌, ◌∙◌, length, Some, ap, sym, subst, arith}
use Rattle.iscsi_tickets.specs.Tickets.{Known}
use Rattle.iscsi_requests.specs.Replies.{WaitingReplies, first_request, popped, request_of}
use Rattle.iscsi_requests.specs.Kept.{NO_REPLY, log_place_of, replies_of}
use Rattle.iscsi_requests.proofs.ValueLemmas.{long_values, popped_by}
use Rattle.iscsi_requests.proofs.ReplyLemmas.{oldest_fits, popped_are}
use Rattle.iscsi_requests.proofs.replies.WaitingReplies.pop.Goals as goal

pub overflow_add-first : goal.overflow_add-first
overflow_add-first c =
    let i = c.self.inside in
    let e = c.in_ok-first.ensures in
    let fits = oldest_fits i.tickets i.kept c.self.invariant c.known-2.ensures.apart c.args.conn c.in_ok-first.first e.none e.value in omega (arith, fits)

pub invariant_of-self-2 : goal.invariant_of-self-2
invariant_of-self-2 c =
    let i = c.self.inside in
    let e = c.in_ok-first.ensures in
    let shown = subst (λ (v : WaitingReplies). c.args.conn < length v.waiting) (sym c.self.view_is) c.requires in
    let long = long_values NO_REPLY i.kept.values i.kept.lists in
    popped_are i.tickets i.kept c.self.invariant c.known-2.ensures.apart c.args.conn c.in_ok-first.first e.none e.value (omega (arith, shown, long)) c.known.ensures.ascending
    c.take.new.self c.pop_front.new.self e.state c.take.ensures.others

pub returns-clause-answer : goal.returns-clause-answer
returns-clause-answer c =
    let e = c.in_ok-first.ensures in
    let is = popped_by NO_REPLY c.args.conn c.self.inside.kept c.pop_front.new.self (Some c.in_ok-first.first) e.none e.unchanged e.value e.state in
    ap request_of is.answer ∙ ap (first_request c.args.conn) c.self.view_is

pub returns-clause-state : goal.returns-clause-state
returns-clause-state c =
    let e = c.in_ok-first.ensures in
    let i = c.self.inside in
    let is = popped_by NO_REPLY c.args.conn i.kept c.pop_front.new.self (Some c.in_ok-first.first) e.none e.unchanged e.value e.state in
    ap (λ (t : Known). replies_of t c.pop_front.new.self) c.take.ensures.others
    ∙ ap (λ ws. record { waiting = ws; last = log_place_of i.tickets.last; room = c.pop_front.new.self.room }) is.waiting
    ∙ ap (λ n. record (popped c.args.conn (replies_of i.tickets i.kept)) { room = n }) is.room ∙ ap (popped c.args.conn) c.self.view_is
