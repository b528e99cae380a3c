use Rattle.std.proofs.Common.{◌≡◌, ◌<◌, Some, None, length, sym, ap, ◌∙◌, arith}
use Rattle.iscsi_outbox_steps.specs.State.{State as OutboxState}
use Rattle.iscsi_requests.specs.Replies.{first_request}
use Rattle.iscsi_ffi_steps.specs.Walk.{Doing, release}
use Rattle.iscsi_ffi_desk.proofs.DropLemmas.{drop_all_replies, less_reply, released_stays, replies_done, replies_more}
use Rattle.iscsi_ffi_desk.proofs.desk.Desk.drop_replies.Goals as goal

pub loop-request-preserved : goal.loop-request-preserved
loop-request-preserved c =
    let conn = c.args.conn in
    let now = c.loop-request.self in
    let first : first_request conn now.state.replies ≡ Some c.in-Some.request = ap (λ (d : Doing). first_request conn d.state.replies) (sym c.self.view_is) ∙ sym c.in-Some.ensures.answer in
    let long = ap (λ (d : Doing). length d.state.replies.waiting) c.self.view_is in
    let cids = ap (λ (d : Doing). length d.state.outbox.limits.cids) c.self.view_is in
    let stays = ap (λ (o : OutboxState). length o.limits.cids) c.loop-request.invariant.outbox in
    let within : conn < length now.state.replies.waiting = omega (arith, long, cids, stays) in
    record {
      state =
          ap (drop_all_replies conn) (c.release.ensures ∙ ap (release c.in-Some.request) (less_reply conn c.pop.new.self _ now c.self.view_is c.in-Some.ensures.state))
          ∙ replies_more conn c.in-Some.request now within first
          ∙ c.loop-request.invariant.state;
      outbox = ap (λ (d : Doing). d.state.outbox) c.release.ensures ∙ (released_stays c.in-Some.request _).outbox ∙ ap (λ (d : Doing). d.state.outbox) c.self.view_is ∙ c.loop-request.invariant.outbox;
    }

pub returns : goal.returns
returns c =
    let conn = c.args.conn in
    let now = c.loop-request.self in
    let none : first_request conn now.state.replies ≡ None = ap (λ (d : Doing). first_request conn d.state.replies) (sym c.self.view_is) ∙ sym c.pop.ensures.answer ∙ c.in_default.is in
    less_reply conn c.pop.new.self _ now c.self.view_is c.pop.ensures.state ∙ sym (replies_done conn now none) ∙ c.loop-request.invariant.state
