use Rattle.std.proofs.Common.{◌≡◌, ◌<◌, Some, None, length, sym, ap, ◌∙◌, arith}
use Rattle.iscsi_outbox_steps.specs.State.{State as OutboxState}
use Rattle.iscsi_requests.specs.Functions.{first_request}
use Rattle.iscsi_ffi_steps.specs.Walk.{Doing, drop_functions_on, release}
use Rattle.iscsi_ffi_desk.proofs.DropLemmas.{functions_done, functions_more, less_function, released_stays}
use Rattle.iscsi_ffi_desk.proofs.desk.Desk.drop_functions_on.Goals as goal

pub loop-request-preserved : goal.loop-request-preserved
loop-request-preserved c =
    let conn = c.args.conn in
    let now = c.loop-request.self in
    let first : first_request conn now.state.functions ≡ Some c.in-Some.request = ap (λ (d : Doing). first_request conn d.state.functions) (sym c.self.view_is) ∙ sym c.in-Some.ensures.answer in
    let long = ap (λ (d : Doing). length d.state.functions.waiting) c.self.view_is in
    let cids = ap (λ (d : Doing). length d.state.outbox.limits.cids) c.self.view_is in
    let stays = ap (λ (o : OutboxState). length o.limits.cids) c.loop-request.invariant.outbox in
    let within : conn < length now.state.functions.waiting = omega (arith, long, cids, stays) in
    record {
      state =
          ap (drop_functions_on conn) (c.release.ensures ∙ ap (release c.in-Some.request) (less_function conn c.pop.new.self _ now c.self.view_is c.in-Some.ensures.state))
          ∙ functions_more conn c.in-Some.request now within first
          ∙ c.loop-request.invariant.state;
      outbox = ap (λ (d : Doing). d.state.outbox) c.release.ensures ∙ (released_stays c.in-Some.request _).outbox ∙ ap (λ (d : Doing). d.state.outbox) c.self.view_is ∙ c.loop-request.invariant.outbox;
    }

pub returns : goal.returns
returns c =
    let conn = c.args.conn in
    let now = c.loop-request.self in
    let none : first_request conn now.state.functions ≡ None = ap (λ (d : Doing). first_request conn d.state.functions) (sym c.self.view_is) ∙ sym c.pop.ensures.answer ∙ c.in_default.is in
    less_function conn c.pop.new.self _ now c.self.view_is c.pop.ensures.state ∙ sym (functions_done conn now none) ∙ c.loop-request.invariant.state
