use Rattle.std.proofs.Common.{◌≡◌, ◌<◌, Some, None, length, sym, ap, ◌∙◌, arith}
use Rattle.iscsi_outbox_steps.specs.State.{State as OutboxState}
use Rattle.iscsi_requests.specs.Conns.{of_conn, oldest}
use Rattle.iscsi_ffi_steps.specs.Walk.{Doing, release_if}
use Rattle.iscsi_ffi_desk.proofs.DropLemmas.{drop_all_unwritten, less_unwritten, released_if_stays, unwritten_done, unwritten_more}
use Rattle.iscsi_ffi_desk.proofs.desk.Desk.drop_unwritten.Goals as goal

pub loop-request-preserved : goal.loop-request-preserved
loop-request-preserved c =
    let conn = c.args.conn in
    let now = c.loop-request.self in
    let first : oldest (of_conn conn now.state.unwritten.handed) ≡ Some c.in-Some.request = ap (λ (d : Doing). oldest (of_conn conn d.state.unwritten.handed)) (sym c.self.view_is) ∙ sym c.in-Some.ensures.answer in
    let long = ap (λ (d : Doing). length d.state.unwritten.handed) c.self.view_is in
    let cids = ap (λ (d : Doing). length d.state.outbox.limits.cids) c.self.view_is in
    let stays = ap (λ (o : OutboxState). length o.limits.cids) c.loop-request.invariant.outbox in
    let within : conn < length now.state.unwritten.handed = omega (arith, long, cids, stays) in
    record {
      state =
          ap (drop_all_unwritten conn) (c.release_if.ensures ∙ ap (release_if c.in-Some.request) (less_unwritten conn c.pop.new.self _ now c.self.view_is c.in-Some.ensures.state))
          ∙ unwritten_more conn c.in-Some.request now within first
          ∙ c.loop-request.invariant.state;
      outbox = ap (λ (d : Doing). d.state.outbox) c.release_if.ensures ∙ (released_if_stays c.in-Some.request _).outbox ∙ ap (λ (d : Doing). d.state.outbox) c.self.view_is ∙ c.loop-request.invariant.outbox;
    }

pub returns : goal.returns
returns c =
    let conn = c.args.conn in
    let now = c.loop-request.self in
    let none : oldest (of_conn conn now.state.unwritten.handed) ≡ None = ap (λ (d : Doing). oldest (of_conn conn d.state.unwritten.handed)) (sym c.self.view_is) ∙ sym c.pop.ensures.answer ∙ c.in_default.is in
    less_unwritten conn c.pop.new.self _ now c.self.view_is c.pop.ensures.state ∙ sym (unwritten_done conn now none) ∙ c.loop-request.invariant.state
