use Rattle.std.proofs.Common.{◌≡◌, ◌<◌, ◌≤◌, length, get_or, sym, ap, ◌∙◌, subst, arith}
use Rattle.iscsi_outbox_steps.specs.State.{State}
use Rattle.iscsi_ffi_steps.specs.Walk.{Doing}
use Rattle.iscsi_ffi_steps.specs.Steps.{tell_on}
use Rattle.iscsi_ffi_desk.proofs.EndLemmas.{tell_on_outbox, tell_each_done, tell_each_step}
use Rattle.iscsi_ffi_desk.proofs.desk.Desk.tell_each_ready.Goals as goal

pub tell_ready_on-requires : goal.tell_ready_on-requires
tell_ready_on-requires c =
    let P : State → Type 0 = λ o. c.loop-conn.conn < length o.limits.cids in
    let all : length c.self.inside.outbox.limits.cids ≡ length c.args.self.now.state.outbox.limits.cids = ap (λ (d : Doing). length d.state.outbox.limits.cids) c.self.view_is in
    let within : c.loop-conn.conn < length c.args.self.now.state.outbox.limits.cids = omega (arith, all, c.conns-conn-end.ensures.count, c.loop-conn-test.true) in
    subst P (sym c.loop-conn.invariant.outbox) within

pub loop-conn-preserved : goal.loop-conn-preserved
loop-conn-preserved c =
    let cids = c.args.self.now.state.outbox.limits.cids in
    let all : length c.self.inside.outbox.limits.cids ≡ length cids = ap (λ (d : Doing). length d.state.outbox.limits.cids) c.self.view_is in
    let within : c.loop-conn.conn < length cids = omega (arith, all, c.conns-conn-end.ensures.count, c.loop-conn-test.true) in
    let told = c.tell_ready_on.ensures ∙ ap (λ (o : State). tell_on c.loop-conn.conn (get_or o.limits.cids c.loop-conn.conn 0) c.loop-conn.self) c.loop-conn.invariant.outbox in
    record {
      state = tell_each_step c.loop-conn.conn cids c.loop-conn.self c.tell_ready_on.new.self within told ∙ c.loop-conn.invariant.state;
      outbox = ap (λ (d : Doing). d.state.outbox) c.tell_ready_on.ensures ∙ tell_on_outbox c.loop-conn.conn _ c.loop-conn.self ∙ c.loop-conn.invariant.outbox;
    }

pub returns : goal.returns
returns c =
    let cids = c.args.self.now.state.outbox.limits.cids in
    let all : length c.self.inside.outbox.limits.cids ≡ length cids = ap (λ (d : Doing). length d.state.outbox.limits.cids) c.self.view_is in
    let past : length cids ≤ c.loop-conn.conn = omega (arith, all, c.conns-conn-end.ensures.count, c.loop-conn-test.false) in
    sym (tell_each_done c.loop-conn.conn cids c.loop-conn.self past) ∙ c.loop-conn.invariant.state
