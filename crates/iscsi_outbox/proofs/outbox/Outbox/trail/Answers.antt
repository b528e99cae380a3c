use Rattle.std.proofs.Common.{length, sym, ap, subst, ◌∙◌, arith}
use Rattle.iscsi_outbox_steps.specs.State.{State}
use Rattle.iscsi_outbox_steps.specs.Steps.{trail}
use Rattle.iscsi_tracked.specs.Tracked.{AreKnown, trail_at}
use Rattle.iscsi_outbox.proofs.TrailLemmas.{cids_stay, trail_more, trail_shorter}
use Rattle.iscsi_outbox.proofs.outbox.Outbox.trail.Goals as goal

pub loop-command-smaller : goal.loop-command-smaller
loop-command-smaller c =
    let now = c.loop-command.self in
    let known = subst (λ (s : State). AreKnown s.tracked) c.self.view_is c.known.ensures in
    let less = trail_shorter c.args.conn now c.in-Some.command known (sym c.next_arrived.ensures.answer ∙ c.in-Some.is) in
    let new = ap (λ (s : State). length (trail_at s.tracked c.args.conn)) c.arrive.ensures in
    omega (arith, less, new)

pub loop-command-preserved : goal.loop-command-preserved
loop-command-preserved c =
    let now = c.loop-command.self in
    let known = subst (λ (s : State). AreKnown s.tracked) c.self.view_is c.known.ensures in
    record {
      state = ap (λ (s : State). trail c.args.conn s) c.arrive.ensures ∙ trail_more c.args.conn now c.in-Some.command known (sym c.next_arrived.ensures.answer ∙ c.in-Some.is) ∙ c.loop-command.invariant.state;
      conns = ap (λ (s : State). length s.limits.cids) c.arrive.ensures ∙ cids_stay c.in-Some.command now ∙ c.loop-command.invariant.conns;
    }
