use Rattle.std.proofs.Common.{length, ap, ◌∙◌, arith, [], ◌∷◌}
use Rattle.iscsi_outbox_steps.specs.State.{State}
use Rattle.iscsi_outbox.proofs.CloseLemmas.{all_step, where_limits}
use Rattle.iscsi_outbox.proofs.outbox.Outbox.close_all.Goals as goal

pub loop-conn-preserved : goal.loop-conn-preserved
loop-conn-preserved c =
    let links = ap (λ (s : State). length s.links) c.self.view_is in
    record {
      state = all_step c.args.by c.loop-conn.conn c.args.before.now c.loop-conn.self c.close_if.new.self c.args.self.now.links (omega (arith, links, c.loop-conn-test.true, c.len-conn-end.ensures.count)) c.close_if.ensures ∙ c.loop-conn.invariant.state;
      limits = ap (λ (s : State). s.limits) c.close_if.ensures ∙ where_limits c.args.by c.args.before.now (c.loop-conn.conn ∷ []) c.loop-conn.self ∙ c.loop-conn.invariant.limits;
    }
