use Rattle.std.proofs.Common.{length, sym, ap, ◌∙◌}
use Rattle.iscsi_outbox_steps.specs.State.{State}
use Rattle.iscsi_outbox.proofs.CloseLemmas.{where_limits, where_links, where_step}
use Rattle.iscsi_outbox.proofs.outbox.Outbox.close_each.Goals as goal

pub loop-effect-preserved : goal.loop-effect-preserved
loop-effect-preserved c =
    let i = c.loop-effect.invariant in
    record {
      state = where_step c.args.by c.loop-effect.effect-index c.args.before.now c.args.self.now c.loop-effect.self c.close_by.new.self c.args.item.now _ c.loop-effect-test.true (sym i.limits) (sym i.links) c.close_by.ensures ∙ i.state;
      limits = ap (λ (s : State). s.limits) c.close_by.ensures ∙ where_limits c.args.by c.args.before.now _ c.loop-effect.self ∙ i.limits;
      links = ap (λ (s : State). length s.links) c.close_by.ensures ∙ where_links c.args.by c.args.before.now _ c.loop-effect.self ∙ i.links;
    }
