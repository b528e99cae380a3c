use Rattle.std.proofs.Common.{◌∙◌, ap, arith, false, below_more}
use Rattle.std.proofs.lemmas.List.{get_or-set_other, get_or-set_same, length-set}
use Rattle.iscsi_arrivals.specs.Counts.{Counts}
use Rattle.iscsi_outbox_steps.specs.State.{State, link_at}
use Rattle.iscsi_outbox.proofs.outbox.Outbox.before.Goals as goal

pub loop-conn-preserved : goal.loop-conn-preserved
loop-conn-preserved c = record {
  each = below_more _ _
      (λ k l. get_or-set_other c.loop-conn.before c.loop-conn.conn k c.is_closed.result false (λ e. omega (arith, e, l)) ∙ c.loop-conn.invariant.each k l)
      (get_or-set_same c.loop-conn.before c.loop-conn.conn c.is_closed.result false (omega (arith, c.loop-conn.invariant.long, c.loop-conn-test.true, c.len-conn-end.ensures.few))
      ∙ c.is_closed.ensures.answer ∙ ap (λ (l : Counts). l.closed) c.at.ensures ∙ ap (λ (s : State). (link_at s c.loop-conn.conn).closed) c.self.view_is);
  long = length-set c.loop-conn.before c.loop-conn.conn c.is_closed.result ∙ c.loop-conn.invariant.long;
}
