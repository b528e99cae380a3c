use Rattle.std.proofs.Common.{◌<◌, ◌+◌, false, set, sym, subst, arith}
use Rattle.std.proofs.lemmas.Bool.{false≢true}
use Rattle.iscsi_outbox_state.specs.Lane.{Lane}
use Rattle.iscsi_lane.specs.Counting.{IsKept}
use Rattle.iscsi_lane.proofs.CountedLemmas.{answer_counted, going_out_few}
use Rattle.iscsi_lane.proofs.lane.Lane.wait.Goals as goal

pub overflow_add-index_mut : goal.overflow_add-index_mut
overflow_add-index_mut c =
    let i = c.self.inside in
    let own = subst (λ (v : Lane). c.args.answer.conn < v.conns) (sym c.self.view_is) c.requires.conn in
    let a = going_out_few i.standings i.under_way.items i.going_out.items c.self.invariant.counted c.from.result c.index_mut.result.now (let e = c.from.ensures in omega (arith, e, own)) c.index_mut.ensures.value in
    let b = c.known.ensures.long in let d = c.known.ensures.short in omega (arith, a, b, d)

pub invariant_of-self : goal.invariant_of-self
invariant_of-self c =
    let i = c.self.inside in
    let own = subst (λ (v : Lane). c.args.answer.conn < v.conns) (sym c.self.view_is) c.requires.conn in
    subst (λ v. IsKept v i.under_way.items (set i.going_out.items c.from.result (c.index_mut.result.now + 1)) false) (sym c.wait.ensures)
    (record {
      counted = answer_counted i.standings i.under_way.items i.going_out.items c.self.invariant.counted c.args.answer c.from.result c.index_mut.result.now c.from.ensures own c.index_mut.ensures.value;
      none_due = λ e. absurd (false≢true e);
    })
