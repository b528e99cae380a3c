use Rattle.std.proofs.Common.{◌<◌, ◌+◌, ◌∙◌, [], set, sym, subst, arith}
use Rattle.iscsi_outbox_state.specs.Lane.{Lane}
use Rattle.iscsi_lane.specs.Counting.{IsKept}
use Rattle.iscsi_lane.proofs.StandLemmas.{one_at_most}
use Rattle.iscsi_lane.proofs.CountLemmas.{left_none_due}
use Rattle.iscsi_lane.proofs.CountedLemmas.{left_counted, under_way_few}
use Rattle.iscsi_lane.proofs.lane.Lane.leave.Goals as goal

pub overflow_add-index_mut : goal.overflow_add-index_mut
overflow_add-index_mut c =
    let i = c.self.inside in
    let own = subst (λ (v : Lane). c.args.left.conn < v.conns) (sym c.self.view_is) c.requires.conn in
    let a = under_way_few i.standings i.under_way.items i.going_out.items c.self.invariant.counted c.from.result c.index_mut.result.now (let e = c.from.ensures in omega (arith, e, own)) c.index_mut.ensures.value in
    let b = c.known.ensures.long in let d = c.known.ensures.short in let e = one_at_most c.args.left.under_way in let f = c.one_if.ensures in omega (arith, a, b, d, e, f)

pub invariant_of-self : goal.invariant_of-self
invariant_of-self c =
    let i = c.self.inside in
    let own = subst (λ (v : Lane). c.args.left.conn < v.conns) (sym c.self.view_is) c.requires.conn in
    subst (λ v. IsKept v (set i.under_way.items c.from.result (c.index_mut.result.now + c.one_if.result)) i.going_out.items i.settled) (sym c.leave.ensures)
    (record {
      counted = left_counted i.standings i.under_way.items i.going_out.items c.self.invariant.counted c.args.left c.from.result c.one_if.result c.index_mut.result.now c.from.ensures c.one_if.ensures own c.index_mut.ensures.value;
      none_due = λ e. left_none_due [] i.standings.items c.args.left ∙ c.self.invariant.none_due e;
    })
