use Rattle.std.proofs.Common.{◌-◌, ◌∙◌, false, [], set, ap, sym, subst, arith}
use Rattle.std.proofs.lemmas.Bool.{false≢true}
use Rattle.iscsi_outbox_state.specs.Lane.{due_behind, not_under_way}
use Rattle.iscsi_lane.specs.Counting.{IsKept}
use Rattle.iscsi_lane.proofs.CountLemmas.{none_less}
use Rattle.iscsi_lane.proofs.CountedLemmas.{arrived_counted, arrived_some, its_conn, none_arrived}
use Rattle.iscsi_lane.proofs.lane.Lane.arrive.Goals as goal

pub index_mut-requires : goal.index_mut-requires
index_mut-requires c =
    let i = c.self.inside in
    let a = its_conn i.standings i.under_way.items i.going_out.items c.self.invariant.counted c.args.command c.known.ensures.apart c.in-Some.left (sym c.in-Some.ensures.command)
    c.from.result c.one_if.result 0 c.from.ensures c.one_if.ensures in
    let b = c.self.invariant.counted.of_under_way.long in let d = i.under_way.ok.0 in omega (arith, a, b, d)

pub overflow_sub-index_mut : goal.overflow_sub-index_mut
overflow_sub-index_mut c =
    let i = c.self.inside in
    arrived_some i.standings i.under_way.items i.going_out.items c.self.invariant.counted c.args.command c.known.ensures.apart c.in-Some.left (sym c.in-Some.ensures.command)
    c.from.result c.one_if.result c.index_mut.result.now c.from.ensures c.one_if.ensures c.index_mut.ensures.value

pub invariant_of-self : goal.invariant_of-self
invariant_of-self c =
    let i = c.self.inside in
    subst (λ v. IsKept v (set i.under_way.items c.from.result (c.index_mut.result.now - c.one_if.result)) i.going_out.items false) (sym c.arrive.ensures.state)
    (record {
      counted = arrived_counted i.standings i.under_way.items i.going_out.items c.self.invariant.counted c.args.command c.known.ensures.apart c.in-Some.left (sym c.in-Some.ensures.command)
          c.from.result c.one_if.result c.index_mut.result.now c.from.ensures c.one_if.ensures c.index_mut.ensures.value;
      none_due = λ e. absurd (false≢true e);
    })

pub invariant_of-self-in_default : goal.invariant_of-self-in_default
invariant_of-self-in_default c =
    let i = c.self.inside in
    subst (λ v. IsKept v i.under_way.items i.going_out.items i.settled) (sym c.arrive.ensures.state)
    (record {
      counted = none_arrived i.standings i.under_way.items i.going_out.items c.self.invariant.counted c.args.command (sym c.in_default.ensures.command);
      none_due = λ e. ap (due_behind []) (none_less not_under_way i.standings.commands c.args.command i.standings.items c.known.ensures.apart (sym c.in_default.ensures.command)) ∙ c.self.invariant.none_due e;
    })
