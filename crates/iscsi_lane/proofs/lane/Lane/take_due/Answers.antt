use Rattle.std.proofs.Common.{◌≡◌, ◌∙◌, ◌-◌, false, [], ap, set, sym, subst, arith}
use Rattle.std.specs.Prelude.{is_some, not}
use Rattle.std.proofs.lemmas.Bool.{false≢true}
use Rattle.iscsi_outbox_state.specs.Lane.{due_behind}
use Rattle.iscsi_lane.specs.Counting.{IsKept}
use Rattle.iscsi_lane.proofs.CountLemmas.{due_none}
use Rattle.iscsi_lane.proofs.CountedLemmas.{none_taken, taken_conn, taken_counted, taken_some}
use Rattle.iscsi_lane.proofs.lane.Lane.take_due.Goals as goal

pub invariant_of-self : goal.invariant_of-self
invariant_of-self c =
    let i = c.self.inside in
    let none = sym c.take_unless_settled.ensures.answer ∙ c.in_err-answer.was in
    subst (λ v. IsKept v i.under_way.items i.going_out.items c.take_unless_settled.new.settled) (sym c.take_unless_settled.ensures.state)
    (record {
      counted = none_taken i.standings i.under_way.items i.going_out.items c.self.invariant.counted none;
      none_due = λ e. ap (due_behind []) (due_none [] i.standings.items none) ∙ none;
    })

pub index_mut-requires : goal.index_mut-requires
index_mut-requires c =
    let i = c.self.inside in
    let a = taken_conn i.standings i.under_way.items i.going_out.items c.self.invariant.counted c.in_ok-answer.answer (sym c.in_ok-answer.ensures.answer) c.from.result 0 c.from.ensures in
    let b = c.self.invariant.counted.of_going_out.long in let d = i.going_out.ok.0 in omega (arith, a, b, d)

pub overflow_sub-index_mut : goal.overflow_sub-index_mut
overflow_sub-index_mut c =
    let i = c.self.inside in
    taken_some i.standings i.under_way.items i.going_out.items c.self.invariant.counted c.in_ok-answer.answer (sym c.in_ok-answer.ensures.answer) c.from.result c.index_mut.result.now c.from.ensures c.index_mut.ensures.value

pub invariant_of-self-2 : goal.invariant_of-self-2
invariant_of-self-2 c =
    let i = c.self.inside in
    let some = sym c.take_unless_settled.ensures.answer ∙ c.in_ok-answer.was in
    let unsettled : c.take_unless_settled.new.settled ≡ false = c.take_unless_settled.ensures.settled ∙ ap (λ x. not (is_some x)) some in
    subst (λ v. IsKept v i.under_way.items (set i.going_out.items c.from.result (c.index_mut.result.now - 1)) c.take_unless_settled.new.settled) (sym c.take_unless_settled.ensures.state)
    (record {
      counted = taken_counted i.standings i.under_way.items i.going_out.items c.self.invariant.counted c.in_ok-answer.answer some c.from.result c.index_mut.result.now c.from.ensures c.index_mut.ensures.value;
      none_due = λ e. absurd (false≢true (sym unsettled ∙ e));
    })
