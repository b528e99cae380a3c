use Rattle.std.proofs.Common.{ℕ, not, sym, ap, ◌∙◌, arith}
use Rattle.iscsi_outbox_state.specs.declared.waiting.Waiting.{Waiting}
use Rattle.iscsi_outbox_state.specs.Lane.{Lane, count_in, is_left}
use Rattle.iscsi_outbox_steps.specs.State.{State}
use Rattle.iscsi_outbox_steps.specs.Steps.{answer_item, enter, settle}
use Rattle.iscsi_outbox.proofs.SettleLemmas.{due_counts, settle_done, settle_more, stays}
use Rattle.iscsi_outbox.proofs.outbox.Outbox.enter_due.Goals as goal

pub loop-answer-smaller : goal.loop-answer-smaller
loop-answer-smaller c =
    let less = due_counts c.loop-answer.self.lane c.in-Some.answer (sym c.take_due.ensures.answer ∙ c.in-Some.is) in
    let new = ap (λ (s : State). count_in (λ x. not (is_left x)) s.lane) c.enter.ensures in
    let taken = ap (λ (s : State). count_in (λ x. not (is_left x)) s.lane) c.take_due.ensures.state in
    omega (arith, less, new, taken)

pub loop-answer-preserved : goal.loop-answer-preserved
loop-answer-preserved c =
    let a = c.in-Some.answer in
    ap (λ (s : State). settle s) c.enter.ensures
    ∙ ap (λ (n : ℕ). settle (enter n c.answer_item.result c.take_due.new.self)) c.from.ensures
    ∙ ap (λ (x : Waiting). settle (enter a.conn x c.take_due.new.self)) c.answer_item.ensures
    ∙ ap (λ (s : State). settle (enter a.conn (answer_item a) s)) c.take_due.ensures.state
    ∙ settle_more c.loop-answer.self a (sym c.take_due.ensures.answer ∙ c.in-Some.is)
    ∙ c.loop-answer.invariant

pub returns : goal.returns
returns c =
    let now = c.loop-answer.self in
    let none = sym c.take_due.ensures.answer ∙ c.in_default.is in
    c.take_due.ensures.state ∙ ap (λ (v : Lane). record now { lane = v }) (stays now.lane none) ∙ sym (settle_done now none) ∙ c.loop-answer.invariant
