use Rattle.std.proofs.Common.{ℕ, ◌+◌, drop, slice_range, sym, ap, ◌∙◌, arith}
use Rattle.iscsi_rules.specs.promises.Order.{in_parts}
use Rattle.iscsi_outbox_steps.specs.State.{State}
use Rattle.iscsi_outbox_steps.specs.Steps.{after_items}
use Rattle.iscsi_outbox.specs.private.Walks.{before_parts}
use Rattle.iscsi_outbox.proofs.WalkLemmas.{begins, goes_on, none_walked}
use Rattle.iscsi_outbox.proofs.outbox.Outbox.take_items.Goals as goal
use Rattle.iscsi_outbox.proofs.outbox.Outbox.take_items.Goals.{then-is_request, else-is_request}

pub loop-at-init : goal.loop-at-init
loop-at-init c = record { state = none_walked c.args.effects.now c.args.self.now; begun = omega arith }

pub loop-at-preserved : goal.loop-at-preserved
loop-at-preserved c =
    let es = c.args.effects.now in
    let at = c.loop-at.at in
    let walked = λ (from : ℕ) (s : State). after_items (before_parts (slice_range es from (at + 1)) (in_parts (drop (at + 1) es))) s in
    elim c.if-is_request.branch [
      | then-is_request w ↦ record {
        state =
            ap (λ n. walked n c.if-is_request.self) w.from-is
            ∙ ap (λ s. walked at s) (w.self-is ∙ w.take_item.ensures)
            ∙ begins es c.loop-at.from at _ c.loop-at.self c.loop-at-test.true (sym c.is_request.ensures ∙ w.if-is_request.true)
            ∙ c.loop-at.invariant.state;
        begun = omega arith;
      }
      | else-is_request w ↦ record {
        state =
            ap (λ n. walked n c.if-is_request.self) w.from-is
            ∙ ap (λ s. walked c.loop-at.from s) w.self-is
            ∙ goes_on es c.loop-at.from at _ c.loop-at.self c.loop-at.invariant.begun c.loop-at-test.true (sym c.is_request.ensures ∙ w.if-is_request.false)
            ∙ c.loop-at.invariant.state;
        begun = omega arith;
      }
    ]
