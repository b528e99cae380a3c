use Rattle.std.proofs.Common.{◌≡◌, not}
use Rattle.iscsi_outbox_state.specs.Lane.{count_in, is_left}
use Rattle.iscsi_outbox_steps.specs.Steps.{settle}
use Rattle.iscsi_outbox.proofs.outbox.Outbox.enter_due.Given as goal

-- some entered: it makes no odds whether that is done before all do
abbrev pub invariant-loop-answer : goal.invariant-loop-answer
invariant-loop-answer l = settle l.self ≡ settle l.fn.self

abbrev pub decreases-loop-answer : goal.decreases-loop-answer
decreases-loop-answer l = count_in (λ x. not (is_left x)) l.self.lane
