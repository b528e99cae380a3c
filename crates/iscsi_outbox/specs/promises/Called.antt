-- What a call answers and leads to, whatever calls came before: for a state that they led to.
use Rattle.std.specs.Prelude.{◌≡◌, List, [], ◌∷◌, ◌++◌}
use Rattle.iscsi_outbox_rules.specs.rules.Calls.{Opening, Call}
use Rattle.iscsi_outbox_rules.specs.rules.Run.{opened, after_calls as after_calls_by_rules, answered as answered_by_rules}
use Rattle.iscsi_outbox_steps.specs.State.{State}
use Rattle.iscsi_outbox_steps.specs.Run.{Answered, begun}
use Rattle.iscsi_outbox_law.specs.promises.Called.{IsRun, after_calls}
use Rattle.iscsi_outbox_law.specs.rules.Said.{said}

-- in the state `before` the call answered this, and left the state `after`
pub record FollowsRules (before : State) (c : Call) (answer : Answered) (after : State) : Type 0 where
  -- whatever calls led to the one state lead with this call to the other
  pub leads : (o : Opening) (cs : List Call) → before ≡ after_calls (begun o) cs → after ≡ after_calls (begun o) (cs ++ c ∷ [])
  -- and behind them, where they are those of an outbox over a session, the rules answer the same
  pub answers : (o : Opening) (cs : List Call) → before ≡ after_calls (begun o) cs → IsRun o (cs ++ c ∷ []) → answer ≡ said (answered_by_rules o (after_calls_by_rules o (opened o) cs) c)
