-- What a call answers, whatever calls came before: for a state that they led to.
use Rattle.std.specs.Prelude.{◌≡◌, ◌≤◌, Bool, true, List, [], ◌∷◌, ◌++◌}
use Rattle.iscsi_rules.specs.rules.Settings.{are_distinct}
use Rattle.iscsi_rules.specs.promises.Flow.{FlowsThrough}
use Rattle.iscsi_outbox_rules.specs.rules.Calls.{Opening, Call}
use Rattle.iscsi_outbox_rules.specs.rules.Words.{may_take as may_take_by_rules}
use Rattle.iscsi_outbox_rules.specs.rules.Run.{opened, after_calls as after_calls_by_rules, answered as answered_by_rules}
use Rattle.iscsi_outbox_rules.specs.promises.Promises.{KeepsPromises}
use Rattle.iscsi_outbox_rules.specs.promises.Room.{Step, begun as begun_both, all_are, is_read_with_room, calls_of, events_of}
use Rattle.iscsi_outbox_steps.specs.State.{State}
use Rattle.iscsi_outbox_steps.specs.Run.{after_call, answered, begun}
use Rattle.iscsi_outbox_law.specs.rules.Room.{IsShort}
use Rattle.iscsi_outbox_law.specs.rules.Said.{said}

abbrev pub after_calls : State → List Call → State
after_calls s [] = s
after_calls s (c ∷ cs) = after_calls (after_call s c) cs

-- these are the calls of an outbox over a session: requests are read while there is room, and come on the session's connections, no CID
-- of which stands twice; its MaxCmdSN flows, as `Session::step` ensures; and fewer PDUs go out than a word counts
pub record IsRun (o : Opening) (cs : List Call) : Type 0 where
  pub steps : List Step
  pub calls : calls_of o (begun_both o) steps ≡ cs
  pub read : all_are (is_read_with_room o) o (begun_both o) steps ≡ true
  pub distinct : are_distinct o.session.conns ≡ true
  pub flows : FlowsThrough o.session (events_of steps)
  pub window : o.session.window ≤ 1024
  pub short : IsShort o cs

-- whatever calls led to this state, what the call answers in it is what the rules answer behind them
abbrev pub KeepsToRules : State → Call → Type 0
KeepsToRules s c = (o : Opening) (cs : List Call) → s ≡ after_calls (begun o) cs → IsRun o (cs ++ c ∷ []) → answered s c ≡ said (answered_by_rules o (after_calls_by_rules o (opened o) cs) c)

-- whatever calls led to this state, each promise holds of them with this one: of all that they handed out, by the rules
abbrev pub KeepsAllPromises : State → Call → Type 0
KeepsAllPromises s c = (o : Opening) (cs : List Call) → s ≡ after_calls (begun o) cs → IsRun o (cs ++ c ∷ []) → KeepsPromises o (cs ++ c ∷ [])

-- whatever calls led to this state, that is what the rules say of another request behind them
abbrev pub MayTakeByRules : State → Bool → Type 0
MayTakeByRules s may = (o : Opening) (cs : List Call) → s ≡ after_calls (begun o) cs → IsRun o cs → may ≡ may_take_by_rules o (after_calls_by_rules o (opened o) cs)
