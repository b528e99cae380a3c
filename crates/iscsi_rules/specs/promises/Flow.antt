-- Received numbers and the window, from event to event (RFC 7143 section 4.2.2.1).
use Rattle.std.specs.Prelude.{◌≡◌, ℕ, ◌+◌, ◌<◌, ◌≤◌, false, List, [], ◌∷◌, ◌++◌, ◌⊎◌}
use Rattle.iscsi_rules.specs.declared.event.Event.{Event}
use Rattle.iscsi_rules.specs.rules.Settings.{Setting}
use Rattle.iscsi_rules.specs.rules.Trace.{Trace, received, is_received}
use Rattle.iscsi_rules.specs.rules.Execution.{exp_of, max_of, unfinished}
use Rattle.iscsi_rules.specs.rules.Run.{trace_of}

-- the same numbers, or one more
abbrev pub HasOneMore : List ℕ → List ℕ → Type 0
HasOneMore ns ns' = (ns' ≡ ns) ⊎ ((n : ℕ) × (ns' ≡ ns ++ n ∷ []))

-- what holds from a trace to the one that an event makes of it
pub record Flows (o : Setting) (t t' : Trace) : Type 0 where
  -- an event receives one number at the most, none is above MaxCmdSN, and ExpCmdSN doesn't go back
  pub one_number : HasOneMore (received t) (received t')
  pub none_above : (n : ℕ) → max_of o t' < n → is_received t' n ≡ false
  pub exp_stays : exp_of o t ≤ exp_of o t'
  -- MaxCmdSN doesn't go back, and is at least ExpCmdSN - 1
  pub max_stays : max_of o t ≤ max_of o t'
  pub max_near : exp_of o t' ≤ max_of o t' + 1
  -- the numbered commands that entered a set and haven't left it are no more than the window's size
  pub few_unfinished : unfinished t' ≤ o.window

-- it holds of each of the events
abbrev pub FlowsThrough : Setting → List Event → Type 0
FlowsThrough o events = (before after : List Event) (event : Event) → events ≡ before ++ event ∷ after → Flows o (trace_of o before) (trace_of o (before ++ event ∷ []))
