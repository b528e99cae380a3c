-- What a host keeps, and when it stands for a list of events.
use Rattle.std.specs.Prelude.{◌≡◌, ◌≤◌, ℕ, List, [], ◌∷◌, Option, Some, None, Result, Ok, Err}
use Rattle.iscsi_rules.specs.declared.effect.Effect.{Effect}
use Rattle.iscsi_rules.specs.declared.effect.Numbers.{Numbers}
use Rattle.iscsi_rules.specs.declared.entry.Entry.{Entry}
use Rattle.iscsi_rules.specs.declared.event.Event.{Event}
use Rattle.iscsi_rules.specs.rules.Settings.{Setting}
use Rattle.iscsi_rules.specs.rules.Run.{run_of, trace_of, numbers_of}
use Rattle.iscsi_session.specs.declared.fault.SessionFault.{SessionFault}
use Rattle.iscsi_session.specs.promises.Bounds.{most_effects}
use Rattle.iscsi_session.specs.private.Standing.{Core, StandsFor}

-- a host as its callers see it
pub record Hosted : Type 0 where
  pub session : Core
  pub effects : List Effect  -- of the last event
  pub numbers : Numbers
  pub room : ℕ  -- how many effects there is room for

-- the effects of the last entry of a log: none before the first
abbrev pub last_effects : List Entry → List Effect
last_effects [] = []
last_effects (entry ∷ []) = entry.effects
last_effects (entry ∷ next ∷ log) = last_effects (next ∷ log)

-- a host stands for the events: its session does, its effects are those of the last of them, its numbers those after it,
-- and it has room for the effects of any event to come
pub record Serves (o : Setting) (host : Hosted) (h : List Event) : Type 0 where
  pub stands : StandsFor o host.session h
  pub effects : host.effects ≡ last_effects (run_of o h)
  pub numbers : host.numbers ≡ numbers_of o (trace_of o h)
  pub room : most_effects o ≤ host.room

-- why a call is refused
abbrev pub fault_of : {A : Type 0} → Result A SessionFault → Option SessionFault
fault_of (Ok x) = None
fault_of (Err fault) = Some fault

-- ---- what a handle has: a host, or nothing

-- the handle is open, and its host stands for the events
abbrev pub ServesIn : Setting → Option Hosted → List Event → Type 0
ServesIn o None h = ⊥
ServesIn o (Some host) h = Serves o host h

abbrev pub effects_in : Option Hosted → List Effect
effects_in None = []
effects_in (Some host) = host.effects
