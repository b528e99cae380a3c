-- A step by the event that comes next.
use Rattle.std.specs.Prelude.{◌≡◌, ◌≢◌, List, [], ◌∷◌, ◌++◌, Result, Err, OnOk}
use Rattle.iscsi_rules.specs.declared.effect.Numbers.{Numbers}
use Rattle.iscsi_rules.specs.declared.event.Event.{Event}
use Rattle.iscsi_rules.specs.promises.Flow.{Flows}
use Rattle.iscsi_rules.specs.rules.Run.{next_entry, trace_of}
use Rattle.iscsi_rules.specs.rules.Settings.{Setting}
use Rattle.iscsi_report.specs.Filled.{Written, HasLines}
use Rattle.iscsi_report.specs.Lines.{event_line}
use Rattle.iscsi_session.specs.declared.fault.SessionFault.{SessionFault}
use Rattle.iscsi_session.specs.declared.fault.SessionFault.TheVariants.{NoMemory}
use Rattle.iscsi_session.specs.private.Standing.{Core, StandsFor}
use Rattle.iscsi_session.specs.promises.Refusals.{RefusesAs, refusal_of}

-- the first of these events is taken, if the session doesn't refuse it, and its line stands with those of its effects
pub record HasStepped (events left : List Event) (s s' : Core) (w w' : Written) (r : Result Numbers SessionFault) : Type 0 where
  pub event : Event
  pub came : events ≡ event ∷ left
  pub stands : (o : Setting) (h : List Event) → StandsFor o s h → OnOk r (StandsFor o s' (h ++ event ∷ []))
  pub lines : (o : Setting) (h : List Event) → StandsFor o s h → OnOk r (HasLines w' (w.bytes ++ event_line event) (next_entry o h event).effects)
  pub refused : (o : Setting) (h : List Event) → StandsFor o s h → RefusesAs (refusal_of o h event) r
  pub memory : r ≢ Err NoMemory
  pub flow : (o : Setting) (h : List Event) → StandsFor o s h → OnOk r (Flows o (trace_of o h) (trace_of o (h ++ event ∷ [])))
