-- In the trace of a list of events each item fits in where it stands.
use Rattle.std.proofs.Common.{ℕ, ◌+◌, List, [], ◌∷◌}
use Rattle.iscsi_rules.specs.declared.event.Event.{Event}
use Rattle.iscsi_rules.specs.rules.Settings.{Setting}
use Rattle.iscsi_rules.specs.rules.Trace.{Mark, Trace, after_items}
use Rattle.iscsi_rules.specs.rules.Execution.{exp_of}
use Rattle.iscsi_rules.specs.rules.Agenda.{items_of}
use Rattle.iscsi_rules.specs.rules.Run.{after_event, after_events, trace_of}
pub use Rattle.iscsi_rules.proofs.general.Missing.{exp_item, exp_items}
use Rattle.iscsi_rules.proofs.items.FormRuns.{AnyArrival, Turns, TurnsOf, any_brought, event_stands}
use Rattle.iscsi_rules.proofs.promises.AbortLemmas.{Fit, Fit-on, Fit-more}
use Rattle.iscsi_rules.proofs.promises.AbortItems.{item_fits}

turns_fit : (o : Setting) (now p e : ℕ) (t : Trace) (items : List (List Mark)) → Turns AnyArrival o now p e t items → Fit o p t → Fit o e (after_items items t)
turns_fit o now p e t [] s x = Fit-on o p e t s x
turns_fit o now p e t (item ∷ items) s x = turns_fit o now s.0 e (item ∷ t) items s.1.1.1.1 (Fit-more o s.0 t item (Fit-on o p s.0 t s.1.0 x) (item_fits o now s.0 t item s.1.1.0))

-- before an event nothing stands past ExpCmdSN
event_fit : (o : Setting) (now : ℕ) (t : Trace) (e : Event) → Fit o (exp_of o t) t → Fit o (exp_of o (after_event o now t e)) (after_event o now t e)
event_fit o now t e x = by_items (items_of o now t e) (event_stands AnyArrival o now t e (any_brought o now t e))
  where
    by_items : (items : List (List Mark)) → TurnsOf AnyArrival o now t items → Fit o (exp_of o (after_items items t)) (after_items items t)
    by_items [] s = absurd s
    by_items (item ∷ items) s =
        Fit-on o (exp_of o (item ∷ t)) (exp_of o (after_items items (item ∷ t))) (after_items items (item ∷ t)) (exp_items o items (item ∷ t))
        (turns_fit o now (exp_of o t) (exp_of o (item ∷ t)) (item ∷ t) items s.1 (Fit-more o (exp_of o t) t item x (item_fits o now (exp_of o t) t item s.0)))

events_fit : (o : Setting) (event : ℕ) (t : Trace) (h : List Event) → Fit o (exp_of o t) t → Fit o (exp_of o (after_events o event t h)) (after_events o event t h)
events_fit o event t [] x = x
events_fit o event t (e ∷ h) x = events_fit o (event + 1) (after_event o event t e) h (event_fit o event t e x)

-- in the trace of a list of events each item fits in
pub trace_fits : (o : Setting) (h : List Event) → Fit o (exp_of o (trace_of o h)) (trace_of o h)
trace_fits o h = events_fit o 0 [] h tt
