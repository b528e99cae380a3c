-- In the trace of a list of events that come on the session's connections each item is sound.
use Rattle.std.proofs.Common.{arith, ◌≡◌, ℕ, ◌+◌, true, List, [], ◌∷◌}
use Rattle.std.specs.List.{list_all}
use Rattle.iscsi_rules.specs.declared.event.Event.{Event}
use Rattle.iscsi_rules.specs.rules.Settings.{Setting}
use Rattle.iscsi_rules.specs.rules.Trace.{Mark, Trace, after_items}
use Rattle.iscsi_rules.specs.rules.Agenda.{belongs, items_of}
use Rattle.iscsi_rules.specs.rules.Run.{after_event, after_events, trace_of}
use Rattle.iscsi_rules.proofs.items.FormRuns.{Brings, Turns, TurnsOf, event_stands}
use Rattle.iscsi_rules.proofs.promises.CloseLemmas.{Sound, Clear, clear-none, clear-item}
use Rattle.iscsi_rules.proofs.promises.CloseItems.{OnOpen, item_sound}

-- each item is sound where it stands
abbrev pub Sounds : Setting → Trace → Type 0
Sounds o [] = Unit {0}
Sounds o (item ∷ t) = Sound o t item × Sounds o t

-- so what is going on is on open connections
pub clear_of : (o : Setting) (t : Trace) → Sounds o t → Clear o t
clear_of o [] x = clear-none o
clear_of o (item ∷ t) x = clear-item o item t x.0 (clear_of o t x.1)

turns_sound : (o : Setting) (now p e : ℕ) (t : Trace) (items : List (List Mark)) → Turns (OnOpen o) o now p e t items → Sounds o t → Sounds o (after_items items t)
turns_sound o now p e t [] s x = x
turns_sound o now p e t (item ∷ items) s x = turns_sound o now s.0 e (item ∷ t) items s.1.1.1.1 (item_sound o now s.0 t item s.1.1.0 (clear_of o t x), x)

pub event_sound : (o : Setting) (event : ℕ) (t : Trace) (e : Event) → belongs o e ≡ true → Sounds o t → Sounds o (after_event o event t e)
event_sound o event t e known x = by_items (items_of o event t e) (event_stands (OnOpen o) o event t e (comes e known))
  where
    comes : (e : Event) → belongs o e ≡ true → Brings (OnOpen o) o event t e
    comes e known = grind arith

    by_items : (items : List (List Mark)) → TurnsOf (OnOpen o) o event t items → Sounds o (after_items items t)
    by_items [] s = absurd s
    by_items (item ∷ items) s = turns_sound o event _ _ (item ∷ t) items s.1 (item_sound o event _ t item s.0 (clear_of o t x), x)

events_sound : (o : Setting) (event : ℕ) (t : Trace) (h : List Event) → list_all (belongs o) h ≡ true → Sounds o t → Sounds o (after_events o event t h)
events_sound o event t [] known x = x
events_sound o event t (e ∷ h) known x = grind (arith, events_sound o (event + 1) (after_event o event t e) h, event_sound)

-- in the trace of a list of events each item is sound
pub trace_sounds : (o : Setting) (h : List Event) → list_all (belongs o) h ≡ true → Sounds o (trace_of o h)
trace_sounds o h known = events_sound o 0 [] h known tt
