-- The whole run: the log of a list of events.
use Rattle.std.specs.Prelude.{ℕ, ◌+◌, ◌==◌, not, List, [], ◌∷◌, ◌++◌, length, map, Some, None, filter, count_by}
use Rattle.std.specs.List.{flat_map, range_with_len}
use Rattle.iscsi_wire.specs.Serial.{wire}
use Rattle.iscsi_rules.specs.declared.effect.Effect.{Effect}
use Rattle.iscsi_rules.specs.declared.effect.Effect.TheVariants.{Deliver, Immediate, Wait, Void, Empty, Enter, Enable, Leave, Send, CloseConn, CloseSession, Ignore}
use Rattle.iscsi_rules.specs.declared.effect.Numbers.{Numbers}
use Rattle.iscsi_rules.specs.declared.event.Event.{Event}
use Rattle.iscsi_rules.specs.declared.entry.Entry.{Entry}
use Rattle.iscsi_rules.specs.rules.Settings.{Setting}
use Rattle.iscsi_rules.specs.rules.Trace.{Command, Mark, Admits, Delivers, Executes, Voids, Empties, Waits, Leaves, Enters, Sends, ClosesConn, ClosesSession, Ignores, Trace, after_items, shown, first_of, was_free, enabled_in, sent_on}
use Rattle.iscsi_rules.specs.rules.Execution.{exp_of, max_of}
use Rattle.iscsi_rules.specs.rules.Agenda.{items_of}

abbrev pub after_event : Setting → ℕ → Trace → Event → Trace
after_event o event t e = after_items (items_of o event t e) t

-- the trace after the events, of which the first is the event-th
abbrev pub after_events : Setting → ℕ → Trace → List Event → Trace
after_events o event t [] = t
after_events o event t (e ∷ es) = after_events o (event + 1) (after_event o event t e) es

abbrev pub trace_of : Setting → List Event → Trace
trace_of o h = after_events o 0 [] h

-- ---- effects

-- a connection's first StatSN
abbrev pub first_stat_sn : Setting → ℕ → ℕ
first_stat_sn o conn = elim (first_of (filter (λ c. c.0 == conn) o.conns)) [ Some c ↦ c.1 | None ↦ 0 ]

-- the StatSN of the next reply on a connection
abbrev pub stat_sn_of : Setting → Trace → ℕ → ℕ
stat_sn_of o t conn = wire (first_stat_sn o conn + count_by (λ k. k == conn) (shown sent_on t))

-- what a mark in an item after t shows
abbrev pub effects_of_mark : Setting → Trace → Mark → List Effect
effects_of_mark o t (Admits a) = []
effects_of_mark o t (Delivers a) = Deliver a.request ∷ []
effects_of_mark o t (Executes a) = Immediate a.request ∷ []
effects_of_mark o t (Waits a) = Wait a.request ∷ []
effects_of_mark o t (Voids n) = Void (wire n) ∷ []
effects_of_mark o t (Empties a) = Empty (wire a.number) ∷ []
effects_of_mark o t (Leaves c) = Leave c.ticket c.unit ∷ []
effects_of_mark o t (Enters c) = Enter c.ticket c.unit c.attr ∷ []
effects_of_mark o t (Sends conn reply) = Send conn (stat_sn_of o t conn) reply ∷ []
effects_of_mark o t (ClosesConn conn) = CloseConn conn ∷ []
effects_of_mark o t ClosesSession = CloseSession ∷ []
effects_of_mark o t (Ignores why) = Ignore why ∷ []

-- the commands that are enabled after an item and weren't before: units ascending, oldest first
abbrev pub newly_enabled : Setting → Trace → List Mark → List Command
newly_enabled o t item = flat_map (λ unit. filter (λ c. not (was_free c t)) (enabled_in unit (item ∷ t))) (range_with_len 0 o.units)

abbrev pub effects_of_item : Setting → Trace → List Mark → List Effect
effects_of_item o t item = flat_map (effects_of_mark o t) item ++ map (λ (c : Command). Enable c.ticket c.unit) (newly_enabled o t item)

-- the effects of items after t
abbrev pub effects_of : Setting → Trace → List (List Mark) → List Effect
effects_of o t [] = []
effects_of o t (item ∷ items) = effects_of_item o t item ++ effects_of o (item ∷ t) items

abbrev pub numbers_of : Setting → Trace → Numbers
numbers_of o t = record { exp = wire (exp_of o t); max = wire (max_of o t) }

abbrev pub entry_of : Setting → ℕ → Trace → Event → Entry
entry_of o event t e = record { numbers = numbers_of o (after_event o event t e); effects = effects_of o t (items_of o event t e) }

-- one entry for each event
abbrev pub entries_from : Setting → ℕ → Trace → List Event → List Entry
entries_from o event t [] = []
entries_from o event t (e ∷ es) = entry_of o event t e ∷ entries_from o (event + 1) (after_event o event t e) es

-- the log of the events
abbrev pub run_of : Setting → List Event → List Entry
run_of o h = entries_from o 0 [] h

-- the entry of an event after the history h
abbrev pub next_entry : Setting → List Event → Event → Entry
next_entry o h e = entry_of o (length h) (trace_of o h) e
