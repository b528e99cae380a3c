-- A run with one event more.
use Rattle.std.proofs.Common.{◌≡◌, ℕ, ◌+◌, List, [], ◌∷◌, ◌++◌, length, ap, ◌∙◌, arith}
use Rattle.iscsi_rules.specs.declared.event.Event.{Event}
use Rattle.iscsi_rules.specs.rules.Settings.{Setting}
use Rattle.iscsi_rules.specs.rules.Trace.{Trace}
use Rattle.iscsi_rules.specs.rules.Run.{after_event, after_events, trace_of, entry_of, entries_from, run_of, next_entry}

pub after_events-push : (o : Setting) (event : ℕ) (t : Trace) (h : List Event) (e : Event)
    → after_events o event t (h ++ e ∷ []) ≡ after_event o (event + length h) (after_events o event t h) e
after_events-push o event t [] e = ap (λ n. after_event o n t e) (let z : event ≡ event + 0 = omega arith in z)
after_events-push o event t (x ∷ h) e = grind (arith, after_events-push o (event + 1) (after_event o event t x) h e)

-- the trace after one event more
pub trace_of-push : (o : Setting) (h : List Event) (e : Event) → trace_of o (h ++ e ∷ []) ≡ after_event o (length h) (trace_of o h) e
trace_of-push o h e = after_events-push o 0 [] h e ∙ ap (λ n. after_event o n (trace_of o h) e) (let z : 0 + length h ≡ length h = omega arith in z)

entries_from-push : (o : Setting) (event : ℕ) (t : Trace) (h : List Event) (e : Event)
    → entries_from o event t (h ++ e ∷ []) ≡ entries_from o event t h ++ entry_of o (event + length h) (after_events o event t h) e ∷ []
entries_from-push o event t [] e = ap (λ n. entry_of o n t e ∷ []) (let z : event ≡ event + 0 = omega arith in z)
entries_from-push o event t (x ∷ h) e = grind (arith, entries_from-push o (event + 1) (after_event o event t x) h e)

-- the log of one event more
pub run_of-push : (o : Setting) (h : List Event) (e : Event) → run_of o (h ++ e ∷ []) ≡ run_of o h ++ next_entry o h e ∷ []
run_of-push o h e = entries_from-push o 0 [] h e ∙ ap (λ n. run_of o h ++ entry_of o n (trace_of o h) e ∷ []) (let z : 0 + length h ≡ length h = omega arith in z)
