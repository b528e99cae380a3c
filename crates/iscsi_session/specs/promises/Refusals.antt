-- Which events and options a session refuses, and why.
use Rattle.std.specs.Prelude.{◌≡◌, ℕ, ◌+◌, not, nat_lt, List, [], ◌∷◌, length, Option, Some, None, Result, Ok, Err, ⊤, ◌⊎◌, if◌then◌else◌}
use Rattle.iscsi_rules.specs.declared.event.Event.{Event}
use Rattle.iscsi_session.specs.declared.fault.SessionFault.{SessionFault}
use Rattle.iscsi_session.specs.declared.fault.SessionFault.TheVariants.{BadOptions, NoMemory, UnknownConnection, Exhausted}
use Rattle.iscsi_rules.specs.rules.Settings.{Setting, is_valid}
use Rattle.iscsi_rules.specs.rules.Agenda.{belongs}

-- why the event is refused after so many events
abbrev pub refusal_after : Setting → ℕ → Event → Option SessionFault
refusal_after o taken e =
    if not (belongs o e) then Some UnknownConnection
    else (if nat_lt taken o.events then None else Some Exhausted)

-- why the event is refused after the history h
abbrev pub refusal_of : Setting → List Event → Event → Option SessionFault
refusal_of o h e = refusal_after o (length h) e

-- why the options are refused
abbrev pub refusal_of_options : Setting → Option SessionFault
refusal_of_options o = if is_valid o then None else Some BadOptions

-- why the first refused event is refused, of events of which the first comes after so many
abbrev pub first_refusal : Setting → ℕ → List Event → Option SessionFault
first_refusal o taken [] = None
first_refusal o taken (e ∷ es) = elim (refusal_after o taken e) [ Some fault ↦ Some fault | None ↦ first_refusal o (taken + 1) es ]

-- the answer is refused just as it must be; where it mustn't, only for want of memory
abbrev pub RefusesAs : {A : Type 0} → Option SessionFault → Result A SessionFault → Type 0
RefusesAs None (Ok x) = ⊤
RefusesAs None (Err e) = e ≡ NoMemory
RefusesAs (Some fault) (Ok x) = ⊥
RefusesAs (Some fault) (Err e) = e ≡ fault

-- the same of a run: refused for its options, or else for the first event that is refused, unless memory was
-- wanting before that
abbrev pub RunRefusesAs : {A : Type 0} → Option SessionFault → Option SessionFault → Result A SessionFault → Type 0
RunRefusesAs (Some fault) of_events (Ok x) = ⊥
RunRefusesAs (Some fault) of_events (Err e) = e ≡ fault
RunRefusesAs None of_events (Ok x) = of_events ≡ None
RunRefusesAs None of_events (Err e) = (e ≡ NoMemory) ⊎ (of_events ≡ Some e)
