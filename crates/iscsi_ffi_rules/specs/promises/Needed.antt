-- Requests: each is kept just as long as something of it is needed.
use Rattle.std.specs.Prelude.{◌≡◌, ℕ, true, false, List, [], ◌∷◌, ◌++◌}
use Rattle.std.specs.List.{list_all}
use Rattle.iscsi_outbox_rules.specs.rules.Words.{contains}
use Rattle.iscsi_ffi_rules.specs.rules.Calls.{Interface, Call, Arrives}
use Rattle.iscsi_ffi_rules.specs.rules.Sides.{Side, opened}
use Rattle.iscsi_ffi_rules.specs.rules.Needs.{is_needed}
use Rattle.iscsi_ffi_rules.specs.rules.Happening.{is_asked}
use Rattle.iscsi_ffi_rules.specs.rules.Run.{Answer, Taken, after_call}
use Rattle.iscsi_ffi_rules.specs.promises.Deeds.{side_of}

-- the event in which a request is taken
abbrev pub event_taken : Side → Call → Answer → List ℕ
event_taken s (Arrives conn header cookie) Taken = s.both.event ∷ []
event_taken s _ _ = []

abbrev pub events_from : Interface → Side → List Call → List ℕ
events_from i s [] = []
events_from i s (c ∷ cs) = let a = after_call i s c in event_taken s c a.answer ++ events_from i a.told.side cs

-- the events in which the requests of these calls were taken
abbrev pub events_taken : Interface → List Call → List ℕ
events_taken i cs = events_from i (opened i) cs

-- of a request that is kept no more nothing is held, waits, is live, runs, waits to go out, or is handed out and not written, whatever
-- calls come
abbrev pub NeededNoMore : Interface → List Call → List Call → Type 0
NeededNoMore i cs later =
    (event cookie : ℕ) → contains (events_taken i cs) event ≡ true → is_asked (side_of i cs).asked event ≡ false
    → is_needed (side_of i (cs ++ later)) (record { event = event; cookie = cookie }) ≡ false

-- and each that is kept is needed
abbrev pub KeepsNeeded : Interface → List Call → Type 0
KeepsNeeded i cs = list_all (is_needed (side_of i cs)) (side_of i cs).asked ≡ true
