-- When each slot came to stand in the lane: the order of the log, as numbers. For private contracts alone.
use Rattle.std.specs.Prelude.{◌≡◌, ℕ, ◌<◌, ◌&&◌, not, nat_lt, Bool, false, List, [], ◌∷◌, filter, slice_index_or}
use Rattle.iscsi_slots.specs.Slots.{times}
use Rattle.iscsi_outbox_state.specs.declared.lane.Standing.{Standing}
use Rattle.iscsi_outbox_state.specs.declared.lane.Standing.TheVariants.{Left as IsLeft, Undue as IsUndue}
use Rattle.iscsi_lines.specs.Lines.{due_in}
use Rattle.iscsi_scopes.specs.Scopes.{Scoped, slots_of}
use Rattle.iscsi_lane.specs.Standings.{at}
use Rattle.iscsi_lane.specs.Scoping.{is_it}

abbrev pub time_of : List ℕ → ℕ → ℕ
time_of ts s = slice_index_or ts s 0

abbrev pub AllAfter : List ℕ → ℕ → List ℕ → Type 0
AllAfter ts n [] = Unit {0}
AllAfter ts n (s ∷ slots) = (n < time_of ts s) × AllAfter ts n slots

abbrev pub AllUnder : List ℕ → ℕ → List ℕ → Type 0
AllUnder ts n [] = Unit {0}
AllUnder ts n (s ∷ slots) = (time_of ts s < n) × AllUnder ts n slots

-- each came after those before it
abbrev pub IsUp : List ℕ → List ℕ → Type 0
IsUp ts [] = Unit {0}
IsUp ts (s ∷ slots) = AllAfter ts (time_of ts s) slots × IsUp ts slots

-- whether a slot is among others
abbrev pub has : List ℕ → ℕ → Bool
has slots t = nat_lt 0 (times t slots)

-- an answer that doesn't wait for other sessions
abbrev pub is_cleared : Standing → Bool
is_cleared (IsLeft c) = false
is_cleared (IsUndue a) = not a.uncleared

-- what a look at the line of a key adds to those that are due
abbrev pub gains : Scoped → ℕ → List Standing → ℕ → Bool
gains scopes key xs t = is_cleared (at xs t) && is_it t (due_in scopes.items (slots_of key scopes.lines))

-- the slots of some, in the order of the log
abbrev pub InOrder : List ℕ → List ℕ → Type 0
InOrder slots order = slots ≡ filter (has slots) order
