-- A window as its callers see it: the numbers that were received and haven't turned.
use Rattle.std.specs.Prelude.{◌≡◌, ℕ, ◌+◌, ◌-◌, ◌<◌, ◌≤◌, Bool, true, false, List, length, slice_index_or, Option, Some, None}
use Rattle.iscsi_wire.specs.Serial.{number_of_first}
use Rattle.iscsi_wire.specs.declared.request.Request.{Request}
use Rattle.iscsi_window.specs.declared.held_request.HeldRequest.{HeldRequest}

-- The places stand for the numbers from the expected one on, as many as the window's size. A place is None
-- where its number wasn't received, and Some None where it was and nothing is held for it.
pub record WindowOf (A : Type 0) : Type 0 where
  pub first : ℕ  -- the session's first CmdSN
  pub turned : ℕ  -- how many numbers have turned
  pub unfinished : ℕ  -- how many commands are being executed
  pub places : List (Option (Option A))

-- a window that holds requests
abbrev pub Received : Type 0
Received = WindowOf Request

-- one that holds each with the event in which it arrived
abbrev pub Arrived : Type 0
Arrived = WindowOf HeldRequest

-- the expected number
abbrev pub number_expected : {A : Type 0} → WindowOf A → ℕ
number_expected s = number_of_first s.first + s.turned

-- how many numbers are admitted, from the expected one on: a command that is being executed takes one place
abbrev pub room_of : {A : Type 0} → WindowOf A → ℕ
room_of s = length s.places - s.unfinished

-- what a place has; None from the last one on
abbrev pub at_place : {A : Type 0} → WindowOf A → ℕ → Option (Option A)
at_place s k = slice_index_or s.places k None

-- something is held at the place
abbrev pub is_held : {A : Type 0} → Option (Option A) → Bool
is_held None = false
is_held (Some None) = false
is_held (Some (Some r)) = true

-- what holds of every window
pub record IsSound {A : Type 0} (s : WindowOf A) : Type 0 where
  pub not_empty : 1 ≤ length s.places
  pub at_most : length s.places ≤ 1024
  pub counted : s.unfinished ≤ length s.places
  pub none_above : (k : ℕ) → room_of s ≤ k → at_place s k ≡ None

-- one command more may be counted: the last admitted number isn't received
pub record HasRoom {A : Type 0} (s : WindowOf A) : Type 0 where
  pub not_full : s.unfinished < length s.places
  pub last_free : at_place s (length s.places - 1 - s.unfinished) ≡ None
