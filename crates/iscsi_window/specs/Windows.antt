-- What a window answers, and what it becomes.
use Rattle.std.specs.Prelude.{ℕ, ◌+◌, ◌-◌, ◌==◌, ◌&&◌, Bool, true, false, not, is_some, nat_lt, nat_le, [], ◌∷◌, ◌++◌, length, map, take, drop, replicate, position, slice_set, Option, Some, None, option_map, if◌then◌else◌}
use Rattle.std.specs.Option.{option_flatten}
use Rattle.iscsi_wire.specs.Serial.{wire, lift}
use Rattle.iscsi_wire.specs.Fields.{connection_of, opcode, lun, itt, cmd_sn, unit_of}
use Rattle.iscsi_wire.specs.declared.request.Request.{Request}
use Rattle.iscsi_window.specs.declared.answer.Place.{Place}
use Rattle.iscsi_window.specs.declared.answer.Place.TheVariants.{Inside, Outside}
use Rattle.iscsi_window.specs.declared.answer.Offer.{Offer}
use Rattle.iscsi_window.specs.declared.answer.Offer.TheVariants.{Held, Outside as OutsideWindow, Duplicate}
use Rattle.iscsi_window.specs.declared.answer.Turned.{Turned}
use Rattle.iscsi_window.specs.declared.held_request.HeldRequest.{HeldRequest}
pub use Rattle.iscsi_window.specs.Received.{WindowOf, Received, Arrived, number_expected, room_of, at_place, is_held, IsSound, HasRoom}

-- a window of this size, at the session's first number
abbrev pub opened : {A : Type 0} → ℕ → ℕ → WindowOf A
opened first size = record { first = first; turned = 0; unfinished = 0; places = replicate size None }

-- the last admitted number; the one before the expected number where none is admitted
abbrev pub number_last : {A : Type 0} → WindowOf A → ℕ
number_last s = number_expected s + length s.places - 1 - s.unfinished

-- ---- where a number stands

-- a number is inside from the expected one on, as far as there is room
abbrev pub place_at : ℕ → ℕ → ℕ → Place
place_at e room n = if nat_le e n && nat_lt n (e + room) then Inside (n - e) else Outside

abbrev pub place_in : {A : Type 0} → WindowOf A → ℕ → Place
place_in s w = place_at (number_expected s) (room_of s) (lift (number_expected s) w)

abbrev pub IsInside : Place → Type 0
IsInside (Inside k) = Unit {0}
IsInside Outside = ⊥

-- ---- one place

-- the state with another thing at a place
abbrev pub with_place : {A : Type 0} → WindowOf A → ℕ → Option (Option A) → WindowOf A
with_place s k received = record s { places = slice_set s.places k received }

-- the request that is held at a place
abbrev pub held_at : {A : Type 0} → WindowOf A → Place → Option A
held_at s Outside = None
held_at s (Inside k) = option_flatten (at_place s k)

abbrev pub is_received_at : {A : Type 0} → WindowOf A → Place → Bool
is_received_at s Outside = false
is_received_at s (Inside k) = is_some (at_place s k)

-- a number that is outside or received stays as it is; another one is received so
abbrev pub received_at : {A : Type 0} → WindowOf A → Place → Option A → WindowOf A
received_at s Outside r = s
received_at s (Inside k) r = if is_some (at_place s k) then s else with_place s k (Some r)

-- ---- requests that come

abbrev pub offer_at : {A : Type 0} → WindowOf A → Place → Offer
offer_at s Outside = OutsideWindow
offer_at s (Inside k) = if is_some (at_place s k) then Duplicate else Held

abbrev pub offer_to : {A : Type 0} → WindowOf A → Request → Offer
offer_to s r = offer_at s (place_in s (cmd_sn r))

abbrev pub offered_to : Received → Request → Received
offered_to s r = received_at s (place_in s (cmd_sn r)) (Some r)

-- the number counts as received, and nothing is held for it
abbrev pub voided : {A : Type 0} → WindowOf A → ℕ → WindowOf A
voided s w = received_at s (place_in s w) None

-- ---- requests that are taken out, whose numbers stay received

-- the unit that a LUN names is this one
abbrev pub is_unit : ℕ → Option ℕ → Bool
is_unit unit None = false
is_unit unit (Some u) = u == unit

-- a SCSI Command with this tag, to this unit, is held
abbrev pub is_command : ℕ → ℕ → Option (Option Request) → Bool
is_command tag unit None = false
is_command tag unit (Some None) = false
is_command tag unit (Some (Some r)) = opcode r == 1 && itt r == tag && is_unit unit (unit_of (lun r))

-- the connection is this one, where one is asked for
abbrev pub is_asked : Option ℕ → ℕ → Bool
is_asked None conn = true
is_asked (Some asked) conn = conn == asked

-- a request of that connection is held
abbrev pub is_held_from : Option ℕ → Option (Option Request) → Bool
is_held_from asked None = false
is_held_from asked (Some None) = false
is_held_from asked (Some (Some r)) = is_asked asked (connection_of r)

-- what the wire shows of the number of a place
abbrev pub number_shown : {A : Type 0} → WindowOf A → ℕ → ℕ
number_shown s k = wire (number_expected s + k)

-- the first place below the number that w shows where such a command is held
abbrev pub find_command : Received → ℕ → ℕ → ℕ → Option ℕ
find_command s tag unit w = position (is_command tag unit) (take (lift (number_expected s) w - number_expected s) s.places)

abbrev pub emptied_if : {A : Type 0} → WindowOf A → Place → Option A → WindowOf A
emptied_if s Outside r = s
emptied_if s (Inside k) None = s
emptied_if s (Inside k) (Some r) = with_place s k (Some None)

abbrev pub emptied : {A : Type 0} → WindowOf A → ℕ → WindowOf A
emptied s w = emptied_if s (place_in s w) (held_at s (place_in s w))

-- the first place where a request of that connection is held
abbrev pub first_from : Received → Option ℕ → Option ℕ
first_from s conn = position (is_held_from conn) s.places

abbrev pub dropped_at : {A : Type 0} → WindowOf A → Option ℕ → WindowOf A
dropped_at s None = s
dropped_at s (Some k) = with_place s k (Some None)

-- the request of a place is taken out, if it is one of that connection
abbrev pub taken_at : Received → ℕ → Option ℕ → Received
taken_at s k conn = if is_held_from conn (at_place s k) then with_place s k (Some None) else s

-- ---- the expected number turns

abbrev pub turned_by : Received → Option Turned
turned_by s = option_map (λ r. record { sn = wire (number_expected s); request = r }) (at_place s 0)

-- its place goes, and one more number has a place, which wasn't received
abbrev pub turned_on : {A : Type 0} → WindowOf A → WindowOf A
turned_on s = record s { turned = s.turned + 1; places = drop 1 s.places ++ None ∷ [] }

abbrev pub advanced_if : {A : Type 0} → WindowOf A → Option (Option A) → WindowOf A
advanced_if s None = s
advanced_if s (Some r) = turned_on s

abbrev pub advanced : {A : Type 0} → WindowOf A → WindowOf A
advanced s = advanced_if s (at_place s 0)

-- ---- a request that turns as it comes

-- its number is the expected one, admitted, and wasn't received
abbrev pub is_next_at : {A : Type 0} → WindowOf A → Place → Bool
is_next_at s Outside = false
is_next_at s (Inside k) = k == 0 && not (is_some (at_place s 0))

abbrev pub is_next : {A : Type 0} → WindowOf A → Request → Bool
is_next s r = is_next_at s (place_in s (cmd_sn r))

-- ---- commands that are being executed

abbrev pub with_unfinished : {A : Type 0} → WindowOf A → ℕ → WindowOf A
with_unfinished s u = record s { unfinished = u }

-- ---- a window that holds each request with the event in which it arrived

-- what it shows without the events
abbrev pub request_at : Option (Option HeldRequest) → Option (Option Request)
request_at None = None
request_at (Some None) = Some None
request_at (Some (Some h)) = Some (Some h.request)

abbrev pub shown : Arrived → Received
shown s = record { first = s.first; turned = s.turned; unfinished = s.unfinished; places = map request_at s.places }

abbrev pub holds_command : ℕ → ℕ → Option (Option HeldRequest) → Bool
holds_command tag unit place = is_command tag unit (request_at place)

abbrev pub holds_from : Option ℕ → Option (Option HeldRequest) → Bool
holds_from asked place = is_held_from asked (request_at place)

abbrev pub find_held : Arrived → ℕ → ℕ → ℕ → Option ℕ
find_held s tag unit w = position (holds_command tag unit) (take (lift (number_expected s) w - number_expected s) s.places)

-- a request that comes in this event
abbrev pub offered_in : Arrived → Request → ℕ → Arrived
offered_in s r event = received_at s (place_in s (cmd_sn r)) (Some (record { request = r; event = event }))

-- the request of a place is taken out, if it is one of that connection
abbrev pub taken_from : Arrived → ℕ → Option ℕ → Arrived
taken_from s k conn = if holds_from conn (at_place s k) then with_place s k (Some None) else s
