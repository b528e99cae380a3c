-- Every call keeps what holds of every window.
use Rattle.std.proofs.Common.{◌≡◌, ℕ, ◌-◌, ◌<◌, length, position, set, Option, Some, None, arith, true, length-set, get_or-set_other}
use Rattle.iscsi_window.specs.declared.held_request.HeldRequest.{HeldRequest}
use Rattle.std.proofs.lemmas.List.Quantifiers.{position-Some}
use Rattle.std.proofs.lemmas.Bool.Decides.{nat_tests}
use Rattle.iscsi_window.specs.PlaceTags.{Placed}
use Rattle.iscsi_window.specs.Windows.{holds_from}
use Rattle.iscsi_window.specs.Received.{Arrived, room_of, at_place, IsSound}

-- a place with a held request is received
is_received : (conn : Option ℕ) (place : Option (Option HeldRequest)) → holds_from conn place ≡ true → (r : Option HeldRequest) × (place ≡ Some r)
is_received conn r held = grind (arith, nat_tests)

-- a received number has a place below the room
pub received_within : (s : Arrived) (k : ℕ) (r : Option HeldRequest) → IsSound s → at_place s k ≡ Some r → k < room_of s
received_within s k r sound received = grind (arith, nat_tests)

-- so has one whose request is held
pub held_within : (s : Arrived) (conn : Option ℕ) (k : ℕ) → IsSound s → position (holds_from conn) s.places ≡ Some k → k < room_of s
held_within s conn k sound found = grind (arith, nat_tests, position-Some (holds_from conn) s.places k None found, is_received, received_within)

pub sound_set : (s : Arrived) (k : ℕ) (v : Option (Option HeldRequest)) → IsSound s → k < room_of s → IsSound (record s { places = set s.places k v })
sound_set s k v sound within = grind (arith, nat_tests, length-set, get_or-set_other)

-- ---- the fields

-- what the fields keep
abbrev pub Keeps : ℕ → ℕ → ℕ → Placed → Type 0
Keeps first unfinished size places = (length places.items ≡ size) × IsSound (let s : Arrived = record { first = first; turned = places.turned; unfinished = unfinished; places = places.items } in s)

pub keeps_put : (first unfinished size k : ℕ) (v : Option (Option HeldRequest)) (old new : Placed) → Keeps first unfinished size old → k < length old.items - unfinished → new ≡ record old { items = set old.items k v } → Keeps first unfinished size new
keeps_put first unfinished size k v old new keeps within put =
    let s : Arrived = record { first = first; turned = old.turned; unfinished = unfinished; places = old.items } in
    grind (arith, length-set, sound_set s k v keeps.1 within)
