-- What a window shows without its events: of each query the same, and after each change what that change makes of it.
use Rattle.std.proofs.Common.{◌≡◌, ◌∙◌, ℕ, zero, suc, ◌-◌, arith, Bool, [], List, ◌∷◌, map, take, replicate, position, Option, Some, None, is_some, option_map, ap, sym, refl}
use Rattle.std.specs.List.{position_or_len}
use Rattle.std.proofs.Math.ListN.{get_or-map}
use Rattle.std.proofs.lemmas.List.{length-map, map-append, map-set, drop-map, take-map}
use Rattle.std.proofs.lemmas.Bool.Decides.{nat_tests}
use Rattle.iscsi_wire.specs.Fields.{cmd_sn}
use Rattle.iscsi_wire.specs.Serial.{wire, lift}
use Rattle.iscsi_wire.specs.declared.request.Request.{Request}
use Rattle.iscsi_window.specs.declared.answer.Place.{Place}
use Rattle.iscsi_window.specs.declared.held_request.HeldRequest.{HeldRequest}
use Rattle.iscsi_window.specs.Received.{Arrived, number_expected, at_place, IsSound, HasRoom}
use Rattle.iscsi_window.specs.Windows.{opened, place_at, place_in, with_place, held_at, is_received_at, received_at, offer_to, offered_to, voided, is_command, is_held_from, find_command, emptied, first_from, dropped_at, taken_at, turned_by, turned_on, advanced, is_next, request_at, shown, holds_from, find_held, offered_in, taken_from}

-- ---- places

pub at_shown : (s : Arrived) (k : ℕ) → at_place (shown s) k ≡ request_at (at_place s k)
at_shown s k = get_or-map request_at s.places k None

some_shown : (p : Option (Option HeldRequest)) → is_some (request_at p) ≡ is_some p
some_shown p = grind arith

place_shown : (s : Arrived) (w : ℕ) → place_in (shown s) w ≡ place_in s w
place_shown s w = ap (λ n. place_at (number_expected s) (n - s.unfinished) (lift (number_expected s) w)) (length-map s.places request_at)

put_shown : (s : Arrived) (k : ℕ) (p : Option (Option HeldRequest)) → shown (with_place s k p) ≡ with_place (shown s) k (request_at p)
put_shown s k p = rw map-set

pub opened_shown : (first size : ℕ) → shown (opened first size) ≡ opened first size
opened_shown first size = rw (none size)
  where
    none : (n : ℕ) → map request_at (replicate n None) ≡ replicate n None
    none zero = refl
    none (suc n) = rw (none n)

-- ---- numbers that come

pub offer_shown : (s : Arrived) (r : Request) → offer_to (shown s) r ≡ offer_to s r
offer_shown s r = grind (arith, nat_tests, place_shown s (cmd_sn r), at_shown s, some_shown)

received_shown : (s : Arrived) (p : Place) (x : Option HeldRequest) (y : Option Request) → request_at (Some x) ≡ Some y → shown (received_at s p x) ≡ received_at (shown s) p y
received_shown s p x y is = grind (arith, at_shown s, some_shown, put_shown s)

pub offered_shown : (s : Arrived) (r : Request) (event : ℕ) → shown (offered_in s r event) ≡ offered_to (shown s) r
offered_shown s r event = rw (place_shown s (cmd_sn r)) (received_shown s (place_in s (cmd_sn r)) (Some (record { request = r; event = event })) (Some r) refl)

pub voided_shown : (s : Arrived) (w : ℕ) → shown (voided s w) ≡ voided (shown s) w
voided_shown s w = rw (place_shown s w) (received_shown s (place_in s w) None None refl)

pub received_same : (s : Arrived) (w : ℕ) → is_received_at s (place_in s w) ≡ is_received_at (shown s) (place_in (shown s) w)
received_same s w = grind (arith, nat_tests, place_shown s w, at_shown s, some_shown)

-- ---- requests that are taken out

module _ {X Y : Type 0} (f : X → Y) (p : Y → Bool) where
  first_map : (xs : List X) → position_or_len p (map f xs) ≡ position_or_len (λ x. p (f x)) xs
  first_map [] = refl
  first_map (x ∷ xs) = rw (first_map xs)

  position_map : (xs : List X) → position p (map f xs) ≡ position (λ x. p (f x)) xs
  position_map xs = rw (first_map xs, length-map)

pub found_shown : (s : Arrived) (tag unit w : ℕ) → find_held s tag unit w ≡ find_command (shown s) tag unit w
found_shown s tag unit w = rw (take-map, position_map request_at (is_command tag unit) (take (lift (number_expected s) w - number_expected s) s.places))

pub first_shown : (s : Arrived) (conn : Option ℕ) → position (holds_from conn) s.places ≡ first_from (shown s) conn
first_shown s conn = sym (position_map request_at (is_held_from conn) s.places)

abbrev request_of : Option HeldRequest → Option Request
request_of x = option_map (λ (h : HeldRequest). h.request) x

held_at_place : (s : Arrived) (p : Place) → held_at (shown s) p ≡ request_of (held_at s p)
held_at_place s p = grind (arith, at_shown s)

pub held_shown : (s : Arrived) (w : ℕ) (x : Option HeldRequest) (y : Option Request) → x ≡ held_at s (place_in s w) → Some y ≡ request_at (Some x) → y ≡ held_at (shown s) (place_in (shown s) w)
held_shown s w x y is are = grind (arith, nat_tests, place_shown s w, held_at_place s (place_in s w))

pub emptied_shown : (s : Arrived) (w : ℕ) → shown (emptied s w) ≡ emptied (shown s) w
emptied_shown s w = grind (arith, nat_tests, place_shown s w, held_at_place s (place_in s w), put_shown s)

pub dropped_shown : (s : Arrived) (conn : Option ℕ) → shown (dropped_at s (position (holds_from conn) s.places)) ≡ dropped_at (shown s) (first_from (shown s) conn)
dropped_shown s conn = grind (arith, nat_tests, first_shown s conn, put_shown s)

pub from_shown : (s : Arrived) (k : ℕ) (conn : Option ℕ) → holds_from conn (at_place s k) ≡ is_held_from conn (at_place (shown s) k)
from_shown s k conn = rw (at_shown s k)

pub taken_shown : (s : Arrived) (k : ℕ) (conn : Option ℕ) → shown (taken_from s k conn) ≡ taken_at (shown s) k conn
taken_shown s k conn = grind (arith, at_shown s k, put_shown s)

-- ---- turns

turned_shown : (s : Arrived) → shown (turned_on s) ≡ turned_on (shown s)
turned_shown s = rw (map-append, drop-map)

pub advanced_shown : (s : Arrived) → shown (advanced s) ≡ advanced (shown s)
advanced_shown s = grind (arith, nat_tests, at_shown s 0, turned_shown s)

-- what turned, where it is shown so
pub turn_shown : (s : Arrived) (x : Option HeldRequest) (y : Option Request) → at_place s 0 ≡ Some x → Some y ≡ request_at (Some x) → Some (record { sn = wire (number_expected s); request = y }) ≡ turned_by (shown s)
turn_shown s x y is are = rw (at_shown s 0, is, ← are)

pub none_shown : (s : Arrived) → at_place s 0 ≡ None → None ≡ turned_by (shown s)
none_shown s none = rw (at_shown s 0, none)

pub next_shown : (s : Arrived) (r : Request) → is_next s r ≡ is_next (shown s) r
next_shown s r = grind (arith, nat_tests, place_shown s (cmd_sn r), at_shown s, some_shown)

pub passed_shown : (s : Arrived) (r : Request) → shown (advanced (offered_in s r 0)) ≡ advanced (offered_to (shown s) r)
passed_shown s r = advanced_shown (offered_in s r 0) ∙ ap advanced (offered_shown s r 0)

-- ---- what holds of it

pub sound_shown : (s : Arrived) → IsSound s → IsSound (shown s)
sound_shown s sound = grind (arith, nat_tests, length-map, at_shown)

pub room_shown : (s : Arrived) → HasRoom s → HasRoom (shown s)
room_shown s room = grind (arith, length-map s.places request_at, at_shown s)

-- a place that shows nothing has nothing
pub room_beneath : (s : Arrived) → HasRoom (shown s) → HasRoom s
room_beneath s room = grind (arith, length-map s.places request_at, at_shown s)
