-- Events that stand one after another in few bytes.
use Rattle.std.specs.Prelude.{◌≡◌, ℕ, zero, suc, ◌≤◌, ◌<◌, ◌^◌, ◌==◌, if◌then◌else◌, List, [], ◌∷◌, ◌++◌, length, take, drop, slice_index}
use Rattle.byteorder.specs.Endian.{big_bytes, big_number}
use Rattle.iscsi_rules.specs.declared.event.Event.{Event}
use Rattle.iscsi_rules.specs.declared.event.Event.TheVariants.{Arrive, Done}

-- the bytes of an event: its kind, and then its parts, numbers with their highest byte first
abbrev pub bytes_of : Event → List ℕ
bytes_of (Arrive conn header) = 0 ∷ (big_bytes 2 conn ++ header)
bytes_of (Done ticket status) = 1 ∷ (big_bytes 8 ticket ++ status ∷ [])

-- the bytes have room for the parts of the event
abbrev pub Fits : Event → Type 0
Fits (Arrive conn header) = (conn < 2 ^ 16) × (length header ≡ 48)
Fits (Done ticket status) = ticket < 2 ^ 64

-- how many bytes the first event takes
abbrev pub first_size : List ℕ → ℕ
first_size bytes = if slice_index bytes 0 == 0 then 51 else 10

-- the event that has these bytes
abbrev pub event_in : List ℕ → Event
event_in bytes =
    if slice_index bytes 0 == 0 then Arrive (big_number 2 (drop 1 bytes)) (drop 3 bytes)
    else Done (big_number 8 (drop 1 bytes)) (slice_index bytes 9)

-- so many events, one after another
abbrev pub events_of : ℕ → List ℕ → List Event
events_of zero bytes = []
events_of (suc n) bytes = event_in (take (first_size bytes) bytes) ∷ events_of n (drop (first_size bytes) bytes)

-- the bytes are those of so many events, and no others
abbrev pub IsDense : ℕ → List ℕ → Type 0
IsDense zero bytes = bytes ≡ []
IsDense (suc n) bytes = (first_size bytes ≤ length bytes) × IsDense n (drop (first_size bytes) bytes)
