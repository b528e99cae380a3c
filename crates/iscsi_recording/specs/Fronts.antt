-- What stands at the front of bytes of which more may come.
use Rattle.std.specs.Prelude.{◌≡◌, ℕ, ◌+◌, ◌^◌, ◌<◌, ◌≤◌, true, false, List, length, take, slice_index, Some}
use Rattle.std.specs.List.{list_any}
use Rattle.iscsi_rules.specs.declared.event.Event.{Event}
use Rattle.iscsi_recording.specs.Fields.{digits_after, decimal_of}
use Rattle.iscsi_recording.specs.Grammar.{line_of}
use Rattle.iscsi_recording.specs.Recorded.{Recorded}
use Rattle.iscsi_recording.specs.Recorded as recorded
use Rattle.iscsi_recording.specs.Reading.{is_end}
use Rattle.iscsi_recording.specs.declared.line.Line.TheVariants as line

-- the bytes begin with so many digits, which are the number n, and a blank
pub record LeadsWith (bytes : List ℕ) (n count : ℕ) : Type 0 where
  pub long : count < length bytes
  pub blank : slice_index bytes count ≡ 32
  pub digits : digits_after 0 (take count bytes) ≡ Some n
  pub small : n < 2 ^ 64
  pub number : (max : ℕ) → n ≤ max → decimal_of max (take count bytes) ≡ Some n

-- a blank, the status 0 and the end of a line stand at a place of the bytes
abbrev pub EndsGood : List ℕ → ℕ → Type 0
EndsGood bytes at = (slice_index bytes at ≡ 32) × ((slice_index bytes (at + 1) ≡ 48) × ((slice_index bytes (at + 2) ≡ 48) × (slice_index bytes (at + 3) ≡ 10)))

-- the first line of the bytes is this long, and says the event
pub record FirstSays (bytes : List ℕ) (size : ℕ) (e : Event) : Type 0 where
  pub long : size < length bytes
  pub short : size ≤ 256
  pub end : is_end (slice_index bytes size) ≡ true
  pub said : line_of (take size bytes) ≡ Some (line.Event e)
  pub one : list_any is_end (take size bytes) ≡ false

-- the recording r took the event that the first line of the bytes says, and became s. So many bytes has that line with its end
pub record TookFirst (r s : Recorded) (bytes : List ℕ) (taken : ℕ) : Type 0 where
  pub size : ℕ
  pub with_end : taken ≡ size + 1
  pub event : Event
  pub says : FirstSays bytes size event
  pub took : recorded.take r (line.Event event) ≡ Some s
