-- Which places were filled, a bit for each slot, as a search reads them.
use Rattle.std.specs.Prelude.{◌≡◌, ◌≢◌, ℕ, ◌+◌, ◌-◌, ◌/◌, ◌%◌, ◌^◌, ◌<◌, List, slice_index, slice_index_or, Option, Some, None}
use Rattle.std.specs.Int.{bit_at}
use Rattle.iscsi_window.specs.declared.held_request.HeldRequest.{HeldRequest}

-- the bit of the slot of a place with this number, in words of 64 bits
abbrev pub slot_bit : List ℕ → ℕ → ℕ
slot_bit words number = bit_at (slice_index words (number % 1024 / 64)) (number % 64)

-- the slot of this number has this bit from now on, and the others have theirs
pub record IsSlotSet (old new : List ℕ) (number bit : ℕ) : Type 0 where
  pub here : slot_bit new number ≡ bit
  pub others : (n : ℕ) → n % 1024 ≢ number % 1024 → slot_bit new n ≡ slot_bit old n

-- each place that holds a request has its bit; the first place has number `turned`
pub record AreFilled (words : List ℕ) (turned : ℕ) (places : List (Option (Option HeldRequest))) : Type 0 where
  pub marked : (k : ℕ) (r : HeldRequest) → slice_index_or places k None ≡ Some (Some r) → turned + k < 2 ^ 64 - 1 → slot_bit words (turned + k) ≡ 1

-- none of the slots whose bit is set has the tag
abbrev pub NoneTagged : List ℕ → List ℕ → ℕ → Type 0
NoneTagged tags words tag = (n : ℕ) → slot_bit words n ≡ 1 → slice_index tags (n % 1024) ≢ tag
