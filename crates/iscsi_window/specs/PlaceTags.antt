-- The tags of the places of a window, as a search reads them.
use Rattle.std.specs.Prelude.{◌≡◌, ℕ, ◌+◌, ◌-◌, ◌%◌, ◌^◌, ◌<◌, ◌≤◌, Bool, true, false, MatchOption, List, length, slice_set, slice_index, slice_index_or, Option, Some, None}
use Rattle.iscsi_wire.specs.Fields.{itt}
use Rattle.iscsi_window.specs.declared.held_request.HeldRequest.{HeldRequest}
use Rattle.iscsi_window.specs.FilledSlots.{AreFilled}
use Rattle.iscsi_window.specs.Tags.{ArePlacesSound}

-- the place with this number gets the tag of a request
abbrev pub labelled : List ℕ → Option (Option HeldRequest) → ℕ → List ℕ
labelled tags None number = tags
labelled tags (Some None) number = tags
labelled tags (Some (Some r)) number = slice_set tags (number % 1024) (itt r.request)

-- the tag of each request that is held stands in the slot of its place's number; the first place has number `turned`
pub record AreLabelled (tags : List ℕ) (turned : ℕ) (places : List (Option (Option HeldRequest))) : Type 0 where
  pub as_many : length tags ≡ 1024
  pub named : (k : ℕ) (r : HeldRequest) → slice_index_or places k None ≡ Some (Some r) → turned + k < 2 ^ 64 - 1 → slice_index tags ((turned + k) % 1024) ≡ itt r.request

-- what the counters, bounds, tags and bits beside the places say of them
pub record ArePlacesFound (counts bounds tags words : List ℕ) (turned received held : ℕ) (places : List (Option (Option HeldRequest))) : Type 0 where
  pub sound : ArePlacesSound counts bounds turned received held places
  pub labels : AreLabelled tags turned places
  pub filled : AreFilled words turned places

-- the first place from one on, below another, that passes, if one does
abbrev pub IsFirstBetween : (Option (Option HeldRequest) → Bool) → List (Option (Option HeldRequest)) → ℕ → ℕ → Option ℕ → Type 0
IsFirstBetween p places from end found = MatchOption found
    ((j : ℕ) → from ≤ j → j < end → p (slice_index_or places j None) ≡ false)
    (λ k. (k < end) × (p (slice_index_or places k None) ≡ true) × ((j : ℕ) → from ≤ j → j < k → p (slice_index_or places j None) ≡ false) × (from ≤ k))

-- the places, as callers see them: the first one has number `turned`
pub record Placed : Type 0 where
  pub turned : ℕ
  pub items : List (Option (Option HeldRequest))
