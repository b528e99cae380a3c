-- Held requests, counted by groups of tags: those of one group leave the same remainder on division by 4093.
use Rattle.std.specs.Prelude.{◌≡◌, ℕ, ◌+◌, ◌-◌, ◌%◌, ◌^◌, ◌<◌, ◌≤◌, ◌==◌, min, Bool, true, false, if◌then◌else◌, is_some, List, length, count_by, slice_set, slice_index, slice_index_or, Option, Some, None}
use Rattle.iscsi_wire.specs.Fields.{itt}
use Rattle.iscsi_window.specs.Received.{is_held}
use Rattle.iscsi_window.specs.declared.held_request.HeldRequest.{HeldRequest}

-- the group of the request that a place holds
abbrev pub group_of : Option (Option HeldRequest) → Option ℕ
group_of None = None
group_of (Some None) = None
group_of (Some (Some r)) = Some (itt r.request % 4093)

abbrev pub is_group : ℕ → Option ℕ → Bool
is_group g None = false
is_group g (Some h) = h == g

-- a request of the group is held
abbrev pub is_of : ℕ → Option (Option HeldRequest) → Bool
is_of g place = is_group g (group_of place)

abbrev pub raised : List ℕ → Option ℕ → List ℕ
raised counts None = counts
raised counts (Some g) = slice_set counts g (slice_index counts g + 1)

abbrev pub lowered : List ℕ → Option ℕ → List ℕ
lowered counts None = counts
lowered counts (Some g) = slice_set counts g (slice_index counts g - 1)

-- each counter is how many requests of its group are held
pub record IsCounted (counts : List ℕ) (places : List (Option (Option HeldRequest))) : Type 0 where
  pub as_many : length counts ≡ 4093
  pub few : length places ≤ 1024
  pub exact : (g : ℕ) → slice_index counts g ≡ count_by (is_of g) places

abbrev pub is_none_of : List ℕ → Option ℕ → Bool
is_none_of counts None = true
is_none_of counts (Some g) = slice_index counts g == 0

-- a request of the group has this number from now on, the only one or one more
abbrev pub occupied : List ℕ → Option ℕ → ℕ → Bool → List ℕ
occupied bounds None number is_only = bounds
occupied bounds (Some g) number true = slice_set bounds g number
occupied bounds (Some g) number false = slice_set bounds g (min number (slice_index bounds g))

-- the group's request with this number is taken out
abbrev pub vacated : List ℕ → Option ℕ → ℕ → List ℕ
vacated bounds None number = bounds
vacated bounds (Some g) number = if slice_index bounds g == number then slice_set bounds g (min (number + 1) (2 ^ 64 - 1)) else bounds

-- no request of a group is held for a number below the group's bound; the first place has number `turned`
pub record AreBounds (bounds : List ℕ) (turned : ℕ) (places : List (Option (Option HeldRequest))) : Type 0 where
  pub as_many : length bounds ≡ 4093
  pub small : (g : ℕ) → slice_index bounds g < 2 ^ 64
  pub below : (k g : ℕ) → group_of (slice_index_or places k None) ≡ Some g → slice_index bounds g ≤ turned + k

-- what the counters beside the places say of them
pub record ArePlacesSound (counts bounds : List ℕ) (turned received held : ℕ) (places : List (Option (Option HeldRequest))) : Type 0 where
  pub tags : IsCounted counts places
  pub lowest : AreBounds bounds turned places
  pub as_many : received ≡ count_by is_some places
  pub held_are : held ≡ count_by is_held places
