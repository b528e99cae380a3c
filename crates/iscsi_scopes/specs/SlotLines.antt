-- Lines over slots that the caller gives. For private contracts alone.
use Rattle.std.specs.Prelude.{◌≡◌, ◌≢◌, ◌<◌, ℕ, ◌+◌, ◌≤◌, List, [], ◌∷◌, ◌++◌, length, slice_index_or, slice_set}
use Rattle.iscsi_slots.specs.Slots.{times}
use Rattle.iscsi_lists.specs.Lists.{Listed, without}
use Rattle.iscsi_lines.specs.declared.item.Item.{Item}
use Rattle.iscsi_lines.specs.Lines.{Lined, line_at}
use Rattle.iscsi_lines.specs.Settling.{IsLineAt}

abbrev pub lined : List ℕ → Listed Item → Lined
lined conns s = record { slots = s; count = length conns }

-- the slots that stand in no line: their list is behind those of the lines
abbrev pub outside_at : Lined → List ℕ
outside_at v = slice_index_or v.slots.lists (v.count + v.count) []

-- what holds of all lines
pub record AreScoped (conns : List ℕ) (s : Listed Item) : Type 0 where
  pub each : (line : ℕ) → line < length conns → IsLineAt conns s line
  pub lists : length s.lists ≡ length conns + length conns + 1
  pub all : s.free ≡ []

-- a slot stands in one line at most, and there once
pub record AreInLines (v : Lined) : Type 0 where
  pub once : (k slot : ℕ) → k < v.count → times slot (line_at v k) ≤ 1
  pub apart : (k j slot : ℕ) → k < v.count → j < v.count → k ≢ j → 1 ≤ times slot (line_at v k) → times slot (line_at v j) ≡ 0
  pub some : (k slot : ℕ) → k < v.count → 1 ≤ times slot (line_at v k) → 1 ≤ slot
  pub within : (k slot : ℕ) → k < v.count → 1 ≤ times slot (line_at v k) → slot ≤ v.slots.room
  pub outside : (slot : ℕ) → 1 ≤ slot → slot ≤ v.slots.room → ((k : ℕ) → k < v.count → times slot (line_at v k) ≡ 0) → 1 ≤ length (outside_at v)
  pub values : length v.slots.values ≡ v.slots.room + 1

-- nothing stands in so many lines
pub record AreEmpty (v : Lined) (lines room : ℕ) : Type 0 where
  pub count : v.count ≡ lines
  pub slots : v.slots.room ≡ room
  pub empty : (k : ℕ) → k < lines → line_at v k ≡ []
  pub outside : length (outside_at v) ≡ room

-- a slot that stood in no line stands behind all others of this one, with this item
pub record Enters (old new : Lined) (line slot : ℕ) (item : Item) : Type 0 where
  pub here : line_at new line ≡ line_at old line ++ slot ∷ []
  pub others : (k : ℕ) → k < old.count → k ≢ line → line_at new k ≡ line_at old k
  pub values : new.slots.values ≡ slice_set old.slots.values slot item
  pub outside : length (outside_at new) + 1 ≡ length (outside_at old)
  pub count : new.count ≡ old.count
  pub room : new.slots.room ≡ old.slots.room

-- each slot stays in its place, and this one has this item
pub record Lessens (old new : Lined) (slot : ℕ) (item : Item) : Type 0 where
  pub lines : (k : ℕ) → k < old.count → line_at new k ≡ line_at old k
  pub values : new.slots.values ≡ slice_set old.slots.values slot item
  pub outside : length (outside_at new) ≡ length (outside_at old)
  pub count : new.count ≡ old.count
  pub room : new.slots.room ≡ old.slots.room

-- the slot stands in its line no more, and in no other one
pub record Leaves (old new : Lined) (line slot : ℕ) : Type 0 where
  pub here : line_at new line ≡ without slot (line_at old line)
  pub others : (k : ℕ) → k < old.count → k ≢ line → line_at new k ≡ line_at old k
  pub values : new.slots.values ≡ old.slots.values
  pub outside : length (outside_at new) ≡ length (outside_at old) + 1
  pub count : new.count ≡ old.count
  pub room : new.slots.room ≡ old.slots.room
