-- Slots in lists by a mark that the value of each has. For private contracts alone.
use Rattle.std.specs.Prelude.{◌≡◌, ℕ, ◌≤◌, ◌==◌, List, [], length, slice_index_or, if◌then◌else◌}
use Rattle.iscsi_slots.specs.Slots.{times}
use Rattle.iscsi_lists.specs.Lists.{Listed, times_in}

abbrev pub slots_at : {X : Type 0} → Listed X → ℕ → List ℕ
slots_at v list = slice_index_or v.lists list []

abbrev pub value_at : {X : Type 0} → X → Listed X → ℕ → X
value_at blank v slot = slice_index_or v.values slot blank

-- the second lists have all slots of the first ones. From list 1 on, each has those that are in a list of the first ones and have
-- this mark
pub record AreMarked {X : Type 0} (blank : X) (mark : X → ℕ) (v : Listed X) (m : Listed ℕ) : Type 0 where
  pub all : m.free ≡ []
  pub room : m.room ≡ v.room
  pub some : 1 ≤ length m.lists
  pub marks : (list slot : ℕ) → 1 ≤ list → times slot (slots_at m list) ≡ (if mark (value_at blank v slot) == list then times_in slot v.lists else 0)
