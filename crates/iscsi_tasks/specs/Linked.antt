-- What both task sets are made of: the set as its callers see it, and the slots of its commands. For private contracts alone.
use Rattle.std.specs.Prelude.{◌≡◌, ℕ, ◌≤◌, List, length}
use Rattle.iscsi_tasks.specs.Sets.{Members, InOrder}

pub record Linked : Type 0 where
  pub shown : Members
  pub slots : List ℕ  -- the slot of each command, the oldest one's first

abbrev pub linked : Members → List ℕ → Linked
linked shown slots = record { shown = shown; slots = slots }

-- what holds of every one
pub record IsInSlots (l : Linked) : Type 0 where
  pub order : InOrder l.shown.list
  pub long : length l.slots ≡ length l.shown.list
  pub within : length l.shown.list ≤ l.shown.depth
  pub least : 1 ≤ l.shown.depth
  pub most : l.shown.depth ≤ 1024

-- an order has its slots, with room for all that there may be, and so does a list of tickets
pub record IsPlaced (l : Linked) (order : List ℕ) (order_room left_room : ℕ) : Type 0 where
  pub in_slots : IsInSlots l
  pub same : order ≡ l.slots
  pub for_order : l.shown.depth ≤ order_room
  pub for_left : l.shown.depth ≤ left_room
