-- How lines by key, and the answers that are due, follow the lane; and when each slot came there. For private contracts alone.
use Rattle.std.specs.Prelude.{◌≡◌, ℕ, ◌≤◌, List, filter}
use Rattle.iscsi_lists.specs.Lists.{Listed}
use Rattle.iscsi_outbox_state.specs.declared.lane.Aim.TheVariants.{Tag, Unit as AtUnit}
use Rattle.iscsi_outbox_state.specs.declared.lane.Standing.{Standing}
use Rattle.iscsi_scopes.specs.Scopes.{Scoped}
use Rattle.iscsi_lane.specs.Standings.{slots_at}
use Rattle.iscsi_lane.specs.Scoping.{Mirrors, told}

pub record Follows (units tags : Scoped) (xs : List Standing) (order due : List ℕ) : Type 0 where
  pub of_units : Mirrors AtUnit units xs order
  pub of_tags : Mirrors Tag tags xs order
  pub is_due : due ≡ filter (told units tags xs) order

-- the lines have room for all slots
pub record FollowsLog (log : Listed Standing) (units tags : Scoped) (due : List ℕ) (capacity : ℕ) : Type 0 where
  pub follows : Follows units tags log.values (slots_at log 2) due
  pub units_room : units.room ≡ log.room
  pub tags_room : tags.room ≡ log.room
  pub due_room : log.room ≤ capacity
