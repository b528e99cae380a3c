-- Lines that follow the log. For private contracts alone.
use Rattle.std.specs.Prelude.{◌≡◌, ℕ, ◌+◌, ◌≤◌, [], length, filter, map, Option, Some, None, slice_set, vec_capacity}
use Rattle.iscsi_lists.specs.Lists.{Listed, with_last, without}
use Rattle.iscsi_outbox_state.specs.declared.lane.Undue.{Undue}
use Rattle.iscsi_outbox_state.specs.declared.lane.Standing.{Standing}
use Rattle.iscsi_lane.specs.declared.lines.Lines.{Lines}
use Rattle.iscsi_lane.specs.Standings.{IsLane, slots_at}
use Rattle.iscsi_lane.specs.Scoping.{untold_at}
use Rattle.iscsi_lane.specs.Times.{AllUnder, IsUp}
use Rattle.iscsi_lane.specs.Following.{FollowsLog}
use Rattle.iscsi_lane.specs.Hints.{AreHints}

pub record IsLined (l : Lines) (log : Listed Standing) : Type 0 where
  pub following : FollowsLog log l.units l.tags l.due.items (vec_capacity l.due)
  pub up : IsUp l.stamps.items (slots_at log 2)
  pub under : AllUnder l.stamps.items l.next (slots_at log 2)
  pub long : length l.stamps.items ≡ log.room + 1
  pub of_untold : l.untold.items ≡ filter (untold_at log.values) (slots_at log 2)
  pub untold_room : log.room ≤ vec_capacity l.untold
  pub holders : length l.holders.items ≡ log.room + 1
  pub hints : AreHints (slots_at log 2) l.holders.items l.untold.items

pub record IsNew (l : Lines) (room : ℕ) : Type 0 where
  pub units : l.units.lines ≡ []
  pub tags : l.tags.lines ≡ []
  pub due : l.due.items ≡ []
  pub untold : l.untold.items ≡ []
  pub untold_room : room ≤ vec_capacity l.untold
  pub holders : length l.holders.items ≡ room + 1
  pub units_room : l.units.room ≡ room
  pub tags_room : l.tags.room ≡ room
  pub due_room : room ≤ vec_capacity l.due
  pub long : length l.stamps.items ≡ room + 1

-- once this stands in a slot, behind all that stands in the log
abbrev pub Enters : Lines → Listed Standing → ℕ → Standing → Type 0
Enters l log slot x = (p t : Listed Standing) → p ≡ record log { lists = with_last 2 slot (map (without slot) log.lists) }
    → t ≡ record p { values = slice_set p.values slot x } → IsLined l t

-- the answer that was taken is gone
abbrev pub without_taken : Option (ℕ × Undue) → Listed Standing → Listed Standing
without_taken None log = log
without_taken (Some taken) log = record log { lists = with_last 1 taken.0 (map (without taken.0) log.lists) }

-- the lane, and its lines
pub record IsLanes (l : Lines) (log : Listed Standing) (commands answers owing waiting numbered : ℕ) : Type 0 where
  pub lane : IsLane log commands answers owing waiting numbered
  pub lined : IsLined l log
