-- How far a walk has come that drops the answers of a connection. For private contracts alone.
use Rattle.std.specs.Prelude.{◌≡◌, ℕ, ◌+◌, ◌-◌, ◌≤◌, not, false, List, ◌++◌, length, filter, Option}
use Rattle.std.specs.List.{list_any}
use Rattle.iscsi_lists.specs.Lists.{Listed, first_of}
use Rattle.iscsi_outbox_state.specs.declared.lane.Standing.{Standing}
use Rattle.iscsi_outbox_state.specs.Lane.{goes_out_on}
use Rattle.iscsi_lane.specs.Standings.{IsLane, items_in, slots_at, standings}

abbrev pub others_on : ℕ → List Standing → List Standing
others_on conn xs = filter (λ s. not (goes_out_on conn s)) xs

-- the lane, with so many answers less, and so many fewer of numbered requests
pub record IsLess (log : Listed Standing) (commands most owing waiting of_numbered answers numbered : ℕ) : Type 0 where
  pub some : answers ≤ waiting
  pub some_numbered : numbered ≤ of_numbered
  pub lane : IsLane log commands most owing (waiting - answers) (of_numbered - numbered)

-- so many were dropped, and none of the connection's stands in front
pub record IsDropping (old log : Listed Standing) (conn answers numbered : ℕ) (at_it : Option ℕ) : Type 0 where
  pub front : List ℕ
  pub back : List ℕ
  pub parts : slots_at log 2 ≡ front ++ back
  pub first : at_it ≡ first_of back
  pub none : list_any (goes_out_on conn) (standings log.values front) ≡ false
  pub rest : others_on conn (items_in log) ≡ others_on conn (items_in old)
  pub lists : length log.lists ≡ 3
  pub room : log.room ≡ old.room
  pub few : answers + length (slots_at log 2) ≤ old.room
  pub fewer : numbered ≤ answers
  pub less : (commands most owing waiting of_numbered : ℕ) → IsLane old commands most owing waiting of_numbered → IsLess log commands most owing waiting of_numbered answers numbered
