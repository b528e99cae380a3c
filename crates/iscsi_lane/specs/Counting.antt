-- How many stand there of each connection. For private contracts alone.
use Rattle.std.specs.Prelude.{◌≡◌, ℕ, ◌+◌, ◌*◌, ◌<◌, ◌≤◌, Bool, true, List, length, None, slice_index_or}
use Rattle.iscsi_outbox_state.specs.declared.lane.Standing.{Standing}
use Rattle.iscsi_outbox_state.specs.Lane.{Lane, first_due, goes_out_on, is_under_way_on}
use Rattle.iscsi_lane.specs.Standings.{AreWithin, tally}

-- how many pass the test of each connection
pub record AreCounts (test : ℕ → Standing → Bool) (xs : List Standing) (conns : ℕ) (counts : List ℕ) : Type 0 where
  pub long : length counts ≡ conns
  pub each : (k : ℕ) → k < conns → slice_index_or counts k 0 ≡ tally (test k) xs

pub record IsCounted (v : Lane) (under_way going_out : List ℕ) : Type 0 where
  pub within : AreWithin v.conns v.items
  pub of_under_way : AreCounts is_under_way_on v.items v.conns under_way
  pub of_going_out : AreCounts goes_out_on v.items v.conns going_out
  pub conns : v.conns ≤ 65536
  pub short : 3 * (v.commands + v.answers) + 5 ≤ 4294967295

-- the counts, and that none is due where this is known
pub record IsKept (v : Lane) (under_way going_out : List ℕ) (settled : Bool) : Type 0 where
  pub counted : IsCounted v under_way going_out
  pub none_due : settled ≡ true → first_due v ≡ None
