-- The options of a session, and their limits.
use Rattle.std.specs.Prelude.{ℕ, ◌^◌, ◌&&◌, nat_le, Bool, List, length}
pub use Rattle.iscsi_wire.specs.Cids.{is_known, are_distinct}

-- the options without where they lie in memory
pub record Setting : Type 0 where
  pub first : ℕ  -- the first CmdSN
  pub window : ℕ  -- the window's size
  pub units : ℕ
  pub depth : ℕ  -- the most commands of a unit's task set
  pub level : ℕ  -- 1, or 2 for the queries of RFC 7144
  pub events : ℕ  -- the most events that are taken
  pub conns : List (ℕ × ℕ)  -- the CID and the first StatSN of each connection

-- from 1 to the most
abbrev pub is_within : ℕ → ℕ → Bool
is_within n most = nat_le 1 n && nat_le n most

abbrev pub are_sizes_valid : Setting → Bool
are_sizes_valid o = is_within o.window 1024 && is_within o.units 256 && is_within o.depth 1024 && is_within o.level 2

-- every option is within its limits
abbrev pub is_valid : Setting → Bool
is_valid o = are_sizes_valid o && is_within o.events (2 ^ 48) && is_within (length o.conns) 64 && are_distinct o.conns
