-- What was handed out and isn't written yet, as callers see it, and what becomes of it.
use Rattle.std.specs.Prelude.{ℕ, List, [], replicate, Option}
use Rattle.iscsi_requests.specs.Conns.{with_newest, without_oldest}

pub record Unwritten : Type 0 where
  pub handed : List (List (Option ℕ))  -- of each connection, in the order in which it was handed out: the place of its request, or none
  pub room : ℕ  -- how much there may be on all connections

-- nothing yet
abbrev pub opened : ℕ → ℕ → Unwritten
opened conns room = record { handed = replicate conns []; room = room }

abbrev pub pushed : ℕ → Option ℕ → Unwritten → Unwritten
pushed conn request v = record v { handed = with_newest conn request v.handed }

abbrev pub popped : ℕ → Unwritten → Unwritten
popped conn v = record v { handed = without_oldest conn v.handed }
