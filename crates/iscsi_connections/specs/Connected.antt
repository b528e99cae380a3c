-- The connections of a session as its other parts see them, and what each call answers.
use Rattle.std.specs.Prelude.{ℕ, ◌+◌, ◌==◌, not, Bool, List, [], ◌∷◌, map, filter, length, replicate, Option, if◌then◌else◌}
use Rattle.std.specs.List.{list_any}
use Rattle.iscsi_wire.specs.Serial.{wire}
use Rattle.iscsi_window.specs.Windows.{is_asked}

pub record Connected : Type 0 where
  pub conns : List (ℕ × ℕ)  -- the CID of each, and the StatSN of its next reply
  pub open_conns : List ℕ  -- the CIDs of those that aren't closed
  pub immediate : List ℕ  -- how many immediate commands of each are live

-- all are open, and no command is live
abbrev pub opened : List (ℕ × ℕ) → Connected
opened conns = record { conns = conns; open_conns = map (λ (c : ℕ × ℕ). c.0) conns; immediate = replicate (length conns) 0 }

-- the next StatSN of a connection
abbrev pub stat_sn_on : ℕ → List (ℕ × ℕ) → ℕ
stat_sn_on cid [] = 0
stat_sn_on cid (conn ∷ conns) = if conn.0 == cid then wire conn.1 else stat_sn_on cid conns

-- the connections, after a reply went out on one
abbrev pub count_reply : ℕ → List (ℕ × ℕ) → List (ℕ × ℕ)
count_reply cid [] = []
count_reply cid (conn ∷ conns) = if conn.0 == cid then (conn.0, wire (conn.1 + 1)) ∷ conns else conn ∷ count_reply cid conns

-- what is counted for a connection, at the place of the first one with its CID
abbrev pub counted_on : ℕ → List (ℕ × ℕ) → List ℕ → ℕ
counted_on cid [] counts = 0
counted_on cid (conn ∷ conns) [] = 0
counted_on cid (conn ∷ conns) (n ∷ counts) = if conn.0 == cid then n else counted_on cid conns counts

-- the most live immediate commands of a connection
abbrev pub MOST : ℕ
MOST = 8

-- a connection isn't closed
abbrev pub is_among_open : ℕ → List ℕ → Bool
is_among_open conn conns = list_any (λ c. c == conn) conns

-- those that stay open where this one is closed, or all for None
abbrev pub still_open : Option ℕ → List ℕ → List ℕ
still_open whose conns = filter (λ c. not (is_asked whose c)) conns
