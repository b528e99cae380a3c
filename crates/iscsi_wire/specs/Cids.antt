-- The CIDs of a session's connections, each beside its first or next StatSN.
use Rattle.std.specs.Prelude.{ℕ, ◌==◌, ◌&&◌, not, Bool, true, List, [], ◌∷◌}
use Rattle.std.specs.List.{list_any}

-- a connection has this CID
abbrev pub is_known : ℕ → List (ℕ × ℕ) → Bool
is_known cid conns = list_any (λ conn. conn.0 == cid) conns

-- no CID stands twice
abbrev pub are_distinct : List (ℕ × ℕ) → Bool
are_distinct [] = true
are_distinct (conn ∷ conns) = not (is_known conn.0 conns) && are_distinct conns
