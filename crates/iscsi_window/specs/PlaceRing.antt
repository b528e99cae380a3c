-- A ring of places: the first one stands in some slot, and behind the last slot comes slot 0.
use Rattle.std.specs.Prelude.{ℕ, ◌-◌, ◌++◌, nat_lt, if◌then◌else◌, List, drop, take}

-- what the slots have, from one of them on
abbrev pub from_slot : {X : Type 0} → ℕ → List X → List X
from_slot first slots = drop first slots ++ take first slots

-- a slot counted on past the last one
abbrev pub wrapped : ℕ → ℕ → ℕ
wrapped slots k = if nat_lt k slots then k else k - slots
