-- Which CIDs the connections of a recording have.
use Rattle.std.specs.Prelude.{◌≡◌, ℕ, Bool, false, List, slice_index_or}
use Rattle.iscsi_rules.specs.rules.Settings.{is_known}

-- the tests tell for each CID whether a connection has it: where they end, the others have none
abbrev pub TellsKnown : List Bool → List (ℕ × ℕ) → Type 0
TellsKnown tests conns = (cid : ℕ) → slice_index_or tests cid false ≡ is_known cid conns
