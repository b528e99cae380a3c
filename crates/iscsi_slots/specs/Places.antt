-- Lists whose keys go up.
use Rattle.std.specs.Prelude.{ℕ, ◌<◌, List}
use Rattle.std.specs.List.{AllPairs}

-- keys go up
abbrev pub AreAscending : {X : Type 0} → (X → ℕ) → List X → Type 0
AreAscending key xs = AllPairs (λ a b. key a < key b) xs
