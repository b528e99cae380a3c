-- How many connections weren't told to be ready. For private contracts alone.
use Rattle.std.specs.Prelude.{ℕ, ◌+◌, Bool, List, [], ◌∷◌, if◌then◌else◌}

abbrev pub asleep_in : List Bool → ℕ
asleep_in [] = 0
asleep_in (told ∷ others) = (if told then 0 else 1) + asleep_in others
