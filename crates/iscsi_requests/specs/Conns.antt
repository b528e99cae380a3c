-- What each connection has, in an order: the oldest first.
use Rattle.std.specs.Prelude.{ℕ, ◌+◌, List, [], ◌∷◌, ◌++◌, length, Option, Some, None, slice_index_or, slice_set}

module _ {X : Type 0} where
  abbrev pub of_conn : ℕ → List (List X) → List X
  of_conn conn lists = slice_index_or lists conn []

  abbrev pub oldest : List X → Option X
  oldest [] = None
  oldest (x ∷ xs) = Some x

  abbrev pub behind_oldest : List X → List X
  behind_oldest [] = []
  behind_oldest (x ∷ xs) = xs

  -- a connection has one more, behind all others
  abbrev pub with_newest : ℕ → X → List (List X) → List (List X)
  with_newest conn x lists = slice_set lists conn (of_conn conn lists ++ x ∷ [])

  -- the oldest one of a connection goes, if it has one
  abbrev pub without_oldest : ℕ → List (List X) → List (List X)
  without_oldest conn lists = slice_set lists conn (behind_oldest (of_conn conn lists))

  -- how many all connections have
  abbrev pub count_all : List (List X) → ℕ
  count_all [] = 0
  count_all (xs ∷ lists) = length xs + count_all lists
