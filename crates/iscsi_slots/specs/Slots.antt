-- Slots, the values in them, and orders of them.
use Rattle.std.specs.Prelude.{◌≡◌, ℕ, ◌+◌, ◌-◌, ◌*◌, ◌≤◌, ◌==◌, [], ◌∷◌, nat_lt, List, length, map, slice_index_or, if◌then◌else◌}

-- what an order keeps: the places before the first slot's are over, and no call asks for memory
pub record IsOrderSound (head places capacity room : ℕ) : Type 0 where
  pub before : head ≤ places
  pub not_over : places ≤ 2 * room
  pub has_room : 2 * room ≤ capacity
  pub short : room ≤ 65535
  pub within : places - head ≤ room

-- how often the slot stands in the list
abbrev pub times : ℕ → List ℕ → ℕ
times slot [] = 0
times slot (s ∷ slots) = (if s == slot then 1 else 0) + times slot slots

-- the values of these slots
abbrev pub values : {X : Type 0} → X → List X → List ℕ → List X
values blank slots order = map (λ s. slice_index_or slots s blank) order

-- each slot stands once in the order, or is free
pub record AreShared (order free : List ℕ) (slots room : ℕ) : Type 0 where
  pub once : (slot : ℕ) → times slot order + times slot free ≡ (if nat_lt slot slots then 1 else 0)
  pub all : length order + length free ≡ slots
  pub most : slots ≤ room
