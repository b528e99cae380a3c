-- What callers see of lists over one set of slots.
use Rattle.std.specs.Prelude.{◌≡◌, ℕ, zero, suc, ◌+◌, ◌≤◌, ◌==◌, ◌++◌, List, [], ◌∷◌, length, map, slice_index_or, slice_set, Option, Some, None, refl, if◌then◌else◌}
use Rattle.std.specs.Coded.{Coded, code_by, coded×, coded_list, coded_ℕ}
use Rattle.iscsi_slots.specs.Slots.{times}

-- the slots that are free, those of each list in its order, and how many slots there are
pub record Linked : Type 0 where
  pub free : List ℕ
  pub lists : List (List ℕ)
  pub room : ℕ

abbrev pub linked : List ℕ → List (List ℕ) → ℕ → Linked
linked free lists room = record { free = free; lists = lists; room = room }

-- how often a slot stands in these lists
abbrev pub times_in : ℕ → List (List ℕ) → ℕ
times_in slot [] = 0
times_in slot (slots ∷ lists) = times slot slots + times_in slot lists

-- how many slots stand in these lists
abbrev pub total : List (List ℕ) → ℕ
total [] = 0
total (slots ∷ lists) = length slots + total lists

-- each slot from 1 to the room stands once, in one list or among the free ones, and nothing else stands there
pub record AreApart (v : Linked) : Type 0 where
  pub once : (slot : ℕ) → 1 ≤ slot → slot ≤ v.room → times slot v.free + times_in slot v.lists ≡ 1
  pub some : (slot : ℕ) → 1 ≤ times slot v.free + times_in slot v.lists → 1 ≤ slot
  pub within : (slot : ℕ) → 1 ≤ times slot v.free + times_in slot v.lists → slot ≤ v.room
  pub all : length v.free + total v.lists ≡ v.room

-- the last one of a list that begins with this slot
abbrev pub end_of : ℕ → List ℕ → ℕ
end_of s [] = s
end_of s (t ∷ slots) = end_of t slots

-- without a slot
abbrev pub without : ℕ → List ℕ → List ℕ
without slot [] = []
without slot (s ∷ slots) = if s == slot then without slot slots else s ∷ without slot slots

-- a list has a slot more, behind all others
abbrev pub with_last : ℕ → ℕ → List (List ℕ) → List (List ℕ)
with_last list slot lists = slice_set lists list (slice_index_or lists list [] ++ slot ∷ [])

-- a slot is free, and was wherever it was
abbrev pub freed : ℕ → Linked → Linked
freed slot v = record { free = without slot v.free ++ slot ∷ []; lists = map (without slot) v.lists; room = v.room }

-- a slot stands behind all others of a list, and was wherever it was
abbrev pub moved : ℕ → ℕ → Linked → Linked
moved slot list v = record { free = without slot v.free; lists = with_last list slot (map (without slot) v.lists); room = v.room }

-- the first slot and the last one, where there is one
abbrev pub first_of : List ℕ → Option ℕ
first_of [] = None
first_of (s ∷ slots) = Some s

abbrev pub last_of : List ℕ → Option ℕ
last_of [] = None
last_of (s ∷ slots) = Some (end_of s slots)

-- so many numbers, counted up from one on
abbrev pub counted : ℕ → ℕ → List ℕ
counted n zero = []
counted n (suc k) = n ∷ counted (suc n) k

-- linked slots, and the value of each: that at 0 is of no slot
pub record Listed (X : Type 0) : Type 0 where
  pub free : List ℕ
  pub lists : List (List ℕ)
  pub room : ℕ
  pub values : List X

module _ {X : Type 0} where
  abbrev pub listed : List ℕ → List (List ℕ) → ℕ → List X → Listed X
  listed free lists room xs = record { free = free; lists = lists; room = room; values = xs }

  abbrev pub listed_code : Coded X → Coded (Listed X)
  listed_code c = code_by (List ℕ × (List (List ℕ) × (ℕ × List X))) (coded× (coded_list coded_ℕ) (coded× (coded_list (coded_list coded_ℕ)) (coded× coded_ℕ (coded_list c)))) (λ s. (s.free, (s.lists, (s.room, s.values)))) (λ p. listed p.0 p.1.0 p.1.1.0 p.1.1.1) (λ _. refl)

  abbrev pub linked_in : Listed X → Linked
  linked_in v = linked v.free v.lists v.room

  -- what holds of the slots and of their values
  pub record IsListed (v : Linked) (xs : List X) : Type 0 where
    pub apart : AreApart v
    pub long : length xs ≡ v.room + 1
