-- The numbers that are held, as callers see them: a table that the numbers of a window go round in.
use Rattle.std.specs.Prelude.{◌≡◌, ◌≢◌, ℕ, ◌+◌, ◌-◌, ◌%◌, ◌<◌, ◌≤◌, ◌^◌, nat_le, List, [], ◌∷◌, length, find, replicate, Option, None, unwrap_or, slice_index_or, slice_set}

pub record HeldNumbers : Type 0 where
  pub places : List (Option ℕ)

-- the powers of two up to the widest window
abbrev pub SIZES : List ℕ
SIZES = 1 ∷ 2 ∷ 4 ∷ 8 ∷ 16 ∷ 32 ∷ 64 ∷ 128 ∷ 256 ∷ 512 ∷ 1024 ∷ []

-- the least of them that isn't below a window
abbrev pub size_for : ℕ → ℕ
size_for window = unwrap_or (find (λ size. nat_le window size) SIZES) 1024

abbrev pub opened : ℕ → HeldNumbers
opened window = record { places = replicate (size_for window) None }

abbrev pub index_of : ℕ → HeldNumbers → ℕ
index_of number v = number % length v.places

abbrev pub held_at : ℕ → HeldNumbers → Option ℕ
held_at number v = slice_index_or v.places (index_of number v) None

abbrev pub with_held : ℕ → Option ℕ → HeldNumbers → HeldNumbers
with_held number place v = record { places = slice_set v.places (index_of number v) place }

-- how far a number of 32 bits is behind another one, where numbers wrap
abbrev pub distance : ℕ → ℕ → ℕ
distance from number = (number + (2 ^ 32 - from)) % 2 ^ 32

-- it stands in the window of this size from a number on
pub record IsInWindow (size from number : ℕ) : Type 0 where
  pub from_fits : from < 2 ^ 32
  pub fits : number < 2 ^ 32
  pub near : distance from number < size

-- what holds of all: what is held at a number isn't touched by the others of its window
pub record AreKnown (v : HeldNumbers) : Type 0 where
  pub some : 1 ≤ length v.places
  pub here : (number : ℕ) (place : Option ℕ) → held_at number (with_held number place v) ≡ place
  pub others : (from number other : ℕ) (place : Option ℕ) → IsInWindow (length v.places) from number → IsInWindow (length v.places) from other
      → number ≢ other → held_at other (with_held number place v) ≡ held_at other v
