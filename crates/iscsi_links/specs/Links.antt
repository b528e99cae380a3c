-- The connections, as callers see them, and what becomes of one.
use Rattle.std.specs.Prelude.{true, ◌≡◌, ℕ, ◌≤◌, Bool, List, length, count_by, position, replicate, nat_lt, Option, slice_index_or, slice_set, if◌then◌else◌}
use Rattle.std.specs.List.{position_or_len}
use Rattle.iscsi_arrivals.specs.Counts.{Counts, is_busy_by, is_usable_by, new_counts}

pub record Links : Type 0 where
  pub links : List Counts
  pub looks : Bool  -- what was written is under way until it is known to have arrived

abbrev pub link_at : Links → ℕ → Counts
link_at v place = slice_index_or v.links place new_counts

abbrev pub opened : ℕ → Bool → Links
opened count looks = record { links = replicate count new_counts; looks = looks }

abbrev pub changed : ℕ → (Counts → Counts) → Links → Links
changed place change v = record v { links = slice_set v.links place (change (link_at v place)) }

abbrev pub closed : Counts → Counts
closed l = record l { closed = true }

abbrev pub cut : Counts → Counts
cut l = record l { closed = true; cut = true }

abbrev pub lost : Counts → Counts
lost l = record l { lost = true }

-- what takes a StatSN is under way on another connection
abbrev pub busy_in : Bool → List Counts → ℕ
busy_in looks links = count_by (λ (l : Counts). is_busy_by looks l) links

abbrev pub is_busy_elsewhere : ℕ → Links → Bool
is_busy_elsewhere place v = nat_lt (if is_busy_by v.looks (link_at v place) then 1 else 0) (busy_in v.looks v.links)

-- a Logout closed so many
abbrev pub closed_in : List Counts → ℕ
closed_in links = count_by (λ (l : Counts). l.closed) links

-- the first connection that takes requests
abbrev pub first_usable : Links → Option ℕ
first_usable v = position is_usable_by v.links

-- ---- for private contracts alone

pub record AreCounted (links : List Counts) (looks : Bool) (busy usable shut : ℕ) : Type 0 where
  pub counted : busy ≡ busy_in looks links
  pub first : usable ≡ position_or_len is_usable_by links
  pub closings : shut ≡ closed_in links
  pub few : length links ≤ 64
