-- The requests that are in being, as callers see them, and what becomes of them.
use Rattle.std.specs.Prelude.{◌≡◌, ◌≢◌, ℕ, ◌+◌, ◌-◌, ◌≤◌, ◌==◌, nat_lt, not, Bool, false, List, [], ◌∷◌, ◌++◌, length, map, filter, find, All, Option, Some, None, if◌then◌else◌}
use Rattle.std.specs.List.{AllPairs, list_any}
use Rattle.iscsi_slots.specs.Slots.{times}
use Rattle.iscsi_lists.specs.Lists.{counted, last_of, without}

pub record Request : Type 0 where
  pub place : ℕ
  pub cookie : ℕ
  pub uses : ℕ

pub record Cookies : Type 0 where
  pub requests : List Request  -- in the order in which they entered
  pub free : List ℕ  -- the places of no request: the last one is taken next
  pub room : ℕ

-- none yet
abbrev pub opened : ℕ → Cookies
opened room = record { requests = []; free = counted 1 room; room = room }

-- ---- what callers ask

abbrev pub is_at : ℕ → Request → Bool
is_at place r = r.place == place

abbrev pub has_place : ℕ → Cookies → Bool
has_place place v = list_any (is_at place) v.requests

abbrev pub cookie_at : ℕ → Cookies → ℕ
cookie_at place v = elim (find (is_at place) v.requests) [ Some r ↦ r.cookie | None ↦ 0 ]

abbrev pub uses_at : ℕ → Cookies → ℕ
uses_at place v = elim (find (is_at place) v.requests) [ Some r ↦ r.uses | None ↦ 0 ]

-- ---- what becomes of them

-- the place that the next one has
abbrev pub next_place : Cookies → Option ℕ
next_place v = last_of v.free

-- it has one use at first
abbrev pub entered : ℕ → ℕ → Cookies → Cookies
entered cookie place v = record v { requests = v.requests ++ record { place = place; cookie = cookie; uses = 1 } ∷ []; free = without place v.free }

abbrev pub with_uses : ℕ → ℕ → Cookies → Cookies
with_uses uses place v = record v { requests = map (λ (r : Request). if is_at place r then record r { uses = uses } else r) v.requests }

abbrev pub used_more : ℕ → Cookies → Cookies
used_more place v = with_uses (uses_at place v + 1) place v

abbrev pub removed : ℕ → Cookies → Cookies
removed place v = record v { requests = filter (λ (r : Request). not (is_at place r)) v.requests; free = v.free ++ place ∷ [] }

-- more uses than one are left
abbrev pub is_used_on : ℕ → Cookies → Bool
is_used_on place v = nat_lt 1 (uses_at place v)

-- a request goes with its last use
abbrev pub used_less : ℕ → Cookies → Cookies
used_less place v = if is_used_on place v then with_uses (uses_at place v - 1) place v else removed place v

abbrev pub last_cookie : ℕ → Cookies → Option ℕ
last_cookie place v = if is_used_on place v then None else Some (cookie_at place v)

-- ---- what holds of all

pub record AreKnown (v : Cookies) : Type 0 where
  pub apart : AllPairs (λ (a b : Request). a.place ≢ b.place) v.requests
  pub low : All (λ (r : Request). 1 ≤ r.place) v.requests
  pub high : All (λ (r : Request). r.place ≤ v.room) v.requests
  pub used : All (λ (r : Request). 1 ≤ r.uses) v.requests
  pub counted : length v.requests + length v.free ≡ v.room
  pub unused : (place : ℕ) → 1 ≤ times place v.free → has_place place v ≡ false
