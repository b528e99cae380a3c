-- Values by ticket, as callers see them, and the log of those that entered, of which some are there still.
use Rattle.std.specs.Prelude.{◌≡◌, ◌≢◌, ℕ, ◌+◌, ◌-◌, ◌*◌, ◌%◌, ◌^◌, ◌≤◌, ◌<◌, ◌==◌, not, false, true, List, [], ◌∷◌, length, map, filter, find, All, slice_index_or, Option, MatchOption, option_map}
use Rattle.std.specs.List.{AllPairs}
use Rattle.iscsi_slots.specs.Places.{AreAscending as AreKeysAscending}
use Rattle.iscsi_tickets.specs.declared.kept.Kept.{Kept}

-- each ticket with its value in the order in which they entered, the ticket that entered last (0: none has), and how many
-- there may be
pub record Known : Type 0 where
  pub entries : List (ℕ × ℕ)
  pub last : ℕ
  pub room : ℕ

abbrev pub known : List (ℕ × ℕ) → ℕ → ℕ → Known
known entries last room = record { entries = entries; last = last; room = room }

-- tickets go up
abbrev pub AreAscending : List (ℕ × ℕ) → Type 0
AreAscending entries = AllPairs (λ a b. a.0 < b.0) entries

-- the value of a ticket
abbrev pub value_of : ℕ → List (ℕ × ℕ) → Option ℕ
value_of ticket entries = option_map (λ e. e.1) (find (λ e. e.0 == ticket) entries)

abbrev pub without_ticket : ℕ → List (ℕ × ℕ) → List (ℕ × ℕ)
without_ticket ticket entries = filter (λ e. not (e.0 == ticket)) entries

-- what holds of all that callers see
pub record AreKnown (v : Known) : Type 0 where
  pub ascending : AreAscending v.entries
  pub newest : All (λ e. e.0 ≤ v.last) v.entries
  pub few : length v.entries ≤ v.room

-- ---- the log. For private contracts alone

-- nothing, which isn't there
abbrev pub NOTHING : Kept
NOTHING = record { ticket = 0; value = 0; is_live = false }

abbrev pub kept_at : List Kept → ℕ → Kept
kept_at log k = slice_index_or log k NOTHING

abbrev pub ticket_of : Kept → ℕ
ticket_of e = e.ticket

abbrev pub pair_of : Kept → ℕ × ℕ
pair_of e = (e.ticket, e.value)

abbrev pub IsLiveAt : List Kept → ℕ → Type 0
IsLiveAt log k = (kept_at log k).is_live ≡ true

-- what isn't there any more
abbrev pub ended : Kept → Kept
ended e = record { ticket = e.ticket; value = e.value; is_live = false }

-- those that are there
abbrev pub live_in : List Kept → List (ℕ × ℕ)
live_in log = map pair_of (filter (λ e. e.is_live) log)

-- the place of the value with this ticket, or none
abbrev pub IsLivePlace : List Kept → ℕ → Option ℕ → Type 0
IsLivePlace log ticket r =
    MatchOption r
    ((k : ℕ) → IsLiveAt log k → ticket_of (kept_at log k) ≢ ticket)
    (λ k. IsLiveAt log k × (ticket_of (kept_at log k) ≡ ticket))

-- as far behind the first one as the ticket is above that, in numbers of 64 bits
abbrev pub guessed : List Kept → ℕ → ℕ
guessed [] ticket = 0
guessed (e ∷ log) ticket = (ticket + (2 ^ 64 - e.ticket)) % 2 ^ 64

pub record AreLogged (log : List Kept) (capacity count last room : ℕ) : Type 0 where
  pub ascending : AreKeysAscending ticket_of log
  pub newest : All (λ e. ticket_of e ≤ last) log
  pub counted : length (live_in log) + count ≡ length log
  pub few : length (live_in log) ≤ room
  pub long : length log ≤ 2 * room
  pub has_room : 2 * room ≤ capacity
  pub short : 2 * room ≤ 4294967295
