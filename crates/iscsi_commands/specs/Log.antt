-- The commands in the order in which they entered, of which some are live still.
use Rattle.std.specs.Prelude.{◌≡◌, ◌≢◌, ℕ, ◌+◌, ◌*◌, ◌/◌, ◌%◌, ◌<◌, ◌≤◌, Bool, false, true, List, length, map, filter, take, slice_index_or, Option, MatchOption}
use Rattle.iscsi_slots.specs.Slots.{times}
use Rattle.iscsi_slots.specs.Places.{AreAscending}
use Rattle.iscsi_commands.specs.declared.live.Live.{Live}
use Rattle.iscsi_commands.specs.declared.entry.Entry.{Entry}
use Rattle.iscsi_commands.specs.Commands.{AreTagsApart}

-- any command, which stands for none
abbrev pub BLANK : Live
BLANK = record { ticket = 0; unit = 0; conn = 0; itt = 0; immediate = false }

-- no command, which isn't live
abbrev pub NOTHING : Entry
NOTHING = record { command = BLANK; slot = 0; is_live = false }

abbrev pub entry_at : List Entry → ℕ → Entry
entry_at log k = slice_index_or log k NOTHING

abbrev pub tag_at : List Entry → ℕ → ℕ
tag_at log k = (entry_at log k).command.itt

abbrev pub ticket_of : Entry → ℕ
ticket_of e = e.command.ticket

abbrev pub IsLiveAt : List Entry → ℕ → Type 0
IsLiveAt log k = (entry_at log k).is_live ≡ true

-- a command that isn't live any more
abbrev pub ended : Entry → Entry
ended e = record { command = e.command; slot = e.slot; is_live = false }

-- the live commands
abbrev pub live_in : List Entry → List Live
live_in log = map (λ e. e.command) (filter (λ e. e.is_live) log)

-- how many live commands stand before a place: where the one at the place stands once they have closed up
abbrev pub rank : List Entry → ℕ → ℕ
rank log k = length (live_in (take k log))

-- these places have become those that the commands have once the live ones have closed up
pub record AreMoved (log : List Entry) (places moved : List ℕ) : Type 0 where
  pub long : length moved ≡ length places
  pub at : (i d : ℕ) → i < length places → slice_index_or moved i d ≡ rank log (slice_index_or places i 0)

-- ---- their places by tag

unfoldable pub group_of : ℕ → ℕ
group_of itt = (itt * 2654435769 % 4294967296) / 1048576

-- the group of each of the others is marked
abbrev pub AreMarked : List Entry → List Bool → List ℕ → Type 0
AreMarked log crowded others = (k : ℕ) → 1 ≤ times k others → slice_index_or crowded (group_of (tag_at log k)) false ≡ true

-- one of the others before a place has a tag of this group
pub record IsOfOne (log : List Entry) (others : List ℕ) (n group : ℕ) : Type 0 where
  pub place : ℕ
  pub before : place < n
  pub is : group_of (tag_at log (slice_index_or others place 0)) ≡ group

-- no group is marked but those of the others
abbrev pub AreMarkedAlone : List Entry → List Bool → List ℕ → Type 0
AreMarkedAlone log crowded others = (group : ℕ) → slice_index_or crowded group false ≡ true → IsOfOne log others (length others) group

-- each live command stands at the place of its tag's group, or among the others, which stand in the order of their tags and
-- whose groups are marked
pub record AreTagged (log : List Entry) (places : List ℕ) (crowded : List Bool) (others : List ℕ) : Type 0 where
  pub size : length places ≡ 4096
  pub groups : length crowded ≡ 4096
  pub known : (k : ℕ) → IsLiveAt log k → slice_index_or places (group_of (tag_at log k)) 0 ≢ k → 1 ≤ times k others
  pub are_live : (k : ℕ) → 1 ≤ times k others → IsLiveAt log k
  pub sorted : AreAscending (tag_at log) others
  pub marked : AreMarked log crowded others

-- the place of the live command with this tag, or none
abbrev pub IsTagPlace : List Entry → ℕ → Option ℕ → Type 0
IsTagPlace log itt r = MatchOption r ((k : ℕ) → IsLiveAt log k → tag_at log k ≢ itt) (λ k. IsLiveAt log k × (tag_at log k ≡ itt))

-- the place of the live command with this ticket, or none
abbrev pub IsLivePlace : List Entry → ℕ → Option ℕ → Type 0
IsLivePlace log ticket r = MatchOption r ((k : ℕ) → IsLiveAt log k → ticket_of (entry_at log k) ≢ ticket) (λ k. IsLiveAt log k × (ticket_of (entry_at log k) ≡ ticket))

-- ---- what is kept of them

pub record AreLogged (log : List Entry) (capacity live room hints : ℕ) (places : List ℕ) (crowded : List Bool) (others : List ℕ) (others_room : ℕ) : Type 0 where
  pub ascending : AreAscending ticket_of log
  pub apart : AreTagsApart (live_in log)
  pub counted : live ≡ length (live_in log)
  pub few : live ≤ room
  pub long : length log ≤ 2 * room + 64
  pub has_room : 2 * room + 64 ≤ capacity
  pub short : room ≤ 2016
  pub hinted : hints ≡ 4096
  pub tagged : AreTagged log places crowded others
  pub for_others : others_room ≡ room
