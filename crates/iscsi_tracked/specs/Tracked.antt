-- The commands that are kept, as callers see them, and what becomes of them.
use Rattle.std.specs.Prelude.{◌≡◌, ◌≢◌, ℕ, ◌+◌, ◌<◌, ◌≤◌, ◌==◌, not, Bool, true, false, List, [], ◌∷◌, ◌++◌, length, map, filter, find, replicate, All, Option, Some, None, slice_index_or, if◌then◌else◌}
use Rattle.std.specs.List.{AllPairs, list_any}
use Rattle.iscsi_slots.specs.Slots.{times}
use Rattle.iscsi_lists.specs.Lists.{counted, first_of, last_of, times_in, with_last, without}
use Rattle.iscsi_arrivals.specs.declared.stamp.Stamp.{Stamp}
use Rattle.iscsi_tracked.specs.declared.command.Command.{Command}
use Rattle.iscsi_tracked.specs.declared.command.Entering.{Entering}
use Rattle.iscsi_tracked.specs.declared.command.Phase.{Phase}
use Rattle.iscsi_tracked.specs.declared.command.Phase.TheVariants.{Dormant}

pub record Tracked : Type 0 where
  pub commands : List Command  -- in the order in which they entered: their tickets go up
  pub last : ℕ  -- the ticket that entered last (0: none has)
  pub trails : List (List ℕ)  -- of each connection, the places of the commands of which something is under way, by their last PDUs
  pub free : List ℕ  -- the places of no command: the last one is taken next
  pub room : ℕ

-- none yet
abbrev pub opened : ℕ → ℕ → Tracked
opened conns room = record { commands = []; last = 0; trails = replicate conns []; free = counted 1 room; room = room }

abbrev pub trail_at : Tracked → ℕ → List ℕ
trail_at v conn = slice_index_or v.trails conn []

-- ---- what callers ask

abbrev pub is_at : ℕ → Command → Bool
is_at place c = c.place == place

abbrev pub has_place : ℕ → Tracked → Bool
has_place place v = list_any (is_at place) v.commands

abbrev pub find_ticket : ℕ → Tracked → Option Command
find_ticket ticket v = find (λ (c : Command). c.ticket == ticket) v.commands

abbrev pub find_place : ℕ → Tracked → Option Command
find_place place v = find (is_at place) v.commands

abbrev pub first_out : ℕ → Tracked → Option ℕ
first_out conn v = first_of (trail_at v conn)

-- ---- what becomes of them

-- the place that the next one has
abbrev pub next_place : Tracked → Option ℕ
next_place v = last_of v.free

-- it isn't enabled yet
abbrev pub as_command : Entering → ℕ → Command
as_command e place = record { ticket = e.ticket; place = place; conn = e.conn; unit = e.unit; tag = e.tag; numbered = e.numbered; phase = Dormant; last_out = None }

abbrev pub entered : Entering → ℕ → Tracked → Tracked
entered e place v = record v { commands = v.commands ++ as_command e place ∷ []; last = e.ticket; free = without place v.free }

abbrev pub with_command : (Command → Command) → ℕ → List Command → List Command
with_command change place commands = map (λ (c : Command). if is_at place c then change c else c) commands

abbrev pub to_phase : Phase → Command → Command
to_phase phase c = record { ticket = c.ticket; place = c.place; conn = c.conn; unit = c.unit; tag = c.tag; numbered = c.numbered; phase = phase; last_out = c.last_out }

abbrev pub with_out : Option Stamp → Command → Command
with_out stamp c = record { ticket = c.ticket; place = c.place; conn = c.conn; unit = c.unit; tag = c.tag; numbered = c.numbered; phase = c.phase; last_out = stamp }

abbrev pub in_phase : Phase → ℕ → Tracked → Tracked
in_phase phase place v = record v { commands = with_command (to_phase phase) place v.commands }

-- the place of a command's connection
abbrev pub conn_at : ℕ → Tracked → ℕ
conn_at place v = elim (find_place place v) [ Some c ↦ c.conn | None ↦ 0 ]

-- it is the last one of its connection's trail
abbrev pub handed_out : ℕ → Stamp → Tracked → Tracked
handed_out place stamp v = record v {
  commands = with_command (with_out (Some stamp)) place v.commands;
  trails = with_last (conn_at place v) place (map (without place) v.trails);
}

-- nothing of it is under way
abbrev pub arrived : ℕ → Tracked → Tracked
arrived place v = record v { commands = with_command (with_out None) place v.commands; trails = map (without place) v.trails }

abbrev pub removed : ℕ → Tracked → Tracked
removed place v = record v {
  commands = filter (λ (c : Command). not (is_at place c)) v.commands;
  trails = map (without place) v.trails;
  free = v.free ++ place ∷ [];
}

-- ---- what holds of all

abbrev pub is_out : Command → Bool
is_out c = elim (c.last_out) [ Some stamp ↦ true | None ↦ false ]

-- it stands on the trail of its connection just where something of it is under way, and on no other one
pub record IsTrailed (v : Tracked) (c : Command) : Type 0 where
  pub conn : c.conn < length v.trails
  pub out : is_out c ≡ true → times c.place (trail_at v c.conn) ≡ 1
  pub idle : is_out c ≡ false → times_in c.place v.trails ≡ 0
  pub once : times_in c.place v.trails ≤ 1

pub record AreKnown (v : Tracked) : Type 0 where
  pub ascending : AllPairs (λ (a b : Command). a.ticket < b.ticket) v.commands
  pub newest : All (λ (c : Command). c.ticket ≤ v.last) v.commands
  pub apart : AllPairs (λ (a b : Command). a.place ≢ b.place) v.commands
  pub low : All (λ (c : Command). 1 ≤ c.place) v.commands
  pub high : All (λ (c : Command). c.place ≤ v.room) v.commands
  pub trailed : All (IsTrailed v) v.commands
  pub of_one : (place : ℕ) → 1 ≤ times_in place v.trails → has_place place v ≡ true
  pub counted : length v.commands + length v.free ≡ v.room
  pub unused : (place : ℕ) → 1 ≤ times place v.free → has_place place v ≡ false
