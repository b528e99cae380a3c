-- How they are kept: tickets with places, and a command in each place. For private contracts alone.
use Rattle.std.specs.Prelude.{◌≡◌, ℕ, suc, ◌+◌, ◌<◌, ◌≤◌, false, true, List, [], ◌∷◌, length, map, Some, None, slice_index_or}
use Rattle.iscsi_slots.specs.Slots.{times}
use Rattle.iscsi_lists.specs.Lists.{Listed, times_in}
use Rattle.iscsi_tickets.specs.Tickets.{Known, value_of}
use Rattle.iscsi_tracked.specs.declared.command.Command.{Command}
use Rattle.iscsi_tracked.specs.declared.command.Phase.TheVariants.{Gone}
use Rattle.iscsi_tracked.specs.Tracked.{Tracked, is_out}

-- no command
abbrev pub BLANK : Command
BLANK = record { ticket = 0; place = 0; conn = 0; unit = 0; tag = 0; numbered = false; phase = Gone; last_out = None }

abbrev pub command_at : List Command → ℕ → Command
command_at values place = slice_index_or values place BLANK

abbrev pub commands_of : List Command → List (ℕ × ℕ) → List Command
commands_of values entries = map (λ (e : ℕ × ℕ). command_at values e.1) entries

abbrev pub slots_at : Listed Command → ℕ → List ℕ
slots_at kept list = slice_index_or kept.lists list []

-- all lists but the first one
abbrev pub behind_first : List (List ℕ) → List (List ℕ)
behind_first [] = []
behind_first (slots ∷ lists) = lists

abbrev pub tracked_of : Known → Listed Command → Tracked
tracked_of tickets kept = record {
  commands = commands_of kept.values tickets.entries;
  last = tickets.last;
  trails = behind_first kept.lists;
  free = kept.free;
  room = kept.room;
}

-- the command of a ticket stands in its place
pub record IsKept (kept : Listed Command) (e : ℕ × ℕ) : Type 0 where
  pub ticket : (command_at kept.values e.1).ticket ≡ e.0
  pub place : (command_at kept.values e.1).place ≡ e.1
  pub there : 1 ≤ times_in e.1 kept.lists

abbrev pub AllKept : Listed Command → List (ℕ × ℕ) → Type 0
AllKept kept [] = Unit {0}
AllKept kept (e ∷ entries) = IsKept kept e × AllKept kept entries

pub record AreTracked (tickets : Known) (kept : Listed Command) : Type 0 where
  pub each : AllKept kept tickets.entries
  -- a place that is in use is that of its command's ticket
  pub owned : (place : ℕ) → 1 ≤ times_in place kept.lists → value_of (command_at kept.values place).ticket tickets.entries ≡ Some place
  pub conns : (place : ℕ) → 1 ≤ times_in place kept.lists → (command_at kept.values place).conn + 1 < length kept.lists
  pub idle : (place : ℕ) → 1 ≤ times place (slots_at kept 0) → is_out (command_at kept.values place) ≡ false
  pub out : (conn place : ℕ) → 1 ≤ times place (slots_at kept (suc conn)) → is_out (command_at kept.values place) ≡ true
  pub on : (conn place : ℕ) → 1 ≤ times place (slots_at kept (suc conn)) → (command_at kept.values place).conn ≡ conn
  pub counted : length tickets.entries + length kept.free ≡ kept.room
  pub room : tickets.room ≡ kept.room
  pub some : 1 ≤ length kept.lists
