-- How they are kept: tickets with slots, a command in each slot, and tables by request and by unit. For private contracts alone.
use Rattle.std.specs.Prelude.{◌≡◌, ◌≢◌, ℕ, ◌+◌, ◌≤◌, ◌==◌, ◌⊎◌, List, [], ◌∷◌, length, map, filter, slice_index_or, if◌then◌else◌}
use Rattle.iscsi_lists.specs.Lists.{Listed}
use Rattle.iscsi_tickets.specs.Tickets.{Known}
use Rattle.iscsi_tasks.specs.declared.task.Attr.TheVariants.{Simple}
use Rattle.iscsi_ffi_commands.specs.declared.command.Command.{Command}
use Rattle.iscsi_ffi_commands.specs.declared.command.Stage.{Stage}
use Rattle.iscsi_ffi_commands.specs.declared.command.Stage.TheVariants.{Entered, Marked, Started, Cleared, Over}
use Rattle.iscsi_ffi_commands.specs.Commands.{Commands}

-- no command
abbrev pub BLANK : Command
BLANK = record { ticket = 0; request = 0; unit = 0; attr = Simple; stage = Over }

abbrev pub command_at : List Command → ℕ → Command
command_at values slot = slice_index_or values slot BLANK

abbrev pub slots_at : Listed Command → ℕ → List ℕ
slots_at kept list = slice_index_or kept.lists list []

abbrev pub commands_of : Known → Listed Command → Commands
commands_of tickets kept = record {
  items = map (λ (e : ℕ × ℕ). command_at kept.values e.1) tickets.entries;
  last = tickets.last;
  room = kept.room;
  units = length kept.lists;
}

-- a command and its slot
pub record Cell : Type 0 where
  pub slot : ℕ
  pub command : Command

abbrev pub slot_of : Cell → ℕ
slot_of c = c.slot

abbrev pub command_of : Cell → Command
command_of c = c.command

abbrev pub ticket_of : Cell → ℕ
ticket_of c = c.command.ticket

abbrev pub request_of : Cell → ℕ
request_of c = c.command.request

abbrev pub entry_of : Cell → ℕ × ℕ
entry_of c = (ticket_of c, slot_of c)

abbrev pub IsIn : Cell → List Cell → Type 0
IsIn x [] = ⊥
IsIn x (c ∷ cells) = (c ≡ x) ⊎ IsIn x cells

abbrev pub HasNone : (Cell → ℕ) → ℕ → List Cell → Type 0
HasNone key n cells = (c : Cell) → IsIn c cells → key c ≢ n

-- no two of them have the same number
abbrev pub AreApartBy : (Cell → ℕ) → List Cell → Type 0
AreApartBy key [] = Unit {0}
AreApartBy key (c ∷ cells) = HasNone key (key c) cells × AreApartBy key cells

-- the slots of those of a unit
abbrev pub slots_in : ℕ → List Cell → List ℕ
slots_in unit cells = map slot_of (filter (λ (c : Cell). c.command.unit == unit) cells)

-- 1 where another session's reset takes out what is in this stage
abbrev pub marks : Stage → ℕ
marks stage = elim stage [ Entered ↦ 0 | Marked ↦ 1 | Started ↦ 0 | Cleared ↦ 1 | Over ↦ 0 ]

abbrev pub mark_of : ℕ → Command → ℕ
mark_of unit c = if c.unit == unit then marks c.stage else 0

-- how many of a unit are marked
abbrev pub marked_in : ℕ → List Cell → ℕ
marked_in unit [] = 0
marked_in unit (c ∷ cells) = mark_of unit c.command + marked_in unit cells

-- the commands in the order of their tickets, with their slots, and what is noted of them
pub record AreCells (tickets : Known) (kept : Listed Command) (slots counts : List ℕ) (cells : List Cell) : Type 0 where
  pub entries : tickets.entries ≡ map entry_of cells
  pub values : (c : Cell) → IsIn c cells → command_at kept.values c.slot ≡ c.command
  pub lists : (unit : ℕ) → slots_at kept unit ≡ slots_in unit cells
  pub by_ticket : AreApartBy ticket_of cells
  pub by_slot : AreApartBy slot_of cells
  pub by_request : AreApartBy request_of cells
  pub low : (c : Cell) → IsIn c cells → 1 ≤ request_of c
  pub high : (c : Cell) → IsIn c cells → request_of c ≤ kept.room
  -- the slot of each request's command: 0 where it has none
  pub here : (c : Cell) → IsIn c cells → slice_index_or slots (request_of c) 0 ≡ c.slot
  pub none : (request : ℕ) → HasNone request_of request cells → slice_index_or slots request 0 ≡ 0
  pub marked : (unit : ℕ) → slice_index_or counts unit 0 ≡ marked_in unit cells
  pub counted : length cells + length kept.free ≡ kept.room
  pub room : tickets.room ≡ kept.room
  pub slots_long : length slots ≡ kept.room + 1
  pub marked_long : length counts ≡ length kept.lists

pub record AreKept (tickets : Known) (kept : Listed Command) (slots counts : List ℕ) : Type 0 where
  pub cells : List Cell
  pub are : AreCells tickets kept slots counts cells
