-- The commands of a side, as callers see them, and what becomes of them.
use Rattle.std.specs.Prelude.{◌≢◌, ℕ, ◌<◌, ◌≤◌, ◌==◌, ◌&&◌, not, nat_le, nat_lt, Bool, true, false, List, [], ◌∷◌, ◌++◌, length, map, filter, All, Option, Some, None, if◌then◌else◌}
use Rattle.std.specs.List.{AllPairs, find, list_any}
use Rattle.iscsi_tasks.specs.declared.task.Attr.TheVariants.{Simple, Ordered, Head}
use Rattle.iscsi_ffi_commands.specs.declared.command.Command.{Command}
use Rattle.iscsi_ffi_commands.specs.declared.command.Stage.{Stage}
use Rattle.iscsi_ffi_commands.specs.declared.command.Stage.TheVariants.{Entered, Marked, Started, Cleared, Over}

pub record Commands : Type 0 where
  pub items : List Command  -- in the order of their tickets
  pub last : ℕ  -- the ticket that entered last (0: none has)
  pub room : ℕ  -- requests have places from 1 to it
  pub units : ℕ

-- none yet
abbrev pub opened : ℕ → ℕ → Commands
opened room units = record { items = []; last = 0; room = room; units = units }

-- ---- a command

abbrev pub is_live : Command → Bool
is_live c = elim (c.stage) [ Entered ↦ true | Marked ↦ true | Started ↦ true | Cleared ↦ true | Over ↦ false ]

-- it was told to start, and neither completed nor was taken out
abbrev pub is_going : Command → Bool
is_going c = elim (c.stage) [ Entered ↦ false | Marked ↦ false | Started ↦ true | Cleared ↦ true | Over ↦ false ]

-- another session's reset takes it out
abbrev pub is_marked : Command → Bool
is_marked c = elim (c.stage) [ Entered ↦ false | Marked ↦ true | Started ↦ false | Cleared ↦ true | Over ↦ false ]

abbrev pub is_head : Command → Bool
is_head c = elim (c.attr) [ Simple ↦ false | Ordered ↦ false | Head ↦ true ]

abbrev pub in_stage : Stage → Command → Command
in_stage stage c = record { ticket = c.ticket; request = c.request; unit = c.unit; attr = c.attr; stage = stage }

-- ---- what callers ask

abbrev pub has_ticket : ℕ → Command → Bool
has_ticket ticket c = c.ticket == ticket

abbrev pub is_of : ℕ → Command → Bool
is_of request c = c.request == request

abbrev pub find_ticket : ℕ → Commands → Option Command
find_ticket ticket v = find (has_ticket ticket) v.items

abbrev pub of_unit : ℕ → Commands → List Command
of_unit unit v = filter (λ (c : Command). c.unit == unit) v.items

abbrev pub ticket_of_first : List Command → Option ℕ
ticket_of_first [] = None
ticket_of_first (c ∷ commands) = Some (c.ticket)

abbrev pub behind : ℕ → List Command → List Command
behind ticket [] = []
behind ticket (c ∷ commands) = if has_ticket ticket c then commands else behind ticket commands

-- the ticket of the first command of a unit, and that of the one behind another one of its unit
abbrev pub first_of : ℕ → Commands → Option ℕ
first_of unit v = ticket_of_first (of_unit unit v)

abbrev pub next_of : ℕ → Commands → Option ℕ
next_of ticket v = elim (find_ticket ticket v) [ Some c ↦ ticket_of_first (behind ticket (of_unit (c.unit) v)) | None ↦ None ]

-- a command of the unit is left that a reset takes out
abbrev pub is_clearing : ℕ → Commands → Bool
is_clearing unit v = list_any (λ (c : Command). c.unit == unit && is_marked c) v.items

-- tickets go up, the unit is one of the session's, and the request has a place and no command
abbrev pub may_enter : Command → Commands → Bool
may_enter c v =
    nat_lt v.last c.ticket && nat_lt c.unit v.units
    && nat_le 1 c.request && nat_le c.request v.room && not (list_any (is_of c.request) v.items)

-- ---- what becomes of them

abbrev pub entered : Command → Commands → Commands
entered c v = record v { items = v.items ++ c ∷ []; last = c.ticket }

abbrev pub staged : Stage → ℕ → Commands → Commands
staged stage ticket v = record v { items = map (λ (c : Command). if has_ticket ticket c then in_stage stage c else c) v.items }

-- that of a request is kept no more, if it has one
abbrev pub forgotten : ℕ → Commands → Commands
forgotten request v = record v { items = filter (λ (c : Command). not (is_of request c)) v.items }

-- ---- what holds of all

pub record AreKnown (v : Commands) : Type 0 where
  pub ascending : AllPairs (λ (a b : Command). a.ticket < b.ticket) v.items
  pub newest : All (λ (c : Command). c.ticket ≤ v.last) v.items
  pub apart : AllPairs (λ (a b : Command). a.request ≢ b.request) v.items
  pub low : All (λ (c : Command). 1 ≤ c.request) v.items
  pub high : All (λ (c : Command). c.request ≤ v.room) v.items
  pub below : All (λ (c : Command). c.unit < v.units) v.items
  pub few : length v.items ≤ v.room
