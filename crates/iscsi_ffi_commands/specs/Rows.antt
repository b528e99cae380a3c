-- Worked commands, computed.
use Rattle.std.specs.Prelude.{◌≡◌, ℕ, true, false, [], ◌∷◌, Some, None, refl}
use Rattle.iscsi_tasks.specs.declared.task.Attr.TheVariants.{Simple}
use Rattle.iscsi_ffi_commands.specs.declared.command.Command.{Command}
use Rattle.iscsi_ffi_commands.specs.declared.command.Stage.{Stage}
use Rattle.iscsi_ffi_commands.specs.declared.command.Stage.TheVariants.{Entered, Marked, Started, Over}
use Rattle.iscsi_ffi_commands.specs.Commands.{Commands, entered, find_ticket, first_of, forgotten, is_clearing, may_enter, next_of, of_unit, opened, staged}

abbrev pub command : ℕ → ℕ → ℕ → Stage → Command
command ticket request unit stage = record { ticket = ticket; request = request; unit = unit; attr = Simple; stage = stage }

-- tickets 4 and 9, of units 0 and 1
abbrev pub two : Commands
two = entered (command 9 1 1 Entered) (entered (command 4 3 0 Entered) (opened 3 2))

pub by_ticket : find_ticket 9 two ≡ Some (command 9 1 1 Entered)
by_ticket = refl

pub none_with : find_ticket 5 two ≡ None
none_with = refl

pub lower_ticket : may_enter (command 8 2 0 Entered) two ≡ false
lower_ticket = refl

pub request_of_another : may_enter (command 10 3 0 Entered) two ≡ false
request_of_another = refl

pub may : may_enter (command 10 2 0 Entered) two ≡ true
may = refl

pub started : find_ticket 4 (staged Started 4 two) ≡ Some (command 4 3 0 Started)
started = refl

pub marked : is_clearing 0 (staged Marked 4 two) ≡ true
marked = refl

pub other_unit : is_clearing 1 (staged Marked 4 two) ≡ false
other_unit = refl

pub over : is_clearing 0 (staged Over 4 (staged Marked 4 two)) ≡ false
over = refl

pub of_it : of_unit 1 two ≡ command 9 1 1 Entered ∷ []
of_it = refl

pub gone : (forgotten 3 two).items ≡ command 9 1 1 Entered ∷ []
gone = refl

-- a third one, of unit 0: the walk over the unit passes the second one
abbrev pub three : Commands
three = entered (command 10 2 0 Entered) two

pub first_there : first_of 0 three ≡ Some 4
first_there = refl

pub next_there : next_of 4 three ≡ Some 10
next_there = refl

pub none_behind : next_of 10 three ≡ None
none_behind = refl

pub no_command : next_of 5 three ≡ None
no_command = refl
