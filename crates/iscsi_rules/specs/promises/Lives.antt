-- The life of a command, as a log shows it: no command is started twice.
use Rattle.std.specs.Prelude.{◌≡◌, ℕ, ◌==◌, ◌&&◌, Bool, true, false, List, [], ◌∷◌, length, Option, Some, None, filter, filter_map}
use Rattle.std.specs.List.{range_with_len}
use Rattle.iscsi_rules.specs.declared.effect.Effect.{Effect}
use Rattle.iscsi_rules.specs.declared.effect.Effect.TheVariants.{Enter, Enable, Leave}
use Rattle.iscsi_rules.specs.declared.entry.Entry.{Entry}
use Rattle.iscsi_rules.specs.promises.Enabling.{effects_in}

-- the ticket that enters
abbrev pub ticket_entered : Effect → Option ℕ
ticket_entered (Enter ticket unit attr) = Some ticket
ticket_entered _ = None

abbrev pub tickets_entered : List Effect → List ℕ
tickets_entered es = filter_map ticket_entered es

-- the effect names this ticket
abbrev pub names_ticket : ℕ → Effect → Bool
names_ticket k (Enter ticket unit attr) = ticket == k
names_ticket k (Enable ticket unit) = ticket == k
names_ticket k (Leave ticket unit) = ticket == k
names_ticket k _ = false

-- what effects show of a command, in order
abbrev pub life_of : ℕ → List Effect → List Effect
life_of k es = filter (names_ticket k) es

-- a command of the unit, enabled or not: it leaves at most once, and nothing comes after
abbrev pub ends_in : ℕ → List Effect → Bool
ends_in unit [] = true
ends_in unit (Leave ticket u ∷ []) = u == unit
ends_in unit _ = false

-- a command of the unit that entered: it is enabled at most once, before it leaves
abbrev pub goes_on_in : ℕ → List Effect → Bool
goes_on_in unit (Enable ticket u ∷ es) = u == unit && ends_in unit es
goes_on_in unit es = ends_in unit es

-- a life begins as the command enters a unit, and stays in it
abbrev pub is_life : List Effect → Bool
is_life [] = true
is_life (Enter ticket unit attr ∷ es) = goes_on_in unit es
is_life _ = false

-- each command is started at most once
pub record StartsOnce (log : List Entry) : Type 0 where
  -- tickets are 1, 2, 3, .. in the order of their Enters, so each enters once
  pub tickets : let entered = tickets_entered (effects_in log) in entered ≡ range_with_len 1 (length entered)
  -- what the log shows of a ticket is nothing, or one Enter, then at most one Enable, then at most one Leave
  pub lives : (ticket : ℕ) → is_life (life_of ticket (effects_in log)) ≡ true
