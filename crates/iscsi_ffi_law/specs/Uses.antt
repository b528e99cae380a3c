-- How often the place of a request stands in what a side keeps.
use Rattle.std.specs.Prelude.{ℕ, ◌+◌, ◌==◌, ◌&&◌, ◌||◌, Bool, false, List, [], ◌∷◌, count_by, Option, Some, None}
use Rattle.iscsi_requests.specs.declared.functions.WaitingFunction.{WaitingFunction}
use Rattle.iscsi_requests.specs.declared.replies.WaitingReply.{WaitingReply}
use Rattle.iscsi_ffi_commands.specs.declared.command.Command.{Command}
use Rattle.iscsi_ffi_commands.specs.Commands.{is_live}
use Rattle.iscsi_outbox_steps.specs.State.{State as OutboxState}
use Rattle.iscsi_outbox_steps.specs.Steps.{is_running_ticket}
use Rattle.iscsi_ffi_steps.specs.State.{State}

abbrev pub is_place : ℕ → Option ℕ → Bool
is_place place (Some p) = p == place
is_place place None = false

abbrev pub count_lists : {X : Type 0} → (X → Bool) → List (List X) → ℕ
count_lists p [] = 0
count_lists p (xs ∷ lists) = count_by p xs + count_lists p lists

-- a command uses its request while it is live, and while it runs after it was taken out
abbrev pub is_used : OutboxState → Command → Bool
is_used o c = is_live c || is_running_ticket c.ticket o

abbrev pub count_held : ℕ → State → ℕ
count_held place s = count_by (is_place place) s.held.places

abbrev pub count_functions : ℕ → State → ℕ
count_functions place s = count_lists (λ (f : WaitingFunction). f.request == place) s.functions.waiting

abbrev pub count_commands : ℕ → State → ℕ
count_commands place s = count_by (λ (c : Command). c.request == place && is_used s.outbox c) s.commands.items

abbrev pub count_replies : ℕ → State → ℕ
count_replies place s = count_lists (λ (x : WaitingReply). x.request == place) s.replies.waiting

abbrev pub count_noted : ℕ → State → ℕ
count_noted place s = count_lists (is_place place) s.noted.handed

abbrev pub count_unwritten : ℕ → State → ℕ
count_unwritten place s = count_lists (is_place place) s.unwritten.handed

abbrev pub uses_of : ℕ → State → ℕ
uses_of place s = count_held place s + count_functions place s + count_commands place s + count_replies place s + count_noted place s + count_unwritten place s
