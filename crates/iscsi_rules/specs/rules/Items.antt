-- The items of requests.
use Rattle.std.specs.Prelude.{ℕ, ◌+◌, zero, suc, ◌==◌, ◌&&◌, Bool, List, [], ◌∷◌, ◌++◌, Some, None, if◌then◌else◌, filter}
use Rattle.std.specs.List.{list_any}
use Rattle.iscsi_wire.specs.Fields.{connection_of, opcode}
use Rattle.iscsi_rules.specs.rules.Settings.{Setting}
use Rattle.iscsi_rules.specs.rules.Trace.{Arrival, Mark, Delivers, Executes, Waits, Trace, after_items, waiting, held}
use Rattle.iscsi_rules.specs.rules.Execution.{exp_of, max_of, reply_of, reply_on}
use Rattle.iscsi_rules.specs.rules.Management.{may_wait, refusal_of_function, waiting_on, by_its_number}
use Rattle.iscsi_rules.specs.rules.Deeds.{marks_after, function_marks}

-- the item of a request that executes, which begins with this mark
abbrev pub execution : Setting → Trace → Mark → Arrival → List Mark
execution o t mark a = let t' = (mark ∷ []) ∷ t in mark ∷ marks_after o t' a

-- the item of a request whose turn it is. It isn't held any more
abbrev pub item_of : Setting → Trace → Arrival → List Mark
item_of o t a = execution o t (Delivers a) a

-- an immediate function that may wait: it is refused, or waits, or executes
abbrev pub waiting_item : Setting → Trace → Arrival → List Mark
waiting_item o t a =
    by_its_number a.number (exp_of o t) (max_of o t + 1) (waiting_on (connection_of a.request) t) (λ x. Executes a ∷ reply_on a (reply_of a.request x)) (execution o t (Executes a) a) (Waits a ∷ [])

-- the item of an immediate request at its arrival
abbrev pub immediate_item : Setting → Trace → Arrival → List Mark
immediate_item o t a =
    if opcode a.request == 0x02 && may_wait a.request
    then elim (refusal_of_function o a.request) [ Some reply ↦ execution o t (Executes a) a | None ↦ waiting_item o t a ]
    else execution o t (Executes a) a

-- ---- the agenda

-- the item of a function that has waited
abbrev pub function_item : Setting → Trace → Arrival → List Mark
function_item o t a = Executes a ∷ function_marks o ((Executes a ∷ []) ∷ t) a

-- it waits still
abbrev pub is_waiting : Arrival → Trace → Bool
is_waiting a t = list_any (λ b. b.event == a.event) (waiting t)

-- these functions, those that wait still
abbrev pub functions : Setting → List Arrival → Trace → List (List Mark)
functions o [] t = []
functions o (a ∷ as') t =
    let now = if is_waiting a t then function_item o t a ∷ [] else [] in
    now ++ functions o as' (after_items now t)

-- the functions that wait for a number, in order of arrival
abbrev pub functions_at : Setting → ℕ → Trace → List (List Mark)
functions_at o n t = functions o (filter (λ a. a.number == n) (waiting t)) t

-- the request that is held at a number
abbrev pub turn_at : Setting → ℕ → Trace → List (List Mark)
turn_at o n t = elim (held t n) [ Some a ↦ item_of o t a ∷ [] | None ↦ [] ]

abbrev pub at_number : Setting → ℕ → Trace → List (List Mark)
at_number o n t = let before = functions_at o n t in before ++ turn_at o n (after_items before t)

-- what becomes due as ExpCmdSN goes on from n by so many numbers, and what waits for the number that it has then. After an item
-- that closes the session nothing is held and nothing waits, so it is the last
abbrev pub agenda : Setting → ℕ → ℕ → Trace → List (List Mark)
agenda o n zero t = functions_at o n t
agenda o n (suc more) t = let now = at_number o n t in now ++ agenda o (n + 1) more (after_items now t)
