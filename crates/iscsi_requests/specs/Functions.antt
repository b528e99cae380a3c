-- The functions that wait, as callers see them, and what becomes of them.
use Rattle.std.specs.Prelude.{ℕ, ◌==◌, Bool, List, [], ◌∷◌, find, replicate, Option, option_map, slice_set, if◌then◌else◌}
use Rattle.iscsi_requests.specs.declared.functions.WaitingFunction.{WaitingFunction}
use Rattle.iscsi_requests.specs.Conns.{of_conn, oldest, with_newest, without_oldest}

pub record WaitingFunctions : Type 0 where
  pub waiting : List (List WaitingFunction)  -- of each connection, in order of arrival
  pub room : ℕ  -- how many there may be on all of them

-- none yet
abbrev pub opened : ℕ → ℕ → WaitingFunctions
opened conns room = record { waiting = replicate conns []; room = room }

abbrev pub has_number : ℕ → WaitingFunction → Bool
has_number number f = f.number == number

abbrev pub request_of : Option WaitingFunction → Option ℕ
request_of f = option_map (λ (g : WaitingFunction). g.request) f

abbrev pub pushed : ℕ → WaitingFunction → WaitingFunctions → WaitingFunctions
pushed conn f v = record v { waiting = with_newest conn f v.waiting }

-- the request of the first one of a connection with a number
abbrev pub find_number : ℕ → ℕ → WaitingFunctions → Option ℕ
find_number conn number v = request_of (find (has_number number) (of_conn conn v.waiting))

-- without the first one with a number
abbrev pub without_number : ℕ → List WaitingFunction → List WaitingFunction
without_number number [] = []
without_number number (f ∷ fs) = if has_number number f then fs else f ∷ without_number number fs

abbrev pub taken : ℕ → ℕ → WaitingFunctions → WaitingFunctions
taken conn number v = record v { waiting = slice_set v.waiting conn (without_number number (of_conn conn v.waiting)) }

abbrev pub first_request : ℕ → WaitingFunctions → Option ℕ
first_request conn v = request_of (oldest (of_conn conn v.waiting))

abbrev pub popped : ℕ → WaitingFunctions → WaitingFunctions
popped conn v = record v { waiting = without_oldest conn v.waiting }
