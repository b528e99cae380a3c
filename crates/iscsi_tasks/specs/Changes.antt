-- The history of a task set: what entered, what left and what was given, the newest change first.
use Rattle.std.specs.Prelude.{◌≡◌, ℕ, ◌<◌, ◌==◌, ◌&&◌, ◌||◌, not, Bool, true, false, List, [], ◌∷◌, ◌++◌, map, filter, find, All, Contains, Option, Some, None, option_map}
use Rattle.std.specs.List.{list_any}
use Rattle.iscsi_tasks.specs.declared.task.Task.{Task}
use Rattle.iscsi_tasks.specs.Sets.{Members, queued, is_free}

pub data Change : Type 0 where
  Entered : Task → Change
  Left : (ticket : ℕ) → Change
  Gave : (ticket : ℕ) → Change  -- `next_new` gave the ticket

-- the commands that entered and didn't leave, oldest first
abbrev pub live : List Change → List Task
live [] = []
live (Entered task ∷ h) = live h ++ task ∷ []
live (Left ticket ∷ h) = filter (λ t. not (t.ticket == ticket)) (live h)
live (Gave ticket ∷ h) = live h

abbrev pub is_live : Task → List Task → Bool
is_live task set = list_any (λ t. t.ticket == task.ticket) set

-- it is in the set, and free
abbrev pub is_free_in : Task → List Task → Bool
is_free_in task set = is_live task set && is_free (queued task) (map queued set)

-- it was in the set and free at some moment so far: after an entering or a leaving
abbrev pub was_free : Task → List Change → Bool
was_free task [] = false
was_free task (Entered t ∷ h) = is_free_in task (live (Entered t ∷ h)) || was_free task h
was_free task (Left ticket ∷ h) = is_free_in task (live (Left ticket ∷ h)) || was_free task h
was_free task (Gave ticket ∷ h) = was_free task h

abbrev pub was_given : ℕ → List Change → Bool
was_given ticket [] = false
was_given ticket (Gave t ∷ h) = t == ticket || was_given ticket h
was_given ticket (Entered task ∷ h) = was_given ticket h
was_given ticket (Left t ∷ h) = was_given ticket h

-- each ticket that entered or was given is below this one
abbrev pub AllBelow : ℕ → List Change → Type 0
AllBelow ticket [] = Unit {0}
AllBelow ticket (Entered task ∷ h) = (task.ticket < ticket) × AllBelow ticket h
AllBelow ticket (Left t ∷ h) = AllBelow ticket h
AllBelow ticket (Gave t ∷ h) = (t < ticket) × AllBelow ticket h

-- the set holds what entered and didn't leave, with what was free at some moment and what was given
pub record StandsFor (s : Members) (h : List Change) : Type 0 where
  pub tasks : map (λ m. m.task) s.list ≡ live h
  pub enabled : All (λ m. m.enabled ≡ was_free m.task h) s.list
  pub given : All (λ m. m.given ≡ was_given m.task.ticket h) s.list

-- ---- the same, read as a law

-- the newest change is one after which commands may become free
abbrev pub IsMoment : List Change → Type 0
IsMoment [] = ⊥
IsMoment (Entered task ∷ h) = Unit {0}
IsMoment (Left ticket ∷ h) = Unit {0}
IsMoment (Gave ticket ∷ h) = ⊥

-- there is a moment of the history at which the command was in the set and free
abbrev pub WasFree : Task → List Change → Type 0
WasFree task h = (later : List Change) × (earlier : List Change) × (h ≡ later ++ earlier) × IsMoment earlier × (is_free_in task (live earlier) ≡ true)

-- a command with this ticket is in the set, and was free at some moment since it entered
abbrev pub IsEnabled : ℕ → List Change → Type 0
IsEnabled ticket h = (task : Task) × (task.ticket ≡ ticket) × Contains (live h) task × WasFree task h

-- the history, once this command left, if one did
abbrev pub after_leaving : Option Task → List Change → List Change
after_leaving None h = h
after_leaving (Some task) h = Left task.ticket ∷ h

-- the history, once these commands left, one after the other
abbrev pub after_all_left : List Task → List Change → List Change
after_all_left [] h = h
after_all_left (task ∷ tasks) h = after_all_left tasks (Left task.ticket ∷ h)

-- the oldest ticket in the set that is enabled and wasn't given yet
abbrev pub next_after : List Change → Option ℕ
next_after h = option_map (λ t. t.ticket) (find (λ t. was_free t h && not (was_given t.ticket h)) (live h))

-- the history, once this answer was given
abbrev pub after_giving : Option ℕ → List Change → List Change
after_giving None h = h
after_giving (Some ticket) h = Gave ticket ∷ h
