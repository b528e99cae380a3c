-- A task set as its callers see it, what each call answers, and what the set becomes.
use Rattle.std.specs.Prelude.{ℕ, ◌<◌, ◌==◌, ◌&&◌, ◌||◌, not, Bool, true, false, nat_lt, int_lt, List, [], ◌∷◌, ◌++◌, map, filter, find, All, Option, Some, None, option_map, option_and_then, slice_get, if◌then◌else◌}
use Rattle.std.specs.List.{list_any, AllPairs}
use Rattle.std.specs.Ordering.{int_eq}
use Rattle.iscsi_tasks.specs.declared.task.Task.{Task}
use Rattle.iscsi_tasks.specs.declared.cover.Cover.{Cover}
use Rattle.iscsi_tasks.specs.declared.cover.Cover.TheVariants.{All as AllOfThem, Conn, Below}
use Rattle.iscsi_tasks.specs.declared.member.Member.{Member}
pub use Rattle.iscsi_tasks.specs.Rules.{Queued, is_head_of, is_ordered_of, bars_as, bars, is_free, StaysFree}

pub record Members : Type 0 where
  pub depth : ℕ  -- the most commands that it holds
  pub looked : ℕ  -- how many commands the last call of `enter` tested
  pub list : List Member  -- its commands, oldest first

-- the commands of the set, oldest first
abbrev pub tasks_in : Members → List Task
tasks_in s = map (λ m. m.task) s.list

abbrev pub opened : ℕ → Members
opened depth = record { depth = depth; looked = 0; list = [] }

-- tickets go up along the set
abbrev pub InOrder : List Member → Type 0
InOrder list = AllPairs (λ a b. a.task.ticket < b.task.ticket) list

-- the ticket is above those of the set
abbrev pub IsNewest : ℕ → Members → Type 0
IsNewest ticket s = All (λ m. m.task.ticket < ticket) s.list

-- ---- moments

-- a command as the rules see it
abbrev pub queued : Task → Queued
queued task = record { ticket = task.ticket; attr = task.attr }

abbrev pub is_free_among : Task → List Member → Bool
is_free_among task list = is_free (queued task) (map (λ m. queued m.task) list)

-- a member, enabled from now on where it is free in the set
abbrev pub looked_at : List Member → Member → Member
looked_at list m = record { task = m.task; enabled = m.enabled || is_free_among m.task list; given = m.given }

-- the set after a moment
abbrev pub after_moment : List Member → List Member
after_moment list = map (looked_at list) list

-- ---- entering and leaving

abbrev pub entered_to : Members → Task → Members
entered_to s task = record { depth = s.depth; looked = 1; list = after_moment (s.list ++ record { task = task; enabled = false; given = false } ∷ []) }

-- the set was full
abbrev pub refused_by : Members → Members
refused_by s = record s { looked = 0 }

abbrev pub without : ℕ → List Member → List Member
without ticket list = filter (λ m. not (m.task.ticket == ticket)) list

-- the command left, if one did
abbrev pub left_by : Members → Option Task → Members
left_by s None = s
left_by s (Some task) = record s { list = after_moment (without task.ticket s.list) }

abbrev pub with_ticket : ℕ → List Task → Option Task
with_ticket ticket tasks = find (λ t. t.ticket == ticket) tasks

-- the oldest one with this tag
abbrev pub with_tag : ℕ → List Task → Option Task
with_tag itt tasks = find (λ t. t.itt == itt) tasks

-- an abort or a logout takes the command out
abbrev pub is_covered : Cover → Task → Bool
is_covered AllOfThem t = true
is_covered (Conn cid) t = t.conn == cid
is_covered (Below pos event) t = int_lt t.pos pos || (t.immediate && int_eq t.pos pos && nat_lt t.event event)

-- the oldest one that is covered
abbrev pub first_covered : Cover → List Task → Option Task
first_covered cover tasks = find (is_covered cover) tasks

-- the ticket of the command at this place, if there is one and it is covered
abbrev pub ticket_if : Bool → Task → Option ℕ
ticket_if covered t = if covered then Some t.ticket else None

abbrev pub covered_at : Cover → List Task → ℕ → Option ℕ
covered_at cover tasks at = option_and_then (λ t. ticket_if (is_covered cover t) t) (slice_get tasks at)

-- the commands of which this isn't true stay
abbrev pub uncovered : (Task → Bool) → List Member → List Member
uncovered covers list = filter (λ m. not (covers m.task)) list

-- the list without the covered ones: there is a moment where some leave
abbrev pub list_staying : (Task → Bool) → List Member → List Member
list_staying covers list = if list_any (λ m. covers m.task) list then after_moment (uncovered covers list) else list

-- the set without the covered ones
abbrev pub set_staying : (Task → Bool) → Members → Members
set_staying covers set =
    if list_any (λ m. covers m.task) set.list then record set { list = after_moment (filter (λ m. not (covers m.task)) set.list) }
    else set

-- ---- enabled commands

abbrev pub is_enabled_with : ℕ → Member → Bool
is_enabled_with ticket m = m.task.ticket == ticket && m.enabled

abbrev pub is_enabled_in : ℕ → List Member → Bool
is_enabled_in ticket list = list_any (is_enabled_with ticket) list

-- it is enabled, and wasn't given yet
abbrev pub is_new : Member → Bool
is_new m = m.enabled && not m.given

-- the oldest ticket that is enabled and wasn't given yet
abbrev pub next_in : List Member → Option ℕ
next_in list = option_map (λ m. m.task.ticket) (find is_new list)

abbrev pub given_in : List Member → List Member
given_in [] = []
given_in (m ∷ ms) = if is_new m then record { task = m.task; enabled = m.enabled; given = true } ∷ ms else m ∷ given_in ms

abbrev pub given_by : Members → Members
given_by s = record s { list = given_in s.list }
