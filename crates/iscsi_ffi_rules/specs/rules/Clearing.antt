-- Another session's reset of a unit: its commands stop, and each is completed with TASK ABORTED as its turn comes (SAM-5 section 5.3.1).
use Rattle.std.specs.Prelude.{ℕ, ◌&&◌, ◌||◌, not, Bool, true, false, filter, Option, if◌then◌else◌}
use Rattle.std.specs.List.{list_any}
use Rattle.iscsi_tasks.specs.declared.task.Attr.{Attr}
use Rattle.iscsi_tasks.specs.declared.task.Attr.TheVariants.{Simple, Ordered, Head}
use Rattle.iscsi_rules.specs.rules.Trace.{Command, first_of, live, live_in, was_free}
use Rattle.iscsi_outbox_rules.specs.rules.Words.{contains}
use Rattle.iscsi_ffi_rules.specs.rules.Sides.{Side}

abbrev pub TASK_ABORTED : ℕ
TASK_ABORTED = 0x40

abbrev pub BUSY : ℕ
BUSY = 0x08

abbrev pub is_head : Attr → Bool
is_head Head = true
is_head Simple = false
is_head Ordered = false

abbrev pub is_marked : Side → Command → Bool
is_marked s c = contains s.marked c.ticket

-- a command of the unit is left that the reset takes out
abbrev pub is_clearing : Side → ℕ → Bool
is_clearing s unit = list_any (is_marked s) (live_in unit s.both.trace)

-- a command that becomes enabled isn't told to start: one that the reset takes out, nor a HEAD OF QUEUE command while such ones are
-- left, since it would bar them
abbrev pub is_withheld : Side → Command → Bool
is_withheld s c = is_marked s c || (is_head c.attr && is_clearing s c.unit)

-- with which status a command that is withheld is completed
abbrev pub status_of : Side → Command → ℕ
status_of s c = if is_marked s c then TASK_ABORTED else BUSY

-- the oldest command that is enabled, and was withheld as it became so: all others were told to start. It stays withheld, also where
-- those that the reset takes out have left since
abbrev pub next_withheld : Side → Option Command
next_withheld s = first_of (filter (λ (c : Command). was_free c s.both.trace && not (contains s.told c.ticket)) (live s.both.trace))
