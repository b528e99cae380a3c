-- How what stands in the lane has slots; and what holds of all lanes.
use Rattle.std.specs.Prelude.{◌≡◌, ℕ, ◌+◌, ◌*◌, ◌==◌, ◌<◌, ◌≤◌, not, Bool, true, false, cond, List, [], ◌∷◌, length, map, Option, Some, None, slice_index_or, if◌then◌else◌}
use Rattle.std.specs.List.{list_any}
use Rattle.iscsi_slots.specs.Slots.{times}
use Rattle.iscsi_lists.specs.Lists.{Listed}
use Rattle.iscsi_outbox_state.specs.declared.lane.Left.{Left}
use Rattle.iscsi_outbox_state.specs.declared.lane.Standing.{Standing}
use Rattle.iscsi_outbox_state.specs.declared.lane.Standing.TheVariants.{Left as IsLeft, Undue as IsUndue}
use Rattle.iscsi_outbox_state.specs.Lane.{Lane, count_in, is_command, is_left, is_numbered, owes}

abbrev pub is_undue : Standing → Bool
is_undue s = not (is_left s)

-- each command owes something, and has a place within
abbrev pub MayStand : ℕ → Standing → Type 0
MayStand commands (IsLeft c) = (1 ≤ c.command) × ((c.command ≤ commands) × (owes c ≡ true))
MayStand commands (IsUndue a) = Unit {0}

-- and no other one has it
abbrev pub AreApart : ℕ → List Standing → Type 0
AreApart commands [] = Unit {0}
AreApart commands (IsLeft c ∷ rest) = (list_any (is_command c.command) rest ≡ false) × (MayStand commands (IsLeft c) × AreApart commands rest)
AreApart commands (IsUndue a ∷ rest) = AreApart commands rest

-- the connection that a command is of, or an answer goes out on
abbrev pub conn_of : Standing → ℕ
conn_of (IsLeft c) = c.conn
conn_of (IsUndue a) = a.conn

-- is one of the session's
abbrev pub AreWithin : ℕ → List Standing → Type 0
AreWithin conns [] = Unit {0}
AreWithin conns (x ∷ xs) = (conn_of x < conns) × AreWithin conns xs

-- what holds of all lanes
pub record AreKnown (v : Lane) : Type 0 where
  pub apart : AreApart v.commands v.items
  pub few : count_in is_undue v ≤ v.answers
  pub within : AreWithin v.conns v.items
  pub conns : v.conns ≤ 65536
  pub short : 3 * (v.commands + v.answers) + 5 ≤ 4294967295

-- the command at a place
abbrev pub left_in : ℕ → List Standing → Option Left
left_in place [] = None
left_in place (IsLeft c ∷ rest) = if c.command == place then Some c else left_in place rest
left_in place (IsUndue a ∷ rest) = left_in place rest

-- ---- slots. For private contracts alone

-- what holds of all that stands there
pub record AreSound (v : Lane) : Type 0 where
  pub apart : AreApart v.commands v.items
  pub few : count_in is_undue v ≤ v.answers
  pub long : length v.items ≤ v.commands + v.answers
  pub short : v.commands + v.answers + 5 ≤ 4294967295

abbrev pub NOBODY : Standing
NOBODY = IsLeft (record { command = 0; conn = 0; unit = 0; tag = 0; running = false; under_way = false })

abbrev pub at : List Standing → ℕ → Standing
at xs slot = slice_index_or xs slot NOBODY

abbrev pub standings : List Standing → List ℕ → List Standing
standings xs slots = map (λ s. at xs s) slots

-- the slots of a list: those of commands that don't stand in the lane, of answers that don't, and of what does
abbrev pub slots_at : Listed Standing → ℕ → List ℕ
slots_at log list = slice_index_or log.lists list []

abbrev pub items_in : Listed Standing → List Standing
items_in log = standings log.values (slots_at log 2)

abbrev pub lane_of : Listed Standing → ℕ → ℕ → ℕ → Lane
lane_of log conns commands answers = record { items = items_in log; conns = conns; commands = commands; answers = answers }

-- a command stands in the slot of its place, an answer behind the places of all commands
abbrev pub StandsAt : ℕ → ℕ → Standing → Type 0
StandsAt commands slot (IsLeft c) = (c.command ≡ slot) × ((slot ≤ commands) × (owes c ≡ true))
StandsAt commands slot (IsUndue a) = commands < slot

abbrev pub StandAt : ℕ → List Standing → List ℕ → Type 0
StandAt commands xs [] = Unit {0}
StandAt commands xs (s ∷ slots) = StandsAt commands s (at xs s) × StandAt commands xs slots

abbrev pub AllBehind : ℕ → List ℕ → Type 0
AllBehind n [] = Unit {0}
AllBehind n (s ∷ slots) = (n < s) × AllBehind n slots

-- how many pass a test
abbrev pub tally : (Standing → Bool) → List Standing → ℕ
tally test [] = 0
tally test (x ∷ xs) = cond (test x) 1 0 + tally test xs

pub record AreStanding (log : Listed Standing) (commands : ℕ) : Type 0 where
  pub all : log.free ≡ []
  pub lists : length log.lists ≡ 3
  pub behind : AllBehind commands (slots_at log 1)
  pub stand : StandAt commands log.values (slots_at log 2)
  pub most : commands ≤ log.room

pub record IsLane (log : Listed Standing) (commands answers owing waiting numbered : ℕ) : Type 0 where
  pub standing : AreStanding log commands
  pub slots : log.room ≡ commands + answers
  pub left : owing ≡ tally is_left (items_in log)
  pub undue : waiting ≡ tally is_undue (items_in log)
  pub of_numbered : numbered ≡ tally is_numbered (items_in log)
  pub rest : length (slots_at log 1) + waiting ≡ answers

-- a command that stands in the lane, or none does at this place
abbrev pub Found : Listed Standing → ℕ → Option Left → Type 0
Found log command None = list_any (is_command command) (items_in log) ≡ false
Found log command (Some c) = (1 ≤ times command (slots_at log 2)) × ((at log.values command ≡ IsLeft c) × ((c.command ≡ command) × (owes c ≡ true)))
