-- The lane: the commands that left and owe something, and the answers that wait for them, in the order of the log. What stands
-- before an answer, and is what it aims at, is its scope.
use Rattle.std.specs.Prelude.{ℕ, ◌==◌, ◌&&◌, ◌||◌, not, Bool, true, false, List, [], ◌∷◌, ◌++◌, filter, map, count_by, Option, Some, None, if◌then◌else◌}
use Rattle.std.specs.List.{list_any}
use Rattle.iscsi_outbox_state.specs.declared.lane.Aim.{Aim}
use Rattle.iscsi_outbox_state.specs.declared.lane.Aim.TheVariants.{Tag, Unit, Conn, Session, Nothing}
use Rattle.iscsi_outbox_state.specs.declared.lane.Left.{Left}
use Rattle.iscsi_outbox_state.specs.declared.lane.Undue.{Undue}
use Rattle.iscsi_outbox_state.specs.declared.lane.Standing.{Standing}
use Rattle.iscsi_outbox_state.specs.declared.lane.Standing.TheVariants.{Left as IsLeft, Undue as IsUndue}

pub record Lane : Type 0 where
  pub items : List Standing
  pub conns : ℕ  -- connections have the places from 0 up to this
  pub commands : ℕ  -- commands have the places from 1 up to this
  pub answers : ℕ  -- so many answers may wait

-- nothing stands there
abbrev pub opened : ℕ → ℕ → ℕ → Lane
opened conns commands answers = record { items = []; conns = conns; commands = commands; answers = answers }

abbrev pub with_items : Lane → List Standing → Lane
with_items v items = record v { items = items }

-- ---- which answer is due

abbrev pub owes : Left → Bool
owes c = c.running || c.under_way

abbrev pub aims_at : Aim → Left → Bool
aims_at (Tag tag) c = c.tag == tag
aims_at (Unit unit) c = c.unit == unit
aims_at (Conn conn) c = c.conn == conn
aims_at Session c = true
aims_at Nothing c = false

abbrev pub is_of_logout : Aim → Bool
is_of_logout (Tag tag) = false
is_of_logout (Unit unit) = false
is_of_logout _ = true

-- aborts of one tag, and functions of one unit, are answered in their order
abbrev pub is_same_aim : Aim → Aim → Bool
is_same_aim (Tag tag) (Tag t) = t == tag
is_same_aim (Unit unit) (Unit u) = u == unit
is_same_aim _ _ = false

-- what stands before an answer holds it back: a command that it aims at runs, or, where it is no Logout's, has something under way
-- on another connection; an answer is of the same aim, or goes out on the connection that this one closes
abbrev pub holds_back : Undue → Standing → Bool
holds_back a (IsLeft c) = aims_at a.aim c && (c.running || (not (is_of_logout a.aim) && (c.under_way && not (c.conn == a.conn))))
holds_back a (IsUndue before) = is_same_aim a.aim before.aim || (a.ends && before.conn == a.conn)

abbrev pub is_due : List Standing → Undue → Bool
is_due before a = not a.uncleared && not (list_any (holds_back a) before)

-- the first answer that is due
abbrev pub due_behind : List Standing → List Standing → Option Undue
due_behind before [] = None
due_behind before (IsLeft c ∷ rest) = due_behind (before ++ IsLeft c ∷ []) rest
due_behind before (IsUndue a ∷ rest) = if is_due before a then Some a else due_behind (before ++ IsUndue a ∷ []) rest

abbrev pub first_due : Lane → Option Undue
first_due v = due_behind [] v.items

-- all but that
abbrev pub others_behind : List Standing → List Standing → List Standing
others_behind before [] = before
others_behind before (IsLeft c ∷ rest) = others_behind (before ++ IsLeft c ∷ []) rest
others_behind before (IsUndue a ∷ rest) = if is_due before a then before ++ rest else others_behind (before ++ IsUndue a ∷ []) rest

abbrev pub without_due : Lane → Lane
without_due v = with_items v (others_behind [] v.items)

-- ---- what becomes of it

abbrev pub has_left : Left → Lane → Lane
has_left c v = with_items v (v.items ++ IsLeft c ∷ [])

abbrev pub awaited : Undue → Lane → Lane
awaited a v = with_items v (v.items ++ IsUndue a ∷ [])

abbrev pub is_command : ℕ → Standing → Bool
is_command place (IsLeft c) = c.command == place
is_command place (IsUndue a) = false

abbrev pub with_left : (Left → Left) → ℕ → Standing → Standing
with_left change place (IsLeft c) = if c.command == place then IsLeft (change c) else IsLeft c
with_left change place (IsUndue a) = IsUndue a

abbrev pub still_owes : Standing → Bool
still_owes (IsLeft c) = owes c
still_owes (IsUndue a) = true

-- a command owes less, and is gone where it owes nothing
abbrev pub lessened : (Left → Left) → ℕ → Lane → Lane
lessened change place v = with_items v (filter still_owes (map (with_left change place) v.items))

abbrev pub not_running : Left → Left
not_running c = record { command = c.command; conn = c.conn; unit = c.unit; tag = c.tag; running = false; under_way = c.under_way }

abbrev pub not_under_way : Left → Left
not_under_way c = record { command = c.command; conn = c.conn; unit = c.unit; tag = c.tag; running = c.running; under_way = false }

-- its unit doesn't touch the medium any more
abbrev pub stopped : ℕ → Lane → Lane
stopped place v = lessened not_running place v

-- nothing of it is under way any more
abbrev pub arrived : ℕ → Lane → Lane
arrived place v = lessened not_under_way place v

abbrev pub goes_out_on : ℕ → Standing → Bool
goes_out_on conn (IsLeft c) = false
goes_out_on conn (IsUndue a) = a.conn == conn

-- the answers that would go out on a connection are dropped
abbrev pub dropped_on : ℕ → Lane → Lane
dropped_on conn v = with_items v (filter (λ s. not (goes_out_on conn s)) v.items)

abbrev pub waits_for_clear : ℕ → Undue → Bool
waits_for_clear unit a = a.uncleared && elim (a.aim) [ Unit u ↦ u == unit | Tag tag ↦ false | Conn conn ↦ false | Session ↦ false | Nothing ↦ false ]

abbrev pub as_cleared : Undue → Undue
as_cleared a = record { reply = a.reply; conn = a.conn; aim = a.aim; numbered = a.numbered; ends = a.ends; uncleared = false }

-- the oldest answer that waits for other sessions, of this unit, waits for them no more
abbrev pub cleared_in : ℕ → List Standing → List Standing
cleared_in unit [] = []
cleared_in unit (IsLeft c ∷ rest) = IsLeft c ∷ cleared_in unit rest
cleared_in unit (IsUndue a ∷ rest) = if waits_for_clear unit a then IsUndue (as_cleared a) ∷ rest else IsUndue a ∷ cleared_in unit rest

abbrev pub cleared : ℕ → Lane → Lane
cleared unit v = with_items v (cleared_in unit v.items)

-- ---- what callers ask

abbrev pub is_left : Standing → Bool
is_left (IsLeft c) = true
is_left (IsUndue a) = false

abbrev pub is_under_way_on : ℕ → Standing → Bool
is_under_way_on conn (IsLeft c) = c.under_way && c.conn == conn
is_under_way_on conn (IsUndue a) = false

abbrev pub is_numbered : Standing → Bool
is_numbered (IsLeft c) = false
is_numbered (IsUndue a) = a.numbered

abbrev pub count_in : (Standing → Bool) → Lane → ℕ
count_in test v = count_by test v.items

abbrev pub any_in : (Standing → Bool) → Lane → Bool
any_in test v = list_any test v.items
