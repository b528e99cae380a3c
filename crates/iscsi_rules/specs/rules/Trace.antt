-- What has happened in a session, and what follows from it. A number of the session stands 2 ^ 32 above its
-- first wire form, so that no number near one of the session is below 0.
use Rattle.std.specs.Prelude.{ℕ, zero, suc, ◌+◌, ◌==◌, ◌&&◌, ◌||◌, not, Bool, true, false, List, [], ◌∷◌, ◌++◌, length, map, Option, Some, None, if◌then◌else◌, filter, filter_map}
use Rattle.std.specs.List.{list_any, flat_map}
use Rattle.iscsi_wire.specs.declared.request.Request.{Request}
use Rattle.iscsi_wire.specs.declared.reply.Reply.{Reply}
use Rattle.iscsi_wire.specs.Serial.{number_of_first}
use Rattle.iscsi_wire.specs.Fields.{connection_of}
use Rattle.iscsi_tasks.specs.declared.task.Attr.{Attr}
use Rattle.iscsi_tasks.specs.Rules.{Queued, is_free}
use Rattle.iscsi_rules.specs.declared.effect.Why.{Why}

-- a request with its number, and the place of its event in the history
pub record Arrival : Type 0 where
  pub event : ℕ
  pub number : ℕ
  pub request : Request

-- a command that entered a unit's task set
pub record Command : Type 0 where
  pub ticket : ℕ
  pub unit : ℕ
  pub attr : Attr
  pub arrival : Arrival

-- what an item does
pub data Mark : Type 0 where
  Admits : Arrival → Mark  -- a numbered request is received, and held from now on
  Delivers : Arrival → Mark  -- a numbered request executes
  Executes : Arrival → Mark  -- an immediate request executes
  Voids : ℕ → Mark  -- a number is received without a request
  Empties : Arrival → Mark  -- a request that is held is taken out
  Waits : Arrival → Mark  -- an immediate function waits for lower numbers
  Leaves : Command → Mark
  Enters : Command → Mark
  Sends : ℕ → Reply → Mark  -- a reply goes out on a connection
  ClosesConn : ℕ → Mark  -- a connection is closed
  ClosesSession : Mark
  Ignores : Why → Mark

-- the items of a history, the newest first; the marks of an item stand in order. The end of an item is a moment
abbrev pub Trace : Type 0
Trace = List (List Mark)

-- the trace after these items, oldest first
abbrev pub after_items : List (List Mark) → Trace → Trace
after_items [] t = t
after_items (item ∷ items) t = after_items items (item ∷ t)

-- some mark passes
abbrev pub has : (Mark → Bool) → Trace → Bool
has test t = list_any (list_any test) t

-- what the marks show, oldest first
abbrev pub shown : {A : Type 0} → (Mark → Option A) → Trace → List A
shown view [] = []
shown view (item ∷ t) = shown view t ++ filter_map view item

abbrev pub first_of : {A : Type 0} → List A → Option A
first_of [] = None
first_of (x ∷ xs) = Some x

-- ---- received numbers (RFC 7143 section 4.2.2.1)

abbrev pub number_received : Mark → Option ℕ
number_received (Admits a) = Some a.number
number_received (Voids n) = Some n
number_received _ = None

-- all numbers that were ever admitted or voided
abbrev pub received : Trace → List ℕ
received t = shown number_received t

abbrev pub contains : List ℕ → ℕ → Bool
contains ns n = list_any (λ k. k == n) ns

abbrev pub is_received : Trace → ℕ → Bool
is_received t n = contains (received t) n

-- the least number from n on that isn't among these; fuel is their count
abbrev pub least_missing : List ℕ → ℕ → ℕ → ℕ
least_missing ns zero n = n
least_missing ns (suc fuel) n = if contains ns n then least_missing ns fuel (n + 1) else n

-- ExpCmdSN: the least number, from the first on, that isn't received
abbrev pub expected : ℕ → Trace → ℕ
expected first t = least_missing (received t) (length (received t)) (number_of_first first)

-- ---- requests

abbrev pub admits_at : ℕ → Mark → Option Arrival
admits_at n (Admits a) = if a.number == n then Some a else None
admits_at n _ = None

-- the request that was admitted at n
abbrev pub admitted : Trace → ℕ → Option Arrival
admitted t n = first_of (shown (admits_at n) t)

abbrev pub delivers_number : ℕ → Mark → Bool
delivers_number n (Delivers a) = a.number == n
delivers_number n _ = false

abbrev pub is_delivered : Trace → ℕ → Bool
is_delivered t n = has (delivers_number n) t

abbrev pub empties_number : ℕ → Mark → Bool
empties_number n (Empties a) = a.number == n
empties_number n _ = false

abbrev pub is_emptied : Trace → ℕ → Bool
is_emptied t n = has (empties_number n) t

-- the request that is held at n: admitted, and neither executed nor taken out since
abbrev pub held : Trace → ℕ → Option Arrival
held t n = if is_delivered t n || is_emptied t n then None else admitted t n

-- the requests that are held at these numbers, in their order
abbrev pub held_among : Trace → List ℕ → List Arrival
held_among t numbers = flat_map (λ n. elim (held t n) [ Some a ↦ a ∷ [] | None ↦ [] ]) numbers

-- ---- functions that wait

-- the functions that wait, after a mark more: one that waits stands behind the others, one that executes waits no more. An
-- event has one arrival. Those of a connection that is closed are dropped
abbrev pub waiting_by : Mark → List Arrival → List Arrival
waiting_by (Waits a) ws = ws ++ a ∷ []
waiting_by (Executes a) ws = filter (λ b. not (b.event == a.event)) ws
waiting_by (ClosesConn conn) ws = filter (λ b. not (connection_of b.request == conn)) ws
waiting_by ClosesSession ws = []
waiting_by _ ws = ws

abbrev pub waiting_through : List Mark → List Arrival → List Arrival
waiting_through [] ws = ws
waiting_through (m ∷ ms) ws = waiting_through ms (waiting_by m ws)

-- the functions that wait still, in order of arrival
abbrev pub waiting : Trace → List Arrival
waiting [] = []
waiting (item ∷ t) = waiting_through item (waiting t)

-- ---- commands (SAM-5 section 8)

abbrev pub enters : Mark → Option Command
enters (Enters c) = Some c
enters _ = None

abbrev pub leaves_ticket : ℕ → Mark → Bool
leaves_ticket ticket (Leaves c) = c.ticket == ticket
leaves_ticket ticket _ = false

-- all commands that ever entered a set, oldest first
abbrev pub entered : Trace → List Command
entered t = shown enters t

-- the commands of the session that entered and didn't leave, oldest first
abbrev pub live : Trace → List Command
live t = filter (λ c. not (has (leaves_ticket c.ticket) t)) (entered t)

abbrev pub is_among : ℕ → List Command → Bool
is_among ticket set = list_any (λ c. c.ticket == ticket) set

-- those of a unit
abbrev pub live_in : ℕ → Trace → List Command
live_in unit t = filter (λ c. c.unit == unit) (live t)

-- ---- enabled commands (SAM-5 section 8)

-- a command as the rules of a task set see it
abbrev pub queued_of : Command → Queued
queued_of c = record { ticket = c.ticket; attr = c.attr }

-- it is in its set, and free
abbrev pub is_free_at : Command → Trace → Bool
is_free_at c t = is_among c.ticket (live_in c.unit t) && is_free (queued_of c) (map queued_of (live_in c.unit t))

-- it was in its set and free at some moment so far
abbrev pub was_free : Command → Trace → Bool
was_free c [] = false
was_free c (item ∷ t) = is_free_at c (item ∷ t) || was_free c t

-- the commands of a unit that are enabled now, oldest first
abbrev pub enabled_in : ℕ → Trace → List Command
enabled_in unit t = filter (λ c. was_free c t) (live_in unit t)

-- ---- replies

abbrev pub sent_on : Mark → Option ℕ
sent_on (Sends conn reply) = Some conn
sent_on _ = None

-- ---- what is closed

abbrev pub closes_conn : ℕ → Mark → Bool
closes_conn conn (ClosesConn c) = c == conn
closes_conn conn _ = false

abbrev pub closes_session : Mark → Bool
closes_session ClosesSession = true
closes_session _ = false

-- the session is closed
abbrev pub is_ended : Trace → Bool
is_ended t = has closes_session t

-- the connection is closed, alone or with the session
abbrev pub is_closed : ℕ → Trace → Bool
is_closed conn t = is_ended t || has (closes_conn conn) t

-- no two of the commands have one ticket
abbrev pub are_apart : List Command → Bool
are_apart [] = true
are_apart (c ∷ cs) = not (is_among c.ticket cs) && are_apart cs
