-- Aborts: what a completed abort covers is over. It is in no task set, isn't answered, and isn't delivered
-- (RFC 7143 sections 4.2.3 and 11.5, SAM-5 section 7).
use Rattle.std.specs.Prelude.{◌≡◌, ℕ, ◌==◌, ◌&&◌, ◌||◌, not, Bool, true, false, nat_lt, List, [], ◌∷◌, ◌++◌, Some, None, if◌then◌else◌, filter, Contains}
use Rattle.std.specs.List.{list_any}
use Rattle.iscsi_wire.specs.declared.reply.Reply.{Reply}
use Rattle.iscsi_wire.specs.declared.reply.Reply.TheVariants.{Task}
use Rattle.iscsi_wire.specs.declared.request.Request.{Request}
use Rattle.iscsi_wire.specs.Fields.{connection_of, is_immediate, opcode, function, itt}
use Rattle.iscsi_rules.specs.declared.event.Event.{Event}
use Rattle.iscsi_rules.specs.declared.entry.Entry.{Entry}
use Rattle.iscsi_rules.specs.rules.Settings.{Setting}
use Rattle.iscsi_rules.specs.rules.Trace.{Arrival, Command, Mark, Voids, Empties, Sends, Trace, has, admitted, is_delivered, delivers_number, entered, leaves_ticket, live, is_among}
use Rattle.iscsi_rules.specs.rules.Execution.{unit_named}
use Rattle.iscsi_rules.specs.promises.Replies.{executed_in, replies_to}
use Rattle.iscsi_rules.specs.rules.Run.{trace_of, effects_of_item}
use Rattle.iscsi_rules.specs.promises.Enabling.{is_enable, effects_so_far, effects_in}

-- ---- completed aborts

-- ABORT TASK SET, CLEAR TASK SET, LOGICAL UNIT RESET
abbrev pub is_set_abort : Request → Bool
is_set_abort r = function r == 2 || function r == 4 || function r == 5

abbrev pub is_abort : Request → Bool
is_abort r = opcode r == 0x02 && (function r == 1 || is_set_abort r)

-- Function complete
abbrev pub is_complete : ℕ → Reply → Bool
is_complete tag (Task t response) = t == tag && response == 0
is_complete tag _ = false

-- the request is answered so
abbrev pub completes : Request → Mark → Bool
completes r (Sends conn reply) = conn == connection_of r && is_complete (itt r) reply
completes r _ = false

-- the abort executes in the item, and completes
pub record IsCompleted (f : Arrival) (item : List Mark) : Type 0 where
  pub executes : executed_in item ≡ Some f
  pub aborts : is_abort f.request ≡ true
  pub complete : list_any (completes f.request) item ≡ true

-- ---- what it covers

-- the function's LUN names the unit of the command
abbrev pub is_in_unit_of : Setting → Arrival → Command → Bool
is_in_unit_of o f c = elim (unit_named o.units f.request) [ Some unit ↦ c.unit == unit | None ↦ false ]

-- a request came before another: its number is lower, or, as an immediate request has the number of the next numbered one,
-- it is immediate, of the same number, and arrived in an earlier event
abbrev pub came_before : Arrival → Arrival → Bool
came_before a f = if a.number == f.number then is_immediate a.request && nat_lt a.event f.event else nat_lt a.number f.number

-- the commands of the function's unit that ever entered its set, and came before it
abbrev pub earlier : Setting → Arrival → Trace → List Command
earlier o f t = filter (λ c. is_in_unit_of o f c && came_before c.arrival f) (entered t)

-- the tickets that an abort covers, in this item: that of the task that ABORT TASK takes out, the earlier ones of a whole
-- set, and after LOGICAL UNIT RESET those of the later ones too that were in the set by then
abbrev pub is_ticket_covered : Setting → Arrival → List Mark → Trace → ℕ → Bool
is_ticket_covered o f item before ticket =
    if function f.request == 1 then list_any (leaves_ticket ticket) item
    else is_among ticket (earlier o f before) || (function f.request == 5 && is_among ticket (filter (is_in_unit_of o f) (live before)))

-- the request at this number is taken out, before it comes or while it is held
abbrev pub takes_out : ℕ → Mark → Bool
takes_out n (Empties a) = a.number == n
takes_out n (Voids k) = k == n
takes_out n _ = false

-- the numbers that it covers: the one that ABORT TASK takes out, and all before the function's own where nothing
-- executed yet
abbrev pub is_number_covered : Arrival → List Mark → Trace → ℕ → Bool
is_number_covered f item before n =
    if function f.request == 1 then list_any (takes_out n) item
    else nat_lt n f.number && not (is_delivered before n)

-- ---- all of it is over

-- what the abort of this item covers is over from the end of its item on
pub record IsOver (o : Setting) (f : Arrival) (later : Trace) (item : List Mark) (before : Trace) : Type 0 where
  -- a covered command is in no task set, at any moment
  pub sets : (k : ℕ) → is_ticket_covered o f item before k ≡ true → (after moment : Trace) → after ++ moment ≡ later → is_among k (live (moment ++ item ∷ before)) ≡ false
  -- it doesn't leave any more: a completion's response goes out in the item that the command leaves by
  pub completions : (k : ℕ) → is_ticket_covered o f item before k ≡ true → (after moment : Trace) (i : List Mark) → after ++ i ∷ moment ≡ later → list_any (leaves_ticket k) i ≡ false
  -- and nothing is sent any more to its request
  pub replies : (c : Command) → is_ticket_covered o f item before c.ticket ≡ true → Contains (entered (item ∷ before)) c → replies_to c.arrival.event later ≡ []
  -- nor is its unit told to begin it
  pub enables : (k : ℕ) → is_ticket_covered o f item before k ≡ true → (after moment : Trace) (i : List Mark) → after ++ i ∷ moment ≡ later
      → list_any (is_enable k) (effects_of_item o (moment ++ item ∷ before) i) ≡ false
  -- no request is delivered at a covered number
  pub numbers : (n : ℕ) → is_number_covered f item before n ≡ true → has (delivers_number n) later ≡ false
  -- and the one that was admitted there has no reply, before or after
  pub unanswered : (n : ℕ) (a : Arrival) → is_number_covered f item before n ≡ true → admitted (later ++ item ∷ before) n ≡ Some a → replies_to a.event (later ++ item ∷ before) ≡ []

-- so it is with each completed abort
abbrev pub AbortsHold : Setting → Trace → Type 0
AbortsHold o t = (later before : Trace) (item : List Mark) (f : Arrival) → later ++ item ∷ before ≡ t → IsCompleted f item → IsOver o f later item before

pub record AbortsHoldIn (o : Setting) (h : List Event) (log : List Entry) : Type 0 where
  -- the log has the effects of all moments, one after the other
  pub whole : effects_in log ≡ effects_so_far o (trace_of o h)
  pub hold : AbortsHold o (trace_of o h)
