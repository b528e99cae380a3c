-- What is premised of a request that is taken: of the rules' side alone.
use Rattle.std.specs.Prelude.{◌≡◌, ◌<◌, ◌≤◌, ◌+◌, ◌-◌, ◌^◌, ◌==◌, ◌&&◌, ◌||◌, not, ℕ, Bool, true, false, count_by, length, Option, Some, None, List, [], ◌∷◌, ◌++◌}
use Rattle.std.specs.List.{filter_map, find, list_any}
use Rattle.iscsi_wire.specs.declared.reply.Reply.{Reply}
use Rattle.iscsi_wire.specs.Fields.{cmd_sn, connection_of, request_of}
use Rattle.iscsi_wire.specs.Serial.{wire}
use Rattle.iscsi_rules.specs.declared.effect.Effect.{Effect}
use Rattle.iscsi_rules.specs.declared.event.Event.TheVariants.{Arrive}
use Rattle.iscsi_rules.specs.rules.Agenda.{arrival_of, items_of}
use Rattle.iscsi_rules.specs.rules.Execution.{exp_of}
use Rattle.iscsi_rules.specs.rules.Logout.{is_open}
use Rattle.iscsi_rules.specs.rules.Management.{MOST_WAITING, waiting_on}
use Rattle.iscsi_rules.specs.rules.Settings.{Setting}
use Rattle.iscsi_requests.specs.Numbers.{IsInWindow, size_for}
use Rattle.iscsi_rules.specs.rules.Run.{effects_of_item, entry_of}
use Rattle.iscsi_rules.specs.rules.Trace.{Admits, Arrival, Command, Empties, Executes, Mark, Trace, enters, entered, first_of, has, held, is_among, is_delivered, is_emptied, leaves_ticket, live, shown, waiting}
use Rattle.iscsi_outbox_rules.specs.promises.Room.{Fits, places}
use Rattle.iscsi_outbox_rules.specs.rules.Boxes.{Box, Handed, Link}
use Rattle.iscsi_outbox_rules.specs.rules.Calls as outbox
use Rattle.iscsi_outbox_rules.specs.rules.Calls.{Opening}
use Rattle.iscsi_outbox_rules.specs.rules.Items.{after_item, reply_sent, ticket_enabled}
use Rattle.iscsi_outbox_rules.specs.rules.Queues.{takes_more}
use Rattle.iscsi_outbox_rules.specs.rules.Run.{after_call}
use Rattle.iscsi_outbox_rules.specs.rules.Words.{contains, is_running, replies_waiting}
use Rattle.iscsi_outbox_law.specs.private.Pairs.{EachOf}
use Rattle.iscsi_outbox_law.specs.private.Sound.{IsItemSound, IsSound, NoneIsFresh}
use Rattle.iscsi_ffi_rules.specs.rules.Calls.{Interface}
use Rattle.iscsi_ffi_rules.specs.rules.Happening.{answers_in, happening, leaving, stepped}
use Rattle.iscsi_ffi_rules.specs.rules.Needs.{admitted_by, is_held, is_waiting}
use Rattle.iscsi_ffi_rules.specs.rules.Run.{heard_in, tag_heard, word_at}
use Rattle.iscsi_ffi_rules.specs.rules.Sides.{Asked, Side}
use Rattle.iscsi_ffi_steps.specs.State.{State}
use Rattle.iscsi_ffi_law.specs.Done.{AreDoneFit, IsRegular}
use Rattle.iscsi_ffi_law.specs.Fit.{IsFit}
use Rattle.iscsi_ffi_law.specs.Parts.{IsBefore}

-- all that the session had so far is of events before the next one
pub record AreBefore (r : Side) : Type 0 where
  pub asked : EachOf (λ (a : Asked). a.event < r.both.event) r.asked
  pub answers : EachOf (λ (e : ℕ). e < r.both.event) r.answers
  pub entered : EachOf (λ (c : Command). c.arrival.event < r.both.event) (entered r.both.trace)
  pub admitted : EachOf (λ (a : Arrival). a.event < r.both.event) (shown admitted_by r.both.trace)
  pub waiting : EachOf (λ (a : Arrival). a.event < r.both.event) (waiting r.both.trace)

-- no number is received twice, and no event has two arrivals: one that is received, or a function that waits
pub record AreDistinct (t : Trace) : Type 0 where
  pub numbers : (n : ℕ) → count_by (λ (a : Arrival). a.number == n) (shown admitted_by t) ≤ 1
  pub events : (e : ℕ) → count_by (λ (a : Arrival). a.event == e) (shown admitted_by t) + count_by (λ (a : Arrival). a.event == e) (waiting t) ≤ 1

-- a request that is received: its number lies in the window, as those of the others that are held, and was never taken
pub record IsReceivable (o : Setting) (t : Trace) (a : Arrival) : Type 0 where
  pub untaken : (is_delivered t a.number || is_emptied t a.number) ≡ false
  pub lies : IsInWindow (size_for o.window) (wire (exp_of o t)) (cmd_sn a.request)
  pub others : (n : ℕ) (b : Arrival) → held t n ≡ Some b → IsInWindow (size_for o.window) (wire (exp_of o t)) (cmd_sn b.request) × (cmd_sn b.request ≡ cmd_sn a.request → ⊥)

-- ---- the event

-- before each item of an event, and behind it
pub record IsItemFit (o : Opening) (b : Box) (item : List Effect) : Type 0 where
  pub sound : IsSound o b
  pub item_sound : IsItemSound o b item
  pub fits : Fits o (after_item o b item)
  pub time : (after_item o b item).time < 2 ^ 64 - 1

-- a reply goes out on a connection that takes it, and has a number and a place; what was handed out has its place in the log
pub record IsSendFit (o : Opening) (b : Box) (conn : ℕ) : Type 0 where
  pub takes : list_any (λ (l : Link). l.conn == conn && takes_more l) b.links ≡ true
  pub sent : b.sent < 2 ^ 64 - 1
  pub replies : replies_waiting b < places o
  pub handed : EachOf (λ (l : Link). EachOf (λ (h : Handed). IsBefore b.sent h.out.sent) l.handed) b.links

-- no command had its ticket or came in its event, and none of that was told or marked
pub record IsFreshCommand (r : Side) (c : Command) : Type 0 where
  pub unentered : is_among c.ticket (entered r.both.trace) ≡ false
  pub unleft : has (leaves_ticket c.ticket) r.both.trace ≡ false
  pub untold : contains r.told c.ticket ≡ false
  pub unmarked : contains r.marked c.ticket ≡ false
  pub idle : is_running r.both.box c.ticket ≡ false
  pub unarrived : EachOf (λ (d : Command). (d.arrival.event == c.arrival.event) ≡ false) (entered r.both.trace)

abbrev pub effects_by : Interface → Side → List Mark → List Effect
effects_by i r item = effects_of_item i.outbox.session r.both.trace item

-- a function that has waited, in an earlier event, is the first that waits on its connection with its number
abbrev pub is_first_waiting : Trace → Arrival → Type 0
is_first_waiting t a = find (λ (b : Arrival). connection_of b.request == connection_of a.request && cmd_sn b.request == cmd_sn a.request) (waiting t) ≡ Some a

-- a command leaves as a request executes: its own request is neither held nor waits, and wasn't answered; it runs on just where it was told to start
pub record IsLeavingFit (i : Interface) (r : Side) (item : List Mark) (d : Command) : Type 0 where
  pub held : is_held d.arrival.event (item ∷ r.both.trace) ≡ false
  pub waiting : is_waiting d.arrival.event (item ∷ r.both.trace) ≡ false
  pub unanswered : contains r.answers d.arrival.event ≡ false
  pub runs : is_running (after_item i.outbox r.both.box (effects_by i r item)) d.ticket ≡ contains r.told d.ticket

abbrev pub emptying : Mark → Option Arrival
emptying (Empties a) = Some a
emptying _ = None

-- so it is before each item, with the trace and the box that the items before it left
pub record IsStepFit (i : Interface) (r : Side) (item : List Mark) : Type 0 where
  pub fit : IsItemFit i.outbox r.both.box (effects_by i r item)
  pub sends : (conn : ℕ) (reply : Reply) → first_of (filter_map reply_sent (effects_by i r item)) ≡ Some (conn, reply) → IsSendFit i.outbox r.both.box conn
  pub one_reply : length (filter_map reply_sent (effects_by i r item)) ≤ 1
  pub enters : (c : Command) → filter_map enters item ≡ c ∷ [] → IsFreshCommand r c
  pub waited : (a : Arrival) → first_of item ≡ Some (Executes a) → list_any (λ (b : Arrival). b.event == a.event) (waiting r.both.trace) ≡ true → ((a.event == r.both.event) ≡ false) × is_first_waiting r.both.trace a
  pub leaves : EachOf (IsLeavingFit i r item) (filter_map leaving item)
  -- the number of a request that is taken out is as it came
  pub emptied : EachOf (λ (a : Arrival). wire a.number ≡ cmd_sn a.request) (filter_map emptying item)
  -- functions wait on open connections
  pub waits : EachOf (λ (a : Arrival). is_open i.outbox.session r.both.trace (connection_of a.request) ≡ true) (waiting r.both.trace)

-- the side behind an item
abbrev pub side_behind : Interface → Side → List Mark → Side
side_behind i r item = record r {
  both = record r.both { trace = item ∷ r.both.trace; box = after_item i.outbox r.both.box (effects_of_item i.outbox.session r.both.trace item) };
  answers = r.answers ++ answers_in r.both.event item;
}

abbrev pub AreStepsFit : Interface → Side → List (List Mark) → Type 0
AreStepsFit i r [] = IsSound i.outbox r.both.box
AreStepsFit i r (item ∷ items) = IsStepFit i r item × AreStepsFit i (side_behind i r item) items

-- .. and what is known of the commands that leave by the items
abbrev pub AreLeavingFit : Interface → Side → List (List Mark) → Type 0
AreLeavingFit i r [] = Unit {0}
AreLeavingFit i r (item ∷ items) = EachOf (IsLeavingFit i r item) (filter_map leaving item) × AreLeavingFit i (side_behind i r item) items

abbrev pub effects_then : Interface → Side → ℕ → List ℕ → List Effect
effects_then i r cid header = (entry_of i.outbox.session r.both.event r.both.trace (Arrive cid header)).effects

-- what the outbox is called with as this header arrives
abbrev pub arrive_call : Interface → Side → ℕ → List ℕ → outbox.Call
arrive_call i r cid header = let entry = entry_of i.outbox.session r.both.event r.both.trace (Arrive cid header) in outbox.Takes entry.effects entry.numbers

abbrev pub items_then : Interface → Side → ℕ → List ℕ → List (List Mark)
items_then i r cid header = items_of i.outbox.session r.both.event r.both.trace (Arrive cid header)

abbrev pub arrived : Interface → Side → ℕ → List ℕ → Arrival
arrived i r cid header = arrival_of i.outbox.session r.both.event r.both.trace (request_of cid header)

-- a function executes that has waited
abbrev pub is_late : ℕ → List Mark → Bool
is_late now (Executes a ∷ ms) = not (a.event == now)
is_late now _ = false

abbrev pub starts_late : ℕ → List (List Mark) → Bool
starts_late now (item ∷ items) = is_late now item
starts_late now [] = false

-- so it is before each event of a session in which a header arrives
pub record IsEventFit (i : Interface) (r : Side) (cid : ℕ) (header : List ℕ) : Type 0 where
  pub fit : IsFit i r.both.box (after_call i.outbox r.both.box (arrive_call i r cid header))
  pub steps : AreStepsFit i r (items_of i.outbox.session r.both.event r.both.trace (Arrive cid header))
  pub stale : NoneIsFresh r.both.box
  -- it finds no more commands live, has no more items, enables no more commands, and leaves no more of them live than there are places for
  pub sent : r.both.box.sent < 2 ^ 64 - 1
  -- there are places for the replies that wait, and for those that it sends
  pub replies : replies_waiting r.both.box + length (filter_map reply_sent (effects_then i r cid header)) ≤ places i.outbox
  pub found : length (live r.both.trace) ≤ places i.outbox
  pub short : length (items_of i.outbox.session r.both.event r.both.trace (Arrive cid header)) ≤ places i.outbox
  pub enabled : length (filter_map ticket_enabled (effects_then i r cid header)) ≤ places i.outbox
  pub few : length (live (stepped i r (Arrive cid header)).both.trace) ≤ places i.outbox
  -- tickets go up, and units are the session's, also of the commands that enter
  pub regular : IsRegular i (stepped i r (Arrive cid header))
  pub distinct : AreDistinct r.both.trace
  pub received : (rest : List (List Mark)) → items_of i.outbox.session r.both.event r.both.trace (Arrive cid header) ≡ (Admits (arrived i r cid header) ∷ []) ∷ rest → IsReceivable i.outbox.session r.both.trace (arrived i r cid header)
  -- what waits, waits for a number that is still to come
  pub prompt : (rest : List (List Mark)) → items_of i.outbox.session r.both.event r.both.trace (Arrive cid header) ≡ (Admits (arrived i r cid header) ∷ []) ∷ rest → starts_late r.both.event rest ≡ false
  pub waits : EachOf (λ (b : Arrival). waiting_on (connection_of b.request) r.both.trace ≤ MOST_WAITING) (waiting r.both.trace)

-- .. where its numbers are heard first
pub record IsArrivalFit (i : Interface) (r : Side) (cid : ℕ) (header : List ℕ) : Type 0 where
  pub before : AreBefore r
  pub heard : IsFit i r.both.box (after_call i.outbox r.both.box (outbox.Hears cid (word_at 28 header) (tag_heard header)))
  pub event : IsEventFit i (heard_in i r cid header) cid header

-- ---- what becomes of it

-- those that it enables and that are withheld complete behind it, one after the other
pub record IsBehindFit (i : Interface) (r : Side) (cid : ℕ) (header : List ℕ) : Type 0 where
  pub withheld : let w = happening i r (Arrive cid header) in AreDoneFit i (length (live w.side.both.trace)) w

-- the place of its request is one of those that there are
pub record IsPlaced (s : State) (place : ℕ) : Type 0 where
  pub low : 1 ≤ place
  pub high : place ≤ s.commands.room
