-- Room: of the events of a session, where arrivals are taken only while there is room, everything has its place.
use Rattle.std.specs.Prelude.{◌≡◌, ◌≤◌, ℕ, ◌==◌, ◌+◌, ◌-◌, ◌*◌, ◌&&◌, not, nat_le, Bool, true, false, List, [], ◌∷◌, count_by, ◌||◌, nat_lt}
use Rattle.std.specs.List.{list_any}
use Rattle.iscsi_wire.specs.declared.request.Request.{Request}
use Rattle.iscsi_wire.specs.Serial.{lift}
use Rattle.iscsi_wire.specs.Fields.{connection_of, is_immediate, cmd_sn, request_of, opcode}
use Rattle.iscsi_rules.specs.declared.effect.Effect.{Effect}
use Rattle.iscsi_rules.specs.declared.event.Event.{Event}
use Rattle.iscsi_rules.specs.declared.event.Event.TheVariants.{Arrive, Done}
use Rattle.iscsi_rules.specs.rules.Settings.{is_known, are_distinct}
use Rattle.iscsi_rules.specs.rules.Trace.{Trace, Command, live}
use Rattle.iscsi_rules.specs.rules.Execution.{exp_of}
use Rattle.iscsi_rules.specs.rules.Run.{entry_of, after_event}
use Rattle.iscsi_rules.specs.promises.Order.{in_parts}
use Rattle.iscsi_outbox_rules.specs.rules.Calls.{Opening, Call, Takes}
use Rattle.iscsi_outbox_rules.specs.rules.Boxes.{Task, Link, Box}
use Rattle.iscsi_outbox_rules.specs.rules.Words.{is_live_phase, most_at_once, numbered_room, replies_waiting, numbered_waiting, owing, may_take}
use Rattle.iscsi_outbox_rules.specs.rules.Items.{after_item}
use Rattle.iscsi_outbox_rules.specs.rules.Run.{opened, after_call}

-- an event of the session, or a call that takes none
pub data Step : Type 0 where
  Happens : Event → Step
  Other : Call → Step

-- a session and its outbox
pub record Both : Type 0 where
  pub event : ℕ  -- how many events there were
  pub trace : Trace
  pub box : Box

abbrev pub is_other : Call → Bool
is_other (Takes effects numbers) = false
is_other _ = true

abbrev pub after_step : Opening → Both → Step → Both
after_step o s (Happens e) = let entry = entry_of o.session s.event s.trace e in record {
  event = s.event + 1;
  trace = after_event o.session s.event s.trace e;
  box = after_call o s.box (Takes entry.effects entry.numbers);
}
after_step o s (Other c) = record s { box = after_call o s.box c }

abbrev pub after_steps : Opening → Both → List Step → Both
after_steps o s [] = s
after_steps o s (step ∷ steps) = after_steps o (after_step o s step) steps

abbrev pub begun : Opening → Both
begun o = record { event = 0; trace = []; box = opened o }

-- the Logout by which a session is told that a connection was lost: immediate, on that connection
abbrev pub is_parting : Both → Request → Bool
is_parting s r = is_immediate r && opcode r == 0x06 && list_any (λ (l : Link). l.conn == connection_of r && l.lost) s.box.links

-- an arrival comes on a connection of the session, which refuses those of others, and is taken where there is room, or tells that a
-- connection was lost
abbrev pub is_read_with_room : Opening → Both → Step → Bool
is_read_with_room o s (Happens (Arrive conn header)) = is_known conn o.session.conns && (may_take o s.box || is_parting s (request_of conn header))
is_read_with_room o s (Happens (Done ticket status)) = true
is_read_with_room o s (Other c) = is_other c

-- a request that has a number of its own: no Data-Out or SNACK, and not immediate
abbrev pub has_number : Request → Bool
has_number r = not (is_immediate r) && (nat_lt (opcode r) 0x05 || opcode r == 0x06)

-- an arrival has a number that the initiator was shown (RFC 7143 section 4.2.2.1)
abbrev pub is_within_shown : Opening → Both → Step → Bool
is_within_shown o s (Happens (Arrive conn header)) =
    let r = request_of conn header in not (has_number r) || nat_le (lift (exp_of o.session s.trace) (cmd_sn r)) s.box.shown
is_within_shown o s (Happens (Done ticket status)) = true
is_within_shown o s (Other c) = is_other c

abbrev pub all_are : (Both → Step → Bool) → Opening → Both → List Step → Bool
all_are test o s [] = true
all_are test o s (step ∷ steps) = test s step && all_are test o (after_step o s step) steps

-- places for replies, and for commands that are live or owe
abbrev pub places : Opening → ℕ
places o = 3 * most_at_once o

-- commands that are live or owe
abbrev pub tasks_kept : Opening → Box → ℕ
tasks_kept o b = count_by (λ (t : Task). is_live_phase t.phase) b.tasks + owing o b

-- ---- at each call, and in each item of an event

-- what the outbox is called with
abbrev pub call_of : Opening → Both → Step → Call
call_of o s (Happens e) = let entry = entry_of o.session s.event s.trace e in Takes entry.effects entry.numbers
call_of o s (Other c) = c

abbrev pub calls_of : Opening → Both → List Step → List Call
calls_of o s [] = []
calls_of o s (step ∷ steps) = call_of o s step ∷ calls_of o (after_step o s step) steps

-- the events of the session
abbrev pub events_of : List Step → List Event
events_of [] = []
events_of (Happens e ∷ steps) = e ∷ events_of steps
events_of (Other c ∷ steps) = events_of steps

-- no more replies wait, and no more commands are live or owe, than there are places for
pub record Fits (o : Opening) (b : Box) : Type 0 where
  pub replies : replies_waiting b ≤ places o
  pub tasks : tasks_kept o b ≤ places o

abbrev pub FitItems : Opening → Box → List (List Effect) → Type 0
FitItems o b [] = Unit {0}
FitItems o b (item ∷ items) = Fits o (after_item o b item) × FitItems o (after_item o b item) items

abbrev pub FitsCall : Opening → Box → Call → Type 0
FitsCall o b (Takes effects numbers) = FitItems o b (in_parts effects)
FitsCall o b _ = Unit {0}

abbrev pub FitFrom : Opening → Box → List Call → Type 0
FitFrom o b [] = Unit {0}
FitFrom o b (c ∷ cs) = FitsCall o b c × Fits o (after_call o b c) × FitFrom o (after_call o b c) cs

abbrev pub HasRoom : Opening → List Call → Type 0
HasRoom o calls = FitFrom o (opened o) calls

-- there is room all the way, where no CID stands twice
abbrev pub RoomOnTheWay : Opening → List Step → Type 0
RoomOnTheWay o steps = are_distinct o.session.conns ≡ true → all_are (is_read_with_room o) o (begun o) steps ≡ true → HasRoom o (calls_of o (begun o) steps)

-- ---- after these steps

-- no more replies wait than there are places for, where no CID stands twice, as a session's options have it
abbrev pub RepliesFit : Opening → List Step → Type 0
RepliesFit o steps = are_distinct o.session.conns ≡ true → all_are (is_read_with_room o) o (begun o) steps ≡ true → replies_waiting (after_steps o (begun o) steps).box ≤ places o

-- nor are more commands live or owe
abbrev pub TasksFit : Opening → List Step → Type 0
TasksFit o steps = all_are (is_read_with_room o) o (begun o) steps ≡ true → tasks_kept o (after_steps o (begun o) steps).box ≤ places o

-- whatever was shown has room: an initiator that keeps to it isn't held back by the replies to its numbered requests. No CID stands twice
-- here either
abbrev pub ShownFits : Opening → List Step → Type 0
ShownFits o steps = are_distinct o.session.conns ≡ true → all_are (is_within_shown o) o (begun o) steps ≡ true →
    let s = after_steps o (begun o) steps in
    (numbered_waiting s.box + count_by (λ (c : Command). not (is_immediate c.arrival.request)) (live s.trace) + (s.box.shown + 1 - exp_of o.session s.trace) ≤ numbered_room o)

pub record RoomHolds (o : Opening) (steps : List Step) : Type 0 where
  pub replies : RepliesFit o steps
  pub tasks : TasksFit o steps
  pub shown : ShownFits o steps
