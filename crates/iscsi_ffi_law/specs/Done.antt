-- What is premised of the end of a command that the session has, and of those that are withheld then: of the rules' side alone.
use Rattle.std.specs.Prelude.{◌≡◌, ◌<◌, ◌≤◌, ◌-◌, ◌^◌, ◌==◌, ◌&&◌, ◌++◌, ℕ, zero, suc, true, length, Some, None}
use Rattle.std.specs.List.{list_any}
use Rattle.iscsi_wire.specs.Fields.{connection_of}
use Rattle.iscsi_rules.specs.declared.event.Event.TheVariants.{Done}
use Rattle.iscsi_rules.specs.rules.Agenda.{command_of}
use Rattle.iscsi_rules.specs.rules.Run.{entry_of}
use Rattle.iscsi_rules.specs.rules.Trace.{Command, entered, live}
use Rattle.iscsi_outbox_rules.specs.promises.Room.{FitsCall, places}
use Rattle.iscsi_outbox_rules.specs.rules.Boxes.{Handed, Link, Task}
use Rattle.iscsi_outbox_rules.specs.rules.Calls as outbox
use Rattle.iscsi_outbox_rules.specs.rules.Queues.{takes_more}
use Rattle.iscsi_outbox_rules.specs.rules.Run.{after_call}
use Rattle.iscsi_outbox_rules.specs.rules.Words.{is_live_phase, replies_waiting}
use Rattle.iscsi_outbox_law.specs.private.Pairs.{EachOf, InOrder}
use Rattle.iscsi_outbox_law.specs.private.Sound.{NoneIsFresh}
use Rattle.iscsi_ffi_rules.specs.rules.Calls.{Interface}
use Rattle.iscsi_ffi_rules.specs.rules.Clearing.{next_withheld, status_of}
use Rattle.iscsi_ffi_rules.specs.rules.Happening.{Told, happening}
use Rattle.iscsi_ffi_rules.specs.rules.Sides.{Side}
use Rattle.iscsi_ffi_law.specs.Fit.{IsFit}
use Rattle.iscsi_ffi_law.specs.Parts.{IsBefore}

-- what the outbox is called with as this command is completed
abbrev pub done_call : Interface → Side → ℕ → ℕ → outbox.Call
done_call i r ticket status = let entry = entry_of i.outbox.session r.both.event r.both.trace (Done ticket status) in outbox.Takes entry.effects entry.numbers

-- the connection that its request came on
abbrev pub home_of : Side → ℕ → ℕ
home_of r ticket = elim (command_of r.both.trace ticket) [ Some d ↦ connection_of d.arrival.request | None ↦ 0 ]

-- so it is before each event of a session by which a command completes
pub record IsDoneFit (i : Interface) (r : Side) (ticket status : ℕ) : Type 0 where
  pub fit : IsFit i r.both.box (after_call i.outbox r.both.box (done_call i r ticket status))
  -- .. also behind the item, before what it enables counts as started
  pub room : FitsCall i.outbox r.both.box (done_call i r ticket status)
  pub stale : NoneIsFresh r.both.box
  -- the session takes one event more, and one reply more has a number and a place
  pub events : r.both.event < i.outbox.session.events
  pub sent : r.both.box.sent < 2 ^ 64 - 1
  pub replies : replies_waiting r.both.box < places i.outbox
  pub few : length (live r.both.trace) ≤ places i.outbox
  -- the command is live in the outbox, too, on the connection of its request, which takes the reply
  pub there : list_any (λ (t : Task). t.ticket == ticket && (t.conn == home_of r ticket && is_live_phase t.phase)) r.both.box.tasks ≡ true
  pub takes : list_any (λ (l : Link). l.conn == home_of r ticket && takes_more l) r.both.box.links ≡ true
  -- what was handed out has its place in the log
  pub handed : EachOf (λ (l : Link). EachOf (λ (h : Handed). IsBefore r.both.box.sent h.out.sent) l.handed) r.both.box.links

-- so many commands that are withheld complete, one after the other
abbrev pub AreDoneFit : Interface → ℕ → Told → Type 0
AreDoneFit i zero w = Unit {0}
AreDoneFit i (suc n) w = elim (next_withheld w.side) [
  | Some c ↦ IsDoneFit i w.side c.ticket (status_of w.side c)
      × (let h = happening i w.side (Done c.ticket (status_of w.side c)) in AreDoneFit i n (record { side = h.side; actions = w.actions ++ h.actions }))
  | None ↦ Unit {0}
]

-- the commands of a session: tickets go up, and units are its own
pub record IsRegular (i : Interface) (r : Side) : Type 0 where
  pub ascending : InOrder (λ (c d : Command). c.ticket < d.ticket) (entered r.both.trace)
  pub units : EachOf (λ (c : Command). c.unit < i.outbox.session.units) (entered r.both.trace)

-- a command completes with this status, and behind it all that are withheld then
pub record AllDone (i : Interface) (r : Side) (ticket status : ℕ) : Type 0 where
  pub regular : IsRegular i r
  pub fit : IsDoneFit i r ticket status
  pub withheld : let w = happening i r (Done ticket status) in AreDoneFit i (length (live w.side.both.trace)) w
