-- What holds of the rules' side, whatever calls come: where its options are valid, and the list isn't longer than words count.
use Rattle.std.specs.Prelude.{◌≡◌, ◌+◌, ◌<◌, ◌≤◌, ◌-◌, ◌^◌, ◌&&◌, ◌++◌, ℕ, true, false, List, [], ◌∷◌, length, None, if◌then◌else◌}
use Rattle.std.specs.List.{filter_map}
use Rattle.iscsi_rules.specs.declared.effect.Effect.{Effect}
use Rattle.iscsi_rules.specs.declared.event.Event.TheVariants.{Arrive}
use Rattle.iscsi_wire.specs.Fields.{connection_of}
use Rattle.iscsi_rules.specs.rules.Management.{MOST_WAITING, waiting_on}
use Rattle.iscsi_rules.specs.promises.Order.{in_parts}
use Rattle.iscsi_rules.specs.rules.Settings.{is_known, is_valid}
use Rattle.iscsi_rules.specs.rules.Trace.{Admits, Arrival, Mark, is_closed, live, waiting}
use Rattle.iscsi_outbox_rules.specs.promises.Room.{is_other, places}
use Rattle.iscsi_outbox_rules.specs.rules.Boxes.{Box, Handed, Link}
use Rattle.iscsi_outbox_rules.specs.rules.Calls as outbox
use Rattle.iscsi_outbox_rules.specs.rules.Calls.{Opening}
use Rattle.iscsi_outbox_rules.specs.rules.Items.{after_item, reply_sent, ticket_enabled}
use Rattle.iscsi_outbox_rules.specs.rules.Run.{after_call as after_box_call}
use Rattle.iscsi_outbox_rules.specs.rules.Words.{contains, replies_waiting}
use Rattle.iscsi_outbox_law.specs.private.Pairs.{EachOf}
use Rattle.iscsi_outbox_law.specs.private.Sound.{NoneIsFresh}
use Rattle.iscsi_ffi_rules.specs.promises.Deeds.{side_of}
use Rattle.iscsi_ffi_rules.specs.rules.Calls.{Arrives, Call, Completes, Interface, Loses, Stops}
use Rattle.iscsi_ffi_rules.specs.rules.Clearing.{TASK_ABORTED}
use Rattle.iscsi_ffi_rules.specs.rules.Happening.{happening, other, stepped}
use Rattle.iscsi_ffi_rules.specs.rules.Run.{after_call, heard_in, is_going, is_lost, parting, refusal_of, tag_heard, word_at}
use Rattle.iscsi_ffi_rules.specs.rules.Sides.{Side}
use Rattle.iscsi_ffi_law.specs.Arrived.{AreBefore, AreDistinct, AreLeavingFit, AreStepsFit, IsItemFit, IsReceivable, arrive_call, arrived, effects_then, items_then, starts_late}
use Rattle.iscsi_ffi_law.specs.Done.{AllDone, AreDoneFit, IsRegular}
use Rattle.iscsi_ffi_law.specs.Fit.{IsFit, IsOrderly}
use Rattle.iscsi_ffi_law.specs.Parts.{IsBefore}

-- the options that a side is opened with are within their limits
pub record IsOpening (i : Interface) : Type 0 where
  pub session : is_valid i.outbox.session ≡ true
  pub first : i.outbox.session.first < 2 ^ 32
  pub own : i.outbox.own ≤ 1024
  pub unwritten : i.unwritten ≤ 1024

-- not too many calls come, and the session takes no more events by them than its options allow
pub record IsShort (i : Interface) (calls : List Call) : Type 0 where
  pub many : length calls < 2 ^ 62
  pub events : (side_of i calls).both.event ≤ i.outbox.session.events

-- a header is of bytes
abbrev pub AreBytes : List ℕ → Type 0
AreBytes header = EachOf (λ (b : ℕ). b < 256) header

-- so is each that arrives
abbrev pub IsOfBytes : Call → Type 0
IsOfBytes (Arrives cid header cookie) = AreBytes header
IsOfBytes _ = Unit {0}

-- ---- between the calls

pub record IsSideFit (i : Interface) (r : Side) : Type 0 where
  pub fit : IsFit i r.both.box r.both.box
  -- whichever call of the outbox comes that takes no event
  pub leaves : (c : outbox.Call) → is_other c ≡ true → IsFit i r.both.box (after_box_call i.outbox r.both.box c)
  pub sent : r.both.box.sent < 2 ^ 64
  pub orderly : IsOrderly r
  pub regular : IsRegular i r
  pub before : AreBefore r

-- ---- in a call

-- the request that arrives now is asked for
abbrev pub asking : Side → ℕ → Side
asking s cookie = record s { asked = s.asked ++ record { event = s.both.event; cookie = cookie } ∷ [] }

-- before each item of an event, and behind it
abbrev pub AreItemsFit : Opening → Box → List (List Effect) → Type 0
AreItemsFit o b [] = Unit {0}
AreItemsFit o b (item ∷ items) = IsItemFit o b item × AreItemsFit o (after_item o b item) items

-- so it is as the session hears a request
pub record IsHeardFit (i : Interface) (r : Side) (cid : ℕ) (header : List ℕ) : Type 0 where
  pub fit : IsFit i r.both.box (after_box_call i.outbox r.both.box (arrive_call i r cid header))
  pub items : AreItemsFit i.outbox r.both.box (in_parts (effects_then i r cid header))
  pub steps : AreLeavingFit i r (items_then i r cid header) → AreStepsFit i r (items_then i r cid header)
  pub stale : NoneIsFresh r.both.box
  pub sent : r.both.box.sent < 2 ^ 64 - 1
  -- there are places for the replies that wait, and for those that it sends
  pub replies : replies_waiting r.both.box < places i.outbox
  pub sends : replies_waiting r.both.box + length (filter_map reply_sent (effects_then i r cid header)) ≤ places i.outbox
  pub handed : EachOf (λ (l : Link). EachOf (λ (h : Handed). IsBefore r.both.box.sent h.out.sent) l.handed) r.both.box.links
  -- it has no more items, enables no more commands, and leaves no more of them live than there are places for
  pub short : length (items_then i r cid header) ≤ places i.outbox
  pub enabled : length (filter_map ticket_enabled (effects_then i r cid header)) ≤ places i.outbox
  pub found : length (live r.both.trace) ≤ places i.outbox
  pub few : length (live (stepped i r (Arrive cid header)).both.trace) ≤ places i.outbox
  pub regular : IsRegular i (stepped i r (Arrive cid header))
  pub prompt : (rest : List (List Mark)) → items_then i r cid header ≡ (Admits (arrived i r cid header) ∷ []) ∷ rest → starts_late r.both.event rest ≡ false
  pub waits : EachOf (λ (b : Arrival). waiting_on (connection_of b.request) r.both.trace ≤ MOST_WAITING) (waiting r.both.trace)
  pub distinct : AreDistinct r.both.trace
  pub received : (rest : List (List Mark)) → items_then i r cid header ≡ (Admits (arrived i r cid header) ∷ []) ∷ rest → IsReceivable i.outbox.session r.both.trace (arrived i r cid header)

-- a request that isn't refused arrives, and behind it commands that are withheld then complete
pub record IsTakenFit (i : Interface) (r : Side) (cid : ℕ) (header : List ℕ) (cookie : ℕ) : Type 0 where
  pub before : AreBefore r
  pub heard : IsFit i r.both.box (after_box_call i.outbox r.both.box (outbox.Hears cid (word_at 28 header) (tag_heard header)))
  pub event : IsHeardFit i (heard_in i r cid header) cid header
  pub withheld : let w = happening i (asking (heard_in i r cid header) cookie) (Arrive cid header) in AreDoneFit i (length (live w.side.both.trace)) w

-- so it is as the session hears that a connection was lost. All places for replies may be taken: its answer goes nowhere
pub record IsPartingFit (i : Interface) (r : Side) (cid : ℕ) : Type 0 where
  pub fit : IsFit i r.both.box (after_box_call i.outbox r.both.box (arrive_call i r cid (parting cid)))
  pub items : AreItemsFit i.outbox r.both.box (in_parts (effects_then i r cid (parting cid)))
  pub stale : NoneIsFresh r.both.box
  pub events : r.both.event < i.outbox.session.events
  pub sent : r.both.box.sent < 2 ^ 64 - 1
  pub replies : replies_waiting r.both.box ≤ places i.outbox
  pub handed : EachOf (λ (l : Link). EachOf (λ (h : Handed). IsBefore r.both.box.sent h.out.sent) l.handed) r.both.box.links
  -- it has no more items, enables no more commands, finds no more of them live, and leaves no more live, than there are places for
  pub found : length (live r.both.trace) ≤ places i.outbox
  pub short : length (items_then i r cid (parting cid)) ≤ places i.outbox
  pub enabled : length (filter_map ticket_enabled (effects_then i r cid (parting cid))) ≤ places i.outbox
  pub few : length (live (stepped i r (Arrive cid (parting cid))).both.trace) ≤ places i.outbox
  pub regular : IsRegular i (stepped i r (Arrive cid (parting cid)))
  pub waits : EachOf (λ (b : Arrival). waiting_on (connection_of b.request) r.both.trace ≤ MOST_WAITING) (waiting r.both.trace)
  pub distinct : AreDistinct r.both.trace

-- a connection is lost that isn't closed
pub record IsLossFit (i : Interface) (r : Side) (cid : ℕ) : Type 0 where
  pub fit : IsPartingFit i (other i r (outbox.Loses cid)) cid
  pub withheld : let w = happening i (other i r (outbox.Loses cid)) (Arrive cid (parting cid)) in AreDoneFit i (length (live w.side.both.trace)) w

abbrev pub IsCallFit : Interface → Side → Call → Type 0
IsCallFit i r (Arrives cid header cookie) = refusal_of i r cid ≡ None → IsTakenFit i r cid header cookie
IsCallFit i r (Completes ticket status) = is_going r ticket ≡ true → AllDone i r ticket (if contains r.marked ticket then TASK_ABORTED else status)
IsCallFit i r (Stops ticket) = (is_going r ticket && contains r.marked ticket) ≡ true → AllDone i r ticket TASK_ABORTED
IsCallFit i r (Loses cid) = is_known cid i.outbox.session.conns ≡ true → is_lost r cid ≡ false → is_closed cid r.both.trace ≡ false → IsLossFit i r cid
IsCallFit i r _ = Unit {0}

-- before each call, in it, and behind the last one
abbrev pub AreFitFrom : Interface → Side → List Call → Type 0
AreFitFrom i r [] = IsSideFit i r
AreFitFrom i r (c ∷ cs) = IsSideFit i r × IsCallFit i r c × AreFitFrom i (after_call i r c).told.side cs
