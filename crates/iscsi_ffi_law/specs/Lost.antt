-- What is premised of the loss of a connection that isn't closed: of the rules' side alone.
use Rattle.std.specs.Prelude.{◌≡◌, ◌≤◌, ◌+◌, ℕ, true, false, List, [], ◌∷◌}
use Rattle.std.specs.List.{filter_map}
use Rattle.iscsi_wire.specs.Fields.{cmd_sn, connection_of}
use Rattle.iscsi_wire.specs.Serial.{wire}
use Rattle.iscsi_rules.specs.rules.Execution.{exp_of}
use Rattle.iscsi_rules.specs.rules.Logout.{is_open}
use Rattle.iscsi_rules.specs.rules.Settings.{is_known}
use Rattle.iscsi_rules.specs.rules.Trace.{Arrival, Command, Mark, Trace, entered, is_closed, waiting}
use Rattle.iscsi_outbox_rules.specs.rules.Calls as outbox
use Rattle.iscsi_outbox_rules.specs.rules.Run.{after_call as after_box_call}
use Rattle.iscsi_outbox_law.specs.private.Pairs.{EachOf}
use Rattle.iscsi_outbox_law.specs.private.Sound.{IsSound}
use Rattle.iscsi_ffi_rules.specs.rules.Calls.{Interface}
use Rattle.iscsi_ffi_rules.specs.rules.Happening.{leaving, other}
use Rattle.iscsi_ffi_rules.specs.rules.Needs.{is_held, is_waiting}
use Rattle.iscsi_ffi_rules.specs.rules.Run.{is_lost, parting}
use Rattle.iscsi_ffi_rules.specs.rules.Sides.{Side}
use Rattle.iscsi_ffi_law.specs.Arrived.{AreBefore, IsItemFit, IsLeavingFit, effects_by, emptying, items_then, side_behind}
use Rattle.iscsi_ffi_law.specs.Fit.{IsFit, IsOrderly}
use Rattle.iscsi_ffi_law.specs.Sides.{IsLossFit}

-- the request of this event is neither held nor waits
pub record IsPast (t : Trace) (event : ℕ) : Type 0 where
  pub held : is_held event t ≡ false
  pub waiting : is_waiting event t ≡ false

-- before the Logout by which the session hears of it, and behind it: as with any item, but that its answer goes nowhere
pub record IsLogoutFit (i : Interface) (r : Side) (item : List Mark) : Type 0 where
  pub fit : IsItemFit i.outbox r.both.box (effects_by i r item)
  pub leaves : EachOf (IsLeavingFit i r item) (filter_map leaving item)
  pub emptied : EachOf (λ (a : Arrival). wire a.number ≡ cmd_sn a.request) (filter_map emptying item)
  pub behind : IsSound i.outbox (side_behind i r item).both.box

pub record IsOpenLoss (i : Interface) (r : Side) (cid : ℕ) : Type 0 where
  pub leaves : IsFit i r.both.box (after_box_call i.outbox r.both.box (outbox.Loses cid))
  pub orderly : IsOrderly r
  pub known : is_known cid i.outbox.session.conns ≡ true
  pub kept : is_lost r cid ≡ false
  pub unclosed : is_closed cid r.both.trace ≡ false
  pub before : AreBefore r
  -- what was answered is neither held nor waits, nor is that of which the command entered
  pub answered : EachOf (IsPast r.both.trace) r.answers
  pub entered_past : EachOf (λ (c : Command). IsPast r.both.trace c.arrival.event) (entered r.both.trace)
  -- functions wait on open connections, for numbers behind the one that is expected
  pub waits : EachOf (λ (a : Arrival). is_open i.outbox.session r.both.trace (connection_of a.request) ≡ true) (waiting r.both.trace)
  pub ahead : EachOf (λ (a : Arrival). exp_of i.outbox.session r.both.trace + 1 ≤ a.number) (waiting r.both.trace)
  pub event : IsLossFit i r cid
  pub logout : (item : List Mark) → items_then i (other i r (outbox.Loses cid)) cid (parting cid) ≡ item ∷ [] → IsLogoutFit i (other i r (outbox.Loses cid)) item
