-- All calls of a list, one after the other.
use Rattle.std.specs.Prelude.{◌≡◌, ◌<◌, ◌≤◌, ◌+◌, ◌*◌, ◌&&◌, ◌⊎◌, ◌^◌, ℕ, true, false, List, [], ◌∷◌, Some, None, is_some, length, if◌then◌else◌}
use Rattle.iscsi_outbox_rules.specs.rules.Calls as outbox
use Rattle.iscsi_outbox_rules.specs.rules.Run.{after_call as after_box_call}
use Rattle.iscsi_outbox_rules.specs.rules.Words.{contains}
use Rattle.iscsi_rules.specs.rules.Settings.{is_known}
use Rattle.iscsi_rules.specs.rules.Trace.{is_closed}
use Rattle.iscsi_requests.specs.Cookies.{next_place, uses_at}
use Rattle.iscsi_ffi_rules.specs.declared.refusal.Refusal.{Refusal}
use Rattle.iscsi_ffi_rules.specs.rules.Calls.{Interface, Call, Arrives, Completes, Stops, Nexts, Puts, Writes, Hears, Joins, Loses, Clears, Cleared}
use Rattle.iscsi_ffi_rules.specs.rules.Clearing.{TASK_ABORTED}
use Rattle.iscsi_ffi_rules.specs.rules.Run.{after_call, cids, heard_in, is_going, is_lost, refusal_of}
use Rattle.iscsi_ffi_rules.specs.rules.Sides.{Side}
use Rattle.iscsi_ffi_steps.specs.Steps.{Side as StepsSide, after, called, ended, told}
use Rattle.iscsi_ffi_law.specs.Alike.{TellAlike, said}
use Rattle.iscsi_ffi_law.specs.Arrived.{IsArrivalFit, IsPlaced, IsBehindFit}
use Rattle.iscsi_ffi_law.specs.Done.{AllDone}
use Rattle.iscsi_ffi_law.specs.Fit.{IsFit, IsOrderly}
use Rattle.iscsi_ffi_law.specs.Lost.{IsOpenLoss}

-- each call answers, and tells, by the steps as by the rules
abbrev pub AreAlike : Interface → StepsSide → Side → List Call → Type 0
AreAlike i s r [] = Unit {0}
AreAlike i s r (c ∷ cs) =
    ((called i c s).answer ≡ said (after_call i r c).answer) × TellAlike (told (ended (called i c s).going)) (after_call i r c).told.actions
    × AreAlike i (after (ended (called i c s).going)) (after_call i r c).told.side cs

-- the box that a call of the outbox leaves is fit
abbrev pub Leaves : Interface → Side → outbox.Call → Type 0
Leaves i r c = IsFit i r.both.box (after_box_call i.outbox r.both.box c)

-- a call is refused
abbrev pub IsRefused : Interface → Side → ℕ → Type 0
IsRefused i r cid = (why : Refusal) × (refusal_of i r cid ≡ Some why)

-- a connection isn't one of the session's, or is lost
abbrev pub IsGone : Interface → Side → ℕ → Type 0
IsGone i r cid = (is_known cid i.outbox.session.conns ≡ false) ⊎ (is_lost r cid ≡ true)

-- a connection of the session is closed
pub record IsClosed (i : Interface) (r : Side) (cid : ℕ) : Type 0 where
  pub leaves : Leaves i r (outbox.Loses cid)
  pub orderly : IsOrderly r
  pub closed : is_closed cid r.both.trace ≡ true
  pub known : is_known cid i.outbox.session.conns ≡ true
  pub kept : is_lost r cid ≡ false

-- there is room to tell of all commands
pub record HasRoom (i : Interface) (s : StepsSide) (r : Side) : Type 0 where
  pub fit : IsFit i r.both.box r.both.box
  pub room : length s.state.commands.items + 2 * length (cids i) ≤ s.state.room

-- a request is taken; there is a place for it, one of those that there are
pub record IsArrival (i : Interface) (s : StepsSide) (r : Side) (cid : ℕ) (header : List ℕ) : Type 0 where
  pub fit : IsArrivalFit i r cid header
  pub taken : refusal_of i r cid ≡ None
  pub room : is_some (next_place s.state.cookies) ≡ true
  pub placed : (place : ℕ) → next_place s.state.cookies ≡ Some place → IsPlaced s.state place
  pub behind : IsBehindFit i (heard_in i r cid header) cid header

-- what is asked of each call
abbrev pub Meets : Interface → StepsSide → Side → Call → Type 0
Meets i s r (Arrives cid header cookie) = (Leaves i r (outbox.Hears cid 0 0) × IsRefused i r cid) ⊎ IsArrival i s r cid header
Meets i s r (Completes ticket status) = (Leaves i r (outbox.Stops ticket) × (is_going r ticket ≡ false))
    ⊎ ((is_going r ticket ≡ true) × AllDone i r ticket (if contains r.marked ticket then TASK_ABORTED else status))
Meets i s r (Stops ticket) = (Leaves i r (outbox.Stops ticket) × ((is_going r ticket && contains r.marked ticket) ≡ false))
    ⊎ (((is_going r ticket && contains r.marked ticket) ≡ true) × AllDone i r ticket TASK_ABORTED)
Meets i s r (Nexts cid) = Leaves i r (outbox.Nexts cid) × ((place : ℕ) → uses_at place s.state.cookies < 4294967295) × (r.both.box.sent < 2 ^ 64)
Meets i s r (Puts p cookie) = Leaves i r (outbox.Puts p) × IsOrderly r × (is_some (next_place s.state.cookies) ≡ true)
Meets i s r (Writes cid) = Leaves i r (outbox.Writes cid)
Meets i s r (Hears cid exp_stat_sn tag) = Leaves i r (outbox.Hears cid exp_stat_sn tag)
Meets i s r (Joins cid stat_sn) = Leaves i r (outbox.Joins cid stat_sn)
Meets i s r (Loses cid) = (Leaves i r (outbox.Hears cid 0 0) × IsGone i r cid) ⊎ IsClosed i r cid ⊎ IsOpenLoss i r cid
Meets i s r (Clears unit) = HasRoom i s r
Meets i s r (Cleared unit) = Leaves i r (outbox.Clears unit)

abbrev pub MeetFrom : Interface → StepsSide → Side → List Call → Type 0
MeetFrom i s r [] = Unit {0}
MeetFrom i s r (c ∷ cs) = Meets i s r c × MeetFrom i (after (ended (called i c s).going)) (after_call i r c).told.side cs
