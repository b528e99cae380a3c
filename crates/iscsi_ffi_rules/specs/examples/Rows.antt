-- The words in which worked lists are written.
use Rattle.std.specs.Prelude.{◌≡◌, ℕ, true, false, List, [], map, Bool, Option, Some, None}
use Rattle.iscsi_wire.specs.declared.reply.Reply.{Reply}
use Rattle.iscsi_tasks.specs.declared.task.Attr.TheVariants.{Simple}
use Rattle.iscsi_rules.specs.rules.Settings.{Setting}
use Rattle.iscsi_outbox_rules.specs.declared.own_pdu.OwnPdu.{OwnPdu}
use Rattle.iscsi_outbox_rules.specs.declared.own_pdu.PutRefusal.{PutRefusal}
use Rattle.iscsi_outbox_rules.specs.rules.Boxes.{Pdu, Replies}
use Rattle.iscsi_ffi_rules.specs.declared.action.Action.{Action}
use Rattle.iscsi_ffi_rules.specs.declared.action.Action.TheVariants.{Start}
use Rattle.iscsi_ffi_rules.specs.declared.refusal.Refusal.{Refusal}
use Rattle.iscsi_ffi_rules.specs.rules.Calls.{Interface, Call, Arrives, Completes, Stops, Nexts, Puts, Writes, Joins, Loses, Clears}
use Rattle.iscsi_ffi_rules.specs.rules.Run as Run

-- a side of a session, in which what was written is under way until it is known to have arrived
abbrev pub interface : Setting → Interface
interface setting = record { outbox = record { session = setting; own = 4; acknowledged = true; shared = false }; unwritten = 2 }

-- what a call answers, as rows have it
pub data Said : Type 0 where
  IsTaken : Said
  IsRefused : Refusal → Said
  IsStale : Said
  IsPut : Option PutRefusal → Said
  IsJoined : Bool → Said
  GoesOut : Pdu → ℕ → ℕ → ℕ → Option ℕ → Said  -- a PDU with this StatSN, ExpCmdSN and MaxCmdSN, and the word for what it belongs to
  IsBlocked : Said
  Nothing : Said
  NothingMore : Said

abbrev pub said : Run.Answer → Said
said Run.Taken = IsTaken
said (Run.Refused refusal) = IsRefused refusal
said Run.Stale = IsStale
said (Run.Put refusal) = IsPut refusal
said (Run.Joined may) = IsJoined may
said (Run.Goes h cookie) = GoesOut h.out.pdu h.stat_sn h.exp h.max cookie
said Run.Blocked = IsBlocked
said Run.NoneGoes = Nothing
said Run.NoneIsLeft = NothingMore

-- a call, what it answers, and what it tells
pub record Row : Type 0 where
  pub call : Call
  pub answer : Said
  pub actions : List Action

abbrev pub Worked : Interface → List Row → Type 0
Worked i rows =
    map {B = Said × List Action} (λ (r : Run.Answer × List Action). (said r.0, r.1)) (Run.answered_by i (map (λ (r : Row). r.call) rows))
    ≡ map {B = Said × List Action} (λ (r : Row). (r.answer, r.actions)) rows

-- ---- calls, and what they answer

abbrev pub row : Call → Said → List Action → Row
row call answer actions = record { call = call; answer = answer; actions = actions }

abbrev pub joins : ℕ → ℕ → Row
joins conn stat_sn = row (Joins conn stat_sn) (IsJoined true) []

abbrev pub arrives : ℕ → List ℕ → ℕ → List Action → Row
arrives conn header cookie actions = row (Arrives conn header cookie) IsTaken actions

abbrev pub completes : ℕ → ℕ → List Action → Row
completes ticket status actions = row (Completes ticket status) IsTaken actions

abbrev pub stops : ℕ → List Action → Row
stops ticket actions = row (Stops ticket) IsTaken actions

abbrev pub is_stale : ℕ → Row
is_stale ticket = row (Stops ticket) IsStale []

abbrev pub is_lost : ℕ → List Action → Row
is_lost conn actions = row (Loses conn) IsTaken actions

abbrev pub is_reset : ℕ → List Action → Row
is_reset unit actions = row (Clears unit) IsTaken actions

abbrev pub goes : ℕ → Pdu → ℕ → ℕ → ℕ → Option ℕ → Row
goes conn pdu stat_sn exp max cookie = row (Nexts conn) (GoesOut pdu stat_sn exp max cookie) []

abbrev pub replies : ℕ → Reply → ℕ → ℕ → ℕ → ℕ → Row
replies conn reply stat_sn exp max cookie = goes conn (Replies reply) stat_sn exp max (Some cookie)

abbrev pub none_goes : ℕ → Row
none_goes conn = row (Nexts conn) Nothing []

abbrev pub is_written : ℕ → List Action → Row
is_written conn actions = row (Writes conn) IsTaken actions

abbrev pub puts : OwnPdu → ℕ → List Action → Row
puts p cookie actions = row (Puts p cookie) (IsPut None) actions

-- a SIMPLE command of unit 0 starts
abbrev pub starts : ℕ → ℕ → Action
starts ticket cookie = Start ticket 0 Simple cookie
