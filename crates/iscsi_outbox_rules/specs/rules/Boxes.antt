-- The state: commands, connections, and answers that wait.
use Rattle.std.specs.Prelude.{ℕ, Bool, List, Option}
use Rattle.iscsi_wire.specs.declared.reply.Reply.{Reply}
use Rattle.iscsi_outbox_rules.specs.declared.own_pdu.OwnPdu.{OwnPdu}

-- how far a command has come
pub data Phase : Type 0 where
  Dormant : Phase  -- in its task set, not enabled
  Fresh : Phase  -- enabled by the event that is taken now: its unit wasn't told yet
  Started : Phase  -- enabled by an earlier event
  Completed : Phase
  Running : Phase  -- taken out by an abort or a Logout after its start, and not stopped since
  Gone : Phase  -- taken out, and not running

-- a command that entered a task set
pub record Task : Type 0 where
  pub ticket : ℕ
  pub conn : ℕ
  pub unit : ℕ
  pub tag : ℕ
  pub numbered : Bool
  pub phase : Phase

pub data Pdu : Type 0 where
  Replies : Reply → Pdu  -- a reply of the session
  Owns : OwnPdu → Pdu
  Pings : ℕ → Pdu  -- a NOP-In of the outbox's own with this transfer tag, which asks for an answer
  Notices : Pdu  -- a NOP-In without a tag, which shows MaxCmdSN and asks for nothing

-- a PDU with what the rules look at
pub record Outgoing : Type 0 where
  pub time : ℕ  -- when it entered its queue: one order for all connections
  pub pdu : Pdu
  pub sent : Option ℕ  -- of a reply: so many replies were before it in the session's log
  pub ticket : Option ℕ  -- the command that it is of, or that it completes
  pub takes : Bool  -- it takes a StatSN
  pub fenced : Bool  -- it answers a function of several tasks (RFC 7143 section 4.2.2.3), or an ABORT TASK that found none
  pub numbered : Bool  -- it answers a numbered request
  pub scope : List ℕ  -- the tickets that the initiator holds for over by it
  pub closes : List ℕ  -- the connections that it closes

-- a PDU as it was handed out, with the numbers that it shows
pub record Handed : Type 0 where
  pub out : Outgoing
  pub stat_sn : ℕ
  pub exp : ℕ
  pub max : ℕ

-- what an abort or Logout aims at
pub data Aim : Type 0 where
  AtTag : ℕ → ℕ → Aim  -- ABORT TASK: the commands with this tag, of this unit
  AtUnit : ℕ → Aim  -- ABORT TASK SET, CLEAR TASK SET, LOGICAL UNIT RESET
  AtConns : Aim  -- a Logout

-- the answer to an abort or Logout that isn't due yet
pub record Answer : Type 0 where
  pub conn : ℕ
  pub aim : Aim
  pub uncleared : Bool  -- it waits for other sessions
  pub out : Outgoing

pub record Link : Type 0 where
  pub conn : ℕ
  pub first : ℕ  -- its first StatSN
  pub joined : Bool
  pub closed : Bool  -- by a Logout
  pub cut : Bool  -- by one on another connection
  pub lost : Bool
  pub queue : List Outgoing  -- what waits, in order
  pub handed : List Handed  -- all that was handed out, in order
  pub written : ℕ  -- so many of them are written
  pub arrived : ℕ  -- so many of them are known to have arrived

pub record Box : Type 0 where
  pub tasks : List Task  -- all that ever entered, in order
  pub links : List Link
  pub undue : List Answer  -- in the order of the log
  pub sent : ℕ  -- how many replies the log has
  pub time : ℕ
  pub exp : ℕ  -- ExpCmdSN, as the last event showed it
  pub max : ℕ  -- the session's MaxCmdSN, without bound
  pub shown : ℕ  -- the last MaxCmdSN that was shown, without bound
  pub reached : ℕ  -- the same, and 0 once a connection was lost since: what it showed may not have been read
