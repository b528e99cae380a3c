-- What an outbox is opened with, and what is called of it.
use Rattle.std.specs.Prelude.{ℕ, Bool, List}
use Rattle.iscsi_rules.specs.declared.effect.Effect.{Effect}
use Rattle.iscsi_rules.specs.declared.effect.Numbers.{Numbers}
use Rattle.iscsi_rules.specs.rules.Settings.{Setting}
use Rattle.iscsi_outbox_rules.specs.declared.own_pdu.OwnPdu.{OwnPdu}

pub record Opening : Type 0 where
  pub session : Setting
  pub own : ℕ  -- the most own PDUs that wait on a connection
  pub acknowledged : Bool  -- what was written is under way until it is known to have arrived
  pub shared : Bool  -- other sessions have the units, too

pub data Call : Type 0 where
  Takes : List Effect → Numbers → Call  -- the effects of one event of the session, and its numbers
  Puts : OwnPdu → Call
  Stops : ℕ → Call  -- the unit doesn't touch the medium for this ticket any more
  Nexts : ℕ → Call  -- the next PDU of this connection is asked for
  Writes : ℕ → Call  -- the oldest PDU that was handed out there and wasn't written has gone into the transport
  Hears : ℕ → ℕ → ℕ → Call  -- a header arrived on this connection: its ExpStatSN; the transfer tag of a NOP-Out, NO_TAG in any other
  Joins : ℕ → ℕ → Call  -- this connection is in its Full Feature Phase, and its next StatSN is this
  Loses : ℕ → Call  -- the transport of this connection is gone
  Clears : ℕ → Call  -- no other session's command of this unit touches the medium any more
