-- What a side is opened with, and what is called of it.
use Rattle.std.specs.Prelude.{ℕ, List}
use Rattle.iscsi_outbox_rules.specs.declared.own_pdu.OwnPdu.{OwnPdu}
use Rattle.iscsi_outbox_rules.specs.rules.Calls.{Opening}

pub record Interface : Type 0 where
  pub outbox : Opening
  pub unwritten : ℕ  -- the most PDUs of a connection that are handed out and aren't written

pub data Call : Type 0 where
  Arrives : ℕ → List ℕ → ℕ → Call  -- a request arrived on this connection: its header, and the caller's word for it
  Completes : ℕ → ℕ → Call  -- the unit completed the command with this ticket, with this status
  Stops : ℕ → Call  -- the unit doesn't touch the medium for this ticket any more
  Nexts : ℕ → Call  -- the next PDU of this connection is asked for
  Puts : OwnPdu → ℕ → Call  -- a PDU of the target's own, and the caller's word for it, if it is of no command
  Writes : ℕ → Call  -- the oldest PDU that was handed out there and wasn't written has gone into the transport
  Hears : ℕ → ℕ → ℕ → Call  -- a header arrived that isn't given: its ExpStatSN; the transfer tag of a NOP-Out, NO_TAG in any other
  Joins : ℕ → ℕ → Call  -- this connection is in its Full Feature Phase, and its next StatSN is this
  Loses : ℕ → Call  -- the transport of this connection is gone
  Clears : ℕ → Call  -- another session reset or cleared this unit
  Cleared : ℕ → Call  -- no other session's command of this unit touches the medium any more
