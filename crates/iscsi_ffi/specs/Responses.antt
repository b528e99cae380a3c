-- A SCSI Response without sense that goes out next.
use Rattle.std.specs.Prelude.{◌≡◌, ℕ, ◌<◌, ◌&&◌, not, Bool, false, length, Some, None, is_some}
use Rattle.iscsi_waiting.specs.declared.first.Response.{Response}
use Rattle.iscsi_outbox_steps.specs.State.{place_of}
use Rattle.iscsi_outbox.specs.promises.Responses.{response_next}
use Rattle.iscsi_ffi_desk.specs.Calls.{is_blocked}
use Rattle.iscsi_ffi.specs.Standing.{Sided, is_waiting}

-- on a connection
abbrev pub gives_on : ℕ → Sided → Bool
gives_on conn v = not (is_blocked v.unwritten conn v.desk.state) && is_some (response_next conn v.desk.state.outbox)

abbrev pub gives_to : ℕ → Sided → Bool
gives_to cid v = elim (place_of v.desk.state.outbox cid) [ Some conn ↦ gives_on conn v | None ↦ false ]

-- `next` gives such a one to the connection with this CID
abbrev pub gives_response : ℕ → Sided → Bool
gives_response cid v = not (is_waiting v) && gives_to cid v

-- this one, on the connection with this CID, which has this place
pub record ResponseIsNext (cid conn : ℕ) (r : Response) (v : Sided) : Type 0 where
  pub place : place_of v.desk.state.outbox cid ≡ Some conn
  pub within : conn < length v.desk.state.outbox.limits.cids
  pub may : is_blocked v.unwritten conn v.desk.state ≡ false
  pub goes : response_next conn v.desk.state.outbox ≡ Some r
