-- An owner may go to another thread: it owns nothing, or the box of a side, which may.
use base.Shift.{Keyless}
use mir.Raw.{raw}
use denote.Memory.{lone}
use denote.Param.Send.{IsSend, AllSend, owning_send, struct_send, sendable}
use denote.RawPtr.{Ptr}
use denote.Struct.Struct.{exits_of}
use denote.Struct.Owning.{shape, fields, to}
use Rattle.std.specs.Prelude.{Option, Some, None}
use Rattle.std.specs.Global.{Global}
use Rattle.std.proofs.Crossing as heap
use Rattle.std_alloc.proofs.SendSync.{quiet, lies}
use Rattle.std_heap.proofs.Global.TheSendSync as allocator
use Rattle.iscsi_ffi.specs.Standing.{Sided}
use Rattle.iscsi_ffi_handle.specs.Ownership.{owned_by}
use Rattle.iscsi_ffi.specs.contracts.side.Side as Side
use Rattle.iscsi_ffi.proofs.side.Side.TheSendSync.{the_send as side}
use Rattle.iscsi_ffi_handle.specs.contracts.handle.owner.Owner.{the_row, the_type}

-- what it owns names no lifetime that only one thread has
keyless : (alloc : Global) (owned : Option Sided) (p : Ptr) → Keyless (owned_by alloc owned p)
keyless alloc None p = tt
keyless alloc (Some value) p = (lies Side.the_row side p value, heap.frees.frees alloc (raw (lone Side.the_row.mir)) p)

pub send : IsSend the_row
send =
    let all : AllSend (fields the_type) = (search sendable, (allocator.the_field_send, tt)) in
    owning_send the_type all (λ d. keyless d.alloc d.side d.at)
    (λ k. quiet (to the_type) (exits_of k (fields the_type)) ((struct_send (shape the_type) all).leaving k))
