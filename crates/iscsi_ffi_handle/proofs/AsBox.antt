-- A box of a side, and what owns the same: its parts, and an owner that isn't empty.
use mathlib.Core.List.{[]}
use mir.Syntax.{impl, tnil, dnil}
use denote.Signature.{Slot, plain}
use Rattle.std_alloc.proofs.BoxSteps.Form.{Bx}
use Rattle.std_heap.specs.contracts.Global as Heap
use Rattle.std_heap.specs.contracts.GlobalAllocator.TheImpl.{ghosts, dict}
use Rattle.std_heap.proofs.Global.TheLaws as heap
use Rattle.iscsi_ffi.specs.contracts.side.Side as Side
use Rattle.iscsi_ffi.proofs.side.Side.TheLaws as side
use Rattle.iscsi_ffi_handle.specs.contracts.handle.owner.Owner as Owner
use Rattle.iscsi_ffi_handle.specs.contracts.handle.parts.Parts as Parts

abbrev pub E : Bx
E = record { row = Side.the_row; laws = side.the_row_laws; al = record { row = Heap.the_row; laws = heap.the_row_laws; g = ghosts; d = dict; drops = impl [] tnil dnil } }

-- the argument of a function that takes an allocator, parts, or an owner
abbrev pub FromGlobal : Slot 0
FromGlobal = plain (λ _. Heap.the_row)

abbrev pub FromParts : Slot 0
FromParts = plain (λ _. Parts.the_row Side.the_row Heap.the_row ghosts)

abbrev pub FromOwner : Slot 0
FromOwner = plain (λ _. Owner.the_row)
