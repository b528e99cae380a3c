-- What a handle owns: the box of its side, or nothing where it is closed.
use Rattle.std.specs.Prelude.{Option, Some, None}
use base.Fml.{Fml, ftrue}
use base.Stored.{Coded}
use denote.RawPtr.{Ptr}
use Rattle.std.specs.Box.Ownership.{box_owns}
use Rattle.std.specs.Coded.{coded_option}
use Rattle.std.specs.Global.{Global}
use Rattle.std_heap.specs.contracts.GlobalAllocator.TheImpl.{ghosts}
use Rattle.iscsi_ffi.specs.contracts.side.Side.{the_row}

abbrev pub owned_by : Global → Option the_row.Denot → Ptr → Fml
owned_by alloc (Some side) p = box_owns (ghosts.dealloc_token alloc) the_row p side
owned_by alloc None p = ftrue

abbrev pub side_coded : Coded (Option the_row.Denot)
side_coded = coded_option the_row.coded
