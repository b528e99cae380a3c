-- What a handle has: the side that it owns, if it is open.
use Rattle.std.specs.Prelude.{Option}
use Rattle.iscsi_ffi.specs.Standing.{Sided}
use Rattle.iscsi_ffi_handle.specs.declared.handle.Handle.{Handle}

abbrev pub inside : Handle → Option Sided
inside handle = handle.owner.side
