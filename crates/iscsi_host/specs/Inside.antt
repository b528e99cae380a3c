-- What a handle has: the host that it owns, if it is open.
use Rattle.std.specs.Prelude.{Option}
use Rattle.iscsi_host.specs.Serving.{Hosted}
use Rattle.iscsi_host.specs.declared.handle.Handle.{Handle}

abbrev pub inside : Handle → Option Hosted
inside handle = handle.owner.host
