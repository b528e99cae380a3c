-- A watched reader or writer.
use Rattle.std.specs.Prelude.{Bool}
use Rattle.iscsi_recording.specs.declared.watched.Watched.{Watched}

-- the reader or writer inside
abbrev pub inner_of : {T : Type 0} → Watched T → T
inner_of w = w.inner

-- a read or write of it has failed
abbrev pub has_noted : {T : Type 0} → Watched T → Bool
has_noted w = w.failed
