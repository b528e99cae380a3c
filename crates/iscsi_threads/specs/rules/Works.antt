-- What a worker does.
use Rattle.std.specs.Prelude.{◌≡◌, ℕ, map}
use mathlib.Core.List.{IsPrefix}
use Rattle.iscsi_threads.specs.declared.port.UnitPort.{UnitPort}
use Rattle.iscsi_threads.specs.rules.Ports.{Answer, taken, answered}
use Rattle.iscsi_threads.specs.promises.Outcomes.{ticket_of}

abbrev pub ticket_answered : Answer → ℕ
ticket_answered a = a.0

-- the jobs that were taken were answered in order, but for the last ones
abbrev pub InTurn : UnitPort → Type 0
InTurn u = IsPrefix (map ticket_answered (answered u)) (map ticket_of (taken u))

-- each job that was taken was answered, in order
abbrev pub AllAnswered : UnitPort → Type 0
AllAnswered u = map ticket_answered (answered u) ≡ map ticket_of (taken u)
