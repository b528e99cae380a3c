-- What a contract sees of a port and of a unit port.
use Rattle.std.specs.Prelude.{ℕ, List}
use Rattle.rtrb.specs.Ring.{sent, received}
use Rattle.std.specs.declared.alloc.Global.{Global}
use Rattle.iscsi_threads.specs.rules.Rings.{Ring, producer_ring, consumer_ring}
use Rattle.iscsi_threads.specs.declared.port.Port.{Port}
use Rattle.iscsi_threads.specs.declared.port.UnitPort.{UnitPort}
use Rattle.iscsi_threads.specs.declared.job.Job.{Job}

-- a unit's answer: the ticket of the command, and its status
abbrev pub Answer : Type 0
Answer = ℕ × ℕ

-- every header that was accepted, oldest first
abbrev pub posted : Port → List (List ℕ)
posted p = sent p.headers

abbrev pub port_ring : Port → Ring Global
port_ring p = producer_ring p.headers

-- every job that was taken, oldest first
abbrev pub taken : UnitPort → List Job
taken u = received u.jobs

-- every answer that was accepted, oldest first
abbrev pub answered : UnitPort → List Answer
answered u = sent u.answers

abbrev pub unit_rings : UnitPort → Ring Global × Ring Global
unit_rings u = (consumer_ring u.jobs, producer_ring u.answers)
