-- What a contract sees of the loop's ends of a unit's rings.
use Rattle.std.specs.Prelude.{◌≡◌, ℕ, ◌+◌, ◌≤◌, List, ◌++◌}
use Rattle.std.specs.VecDeque.{deque_len, deque_capacity}
use Rattle.rtrb.specs.Ring.{sent, received}
use Rattle.std.specs.declared.alloc.Global.{Global}
use Rattle.iscsi_threads.specs.rules.Rings.{Ring, producer_ring, consumer_ring}
use Rattle.iscsi_threads.specs.declared.outlet.Outlet.{Outlet}
use Rattle.iscsi_threads.specs.declared.inlet.Inlet.{Inlet}
use Rattle.iscsi_threads.specs.declared.job.Job.{Job}
use Rattle.iscsi_threads.specs.rules.Ports.{Answer}

-- every job that was put, oldest first: those that went into the ring, and the backlog
abbrev pub given : Outlet → List Job
given o = sent o.jobs ++ o.backlog.items

-- every answer that was taken from the ring
abbrev pub heard : Outlet → List Answer
heard o = received o.answers

abbrev pub outlet_rings : Outlet → Ring Global × Ring Global
outlet_rings o = (producer_ring o.jobs, consumer_ring o.answers)

-- it has room for one more job
abbrev pub HasRoom : Outlet → Type 0
HasRoom o = deque_len o.backlog + 1 ≤ deque_capacity o.backlog

-- the same rings, jobs and answers
abbrev pub SameOutlet : Outlet → Outlet → Type 0
SameOutlet a b = (given b ≡ given a) × (heard b ≡ heard a) × (outlet_rings b ≡ outlet_rings a)

-- every header that was taken from the ring
abbrev pub got : Inlet → List (List ℕ)
got i = received i.headers

abbrev pub inlet_ring : Inlet → Ring Global
inlet_ring i = consumer_ring i.headers
