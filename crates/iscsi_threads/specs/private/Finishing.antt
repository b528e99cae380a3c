-- Room for what may be left in the rings, and what is left.
use Rattle.std.specs.Prelude.{◌≡◌, ℕ, ◌+◌, ◌<◌, ◌≤◌, List, [], ◌++◌, length, map, slice_index_or, vec_len, vec_capacity, Vec}
use Rattle.std.specs.VecDeque.{deque_len}
use Rattle.std.specs.declared.alloc.Global.{Global}
use mathlib.Core.List.{IsPrefix}
use Rattle.iscsi_threads.specs.declared.job.Job.{Job}
use Rattle.iscsi_threads.specs.declared.port.Port.{Port}
use Rattle.iscsi_threads.specs.declared.port.UnitPort.{UnitPort}
use Rattle.iscsi_threads.specs.declared.inlet.Inlet.{Inlet}
use Rattle.iscsi_threads.specs.declared.outlet.Outlet.{Outlet}
use Rattle.iscsi_threads.specs.declared.session_loop.Loop.{Loop}
use Rattle.iscsi_threads.specs.declared.finish.Rooms.{Rooms}
use Rattle.iscsi_threads.specs.rules.Ports.{Answer, posted, taken, answered}
use Rattle.iscsi_threads.specs.rules.Outlets.{got, given, heard}
use Rattle.iscsi_threads.specs.rules.Journal.{jobs_of}
use Rattle.iscsi_threads.specs.promises.Outcomes.{ticket_of}

-- each is empty, with 64 places
abbrev pub AllReady : {X : Type 0} → List (Vec X Global) → Type 0
AllReady {X} vs = (i : ℕ) (d : Vec X Global) → i < length vs → ((slice_index_or vs i d).items ≡ []) × (64 ≤ vec_capacity (slice_index_or vs i d))

-- of the first n units each is empty, with room for the unit's ring, its backlog, and so many jobs more
abbrev pub AllReadyFor : List Outlet → ℕ → List (Vec ℕ Global) → ℕ → Type 0
AllReadyFor outlets more vs n =
    (i : ℕ) (o : Outlet) (v : Vec ℕ Global) → i < n
    → ((slice_index_or vs i v).items ≡ []) × (64 + deque_len (slice_index_or outlets i o).backlog + more ≤ vec_capacity (slice_index_or vs i v))

-- room for all that may be left in the loop
pub record FitsAll (l : Loop) (r : Rooms) : Type 0 where
  pub lens : (vec_len r.left ≡ vec_len l.inlets) × (vec_len r.untaken ≡ vec_len l.outlets) × (vec_len r.unread ≡ vec_len l.outlets)
  pub left : AllReady r.left.items
  pub untaken : AllReadyFor l.outlets.items (deque_len l.fresh) r.untaken.items (vec_len l.outlets)
  pub unread : AllReady r.unread.items

-- of the first n ports, what was posted is what the loop got, and then what is left
abbrev pub HeadersLeft : List Port → List Inlet → List (Vec (List ℕ) Global) → ℕ → Type 0
HeadersLeft ports inlets left n =
    (i : ℕ) (p : Port) (o : Inlet) (v : Vec (List ℕ) Global) → i < n → posted (slice_index_or ports i p) ≡ got (slice_index_or inlets i o) ++ (slice_index_or left i v).items

-- what was given is what was taken, and then what is left; what was answered is what was heard, and then what is left
pub record UnitLeft (q : UnitPort) (o : Outlet) (room : Vec ℕ Global) (untaken : Vec ℕ Global) (unread : Vec Answer Global) : Type 0 where
  pub taken_first : IsPrefix (taken q) (given o)
  pub all_given : map ticket_of (given o) ≡ map ticket_of (taken q) ++ untaken.items
  pub few : vec_len untaken ≤ 64 + deque_len o.backlog
  pub capacity : vec_capacity untaken ≡ vec_capacity room
  pub all_answers : answered q ≡ heard o ++ unread.items

abbrev pub UnitsLeft : List UnitPort → List Outlet → List (Vec ℕ Global) → List (Vec ℕ Global) → List (Vec Answer Global) → ℕ → Type 0
UnitsLeft units outlets rooms untaken unread n =
    (i : ℕ) (q : UnitPort) (o : Outlet) (r : Vec ℕ Global) (v : Vec ℕ Global) (w : Vec Answer Global) → i < n
    → UnitLeft (slice_index_or units i q) (slice_index_or outlets i o) (slice_index_or rooms i r) (slice_index_or untaken i v) (slice_index_or unread i w)

-- each has room for so many more
abbrev pub HaveRoom : ℕ → List (Vec ℕ Global) → Type 0
HaveRoom more vs = (i : ℕ) (v : Vec ℕ Global) → i < length vs → vec_len (slice_index_or vs i v) + more ≤ vec_capacity (slice_index_or vs i v)

-- the ticket of each job stands behind the others of its unit
abbrev pub Noted : List Job → List (Vec ℕ Global) → List (Vec ℕ Global) → Type 0
Noted js before after =
    (u : ℕ) (v w : Vec ℕ Global) → u < length before
    → (slice_index_or after u w).items ≡ (slice_index_or before u v).items ++ map ticket_of (jobs_of u js)
