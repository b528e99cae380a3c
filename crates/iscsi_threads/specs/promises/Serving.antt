-- What serve says.
use Rattle.std.specs.Prelude.{◌≡◌, ℕ, ◌<◌, ◌≤◌, Bool, true, false, IsTrue, List, [], ◌++◌, length, map, slice_index, slice_index_or, Vec, vec_capacity, ⊤}
use Rattle.std.specs.declared.alloc.Global.{Global}
use mathlib.Core.List.{IsPrefix}
use Rattle.iscsi_rules.specs.declared.event.Event.{Event}
use Rattle.iscsi_rules.specs.rules.Settings.{Setting}
use Rattle.iscsi_rules.specs.rules.Trace.{live}
use Rattle.iscsi_rules.specs.rules.Run.{run_of, trace_of}
use Rattle.iscsi_rules.specs.promises.Promises.{KeepsPromises}
use Rattle.iscsi_threads.specs.declared.port.Port.{Port}
use Rattle.iscsi_threads.specs.declared.port.UnitPort.{UnitPort}
use Rattle.iscsi_threads.specs.declared.session_loop.Loop.{Loop}
use Rattle.iscsi_threads.specs.declared.finish.Ended.{Ended}
use Rattle.iscsi_threads.specs.declared.finish.Outcome.{Outcome}
use Rattle.iscsi_threads.specs.declared.serving.Rooms.{Rooms}
use Rattle.iscsi_threads.specs.declared.serving.End.{End}
use Rattle.iscsi_threads.specs.declared.serving.End.TheVariants.{Quiet, Full}
use Rattle.iscsi_threads.specs.declared.serving.Progress.{Progress}
use Rattle.iscsi_threads.specs.declared.serving.Progress.TheVariants as progress
use Rattle.std.specs.declared.thread.PromisedHandle.{PromisedHandle}
use Rattle.iscsi_threads.specs.declared.posting.Posted.{Posted}
use Rattle.iscsi_threads.specs.declared.posting.Posts.{Posts}
use Rattle.iscsi_threads.specs.private.Promises.{AllPostedOn}
use Rattle.iscsi_threads.specs.rules.Ports.{Answer, posted, port_ring}
use Rattle.iscsi_threads.specs.rules.Outlets.{got}
use Rattle.iscsi_threads.specs.rules.Loops.{journal, setting, Belong}
use Rattle.iscsi_threads.specs.rules.Journal.{cids_of, part, done, are_sources}
use Rattle.iscsi_threads.specs.rules.Jobs.{jobs, GivesJobs}
use Rattle.iscsi_threads.specs.promises.Outcomes.{ticket_of, EndedAs}
use Rattle.iscsi_threads.specs.rules.Works.{ticket_answered, InTurn}

-- the unit's worker took the first of its jobs, and the rest is untaken; it answered the first of those that it took, in their order
pub record UnitServed (o : Setting) (j : List Event) (from : List ℕ) (u : ℕ) (untaken : List ℕ) (unread : List Answer) : Type 0 where
  pub tickets : List ℕ
  pub taken_first : map ticket_of (jobs u (run_of o j)) ≡ tickets ++ untaken
  pub answered_first : IsPrefix (map ticket_answered (done u j from ++ unread)) tickets

-- what came of lists of headers, of which each connection had one
pub record ServedBy (o : Setting) (lists : List (Vec (List ℕ) Global)) (j : List Event) (from : List ℕ) (left : List (Vec (List ℕ) Global)) (untaken : List (Vec ℕ Global)) (unread : List (Vec Answer Global)) : Type 0 where
  -- the journal has no more events than the options allow
  pub few : length j ≤ o.events
  -- an event's source is the place of its connection, or a unit
  pub sourced : are_sources (cids_of o) o.units j from ≡ true
  -- the jobs of each unit are its Enables, in their order, and no ticket stands in two jobs
  pub gives : GivesJobs (run_of o j)
  -- each list is all that the journal has of its connection, and nothing is left of it
  pub posted : (i : ℕ) (x : Vec (List ℕ) Global) → i < length lists → part (slice_index (cids_of o) i) j ≡ (slice_index_or lists i x).items
  pub lefts : length left ≡ length lists
  pub none_left : (i : ℕ) (x : Vec (List ℕ) Global) → i < length lists → (slice_index_or left i x).items ≡ []
  -- no command is live
  pub ended : live (trace_of o j) ≡ []
  pub untakens : length untaken ≡ o.units
  pub unreads : length unread ≡ o.units
  pub in_turn : (u : ℕ) (v : Vec ℕ Global) (w : Vec Answer Global) → u < o.units → UnitServed o j from u (slice_index_or untaken u v).items (slice_index_or unread u w).items

abbrev pub ServedUnlogged : Setting → List (Vec (List ℕ) Global) → Ended → Type 0
ServedUnlogged o lists e = ServedBy o lists e.journal.items e.from.items e.left.items e.untaken.items e.unread.items

-- and the log is that of the journal, and keeps all promises
pub record Served (o : Setting) (lists : List (Vec (List ℕ) Global)) (x : Outcome) : Type 0 where
  pub log_is : x.log.items ≡ run_of o x.journal.items
  pub keeps : KeepsPromises o x.journal.items x.log.items
  pub served : ServedBy o lists x.journal.items x.from.items x.left.items x.untaken.items x.unread.items

-- every header that was posted was taken, and no command is live
pub record IsQuiet (l : Loop) (ports : List Port) : Type 0 where
  pub all_taken : map posted ports ≡ map got l.inlets.items
  pub ended : live (trace_of (setting l) (journal l)) ≡ []

-- the journal has as many events as the options allow
abbrev pub IsFull : Loop → Type 0
IsFull l = (setting l).events ≤ length (journal l)

-- the journal has room for one event more
abbrev pub HasRoom : Loop → Type 0
HasRoom l = length (journal l) < (setting l).events

-- what a turn comes to, which left this loop
abbrev pub ComesTo : Progress → Loop → Type 0
ComesTo progress.Took l = ⊤
ComesTo progress.Idle l = HasRoom l
ComesTo progress.Full l = IsFull l

-- the journal is full, unless every list was posted
abbrev pub IsFullUnless : Bool → Loop → Type 0
IsFullUnless true l = ⊤
IsFullUnless false l = IsFull l

-- the turns ended so
abbrev pub IsEnd : End → Loop → List Port → Type 0
IsEnd Quiet l ports = IsQuiet l ports × HasRoom l
IsEnd Full l ports = IsFull l

abbrev pub is_quiet : End → Bool
is_quiet Quiet = true
is_quiet Full = false

-- the posters gave their ports back, on which the loop alone has turned since; at a quiet end each list was posted whole
pub record CameBack (posts : List (PromisedHandle Posted Posts)) (many : ℕ) (ports : List Port) (end : End) : Type 0 where
  pub joined : List Port
  pub len : length joined ≡ many
  pub kept : AllPostedOn posts joined (is_quiet end) many
  pub rings : map port_ring ports ≡ map port_ring joined
  pub posted_are : map posted ports ≡ map posted joined

-- the threads have ended: the loop, its ports and its unit ports are together again
pub record Together (o : Setting) (lists : List (Vec (List ℕ) Global)) (l : Loop) (ports : List Port) (units : List UnitPort) (end : End) : Type 0 where
  pub setting_is : setting l ≡ o
  pub belong : Belong l ports units
  pub ports_len : length ports ≡ length lists
  pub units_len : length units ≡ o.units
  -- a front of each list was posted, and at a quiet end the whole of it
  pub fronts : (i : ℕ) (p : Port) (x : Vec (List ℕ) Global) → i < length lists → IsPrefix (posted (slice_index_or ports i p)) (slice_index_or lists i x).items
  pub posted_are : IsTrue (is_quiet end) → (i : ℕ) (p : Port) (x : Vec (List ℕ) Global) → i < length lists → posted (slice_index_or ports i p) ≡ (slice_index_or lists i x).items
  pub ended : IsEnd end l ports
  pub in_turn : (i : ℕ) (q : UnitPort) → i < length units → InTurn (slice_index_or units i q)

-- they ran to a quiet end
abbrev pub Ran : Setting → List (Vec (List ℕ) Global) → Loop → List Port → List UnitPort → Type 0
Ran o lists l ports units = Together o lists l ports units Quiet

-- the rings were emptied, and each is accounted for
abbrev pub Emptied : Loop → List Port → List UnitPort → Type 0
Emptied l ports units = (e : Ended) × EndedAs l ports units e

-- all rooms are empty, and have so many places
pub record HasRooms (r : Rooms) (conns units : ℕ) : Type 0 where
  pub empty : (r.posts.items ≡ []) × (r.works.items ≡ []) × (r.ports.items ≡ []) × (r.units.items ≡ [])
  pub for_posts : conns ≤ vec_capacity r.posts
  pub for_works : units ≤ vec_capacity r.works
  pub for_ports : conns ≤ vec_capacity r.ports
  pub for_units : units ≤ vec_capacity r.units
