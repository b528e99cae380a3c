-- What the end of a loop says of its journal and its rings.
use Rattle.std.specs.Prelude.{◌≡◌, ℕ, ◌<◌, true, List, ◌++◌, length, map, slice_index, slice_index_or, Vec}
use Rattle.std.specs.declared.alloc.Global.{Global}
use mathlib.Core.List.{IsPrefix}
use Rattle.iscsi_rules.specs.declared.event.Event.{Event}
use Rattle.iscsi_rules.specs.rules.Settings.{Setting}
use Rattle.iscsi_rules.specs.rules.Run.{run_of}
use Rattle.iscsi_rules.specs.promises.Promises.{KeepsPromises}
use Rattle.iscsi_threads.specs.declared.job.Job.{Job}
use Rattle.iscsi_threads.specs.declared.port.Port.{Port}
use Rattle.iscsi_threads.specs.declared.port.UnitPort.{UnitPort}
use Rattle.iscsi_threads.specs.declared.session_loop.Loop.{Loop}
use Rattle.iscsi_threads.specs.declared.finish.Ended.{Ended}
use Rattle.iscsi_threads.specs.declared.finish.Outcome.{Outcome}
use Rattle.iscsi_threads.specs.rules.Ports.{Answer, posted, taken, answered}
use Rattle.iscsi_threads.specs.rules.Loops.{journal, sources, setting}
use Rattle.iscsi_threads.specs.rules.Journal.{cids_of, part, done, are_sources}
use Rattle.iscsi_threads.specs.rules.Jobs.{jobs, GivesJobs}

abbrev pub ticket_of : Job → ℕ
ticket_of j = j.ticket

-- what was posted on each port is what the journal has of its connection, and then what is left
abbrev pub AllPosted : Setting → List Event → List Port → List (Vec (List ℕ) Global) → Type 0
AllPosted o j ports left =
    (i : ℕ) (p : Port) (v : Vec (List ℕ) Global) → i < length ports
    → posted (slice_index_or ports i p) ≡ part (slice_index (cids_of o) i) j ++ (slice_index_or left i v).items

-- what the unit took is the first of its jobs, and the rest is untaken; what it answered is in the journal, but for what is unread
pub record UnitDone (o : Setting) (j : List Event) (from : List ℕ) (u : ℕ) (q : UnitPort) (untaken : List ℕ) (unread : List Answer) : Type 0 where
  pub taken_first : IsPrefix (taken q) (jobs u (run_of o j))
  pub all_jobs : map ticket_of (jobs u (run_of o j)) ≡ map ticket_of (taken q) ++ untaken
  pub all_answers : answered q ≡ done u j from ++ unread

abbrev pub AllDone : Setting → List Event → List ℕ → List UnitPort → List (Vec ℕ Global) → List (Vec Answer Global) → Type 0
AllDone o j from units untaken unread =
    (u : ℕ) (q : UnitPort) (v : Vec ℕ Global) (w : Vec Answer Global) → u < length units
    → UnitDone o j from u (slice_index_or units u q) (slice_index_or untaken u v).items (slice_index_or unread u w).items

-- each ring is accounted for
pub record Accounted (l : Loop) (ports : List Port) (units : List UnitPort) (left : List (Vec (List ℕ) Global)) (untaken : List (Vec ℕ Global)) (unread : List (Vec Answer Global)) : Type 0 where
  -- an event's source is the place of its connection, or a unit
  pub sourced : are_sources (cids_of (setting l)) (setting l).units (journal l) (sources l) ≡ true
  -- the jobs of each unit are its Enables, in their order, and no ticket stands in two jobs
  pub gives : GivesJobs (run_of (setting l) (journal l))
  -- one list for each port, and two for each unit
  pub lefts : length left ≡ length ports
  pub untakens : length untaken ≡ length units
  pub unreads : length unread ≡ length units
  pub all_posted : AllPosted (setting l) (journal l) ports left
  pub all_done : AllDone (setting l) (journal l) (sources l) units untaken unread

-- the journal is that of the loop's turns, and each ring is accounted for
pub record EndedAs (l : Loop) (ports : List Port) (units : List UnitPort) (e : Ended) : Type 0 where
  pub journal_is : e.journal.items ≡ journal l
  pub sources_are : e.from.items ≡ sources l
  pub accounted : Accounted l ports units e.left.items e.untaken.items e.unread.items

-- the journal is that of the loop's turns, the log is that of the journal and keeps all promises, and each ring is accounted for
pub record Finished (l : Loop) (ports : List Port) (units : List UnitPort) (x : Outcome) : Type 0 where
  pub journal_is : x.journal.items ≡ journal l
  pub sources_are : x.from.items ≡ sources l
  pub log_is : x.log.items ≡ run_of (setting l) (journal l)
  pub keeps : KeepsPromises (setting l) (journal l) x.log.items
  pub accounted : Accounted l ports units x.left.items x.untaken.items x.unread.items
