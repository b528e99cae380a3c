-- When the journal of lists of headers is full.
use Rattle.std.specs.Prelude.{◌≡◌, ℕ, ◌<◌, true, List, length, map, slice_index, slice_index_or, Vec}
use Rattle.std.specs.declared.alloc.Global.{Global}
use mathlib.Core.List.{IsPrefix}
use Rattle.iscsi_rules.specs.declared.event.Event.{Event}
use Rattle.iscsi_rules.specs.rules.Settings.{Setting}
use Rattle.iscsi_rules.specs.rules.Run.{run_of}
use Rattle.iscsi_threads.specs.rules.Journal.{cids_of, part, done, are_sources}
use Rattle.iscsi_threads.specs.rules.Jobs.{jobs}
use Rattle.iscsi_threads.specs.promises.Outcomes.{ticket_of}
use Rattle.iscsi_threads.specs.rules.Works.{ticket_answered}

-- lists of headers, of which each connection had one, and the answers to their commands gave as many events as the options
-- allow
pub record FillsJournal (o : Setting) (lists : List (Vec (List ℕ) Global)) : Type 0 where
  pub journal : List Event
  pub from : List ℕ
  pub full : length journal ≡ o.events
  -- an event's source is the place of its connection, or a unit
  pub sourced : are_sources (cids_of o) o.units journal from ≡ true
  -- what it has of each connection is a front of its list
  pub fronts : (i : ℕ) (x : Vec (List ℕ) Global) → i < length lists → IsPrefix (part (slice_index (cids_of o) i) journal) (slice_index_or lists i x).items
  -- each unit answered the first of its jobs, in their order
  pub in_turn : (u : ℕ) → u < o.units → IsPrefix (map ticket_answered (done u journal from)) (map ticket_of (jobs u (run_of o journal)))
