use Rattle.std.proofs.Common.{◌≡◌, ◌++◌, List, length, map}
use Rattle.iscsi_rules.specs.declared.event.Event.{Event}
use Rattle.iscsi_threads.specs.rules.Journal.{cids_in, parts}
use Rattle.iscsi_replay.specs.promises.Threaded.{headers}
use Rattle.iscsi_replay.proofs.threading.lists_of.Given as goal

abbrev pub invariant-events : goal.invariant-events
invariant-events l = record {
  before : List Event;
  whole : l.initial.cursor ≡ before ++ l.cursor;
  lists : map headers l.lists.items ≡ parts (cids_in l.conns) before;
}

abbrev pub decreases-events : goal.decreases-events
decreases-events l = length l.cursor
