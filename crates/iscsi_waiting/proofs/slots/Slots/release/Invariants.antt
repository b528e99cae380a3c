use Rattle.std.proofs.Common.{◌≡◌, length}
use Rattle.iscsi_outbox_state.specs.Waits.{released_of}
use Rattle.iscsi_waiting.specs.Kept.{AreKept, waits_of}
use Rattle.iscsi_waiting.specs.Marks.{slots_at}
use Rattle.iscsi_waiting.proofs.slots.Slots.release.Given as goal

-- some were released: it makes no odds whether that is done before all are
abbrev pub invariant-loop-slot : goal.invariant-loop-slot
invariant-loop-slot l = record {
  kept : AreKept l.self;
  state : released_of l.command (waits_of l.self) ≡ released_of l.command (waits_of l.fn.self);
  lists : length l.self.owned.lists ≡ length l.fn.self.owned.lists;
}

abbrev pub decreases-loop-slot : goal.decreases-loop-slot
decreases-loop-slot l = length (slots_at l.self.owned l.command)
