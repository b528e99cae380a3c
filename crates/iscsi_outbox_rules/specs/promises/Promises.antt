-- All promises in one, of an outbox that takes what a session gives.
use Rattle.std.specs.Prelude.{List}
use Rattle.iscsi_outbox_rules.specs.rules.Calls.{Opening, Call}
use Rattle.iscsi_outbox_rules.specs.promises.Deeds.{deeds_of}
use Rattle.iscsi_outbox_rules.specs.promises.Silent.{SilentAfter}
use Rattle.iscsi_outbox_rules.specs.promises.Still.{StillBefore}
use Rattle.iscsi_outbox_rules.specs.promises.Fence.{FenceHolds}
use Rattle.iscsi_outbox_rules.specs.promises.Closed.{ClosedHolds}
use Rattle.iscsi_outbox_rules.specs.promises.Once.{OnceHolds}
use Rattle.iscsi_outbox_rules.specs.promises.Numbers.{NumbersHold}
use Rattle.iscsi_outbox_rules.specs.promises.Order.{OrderHolds}

pub record KeepsPromises (o : Opening) (cs : List Call) : Type 0 where
  pub silent : SilentAfter o (deeds_of o cs)
  pub still : StillBefore o (deeds_of o cs)
  pub fence : FenceHolds o (deeds_of o cs)
  pub closed : ClosedHolds o (deeds_of o cs)
  pub once : OnceHolds o (deeds_of o cs)
  pub numbers : NumbersHold o (deeds_of o cs)
  pub order : OrderHolds (deeds_of o cs)
