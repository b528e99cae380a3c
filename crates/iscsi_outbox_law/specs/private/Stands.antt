-- When what the steps keep stands for a box of the rules.
use Rattle.std.specs.Prelude.{◌≡◌, ℕ, ◌%◌, ◌^◌, Bool, [], length}
use Rattle.iscsi_outbox_rules.specs.rules.Calls.{Opening}
use Rattle.iscsi_outbox_rules.specs.rules.Boxes.{Box}
use Rattle.iscsi_outbox_steps.specs.State.{State, limits_of, places, waiting_room}
use Rattle.iscsi_outbox_law.specs.private.Links.{AreLinks, AreQueues}
use Rattle.iscsi_outbox_law.specs.private.Commands.{AreCommands, ArePlaced, AreTrails, is_under_way}
use Rattle.iscsi_outbox_law.specs.private.Lanes.{AreLeft, AreAnswers}
use Rattle.iscsi_outbox_law.specs.private.Fences.{IsFence}

pub record AreNumbers (s : State) (b : Box) : Type 0 where
  pub time : s.waits.time ≡ b.time
  pub exp : s.exp ≡ b.exp
  pub max : s.max ≡ b.max
  pub shown : s.shown ≡ b.shown
  pub reached : s.reached ≡ b.reached
  pub sent : s.sent ≡ b.sent % 2 ^ 64

pub record AreSizes (o : Opening) (s : State) : Type 0 where
  pub limits : s.limits ≡ limits_of o
  pub waits : s.waits.room ≡ waiting_room s.limits
  pub answers : s.lane.answers ≡ places s.limits
  pub commands : s.tracked.room ≡ places s.limits
  pub trails : length s.tracked.trails ≡ length s.limits.cids

-- `under`: the tickets of the commands that are taken to be under way still. While the trail of a connection is walked these are
-- more than there are
pub record StandsWith (under : ℕ → Bool) (o : Opening) (s : State) (b : Box) : Type 0 where
  pub sizes : AreSizes o s
  pub numbers : AreNumbers s b
  pub links : AreLinks s.limits.cids s.links b.links
  pub queues : AreQueues s.tracked s.waits.queues b.links
  pub commands : AreCommands under s.limits.cids b.links b.tasks s.tracked
  pub placed : ArePlaced s.tracked
  pub trails : AreTrails s.tracked
  pub left : AreLeft s.tracked s.lane.items
  pub answers : AreAnswers s.limits.cids s.tracked [] s.lane.items b.undue
  pub fence : IsFence s.limits.looks b.links s.fence

abbrev pub Stands : Opening → State → Box → Type 0
Stands o s b = StandsWith (is_under_way o b.links) o s b
