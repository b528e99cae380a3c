-- What follows a session is answered alike by the steps and the rules.
use Rattle.std.proofs.Common.{◌≡◌, true, List}
use Rattle.iscsi_rules.specs.rules.Settings.{are_distinct}
use Rattle.iscsi_outbox_rules.specs.promises.Room.{HasRoom}
use Rattle.iscsi_outbox_rules.specs.promises.Deeds.{FollowsKnown}
use Rattle.iscsi_outbox_rules.specs.rules.Calls.{Opening, Call}
use Rattle.iscsi_outbox_rules.specs.rules.Run.{opened, after_calls as after_calls_by_rules}
use Rattle.iscsi_outbox_steps.specs.Run.{begun}
use Rattle.iscsi_outbox_law.specs.rules.Room.{IsShort}
use Rattle.iscsi_outbox_law.specs.promises.Called.{after_calls}
use Rattle.iscsi_outbox_law.specs.rules.Said.{AnswersAlike}
use Rattle.iscsi_outbox_law.specs.private.Stands.{Stands}
use Rattle.iscsi_outbox_law.proofs.calls.CallsGo.{AllGo}
use Rattle.iscsi_outbox_law.proofs.calls.StepsGo.{ItemsGo, steps_go}
use Rattle.iscsi_outbox_law.proofs.items.TakesItem.{item_stands}
use Rattle.iscsi_outbox_law.proofs.commands.TurningCount.{newest_item}

items_go : (o : Opening) → are_distinct o.session.conns ≡ true → ItemsGo o
items_go o distinct s b item k = item_stands o s b k.stands k.sound distinct item k.item_sound (newest_item s b item k.last k.item_sound.next) k.fits k.time

all_go : (o : Opening) (distinct : are_distinct o.session.conns ≡ true) (calls : List Call) → FollowsKnown o calls → HasRoom o calls → IsShort o calls → AllGo o calls (begun o) (opened o)
all_go o distinct calls follows room short = steps_go o (items_go o distinct) distinct calls follows room short

pub answers_alike : (o : Opening) (calls : List Call) → FollowsKnown o calls → are_distinct o.session.conns ≡ true → HasRoom o calls → IsShort o calls → AnswersAlike o calls
answers_alike o calls follows distinct room short = (all_go o distinct calls follows room short).0

-- and what they leave stands for one another
pub leave_alike : (o : Opening) (calls : List Call) → FollowsKnown o calls → are_distinct o.session.conns ≡ true → HasRoom o calls → IsShort o calls → Stands o (after_calls (begun o) calls) (after_calls_by_rules o (opened o) calls)
leave_alike o calls follows distinct room short = (all_go o distinct calls follows room short).1
