use Rattle.iscsi_outbox_rules.proofs.room.RoomItems.{room_on_the_way}
use Rattle.iscsi_outbox_rules.proofs.room.RoomKeeps.{tasks_fit}
use Rattle.iscsi_outbox_rules.proofs.room.RoomTheorem.{replies_fit}
use Rattle.iscsi_outbox_rules.proofs.numbers.ShownTheorem.{shown_fits}
use Rattle.iscsi_outbox_rules.proofs.laws.room_law.Goals as goal

pub returns : goal.returns
returns c = record { replies = replies_fit; tasks = tasks_fit; way = room_on_the_way; shown = shown_fits }
