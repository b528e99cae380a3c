-- Worked recordings: task sets, and which of their commands are enabled.
use Rattle.std.specs.Prelude.{◌≡◌, List, [], ◌∷◌, refl, None}
use Rattle.iscsi_wire.specs.declared.reply.Reply.TheVariants.{Scsi}
use Rattle.iscsi_wire.specs.Fields.{request_of}
use Rattle.iscsi_tasks.specs.declared.task.Attr.TheVariants.{Simple, Ordered, Head}
use Rattle.iscsi_tasks.specs.Rules as Rules
use Rattle.iscsi_rules.specs.declared.effect.Effect.TheVariants.{Deliver, Immediate, Enter, Enable, Leave, Send, Ignore}
use Rattle.iscsi_rules.specs.declared.effect.Why.TheVariants.{Stale}
use Rattle.iscsi_rules.specs.declared.event.Event.{Event}
use Rattle.iscsi_rules.specs.declared.event.Event.TheVariants.{Arrive, Done}
use Rattle.iscsi_rules.specs.rules.Run.{run_of}
use Rattle.iscsi_rules.specs.examples.Rows.{Worked, head, command, command_to, setting, entry, turn, done, entered}

-- an immediate command takes no number and no place of the window. It bars others as any command does
abbrev pub immediate_commands : List Event
immediate_commands =
    Arrive 1 (head 0x41 0x82 0xb1 1)
    ∷ Arrive 1 (command 0xa1 1)
    ∷ Done 1 0
    ∷ []

pub immediate_commands_log : run_of (setting 1 1) immediate_commands ≡
    entry 1 1 (Immediate (request_of 1 (head 0x41 0x82 0xb1 1)) ∷ Enter 1 0 Ordered ∷ Enable 1 0 ∷ [])
    ∷ entry 2 1 (Deliver (request_of 1 (command 0xa1 1)) ∷ Enter 2 0 Simple ∷ [])
    ∷ entry 2 1 (Leave 1 0 ∷ Send 1 1 (Scsi 0xb1 0 None) ∷ Enable 2 0 ∷ [])
    ∷ []
unfolding Rules.bars_as
immediate_commands_log = refl

-- an ORDERED command waits for the older ones, and bars the younger ones
abbrev pub ordered : List Event
ordered =
    Arrive 1 (command 0xa1 1)
    ∷ Arrive 1 (command_to 0 2 0xa2 2)
    ∷ Arrive 1 (command 0xa3 3)
    ∷ Done 3 0
    ∷ Done 1 0
    ∷ Done 2 0
    ∷ Done 3 0
    ∷ Done 3 0
    ∷ []

pub ordered_log : run_of (setting 1 32) ordered ≡
    entry 2 0x20 (Deliver (request_of 1 (command 0xa1 1)) ∷ Enter 1 0 Simple ∷ Enable 1 0 ∷ [])
    ∷ entry 3 0x20 (Deliver (request_of 1 (command_to 0 2 0xa2 2)) ∷ Enter 2 0 Ordered ∷ [])
    ∷ entry 4 0x20 (Deliver (request_of 1 (command 0xa3 3)) ∷ Enter 3 0 Simple ∷ [])
    ∷ entry 4 0x20 (Ignore Stale ∷ [])
    ∷ entry 4 0x21 (Leave 1 0 ∷ Send 1 1 (Scsi 0xa1 0 None) ∷ Enable 2 0 ∷ [])
    ∷ entry 4 0x22 (Leave 2 0 ∷ Send 1 2 (Scsi 0xa2 0 None) ∷ Enable 3 0 ∷ [])
    ∷ entry 4 0x23 (Leave 3 0 ∷ Send 1 3 (Scsi 0xa3 0 None) ∷ [])
    ∷ entry 4 0x23 (Ignore Stale ∷ [])
    ∷ []
unfolding Rules.bars_as
ordered_log = refl

-- a HEAD OF QUEUE command is enabled at once, and bars the dormant ones
abbrev pub head_of_queue : List Event
head_of_queue =
    Arrive 1 (command_to 0 2 0xa1 1)
    ∷ Arrive 1 (command 0xa2 2)
    ∷ Arrive 1 (command_to 0 3 0xa3 3)
    ∷ Done 1 0
    ∷ Done 3 0
    ∷ Arrive 1 (command_to 0 3 0xa4 4)
    ∷ Done 2 0
    ∷ []

pub head_of_queue_log : run_of (setting 1 32) head_of_queue ≡
    entry 2 0x20 (Deliver (request_of 1 (command_to 0 2 0xa1 1)) ∷ Enter 1 0 Ordered ∷ Enable 1 0 ∷ [])
    ∷ entry 3 0x20 (Deliver (request_of 1 (command 0xa2 2)) ∷ Enter 2 0 Simple ∷ [])
    ∷ entry 4 0x20 (Deliver (request_of 1 (command_to 0 3 0xa3 3)) ∷ Enter 3 0 Head ∷ Enable 3 0 ∷ [])
    ∷ entry 4 0x21 (Leave 1 0 ∷ Send 1 1 (Scsi 0xa1 0 None) ∷ [])
    ∷ entry 4 0x22 (Leave 3 0 ∷ Send 1 2 (Scsi 0xa3 0 None) ∷ Enable 2 0 ∷ [])
    ∷ entry 5 0x22 (Deliver (request_of 1 (command_to 0 3 0xa4 4)) ∷ Enter 4 0 Head ∷ Enable 4 0 ∷ [])
    ∷ entry 5 0x23 (Leave 2 0 ∷ Send 1 3 (Scsi 0xa2 0 None) ∷ [])
    ∷ []
unfolding Rules.bars_as
head_of_queue_log = refl

-- commands of different units don't bar each other
pub units_apart : Worked (record (setting 1 4) { units = 2 }) (
    turn 1 (command_to 0 2 0xa1 1) 2 4 (entered 1 0 Ordered)
    ∷ turn 1 (command_to 1 2 0xa2 2) 3 4 (entered 2 1 Ordered)
    ∷ turn 1 (command_to 0 2 0xa3 3) 4 4 (Enter 3 0 Ordered ∷ [])
    ∷ done 2 0 4 5 (Leave 2 1 ∷ Send 1 1 (Scsi 0xa2 0 None) ∷ [])
    ∷ done 1 0 4 6 (Leave 1 0 ∷ Send 1 2 (Scsi 0xa1 0 None) ∷ Enable 3 0 ∷ [])
    ∷ [])
unfolding Rules.bars_as
units_apart = refl

-- an ORDERED command is barred by HEAD OF QUEUE commands, older or younger; a HEAD OF QUEUE command by none
pub heads_bar_ordered : Worked (setting 1 8) (
    turn 1 (command_to 0 3 0xa1 1) 2 8 (entered 1 0 Head)
    ∷ turn 1 (command_to 0 2 0xa2 2) 3 8 (Enter 2 0 Ordered ∷ [])
    ∷ turn 1 (command_to 0 3 0xa3 3) 4 8 (entered 3 0 Head)
    ∷ done 1 0 4 9 (Leave 1 0 ∷ Send 1 1 (Scsi 0xa1 0 None) ∷ [])
    ∷ done 2 0 4 9 (Ignore Stale ∷ [])
    ∷ done 3 0 4 10 (Leave 3 0 ∷ Send 1 2 (Scsi 0xa3 0 None) ∷ Enable 2 0 ∷ [])
    ∷ [])
unfolding Rules.bars_as
heads_bar_ordered = refl

-- several commands become enabled when one leaves: the oldest first
pub several_enabled : Worked (setting 1 8) (
    turn 1 (command_to 0 2 0xa1 1) 2 8 (entered 1 0 Ordered)
    ∷ turn 1 (command 0xa2 2) 3 8 (Enter 2 0 Simple ∷ [])
    ∷ turn 1 (command_to 0 0 0xa3 3) 4 8 (Enter 3 0 Simple ∷ [])
    ∷ turn 1 (command_to 0 2 0xa4 4) 5 8 (Enter 4 0 Ordered ∷ [])
    ∷ done 1 0 5 9 (Leave 1 0 ∷ Send 1 1 (Scsi 0xa1 0 None) ∷ Enable 2 0 ∷ Enable 3 0 ∷ [])
    ∷ done 3 0 5 10 (Leave 3 0 ∷ Send 1 2 (Scsi 0xa3 0 None) ∷ [])
    ∷ done 2 0 5 11 (Leave 2 0 ∷ Send 1 3 (Scsi 0xa2 0 None) ∷ Enable 4 0 ∷ [])
    ∷ [])
unfolding Rules.bars_as
several_enabled = refl
