-- Worked recordings: SCSI Commands, and what refuses them.
use Rattle.std.specs.Prelude.{◌≡◌, ℕ, List, [], ◌∷◌, ◌++◌, map, replicate, refl, Some, None}
use Rattle.iscsi_wire.specs.declared.reply.Reply.TheVariants.{Scsi, Reject}
use Rattle.iscsi_wire.specs.Fields.{request_of}
use Rattle.iscsi_tasks.specs.declared.task.Attr.TheVariants.{Simple, Ordered, Head}
use Rattle.iscsi_tasks.specs.Rules as Rules
use Rattle.iscsi_rules.specs.declared.effect.Effect.TheVariants.{Deliver, Immediate, Enter, Enable, Leave, Send}
use Rattle.iscsi_rules.specs.declared.event.Event.{Event}
use Rattle.iscsi_rules.specs.declared.event.Event.TheVariants.{Arrive}
use Rattle.iscsi_rules.specs.declared.entry.Entry.{Entry}
use Rattle.iscsi_rules.specs.rules.Run.{run_of}
use Rattle.iscsi_rules.specs.examples.Rows.{Row, Worked, NO_TAG, absent_unit, command, command_to, command_now, command_lun, immediate_command, setting, of_two, entry, turn, at_once, is_held, done, entered}

-- a full task set, an absent unit, a tag in use, and a bad ATTR
abbrev pub refused_commands : List Event
refused_commands =
    Arrive 1 (command 0xa1 1)
    ∷ Arrive 1 (command 0xa2 2)
    ∷ Arrive 1 (command_to 1 1 0xa3 3)
    ∷ Arrive 1 (command 0xa1 4)
    ∷ Arrive 1 (command_to 0 5 0xa5 5)
    ∷ []

pub refused_commands_log : run_of (record (setting 1 32) { depth = 1 }) refused_commands ≡
    entry 2 0x20 (Deliver (request_of 1 (command 0xa1 1)) ∷ Enter 1 0 Simple ∷ Enable 1 0 ∷ [])
    ∷ entry 3 0x21 (Deliver (request_of 1 (command 0xa2 2)) ∷ Send 1 1 (Scsi 0xa2 0x28 None) ∷ [])
    ∷ entry 4 0x22 (Deliver (request_of 1 (command_to 1 1 0xa3 3)) ∷ Send 1 2 (Scsi 0xa3 2 (Some (record { key = 5; asc = 0x25; ascq = 0 }))) ∷ [])
    ∷ entry 5 0x23 (Deliver (request_of 1 (command 0xa1 4)) ∷ Send 1 3 (Reject 7 (command 0xa1 4)) ∷ [])
    ∷ entry 6 0x24 (Deliver (request_of 1 (command_to 0 5 0xa5 5)) ∷ Send 1 4 (Reject 9 (command_to 0 5 0xa5 5)) ∷ [])
    ∷ []
unfolding Rules.bars_as
refused_commands_log = refl

-- without a tag a SCSI Command is rejected; a numbered one has used its number
pub commands_without_tag : Worked (setting 1 4) (
    turn 1 (command NO_TAG 1) 2 5 (Send 1 1 (Reject 9 (command NO_TAG 1)) ∷ [])
    ∷ at_once 1 (command_now 0 1 NO_TAG 2) 2 5 (Send 1 2 (Reject 9 (command_now 0 1 NO_TAG 2)) ∷ [])
    ∷ [])
unfolding Rules.bars_as
commands_without_tag = refl

-- untagged commands are SIMPLE
pub attributes : Worked (record (setting 1 4) { units = 4 }) (
    turn 1 (command_to 0 0 0xa1 1) 2 4 (entered 1 0 Simple)
    ∷ turn 1 (command_to 1 1 0xa2 2) 3 4 (entered 2 1 Simple)
    ∷ turn 1 (command_to 2 2 0xa3 3) 4 4 (entered 3 2 Ordered)
    ∷ turn 1 (command_to 3 3 0xa4 4) 5 4 (entered 4 3 Head)
    ∷ [])
unfolding Rules.bars_as
attributes = refl

-- the other values of ATTR are rejected
pub refused_attributes : Worked (setting 1 4) (
    turn 1 (command_to 0 4 0xa1 1) 2 5 (Send 1 1 (Reject 9 (command_to 0 4 0xa1 1)) ∷ [])
    ∷ turn 1 (command_to 0 5 0xa1 2) 3 6 (Send 1 2 (Reject 9 (command_to 0 5 0xa1 2)) ∷ [])
    ∷ turn 1 (command_to 0 6 0xa1 3) 4 7 (Send 1 3 (Reject 9 (command_to 0 6 0xa1 3)) ∷ [])
    ∷ turn 1 (command_to 0 7 0xa1 4) 5 8 (Send 1 4 (Reject 9 (command_to 0 7 0xa1 4)) ∷ [])
    ∷ [])
unfolding Rules.bars_as
refused_attributes = refl

-- a tag is in use in the whole session, on every connection and unit. That of a request that is held isn't in use yet
pub tags_in_use : Worked (record (of_two 4) { units = 2 }) (
    turn 2 (command_to 1 1 0xa1 1) 2 4 (entered 1 1 Simple)
    ∷ turn 1 (command 0xa1 2) 3 5 (Send 1 1 (Reject 7 (command 0xa1 2)) ∷ [])
    ∷ at_once 1 (command_now 0 1 0xa1 2) 3 5 (Send 1 2 (Reject 7 (command_now 0 1 0xa1 2)) ∷ [])
    ∷ is_held 1 (command 0xa2 5) 3 5
    ∷ turn 1 (command 0xa2 3) 4 5 (entered 2 0 Simple)
    ∷ turn 1 (command 0xa4 4) 6 6 (Enter 3 0 Simple ∷ Enable 3 0 ∷ Deliver (request_of 1 (command 0xa2 5)) ∷ Send 1 3 (Reject 7 (command 0xa2 5)) ∷ [])
    ∷ [])
unfolding Rules.bars_as
tags_in_use = refl

-- a bad ATTR comes before a tag in use, and that before an absent unit
pub tag_after_attribute : Worked (setting 1 4) (
    turn 1 (command 0xa1 1) 2 4 (entered 1 0 Simple)
    ∷ turn 1 (command_to 0 4 0xa1 2) 3 5 (Send 1 1 (Reject 9 (command_to 0 4 0xa1 2)) ∷ [])
    ∷ turn 1 (command_to 1 1 0xa1 3) 4 6 (Send 1 2 (Reject 7 (command_to 1 1 0xa1 3)) ∷ [])
    ∷ [])
unfolding Rules.bars_as
tag_after_attribute = refl

-- both forms of a single-level LUN name a unit; a LUN with lower levels, of another form, or above the units names none
pub luns : Worked (record (setting 1 8) { units = 4 }) (
    turn 1 (command_lun (0x40 ∷ 3 ∷ replicate 6 0) 0xa1 1) 2 8 (entered 1 3 Simple)
    ∷ turn 1 (command_lun (0 ∷ 3 ∷ replicate 6 0) 0xa2 2) 3 8 (entered 2 3 Simple)
    ∷ turn 1 (command_lun (0 ∷ 3 ∷ 0 ∷ 1 ∷ replicate 4 0) 0xa3 3) 4 9 (Send 1 1 (Scsi 0xa3 2 (Some absent_unit)) ∷ [])
    ∷ turn 1 (command_lun (0x80 ∷ 3 ∷ replicate 6 0) 0xa4 4) 5 10 (Send 1 2 (Scsi 0xa4 2 (Some absent_unit)) ∷ [])
    ∷ turn 1 (command_lun (1 ∷ 3 ∷ replicate 6 0) 0xa5 5) 6 11 (Send 1 3 (Scsi 0xa5 2 (Some absent_unit)) ∷ [])
    ∷ turn 1 (command_lun (0 ∷ 4 ∷ replicate 6 0) 0xa6 6) 7 12 (Send 1 4 (Scsi 0xa6 2 (Some absent_unit)) ∷ [])
    ∷ turn 1 (command_lun (0x41 ∷ 3 ∷ replicate 6 0) 0xa7 7) 8 13 (Send 1 5 (Scsi 0xa7 2 (Some absent_unit)) ∷ [])
    ∷ [])
unfolding Rules.bars_as
luns = refl

-- a ninth immediate command of a connection is rejected
abbrev pub nine_immediate : List Event
nine_immediate = map (λ t. Arrive 1 (immediate_command t)) (0xa1 ∷ 0xa2 ∷ 0xa3 ∷ 0xa4 ∷ 0xa5 ∷ 0xa6 ∷ 0xa7 ∷ 0xa8 ∷ 0xa9 ∷ [])

abbrev pub immediate_entry : ℕ → ℕ → Entry
immediate_entry t ticket = entry 1 0x20 (Immediate (request_of 1 (immediate_command t)) ∷ Enter ticket 0 Simple ∷ Enable ticket 0 ∷ [])

pub nine_immediate_log : run_of (setting 1 32) nine_immediate ≡
    immediate_entry 0xa1 1
    ∷ immediate_entry 0xa2 2
    ∷ immediate_entry 0xa3 3
    ∷ immediate_entry 0xa4 4
    ∷ immediate_entry 0xa5 5
    ∷ immediate_entry 0xa6 6
    ∷ immediate_entry 0xa7 7
    ∷ immediate_entry 0xa8 8
    ∷ entry 1 0x20 (Immediate (request_of 1 (immediate_command 0xa9)) ∷ Send 1 1 (Reject 6 (immediate_command 0xa9)) ∷ [])
    ∷ []
unfolding Rules.bars_as
nine_immediate_log = refl

-- eight immediate commands of connection 1, for two units
abbrev pub eight_live : List Row
eight_live =
    at_once 1 (command_now 0 1 0xa1 1) 1 0x20 (entered 1 0 Simple)
    ∷ at_once 1 (command_now 1 1 0xa2 1) 1 0x20 (entered 2 1 Simple)
    ∷ at_once 1 (command_now 0 1 0xa3 1) 1 0x20 (entered 3 0 Simple)
    ∷ at_once 1 (command_now 1 1 0xa4 1) 1 0x20 (entered 4 1 Simple)
    ∷ at_once 1 (command_now 0 1 0xa5 1) 1 0x20 (entered 5 0 Simple)
    ∷ at_once 1 (command_now 1 1 0xa6 1) 1 0x20 (entered 6 1 Simple)
    ∷ at_once 1 (command_now 0 1 0xa7 1) 1 0x20 (entered 7 0 Simple)
    ∷ at_once 1 (command_now 1 1 0xa8 1) 1 0x20 (entered 8 1 Simple)
    ∷ []

-- the ninth is rejected, but for one of an absent unit
pub unit_before_crowd : Worked (record (setting 1 32) { units = 2 }) (
    eight_live
    ++ at_once 1 (command_now 2 1 0xb1 1) 1 0x20 (Send 1 1 (Scsi 0xb1 2 (Some absent_unit)) ∷ [])
    ∷ at_once 1 (command_now 1 1 0xb2 1) 1 0x20 (Send 1 2 (Reject 6 (command_now 1 1 0xb2 1)) ∷ [])
    ∷ [])
unfolding Rules.bars_as
unit_before_crowd = refl

-- numbered ones enter still, and immediate ones of another connection
pub crowd_of_one_connection : Worked (record (of_two 32) { units = 2 }) (
    eight_live
    ++ turn 1 (command 0xb1 1) 2 0x20 (entered 9 0 Simple)
    ∷ at_once 2 (command_now 0 1 0xb2 1) 2 0x20 (entered 10 0 Simple)
    ∷ [])
unfolding Rules.bars_as
crowd_of_one_connection = refl

-- where the set is full as well, the ninth is rejected, and a numbered one gets TASK SET FULL
pub crowd_before_full_set : Worked (record (setting 1 32) { units = 2; depth = 4 }) (
    eight_live
    ++ at_once 1 (command_now 0 1 0xb1 1) 1 0x20 (Send 1 1 (Reject 6 (command_now 0 1 0xb1 1)) ∷ [])
    ∷ turn 1 (command 0xb2 1) 2 0x21 (Send 1 2 (Scsi 0xb2 0x28 None) ∷ [])
    ∷ [])
unfolding Rules.bars_as
crowd_before_full_set = refl

-- each unit has a task set of its own, which immediate commands fill as others do. A refused command takes no ticket
pub full_sets : Worked (record (setting 1 4) { units = 2; depth = 1 }) (
    turn 1 (command 0xa1 1) 2 4 (entered 1 0 Simple)
    ∷ at_once 1 (command_now 0 1 0xb1 2) 2 4 (Send 1 1 (Scsi 0xb1 0x28 None) ∷ [])
    ∷ turn 1 (command_to 1 1 0xa2 2) 3 4 (entered 2 1 Simple)
    ∷ done 1 0 3 5 (Leave 1 0 ∷ Send 1 2 (Scsi 0xa1 0 None) ∷ [])
    ∷ at_once 1 (command_now 0 1 0xb2 2) 3 5 (entered 3 0 Simple)
    ∷ turn 1 (command 0xa3 3) 4 6 (Send 1 3 (Scsi 0xa3 0x28 None) ∷ [])
    ∷ [])
unfolding Rules.bars_as
full_sets = refl
