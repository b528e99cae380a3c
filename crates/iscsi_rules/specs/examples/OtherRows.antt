-- Worked recordings: requests that are passed over or rejected at arrival, NOP-Out and Text Requests.
use Rattle.std.specs.Prelude.{◌≡◌, List, [], ◌∷◌, refl}
use Rattle.iscsi_wire.specs.declared.reply.Reply.TheVariants.{Nop, Reject}
use Rattle.iscsi_wire.specs.Fields.{request_of}
use Rattle.iscsi_tasks.specs.Rules as Rules
use Rattle.iscsi_rules.specs.declared.effect.Effect.TheVariants.{Deliver, Immediate, Send, Ignore}
use Rattle.iscsi_rules.specs.declared.effect.Why.TheVariants.{Data}
use Rattle.iscsi_rules.specs.declared.event.Event.{Event}
use Rattle.iscsi_rules.specs.declared.event.Event.TheVariants.{Arrive}
use Rattle.iscsi_rules.specs.rules.Run.{run_of}
use Rattle.iscsi_rules.specs.examples.Rows.{Worked, NO_TAG, head, nop, nop_now, setting, entry, turn, at_once, is_held, is_ignored}

-- requests other than SCSI Commands: a NOP-Out without a tag, one with a tag, a Text Request, an unknown opcode, Data-Out
abbrev pub other_requests : List Event
other_requests =
    Arrive 1 (head 0x40 0x80 0xffff_ffff 1)
    ∷ Arrive 1 (head 0x00 0x80 0xb1 1)
    ∷ Arrive 1 (head 0x04 0x80 0xb2 2)
    ∷ Arrive 1 (head 0x43 0 0xb3 9)
    ∷ Arrive 1 (head 0x05 0 0xb4 3)
    ∷ Arrive 1 (head 0x10 0 0xb5 3)
    ∷ []

pub other_requests_log : run_of (setting 1 32) other_requests ≡
    entry 1 0x20 (Immediate (request_of 1 (head 0x40 0x80 0xffff_ffff 1)) ∷ [])
    ∷ entry 2 0x21 (Deliver (request_of 1 (head 0x00 0x80 0xb1 1)) ∷ Send 1 1 (Nop 0xb1) ∷ [])
    ∷ entry 3 0x22 (Deliver (request_of 1 (head 0x04 0x80 0xb2 2)) ∷ Send 1 2 (Reject 5 (head 0x04 0x80 0xb2 2)) ∷ [])
    ∷ entry 3 0x22 (Send 1 3 (Reject 5 (head 0x43 0 0xb3 9)) ∷ [])
    ∷ entry 3 0x22 (Ignore Data ∷ [])
    ∷ entry 3 0x22 (Ignore Data ∷ [])
    ∷ []
unfolding Rules.bars_as
other_requests_log = refl

-- SCSI Data-Out and SNACK are passed over, with the I bit or without. The bit 80 of byte 0 plays no part
pub data_is_passed_over : Worked (setting 1 4) (
    is_ignored 1 (head 0x05 0x80 0xb1 1) Data 1 4
    ∷ is_ignored 1 (head 0x45 0x80 0xb1 1) Data 1 4
    ∷ is_ignored 1 (head 0x10 0x80 0xb1 1) Data 1 4
    ∷ is_ignored 1 (head 0x50 0x80 0xb1 9) Data 1 4
    ∷ is_ignored 1 (head 0x85 0x80 0xb1 1) Data 1 4
    ∷ turn 1 (nop 0xb2 1) 2 5 (Send 1 1 (Nop 0xb2) ∷ [])
    ∷ [])
unfolding Rules.bars_as
data_is_passed_over = refl

-- another opcode is rejected, with the I bit or without, whatever its number is, and no number is received by it
pub unknown_opcodes : Worked (setting 1 4) (
    (Arrive 1 (head 0x03 0x80 0xb1 1), entry 1 4 (Send 1 1 (Reject 5 (head 0x03 0x80 0xb1 1)) ∷ []))
    ∷ (Arrive 1 (head 0x43 0x80 0xb1 1), entry 1 4 (Send 1 2 (Reject 5 (head 0x43 0x80 0xb1 1)) ∷ []))
    ∷ (Arrive 1 (head 0x07 0x80 0xb1 0x99), entry 1 4 (Send 1 3 (Reject 5 (head 0x07 0x80 0xb1 0x99)) ∷ []))
    ∷ (Arrive 1 (head 0x3f 0x80 0xffff_ffff 1), entry 1 4 (Send 1 4 (Reject 5 (head 0x3f 0x80 0xffff_ffff 1)) ∷ []))
    ∷ turn 1 (nop 0xb2 1) 2 5 (Send 1 5 (Nop 0xb2) ∷ [])
    ∷ [])
unfolding Rules.bars_as
unknown_opcodes = refl

-- a NOP-Out with a tag is answered, one without isn't; a numbered one uses its number in either case
pub nop_outs : Worked (setting 1 4) (
    turn 1 (nop NO_TAG 1) 2 5 []
    ∷ turn 1 (nop 0xb1 2) 3 6 (Send 1 1 (Nop 0xb1) ∷ [])
    ∷ at_once 1 (nop_now NO_TAG 3) 3 6 []
    ∷ at_once 1 (nop_now 0xb2 3) 3 6 (Send 1 2 (Nop 0xb2) ∷ [])
    ∷ [])
unfolding Rules.bars_as
nop_outs = refl

-- a Text Request is rejected when it executes, whatever its tag is
pub text_requests : Worked (setting 1 4) (
    at_once 1 (head 0x44 0x80 0xb1 1) 1 4 (Send 1 1 (Reject 5 (head 0x44 0x80 0xb1 1)) ∷ [])
    ∷ is_held 1 (head 0x04 0x80 0xb2 2) 1 4
    ∷ turn 1 (head 0x04 0x80 NO_TAG 1) 3 6 (
    Send 1 2 (Reject 5 (head 0x04 0x80 NO_TAG 1))
    ∷ Deliver (request_of 1 (head 0x04 0x80 0xb2 2)) ∷ Send 1 3 (Reject 5 (head 0x04 0x80 0xb2 2)) ∷ [])
    ∷ [])
unfolding Rules.bars_as
text_requests = refl
