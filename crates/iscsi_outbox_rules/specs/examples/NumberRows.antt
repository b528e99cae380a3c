-- Worked lists: numbers, own PDUs, and other sessions.
use Rattle.std.specs.Prelude.{List, ◌≡◌, [], ◌∷◌, replicate, refl, true, ◌++◌}
use Rattle.iscsi_wire.specs.declared.reply.Reply.TheVariants.{Task, Nop}
use Rattle.iscsi_wire.specs.Replies.{NO_TAG}
use Rattle.iscsi_tasks.specs.Rules as Rules
use Rattle.iscsi_rules.specs.examples.Rows.{command, nop, function_now, setting}
use Rattle.iscsi_outbox_rules.specs.declared.own_pdu.OwnPdu.TheVariants.{OfCommand, OfConnection}
use Rattle.iscsi_outbox_rules.specs.declared.own_pdu.PutRefusal.TheVariants.{Unfit, Gone, Full}
use Rattle.iscsi_outbox_rules.specs.rules.Calls.{Clears}
use Rattle.iscsi_outbox_rules.specs.rules.Boxes.{Owns, Pings}
use Rattle.iscsi_outbox_rules.specs.rules.Handing.{header_with}
use Rattle.iscsi_outbox_rules.specs.examples.Rows.{outbox, Calls, Quiet, Worked, arrives, joins, goes, replies, none_goes, data_of, message, own_nop, puts, is_refused, Row}

-- numbers are those of the moment of handing out: StatSN in sequence with the target's own PDUs, ExpCmdSN and MaxCmdSN of the
-- last event that was taken
abbrev pub numbered_at_the_moment_rows : List Row
numbered_at_the_moment_rows =
    joins 1 0xffff_ffff
    ∷ arrives 1 (nop 0xc1 1)
    ∷ puts (own_nop 1 5)
    ∷ puts (message 1)
    ∷ arrives 1 (nop 0xc2 2)
    ∷ replies 1 (Nop 0xc1) 0xffff_ffff 3 6
    ∷ goes 1 (Owns (own_nop 1 5)) 0 3 6
    ∷ goes 1 (Owns (message 1)) 0 3 6
    ∷ arrives 1 (command 0xa1 3)
    ∷ replies 1 (Nop 0xc2) 1 4 6
    ∷ []

pub numbered_at_the_moment : Worked (outbox (setting 1 4)) numbered_at_the_moment_rows
unfolding Rules.bars_as
numbered_at_the_moment = refl

-- which own PDUs aren't taken
abbrev pub refused_own_pdus_rows : List Row
refused_own_pdus_rows =
    joins 1 1
    ∷ is_refused (own_nop 1 0x8000_0000) Unfit
    ∷ is_refused (OfConnection 1 (0x25 ∷ replicate 47 0)) Unfit
    ∷ is_refused (OfCommand 1 (0x25 ∷ 1 ∷ replicate 46 0)) Unfit
    ∷ is_refused (data_of 1) Gone
    ∷ puts (own_nop 1 NO_TAG)
    ∷ puts (message 1)
    ∷ puts (message 1)
    ∷ puts (message 1)
    ∷ is_refused (message 1) Full
    ∷ []

pub refused_own_pdus : Worked (outbox (setting 1 4)) refused_own_pdus_rows
unfolding Rules.bars_as
refused_own_pdus = refl

-- where other sessions have the unit, a reset waits until they are cleared, too
abbrev pub reset_of_shared_rows : List Row
reset_of_shared_rows =
    joins 1 1
    ∷ arrives 1 (function_now 5 1 0xb1 0 0)
    ∷ arrives 1 (function_now 2 1 0xb2 0 0)
    ∷ none_goes 1
    ∷ (Calls (Clears 1), Quiet)
    ∷ none_goes 1
    ∷ (Calls (Clears 0), Quiet)
    ∷ replies 1 (Task 0xb1 0) 1 1 4
    ∷ replies 1 (Task 0xb2 0) 2 1 4
    ∷ []

pub reset_of_shared : Worked (record (outbox (setting 1 4)) { shared = true }) reset_of_shared_rows
unfolding Rules.bars_as
reset_of_shared = refl

-- the bytes of an R2T, in which the numbers are filled in, and of a ping
pub numbers_of_r2t : header_with (Owns (OfCommand 1 (0x31 ∷ 0x80 ∷ replicate 46 7))) 1 2 0x0304 ≡
    0x31 ∷ 0x80 ∷ replicate 22 7 ++ 0 ∷ 0 ∷ 0 ∷ 1 ∷ 0 ∷ 0 ∷ 0 ∷ 2 ∷ 0 ∷ 0 ∷ 3 ∷ 4 ∷ replicate 12 7
numbers_of_r2t = refl

pub bytes_of_ping : header_with (Pings 0x8000_0005) 1 2 3 ≡
    0x20 ∷ 0x80 ∷ replicate 14 0 ++ replicate 4 0xff ++ 0x80 ∷ 0 ∷ 0 ∷ 5 ∷ 0 ∷ 0 ∷ 0 ∷ 1 ∷ 0 ∷ 0 ∷ 0 ∷ 2 ∷ 0 ∷ 0 ∷ 0 ∷ 3 ∷ replicate 12 0
bytes_of_ping = refl
