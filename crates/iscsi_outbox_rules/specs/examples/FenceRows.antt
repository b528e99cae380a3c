-- Worked lists: the response fence, of functions of several tasks and of ABORT TASKs that found none; and pings.
use Rattle.std.specs.Prelude.{List, [], ◌∷◌, refl, false, None}
use Rattle.iscsi_wire.specs.declared.reply.Reply.TheVariants.{Scsi, Task, Nop}
use Rattle.iscsi_tasks.specs.Rules as Rules
use Rattle.iscsi_rules.specs.examples.Rows.{command, nop_now, function_now, of_two}
use Rattle.iscsi_outbox_rules.specs.rules.Boxes.{Owns, Pings}
use Rattle.iscsi_outbox_rules.specs.examples.Rows.{outbox, Worked, arrives, completes, joins, is_lost, is_written, acknowledges, answers_ping, goes, replies, none_goes, data_of, message, puts, Row}

-- what entered before on another connection goes first, and is known to have arrived; what entered behind goes behind
abbrev pub fence_rows : List Row
fence_rows =
    joins 1 1
    ∷ joins 2 1
    ∷ arrives 1 (nop_now 0xc1 1)
    ∷ arrives 2 (function_now 2 1 0xb1 0 0)
    ∷ arrives 1 (nop_now 0xc2 1)
    ∷ arrives 2 (nop_now 0xc3 1)
    ∷ none_goes 2
    ∷ replies 1 (Nop 0xc1) 1 1 4
    ∷ goes 1 (Pings 0x8000_0000) 2 1 4
    ∷ none_goes 1
    ∷ is_written 1
    ∷ is_written 1
    ∷ none_goes 2
    ∷ answers_ping 1 1 0x8000_0000
    ∷ replies 2 (Task 0xb1 0) 1 1 4
    ∷ goes 2 (Pings 0x8000_0000) 2 1 4
    ∷ replies 2 (Nop 0xc3) 2 1 4
    ∷ none_goes 1
    ∷ acknowledges 2 1
    ∷ none_goes 1
    ∷ acknowledges 2 2
    ∷ replies 1 (Nop 0xc2) 2 1 4
    ∷ []

pub fence : Worked (outbox (of_two 4)) fence_rows
unfolding Rules.bars_as
fence = refl

-- a ping goes before what waits behind the fence; its answer tells that all before it arrived, whatever its ExpStatSN is
abbrev pub ping_first_rows : List Row
ping_first_rows =
    joins 1 1
    ∷ joins 2 1
    ∷ puts (message 1)
    ∷ goes 1 (Owns (message 1)) 1 1 4
    ∷ arrives 2 (function_now 2 1 0xb1 0 0)
    ∷ puts (message 1)
    ∷ none_goes 2
    ∷ goes 1 (Pings 0x8000_0000) 2 1 4
    ∷ none_goes 1
    ∷ answers_ping 1 1 0x8000_0001
    ∷ none_goes 2
    ∷ answers_ping 1 1 0x8000_0000
    ∷ replies 2 (Task 0xb1 0) 1 1 4
    ∷ []

pub ping_first : Worked (outbox (of_two 4)) ping_first_rows
unfolding Rules.bars_as
ping_first = refl

-- what is sent on a connection that hasn't joined goes nowhere, and holds nothing back: not as the connection joins either
abbrev pub unjoined_fence_rows : List Row
unjoined_fence_rows =
    joins 1 1
    ∷ arrives 2 (function_now 2 1 0xb1 0 0)
    ∷ arrives 2 (nop_now 0xc1 2)
    ∷ arrives 1 (nop_now 0xc2 1)
    ∷ arrives 1 (nop_now 0xc3 1)
    ∷ replies 1 (Nop 0xc2) 1 1 4
    ∷ joins 2 1
    ∷ none_goes 2
    ∷ replies 1 (Nop 0xc3) 2 1 4
    ∷ arrives 2 (function_now 2 1 0xb2 0 0)
    ∷ none_goes 2
    ∷ acknowledges 1 3
    ∷ replies 2 (Task 0xb2 0) 1 1 4
    ∷ []

pub unjoined_fence : Worked (outbox (of_two 4)) unjoined_fence_rows
unfolding Rules.bars_as
unjoined_fence = refl

-- two fences on two connections: the one that entered first goes first
abbrev pub two_fences_rows : List Row
two_fences_rows =
    joins 1 1
    ∷ joins 2 1
    ∷ arrives 2 (function_now 2 1 0xb1 0 0)
    ∷ arrives 1 (function_now 4 1 0xb2 0 0)
    ∷ none_goes 1
    ∷ replies 2 (Task 0xb1 0) 1 1 4
    ∷ none_goes 1
    ∷ acknowledges 2 2
    ∷ replies 1 (Task 0xb2 0) 1 1 4
    ∷ []

pub two_fences : Worked (outbox (of_two 4)) two_fences_rows
unfolding Rules.bars_as
two_fences = refl

-- with one open connection nothing waits, and there are no pings
abbrev pub one_connection_rows : List Row
one_connection_rows =
    joins 1 1
    ∷ arrives 1 (nop_now 0xc1 1)
    ∷ arrives 1 (function_now 2 1 0xb1 0 0)
    ∷ replies 1 (Nop 0xc1) 1 1 4
    ∷ replies 1 (Task 0xb1 0) 2 1 4
    ∷ none_goes 1
    ∷ []

pub one_connection : Worked (outbox (of_two 4)) one_connection_rows
unfolding Rules.bars_as
one_connection = refl

-- what a lost connection handed out is waited for no more
abbrev pub lost_before_fence_rows : List Row
lost_before_fence_rows =
    joins 1 1
    ∷ joins 2 1
    ∷ arrives 1 (nop_now 0xc1 1)
    ∷ arrives 1 (nop_now 0xc2 1)
    ∷ arrives 2 (function_now 2 1 0xb1 0 0)
    ∷ replies 1 (Nop 0xc1) 1 1 4
    ∷ none_goes 2
    ∷ is_lost 1
    ∷ replies 2 (Task 0xb1 0) 1 1 4
    ∷ none_goes 1
    ∷ []

pub lost_before_fence : Worked (outbox (of_two 4)) lost_before_fence_rows
unfolding Rules.bars_as
lost_before_fence = refl

-- an ExpStatSN that wasn't handed out yet says nothing
abbrev pub not_handed_out_yet_rows : List Row
not_handed_out_yet_rows =
    joins 1 1
    ∷ joins 2 1
    ∷ arrives 1 (nop_now 0xc1 1)
    ∷ arrives 2 (function_now 2 1 0xb1 0 0)
    ∷ replies 1 (Nop 0xc1) 1 1 4
    ∷ acknowledges 1 3
    ∷ none_goes 2
    ∷ acknowledges 1 2
    ∷ replies 2 (Task 0xb1 0) 1 1 4
    ∷ []

pub not_handed_out_yet : Worked (outbox (of_two 4)) not_handed_out_yet_rows
unfolding Rules.bars_as
not_handed_out_yet = refl

-- where that was chosen, written is enough, and there are no pings
abbrev pub written_is_enough_rows : List Row
written_is_enough_rows =
    joins 1 1
    ∷ joins 2 1
    ∷ arrives 1 (nop_now 0xc1 1)
    ∷ arrives 2 (function_now 2 1 0xb1 0 0)
    ∷ arrives 1 (nop_now 0xc2 1)
    ∷ replies 1 (Nop 0xc1) 1 1 4
    ∷ none_goes 1
    ∷ none_goes 2
    ∷ is_written 1
    ∷ replies 2 (Task 0xb1 0) 1 1 4
    ∷ replies 1 (Nop 0xc2) 2 1 4
    ∷ []

pub written_is_enough : Worked (record (outbox (of_two 4)) { acknowledged = false }) written_is_enough_rows
unfolding Rules.bars_as
written_is_enough = refl

-- a command completed on connection 2, whose data and status wait: an ABORT TASK of it on connection 1 finds none. Its answer goes
-- out when both are known to have arrived, and not while they wait or are under way; what is sent behind it on connection 2 goes
-- behind it. Then the tag may be used again
abbrev pub no_task_rows : List Row
no_task_rows =
    joins 1 1
    ∷ joins 2 1
    ∷ arrives 2 (command 0xa1 1)
    ∷ puts (data_of 1)
    ∷ completes 1 0
    ∷ arrives 1 (function_now 1 2 0xb1 0xa1 1)
    ∷ arrives 2 (nop_now 0xc1 2)
    ∷ none_goes 1
    ∷ goes 2 (Owns (data_of 1)) 1 2 5
    ∷ none_goes 1
    ∷ replies 2 (Scsi 0xa1 0 None) 1 2 5
    ∷ none_goes 1
    ∷ goes 2 (Pings 0x8000_0000) 2 2 5
    ∷ none_goes 2
    ∷ acknowledges 2 2
    ∷ replies 1 (Task 0xb1 1) 1 2 5
    ∷ none_goes 2
    ∷ arrives 1 (command 0xa1 2)
    ∷ acknowledges 1 2
    ∷ replies 2 (Nop 0xc1) 2 3 5
    ∷ []

pub no_task : Worked (outbox (of_two 4)) no_task_rows
unfolding Rules.bars_as
no_task = refl

-- where written is enough, it goes out when both are written
abbrev pub no_task_written_rows : List Row
no_task_written_rows =
    joins 1 1
    ∷ joins 2 1
    ∷ arrives 2 (command 0xa1 1)
    ∷ puts (data_of 1)
    ∷ completes 1 0
    ∷ arrives 1 (function_now 1 2 0xb1 0xa1 1)
    ∷ goes 2 (Owns (data_of 1)) 1 2 5
    ∷ replies 2 (Scsi 0xa1 0 None) 1 2 5
    ∷ none_goes 1
    ∷ is_written 2
    ∷ none_goes 1
    ∷ is_written 2
    ∷ replies 1 (Task 0xb1 1) 1 2 5
    ∷ []

pub no_task_written : Worked (record (outbox (of_two 4)) { acknowledged = false }) no_task_written_rows
unfolding Rules.bars_as
no_task_written = refl

-- a connection that is lost holds it back no more
abbrev pub no_task_lost_rows : List Row
no_task_lost_rows =
    joins 1 1
    ∷ joins 2 1
    ∷ arrives 2 (command 0xa1 1)
    ∷ puts (data_of 1)
    ∷ completes 1 0
    ∷ goes 2 (Owns (data_of 1)) 1 2 5
    ∷ arrives 1 (function_now 1 2 0xb1 0xa1 1)
    ∷ none_goes 1
    ∷ is_lost 2
    ∷ replies 1 (Task 0xb1 1) 1 2 5
    ∷ []

pub no_task_lost : Worked (outbox (of_two 4)) no_task_lost_rows
unfolding Rules.bars_as
no_task_lost = refl
