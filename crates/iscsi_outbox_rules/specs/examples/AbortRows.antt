-- Worked lists: the answer to an abort, held until the work has stopped.
use Rattle.std.specs.Prelude.{List, [], ◌∷◌, refl, None}
use Rattle.iscsi_wire.specs.declared.reply.Reply.TheVariants.{Scsi, Task, Nop}
use Rattle.iscsi_tasks.specs.Rules as Rules
use Rattle.iscsi_rules.specs.examples.Rows.{command, command_to, nop_now, function_now, setting, of_two}
use Rattle.iscsi_outbox_rules.specs.declared.own_pdu.PutRefusal.TheVariants.{Gone}
use Rattle.iscsi_outbox_rules.specs.rules.Calls.{Stops}
use Rattle.iscsi_outbox_rules.specs.rules.Boxes.{Owns, Pings}
use Rattle.iscsi_outbox_rules.specs.examples.Rows.{outbox, Calls, WasStill, Worked, arrives, completes, joins, stops, is_written, answers_ping, goes, replies, none_goes, data_of, puts, is_refused, Row}

-- an abort of a command that was started is answered when its unit has stopped, and no data of it is taken meanwhile
abbrev pub abort_held_rows : List Row
abort_held_rows =
    joins 1 1
    ∷ arrives 1 (command 0xa1 1)
    ∷ arrives 1 (function_now 1 2 0xb1 0xa1 1)
    ∷ none_goes 1
    ∷ is_refused (data_of 1) Gone
    ∷ stops 1
    ∷ (Calls (Stops 1), WasStill)
    ∷ replies 1 (Task 0xb1 0) 1 2 5
    ∷ none_goes 1
    ∷ []

pub abort_held : Worked (outbox (setting 1 4)) abort_held_rows
unfolding Rules.bars_as
abort_held = refl

-- other replies don't wait for it
abbrev pub others_go_on_rows : List Row
others_go_on_rows =
    joins 1 1
    ∷ arrives 1 (command 0xa1 1)
    ∷ arrives 1 (function_now 1 2 0xb1 0xa1 1)
    ∷ arrives 1 (nop_now 0xc1 2)
    ∷ replies 1 (Nop 0xc1) 1 2 5
    ∷ stops 1
    ∷ replies 1 (Task 0xb1 0) 2 2 5
    ∷ []

pub others_go_on : Worked (outbox (setting 1 4)) others_go_on_rows
unfolding Rules.bars_as
others_go_on = refl

-- a second abort finds no task: its answer waits, too
abbrev pub second_abort_rows : List Row
second_abort_rows =
    joins 1 1
    ∷ arrives 1 (command 0xa1 1)
    ∷ arrives 1 (function_now 1 2 0xb1 0xa1 1)
    ∷ arrives 1 (function_now 1 2 0xb2 0xa1 1)
    ∷ none_goes 1
    ∷ stops 1
    ∷ replies 1 (Task 0xb1 0) 1 2 5
    ∷ replies 1 (Task 0xb2 1) 2 2 5
    ∷ none_goes 1
    ∷ []

pub second_abort : Worked (outbox (setting 1 4)) second_abort_rows
unfolding Rules.bars_as
second_abort = refl

-- a reset after an abort waits for what the abort took out; an abort of another tag, and a query, don't
abbrev pub reset_after_abort_rows : List Row
reset_after_abort_rows =
    joins 1 1
    ∷ arrives 1 (command 0xa1 1)
    ∷ arrives 1 (command 0xa2 2)
    ∷ arrives 1 (function_now 1 3 0xb1 0xa1 1)
    ∷ arrives 1 (function_now 5 3 0xb2 0 0)
    ∷ arrives 1 (function_now 1 3 0xb3 0xa2 2)
    ∷ stops 2
    ∷ replies 1 (Task 0xb3 1) 1 3 6
    ∷ none_goes 1
    ∷ stops 1
    ∷ replies 1 (Task 0xb1 0) 2 3 6
    ∷ replies 1 (Task 0xb2 0) 3 3 6
    ∷ none_goes 1
    ∷ []

pub reset_after_abort : Worked (outbox (setting 1 4)) reset_after_abort_rows
unfolding Rules.bars_as
reset_after_abort = refl

-- what was never started is waited for by nobody: a dormant command, and one that a function takes out in the event that
-- enables it
abbrev pub never_started_rows : List Row
never_started_rows =
    joins 1 1
    ∷ arrives 1 (command 0xa1 1)
    ∷ arrives 1 (command_to 0 2 0xa2 2)
    ∷ arrives 1 (function_now 1 3 0xb1 0xa2 2)
    ∷ replies 1 (Task 0xb1 0) 1 3 5
    ∷ completes 1 0
    ∷ replies 1 (Scsi 0xa1 0 None) 2 3 6
    ∷ arrives 1 (function_now 2 4 0xb2 0 0)
    ∷ none_goes 1
    ∷ arrives 1 (command 0xa3 3)
    ∷ replies 1 (Task 0xb2 0) 3 4 7
    ∷ []

pub never_started : Worked (outbox (setting 1 4)) never_started_rows
unfolding Rules.bars_as
never_started = refl

-- data before the response, data of an aborted command dropped
abbrev pub data_of_commands_rows : List Row
data_of_commands_rows =
    joins 1 1
    ∷ arrives 1 (command 0xa1 1)
    ∷ arrives 1 (command 0xa2 2)
    ∷ puts (data_of 1)
    ∷ puts (data_of 2)
    ∷ puts (data_of 2)
    ∷ completes 2 0
    ∷ arrives 1 (function_now 1 3 0xb1 0xa1 1)
    ∷ is_refused (data_of 2) Gone
    ∷ goes 1 (Owns (data_of 2)) 1 3 6
    ∷ goes 1 (Owns (data_of 2)) 1 3 6
    ∷ replies 1 (Scsi 0xa2 0 None) 1 3 6
    ∷ none_goes 1
    ∷ stops 1
    ∷ replies 1 (Task 0xb1 0) 2 3 6
    ∷ []

pub data_of_commands : Worked (outbox (setting 1 4)) data_of_commands_rows
unfolding Rules.bars_as
data_of_commands = refl

-- an abort on another connection waits until data that was handed out is known to have arrived, and a ping asks for that
abbrev pub data_under_way_rows : List Row
data_under_way_rows =
    joins 1 1
    ∷ joins 2 1
    ∷ arrives 1 (command 0xa1 1)
    ∷ puts (data_of 1)
    ∷ goes 1 (Owns (data_of 1)) 1 2 4
    ∷ is_written 1
    ∷ arrives 2 (function_now 1 2 0xb1 0xa1 1)
    ∷ stops 1
    ∷ none_goes 2
    ∷ goes 1 (Pings 0x8000_0000) 1 2 5
    ∷ none_goes 1
    ∷ answers_ping 1 1 0x8000_0000
    ∷ replies 2 (Task 0xb1 0) 1 2 5
    ∷ none_goes 1
    ∷ []

pub data_under_way : Worked (outbox (of_two 4)) data_under_way_rows
unfolding Rules.bars_as
data_under_way = refl

-- on its own connection it goes behind the data
abbrev pub behind_data_rows : List Row
behind_data_rows =
    joins 1 1
    ∷ joins 2 1
    ∷ arrives 1 (command 0xa1 1)
    ∷ puts (data_of 1)
    ∷ goes 1 (Owns (data_of 1)) 1 2 4
    ∷ arrives 1 (function_now 1 2 0xb1 0xa1 1)
    ∷ stops 1
    ∷ goes 1 (Pings 0x8000_0000) 1 2 5
    ∷ replies 1 (Task 0xb1 0) 1 2 5
    ∷ none_goes 1
    ∷ []

pub behind_data : Worked (outbox (of_two 4)) behind_data_rows
unfolding Rules.bars_as
behind_data = refl
