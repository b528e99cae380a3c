-- Worked lists: Logout, lost connections, and joining.
use Rattle.std.specs.Prelude.{List, [], ◌∷◌, refl}
use Rattle.iscsi_wire.specs.declared.reply.Reply.TheVariants.{Task, Nop, Logout}
use Rattle.iscsi_tasks.specs.Rules as Rules
use Rattle.iscsi_rules.specs.examples.Rows.{command, nop_now, function_now, logout_now, of_two}
use Rattle.iscsi_outbox_rules.specs.declared.own_pdu.PutRefusal.TheVariants.{Closed}
use Rattle.iscsi_outbox_rules.specs.rules.Calls.{Joins}
use Rattle.iscsi_outbox_rules.specs.rules.Boxes.{Owns}
use Rattle.iscsi_outbox_rules.specs.examples.Rows.{outbox, Calls, IsRefused, Worked, arrives, joins, is_lost, stops, is_written, goes, replies, none_goes, none_is_left, data_of, message, puts, is_refused, Row}

-- a Logout Response goes behind an answer that waits on its connection; then, and when all is written, nothing is left
abbrev pub logout_behind_abort_rows : List Row
logout_behind_abort_rows =
    joins 1 1
    ∷ joins 2 1
    ∷ arrives 2 (command 0xa1 1)
    ∷ arrives 1 (function_now 1 2 0xb1 0xa1 1)
    ∷ arrives 1 (logout_now 1 0xd1 2 1)
    ∷ none_goes 1
    ∷ is_refused (message 1) Closed
    ∷ stops 1
    ∷ replies 1 (Task 0xb1 0) 1 2 5
    ∷ replies 1 (Logout 0xd1 0) 2 2 5
    ∷ none_goes 1
    ∷ is_written 1
    ∷ none_goes 1
    ∷ is_written 1
    ∷ none_is_left 1
    ∷ is_lost 1
    ∷ none_goes 1
    ∷ []

pub logout_behind_abort : Worked (outbox (of_two 4)) logout_behind_abort_rows
unfolding Rules.bars_as
logout_behind_abort = refl

-- a Logout waits for the commands of the connection that it closes
abbrev pub logout_held_rows : List Row
logout_held_rows =
    joins 1 1
    ∷ joins 2 1
    ∷ arrives 2 (command 0xa2 1)
    ∷ arrives 1 (command 0xa1 2)
    ∷ arrives 1 (logout_now 1 0xd1 3 1)
    ∷ none_goes 1
    ∷ stops 2
    ∷ replies 1 (Logout 0xd1 0) 1 3 5
    ∷ []

pub logout_held : Worked (outbox (of_two 4)) logout_held_rows
unfolding Rules.bars_as
logout_held = refl

-- what waits on a connection that another one's Logout closes is dropped
abbrev pub closed_by_another_rows : List Row
closed_by_another_rows =
    joins 1 1
    ∷ joins 2 1
    ∷ arrives 2 (nop_now 0xc1 1)
    ∷ arrives 2 (command 0xa1 1)
    ∷ arrives 2 (function_now 1 2 0xb1 0xa1 1)
    ∷ arrives 1 (logout_now 1 0xd1 2 2)
    ∷ none_is_left 2
    ∷ none_goes 1
    ∷ stops 1
    ∷ none_is_left 2
    ∷ replies 1 (Logout 0xd1 0) 1 2 5
    ∷ []

pub closed_by_another : Worked (outbox (of_two 4)) closed_by_another_rows
unfolding Rules.bars_as
closed_by_another = refl

-- a Logout of the session closes all: its own connection when its response is written
abbrev pub session_closed_rows : List Row
session_closed_rows =
    joins 1 1
    ∷ joins 2 1
    ∷ arrives 2 (nop_now 0xc1 1)
    ∷ arrives 1 (nop_now 0xc2 1)
    ∷ arrives 1 (logout_now 0 0xd1 1 0)
    ∷ none_is_left 2
    ∷ replies 1 (Nop 0xc2) 1 1 4
    ∷ replies 1 (Logout 0xd1 0) 2 1 4
    ∷ none_goes 1
    ∷ is_written 1
    ∷ is_written 1
    ∷ none_is_left 1
    ∷ []

pub session_closed : Worked (outbox (of_two 4)) session_closed_rows
unfolding Rules.bars_as
session_closed = refl

-- a lost connection: what waits there is dropped, and so are its answers; the session is told by a Logout on it, whose response
-- goes nowhere. What it handed out isn't waited for
abbrev pub connection_lost_rows : List Row
connection_lost_rows =
    joins 1 1
    ∷ joins 2 1
    ∷ arrives 2 (command 0xa1 1)
    ∷ puts (data_of 1)
    ∷ goes 2 (Owns (data_of 1)) 1 2 4
    ∷ puts (data_of 1)
    ∷ arrives 1 (function_now 1 2 0xb1 0xa1 1)
    ∷ stops 1
    ∷ none_goes 1
    ∷ is_lost 2
    ∷ arrives 2 (logout_now 1 0xd1 2 2)
    ∷ replies 1 (Task 0xb1 0) 1 2 5
    ∷ none_goes 2
    ∷ []

pub connection_lost : Worked (outbox (of_two 4)) connection_lost_rows
unfolding Rules.bars_as
connection_lost = refl

-- a connection that hasn't joined takes nothing, and one that was closed before it came may not join
abbrev pub join_refused_rows : List Row
join_refused_rows =
    joins 1 1
    ∷ is_refused (message 2) Closed
    ∷ none_goes 2
    ∷ arrives 1 (logout_now 1 0xd1 1 2)
    ∷ (Calls (Joins 2 1), IsRefused)
    ∷ (Calls (Joins 1 1), IsRefused)
    ∷ replies 1 (Logout 0xd1 0) 1 1 4
    ∷ []

pub join_refused : Worked (outbox (of_two 4)) join_refused_rows
unfolding Rules.bars_as
join_refused = refl
