-- Worked lists that the rules and the steps answer alike.
use Rattle.std.specs.Prelude.{◌≡◌, ℕ, true, List, [], ◌∷◌, filter_map, map, refl}
use Rattle.iscsi_wire.specs.declared.reply.Reply.TheVariants.{Logout}
use Rattle.iscsi_tasks.specs.Rules as Rules
use Rattle.iscsi_rules.specs.declared.event.Event.TheVariants.{Arrive}
use Rattle.iscsi_rules.specs.examples.Rows.{command, logout_now, of_two}
use Rattle.iscsi_outbox_rules.specs.rules.Calls.{Joins, Nexts, Stops, Opening}
use Rattle.iscsi_outbox_rules.specs.rules.Run.{answered_by as answered_by_rules}
use Rattle.iscsi_outbox_rules.specs.promises.Room.{Step, Happens, Other, all_are, begun, calls_of, is_read_with_room}
use Rattle.iscsi_outbox_rules.specs.examples.Rows.{Happens as Moves, Calls, calls_of as moves_call, Row, Worked, arrives, joins, none_goes, outbox, replies, stops}
use Rattle.iscsi_outbox_steps.specs.Rows.{Worked as WorkedBySteps, place_given, places_given}
use Rattle.iscsi_outbox_law.specs.rules.Said.{said}

-- the Logout of the last connection closes the session, and waits for the commands of those that were closed before
abbrev pub last_closes_rows : List Row
last_closes_rows =
    joins 1 1
    ∷ joins 2 1
    ∷ arrives 2 (command 0xa1 1)
    ∷ arrives 2 (logout_now 1 0xd1 2 2)
    ∷ none_goes 2
    ∷ arrives 1 (logout_now 1 0xd2 2 1)
    ∷ none_goes 1
    ∷ stops 1
    ∷ replies 1 (Logout 0xd2 0) 1 2 5
    ∷ replies 2 (Logout 0xd1 0) 1 2 5
    ∷ []

pub last_closes : Worked (outbox (of_two 4)) last_closes_rows
unfolding Rules.bars_as
last_closes = refl

pub last_closes_by_steps : WorkedBySteps (outbox (of_two 4)) last_closes_rows
unfolding Rules.bars_as
last_closes_by_steps = refl

-- the places of the replies that are handed out, in order, by the rules
abbrev pub places_by_rules : Opening → List Row → List ℕ
places_by_rules o rows = filter_map place_given (map said (answered_by_rules o (moves_call o (map (λ (r : Row). r.0) rows))))

-- the answer to the Logout that came last goes out first
pub last_closes_places : places_given (outbox (of_two 4)) last_closes_rows ≡ 1 ∷ 0 ∷ []
unfolding Rules.bars_as
last_closes_places = refl

pub last_closes_places_by_rules : places_by_rules (outbox (of_two 4)) last_closes_rows ≡ 1 ∷ 0 ∷ []
unfolding Rules.bars_as
last_closes_places_by_rules = refl

-- ---- the calls of a session and its outbox

-- a command comes, and while it runs a Logout that has to wait for it
abbrev steps : List Step
steps = Other (Joins 1 1) ∷ Happens (Arrive 1 (command 0xa1 1)) ∷ Other (Nexts 1) ∷ Happens (Arrive 1 (logout_now 0 0xd1 1 2)) ∷ Other (Stops 1) ∷ Other (Nexts 1) ∷ []

-- each is read with room
pub steps_read : all_are (is_read_with_room (outbox (of_two 4))) (outbox (of_two 4)) (begun (outbox (of_two 4))) steps ≡ true
unfolding Rules.bars_as
steps_read = refl

-- and the outbox is called so
pub steps_call : calls_of (outbox (of_two 4)) (begun (outbox (of_two 4))) steps
    ≡ moves_call (outbox (of_two 4)) (Calls (Joins 1 1) ∷ Moves (Arrive 1 (command 0xa1 1)) ∷ Calls (Nexts 1) ∷ Moves (Arrive 1 (logout_now 0 0xd1 1 2)) ∷ Calls (Stops 1) ∷ Calls (Nexts 1) ∷ [])
unfolding Rules.bars_as
steps_call = refl
