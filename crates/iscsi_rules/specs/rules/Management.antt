-- Task management (RFC 7143 sections 4.2.3 and 11.5, RFC 7144, SAM-5 section 7).
use Rattle.std.specs.Prelude.{ℕ, ◌==◌, ◌&&◌, ◌||◌, nat_lt, nat_le, not, Bool, false, List, ◌++◌, map, Option, Some, None, option_map, if◌then◌else◌, filter, count_by}
use Rattle.std.specs.List.{range_with_len}
use Rattle.iscsi_wire.specs.declared.reply.Reply.{Reply}
use Rattle.iscsi_wire.specs.declared.request.Request.{Request}
use Rattle.iscsi_wire.specs.Fields.{connection_of, is_immediate, opcode, function, itt}
use Rattle.iscsi_rules.specs.declared.deed.Answer.{Answer}
use Rattle.iscsi_rules.specs.declared.deed.Answer.TheVariants.{Reject, Respond}
use Rattle.iscsi_rules.specs.rules.Settings.{Setting}
use Rattle.iscsi_rules.specs.rules.Trace.{Arrival, Command, Mark, Leaves, Trace, first_of, held_among, waiting, live_in}
use Rattle.iscsi_rules.specs.rules.Execution.{exp_of, NO_TAG, unit_named, reply_of, reply_on}

-- ---- which functions there are

-- ABORT TASK, ABORT TASK SET, CLEAR TASK SET, LOGICAL UNIT RESET; at level 2 QUERY TASK and QUERY TASK SET
abbrev pub is_supported : ℕ → ℕ → Bool
is_supported level f = f == 1 || f == 2 || f == 4 || f == 5 || (level == 2 && (f == 9 || f == 10))

-- a function over a whole set waits for lower numbers
abbrev pub may_wait : Request → Bool
may_wait r = is_immediate r && (function r == 2 || function r == 4 || function r == 5)

-- ---- how a function is refused before it executes itself, if it is: by the protocol level, and the unit that its LUN names

-- rules: function/no-tag, function/reassign, function/unsupported, function/no-unit
abbrev pub refusal : ℕ → Option ℕ → Request → Option Answer
refusal level unit r =
    if itt r == NO_TAG then Some (Reject 9)
    else (if function r == 8 then Some (Respond 4)
    else (if not (is_supported level (function r)) then Some (Respond 5)
    else elim unit [ Some u ↦ None | None ↦ Some (Respond 2) ]))

abbrev pub refusal_of_function : Setting → Request → Option Reply
refusal_of_function o r = option_map (reply_of r) (refusal o.level (unit_named o.units r) r)

-- the most functions of a connection that wait
abbrev pub MOST_WAITING : ℕ
MOST_WAITING = 4

abbrev pub waiting_on : ℕ → Trace → ℕ
waiting_on conn t = count_by (λ a. connection_of a.request == conn) (waiting t)

-- an immediate function that may wait, by its number, the next numbered request's, the first number behind the window, and how
-- many functions of its connection wait: it is refused, executes, or waits
-- rules: function/too-far, function/executes, function/too-many, function/waits
abbrev pub by_its_number : {A : Type 0} → ℕ → ℕ → ℕ → ℕ → (Answer → A) → A → A → A
by_its_number number exp behind waiting refused executes waits =
    if nat_lt behind number then refused (Respond 255)
    else (if not (nat_lt exp number) then executes
    else (if nat_le MOST_WAITING waiting then refused (Reject 6)
    else waits))

-- ---- what a function finds, and takes out

abbrev pub answer : Arrival → ℕ → List Mark
answer a response = reply_on a (reply_of a.request (Respond response))

-- the requests that are held in the window, in the order of their numbers
abbrev pub held_requests : Setting → Trace → List Arrival
held_requests o t = held_among t (range_with_len (exp_of o t) o.window)

-- the request's LUN names the unit
abbrev pub is_to : Setting → ℕ → Request → Bool
is_to o unit r = elim (unit_named o.units r) [ Some u ↦ u == unit | None ↦ false ]

-- the lowest held SCSI Command with this tag and unit, of a number below
abbrev pub held_command : Setting → Trace → ℕ → ℕ → ℕ → Option Arrival
held_command o t tag unit below = first_of (filter (λ h. nat_lt h.number below && opcode h.request == 0x01 && itt h.request == tag && is_to o unit h.request) (held_requests o t))

-- the live command of a unit with this tag
abbrev pub live_with_tag : Trace → ℕ → ℕ → Option Command
live_with_tag t tag unit = first_of (filter (λ c. itt c.arrival.request == tag) (live_in unit t))

-- the command was before the function: of a lower number, or immediate, of its number, and there before
-- rules: abort-set/lower, abort-set/equal
abbrev pub is_before : Arrival → Command → Bool
is_before a c = nat_lt c.arrival.number a.number || (is_immediate c.arrival.request && c.arrival.number == a.number && nat_lt c.arrival.event a.event)

abbrev pub abort_all : Trace → Arrival → ℕ → (Command → Bool) → List Mark
abort_all t a unit covers = map Leaves (filter covers (live_in unit t)) ++ answer a 0
