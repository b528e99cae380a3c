-- What an item takes of the history: the window, what is found of live commands, replies (RFC 7143 section 4.2.2.1, SAM-5).
use Rattle.std.specs.Prelude.{ℕ, ◌+◌, ◌-◌, ◌==◌, ◌&&◌, not, Bool, nat_lt, nat_le, List, [], ◌∷◌, length, Option, Some, None, if◌then◌else◌, count_by}
use Rattle.std.specs.List.{list_any}
use Rattle.iscsi_wire.specs.declared.reply.Sense.{Sense}
use Rattle.iscsi_wire.specs.declared.reply.Reply.{Reply}
use Rattle.iscsi_wire.specs.declared.reply.Reply.TheVariants.{Scsi, Task, Nop, Logout, Reject as RejectReply}
use Rattle.iscsi_wire.specs.declared.request.Request.{Request}
use Rattle.iscsi_wire.specs.Fields.{connection_of, header_of, is_immediate, attr_code, lun, itt, unit_of}
use Rattle.iscsi_tasks.specs.declared.task.Attr.{Attr}
use Rattle.iscsi_tasks.specs.declared.task.Attr.TheVariants.{Simple, Ordered, Head}
use Rattle.iscsi_rules.specs.declared.effect.Why.{Why}
use Rattle.iscsi_rules.specs.declared.effect.Why.TheVariants.{Stale}
use Rattle.iscsi_rules.specs.declared.deed.Answer.{Answer}
use Rattle.iscsi_rules.specs.declared.deed.Answer.TheVariants.{Reject, Pong, NoUnit, Full, Respond, LogOut}
use Rattle.iscsi_rules.specs.rules.Settings.{Setting}
use Rattle.iscsi_rules.specs.rules.Trace.{Arrival, Command, Mark, Leaves, Sends, Ignores, Trace, expected, live, live_in, entered}

-- ExpCmdSN
abbrev pub exp_of : Setting → Trace → ℕ
exp_of o t = expected o.first t

-- the numbered commands that entered a set and haven't left it
abbrev pub unfinished : Trace → ℕ
unfinished t = count_by (λ c. not (is_immediate c.arrival.request)) (live t)

-- MaxCmdSN: a command that is being executed takes one place of the window
abbrev pub max_of : Setting → Trace → ℕ
max_of o t = exp_of o t + o.window - 1 - unfinished t

-- ---- what a request names

-- the tag that names no task
abbrev pub NO_TAG : ℕ
NO_TAG = 0xffff_ffff

-- the unit that a request's LUN names, of so many
abbrev pub unit_named : ℕ → Request → Option ℕ
unit_named units r = elim (unit_of (lun r)) [ Some u ↦ if nat_lt u units then Some u else None | None ↦ None ]

-- untagged commands count as SIMPLE
abbrev pub attr_of : ℕ → Attr
attr_of code = if code == 2 then Ordered else (if code == 3 then Head else Simple)

-- LOGICAL UNIT NOT SUPPORTED
abbrev pub no_unit : Sense
no_unit = record { key = 5; asc = 0x25; ascq = 0 }

-- the reply that an answer stands for
abbrev pub reply_of : Request → Answer → Reply
reply_of r (Reject reason) = RejectReply reason (header_of r)
reply_of r Pong = Nop (itt r)
reply_of r NoUnit = Scsi (itt r) 0x02 (Some no_unit)
reply_of r Full = Scsi (itt r) 0x28 None
reply_of r (Respond response) = Task (itt r) response
reply_of r (LogOut response) = Logout (itt r) response

-- ---- what is found of live commands

-- a live command of the session has the tag
abbrev pub is_tag_live : Trace → ℕ → Bool
is_tag_live t tag = list_any (λ c. itt c.arrival.request == tag) (live t)

abbrev pub is_full : Setting → Trace → ℕ → Bool
is_full o t unit = nat_le o.depth (length (live_in unit t))

-- the most live immediate commands of a connection
abbrev pub MOST_IMMEDIATE : ℕ
MOST_IMMEDIATE = 8

-- the live immediate commands of a connection
abbrev pub live_immediate : ℕ → Trace → ℕ
live_immediate conn t = count_by (λ c. is_immediate c.arrival.request && connection_of c.arrival.request == conn) (live t)

-- the request is immediate, and its connection has as many live immediate commands as it may
abbrev pub is_crowded : Trace → Request → Bool
is_crowded t r = is_immediate r && nat_le MOST_IMMEDIATE (live_immediate (connection_of r) t)

-- ---- items

abbrev pub reply_on : Arrival → Reply → List Mark
reply_on a reply = Sends (connection_of a.request) reply ∷ []

-- the command that a request becomes: tickets go up by one
abbrev pub next_command : Trace → Arrival → ℕ → Command
next_command t a unit = record { ticket = length (entered t) + 1; unit = unit; attr = attr_of (attr_code a.request); arrival = a }

-- the item of a request that is rejected for its opcode
abbrev pub rejected : Arrival → List Mark
rejected a = reply_on a (reply_of a.request (Reject 5))

-- an item that ignores its event
abbrev pub ignored : Why → List (List Mark)
ignored why = (Ignores why ∷ []) ∷ []

-- CHECK CONDITION of a unit carries HARDWARE ERROR, INTERNAL TARGET FAILURE
-- rule: completion/check-condition
abbrev pub sense_of_status : ℕ → Option Sense
sense_of_status status = if status == 0x02 then Some (record { key = 4; asc = 0x44; ascq = 0 }) else None

-- the item of a completion, of this command if it is enabled
-- rules: completion/stale, completion/status
abbrev pub completion : ℕ → Option Command → List (List Mark)
completion status None = ignored Stale
completion status (Some c) = (Leaves c ∷ reply_on c.arrival (Scsi (itt c.arrival.request) status (sense_of_status status))) ∷ []
