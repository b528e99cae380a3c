-- What a request does that executes: the first case of its table that fits, by what is found (RFC 7143, RFC 7144, SAM-5).
use Rattle.std.specs.Prelude.{ℕ, ◌==◌, ◌&&◌, Bool, true, false, nat_lt, nat_le, List, [], ◌∷◌, ◌++◌, Option, Some, None, option_map, is_some, if◌then◌else◌}
use Rattle.std.specs.List.{list_any}
use Rattle.iscsi_wire.specs.declared.request.Request.{Request}
use Rattle.iscsi_wire.specs.Serial.{wire, lift}
use Rattle.iscsi_wire.specs.Fields.{is_immediate, opcode, attr_code, function, itt, rtt, cid, ref_cmd_sn}
use Rattle.iscsi_rules.specs.declared.deed.Answer.TheVariants.{Reject, Pong, NoUnit, Full, Respond, LogOut}
use Rattle.iscsi_rules.specs.declared.deed.Deed.{Deed}
use Rattle.iscsi_rules.specs.declared.deed.Deed.TheVariants.{Nothing, Wait, Reply as Replies, Enter, Void, Empty, Abort, AbortEarlier, AbortAll, CloseConn, CloseSession}
use Rattle.iscsi_rules.specs.rules.Settings.{Setting}
use Rattle.iscsi_rules.specs.rules.Trace.{Arrival, Command, Mark, Voids, Empties, Leaves, Enters, Trace, is_received, live_in}
use Rattle.iscsi_rules.specs.rules.Execution.{exp_of, max_of, NO_TAG, unit_named, is_tag_live, is_crowded, is_full, reply_of, reply_on, next_command}
use Rattle.iscsi_rules.specs.rules.Management.{refusal, answer, live_with_tag, held_command, is_before, abort_all}
use Rattle.iscsi_rules.specs.rules.Logout.{is_open, close_conn, end_session}

-- what is found as a request executes
pub record Facts : Type 0 where
  pub level : ℕ
  pub unit : Option ℕ  -- the unit that its LUN names
  pub is_used : Bool  -- a live command has its tag
  pub is_crowded : Bool  -- it is immediate, and its connection has as many live immediate commands as it may
  pub is_full : Bool  -- the unit's task set is full
  pub has_commands : Bool  -- a command of the unit is live
  pub live : Option ℕ  -- the ticket of the unit's live command that has the tag to which it refers
  pub held : Option ℕ  -- the CmdSN of the held command to the unit that has that tag, below its own number
  pub is_missing : Bool  -- it is immediate, and the number to which it refers is in the window, below its own
  pub is_open : Bool  -- the connection that a Logout Request names is open

-- ---- the tables

-- a SCSI Command
-- rules: command/no-tag, command/attribute, command/tag-in-use, command/no-unit, command/crowded, command/full, command/enters
abbrev pub command_deed : Facts → Request → Deed
command_deed f r =
    if itt r == NO_TAG then Replies (Reject 9)
    else (if nat_lt 3 (attr_code r) then Replies (Reject 9)
    else (if f.is_used then Replies (Reject 7)
    else elim f.unit [
      | Some unit ↦ if f.is_crowded then Replies (Reject 6) else (if f.is_full then Replies Full else Enter unit)
      | None ↦ Replies NoUnit
    ]))

-- ABORT TASK
-- rules: abort-task/live, abort-task/held, abort-task/missing, abort-task/nothing
abbrev pub abort_deed : Facts → ℕ → Deed
abort_deed f unit =
    elim f.live [
      | Some ticket ↦ Abort unit ticket
      | None ↦ elim f.held [ Some sn ↦ Empty unit sn | None ↦ if f.is_missing then Void else Replies (Respond 1) ]
    ]

-- a query
abbrev pub query_deed : Bool → Deed
query_deed there = Replies (Respond (if there then 7 else 0))

-- a function to a unit
-- rules: reset/all, query-task/live, query-task-set/live
abbrev pub unit_deed : Facts → Request → ℕ → Deed
unit_deed f r unit =
    if function r == 1 then abort_deed f unit
    else (if function r == 5 then AbortAll unit
    else (if function r == 9 then query_deed (is_some f.live)
    else (if function r == 10 then query_deed f.has_commands
    else AbortEarlier unit)))

-- a function that isn't refused
abbrev pub function_deed : Facts → Request → Deed
function_deed f r = elim f.unit [ Some unit ↦ unit_deed f r unit | None ↦ Nothing ]

-- a Logout Request
-- rules: logout/no-tag, logout/session, logout/connection, logout/unknown-cid, logout/recovery, logout/other-reason
abbrev pub logout_deed : Facts → Request → Deed
logout_deed f r =
    if itt r == NO_TAG then Replies (Reject 9)
    else (if function r == 0 then CloseSession
    else (if function r == 1 then (if f.is_open then CloseConn (cid r) else Replies (LogOut 1))
    else (if function r == 2 then Replies (LogOut 2)
    else Replies (Reject 9))))

-- a NOP-Out with a tag is answered
-- rules: nop-out/no-tag, nop-out/answered
abbrev pub nop_deed : Request → Deed
nop_deed r = if itt r == NO_TAG then Nothing else Replies Pong

-- a request at its turn, or at its arrival where it doesn't wait. A Text Request is rejected, as there is no negotiation
-- rule: text/rejected
abbrev pub deed_of : Facts → Request → Deed
deed_of f r =
    if opcode r == 0x02 then elim (refusal f.level f.unit r) [ Some x ↦ Replies x | None ↦ function_deed f r ]
    else (if opcode r == 0x06 then logout_deed f r
    else (if opcode r == 0x00 then nop_deed r
    else (if opcode r == 0x04 then Replies (Reject 5)
    else command_deed f r)))

-- ---- what is found, over the whole history

abbrev pub of_unit : {A : Type 0} → Option ℕ → A → (ℕ → A) → A
of_unit None none some = none
of_unit (Some unit) none some = some unit

abbrev pub facts_of : Setting → Trace → Arrival → Facts
facts_of o t a = record {
  level = o.level;
  unit = unit_named o.units a.request;
  is_used = is_tag_live t (itt a.request);
  is_crowded = is_crowded t a.request;
  is_full = of_unit (unit_named o.units a.request) false (λ unit. is_full o t unit);
  has_commands = of_unit (unit_named o.units a.request) false (λ unit. list_any (λ c. true) (live_in unit t));
  live = of_unit (unit_named o.units a.request) None (λ unit. option_map (λ (c : Command). c.ticket) (live_with_tag t (rtt a.request) unit));
  held = of_unit (unit_named o.units a.request) None (λ unit. option_map (λ (h : Arrival). wire h.number) (held_command o t (rtt a.request) unit a.number));
  is_missing = let n = lift (exp_of o t) (ref_cmd_sn a.request) in is_immediate a.request && nat_le (exp_of o t) n && nat_le n (max_of o t) && nat_lt n a.number;
  is_open = is_open o t (cid a.request);
}

-- ---- what is done

abbrev pub if_found : {A : Type 0} → (A → Mark) → Option A → List Mark
if_found mark None = []
if_found mark (Some x) = mark x ∷ []

-- the marks of what it does
abbrev pub deed_marks : Setting → Trace → Arrival → Deed → List Mark
deed_marks o t a Nothing = []
deed_marks o t a Wait = []
deed_marks o t a (Replies x) = reply_on a (reply_of a.request x)
deed_marks o t a (Enter unit) = Enters (next_command t a unit) ∷ []
deed_marks o t a Void = let n = lift (exp_of o t) (ref_cmd_sn a.request) in (if is_received t n then [] else Voids n ∷ []) ++ answer a 0
deed_marks o t a (Empty unit sn) = if_found Empties (held_command o t (rtt a.request) unit a.number) ++ answer a 0
deed_marks o t a (Abort unit ticket) = if_found Leaves (live_with_tag t (rtt a.request) unit) ++ answer a 0
deed_marks o t a (AbortEarlier unit) = abort_all t a unit (is_before a)
deed_marks o t a (AbortAll unit) = abort_all t a unit (λ c. true)
deed_marks o t a (CloseConn closing) = close_conn o t a closing
deed_marks o t a CloseSession = end_session o t a

-- ---- what executes

-- what a request does that executes
abbrev pub marks_after : Setting → Trace → Arrival → List Mark
marks_after o t a = deed_marks o t a (deed_of (facts_of o t a) a.request)

-- a function that isn't refused
abbrev pub function_marks : Setting → Trace → Arrival → List Mark
function_marks o t a = deed_marks o t a (function_deed (facts_of o t a) a.request)
