-- What an answer to an abort or Logout is about, read off the effects that were taken.
use Rattle.std.specs.Prelude.{ℕ, zero, suc, ◌==◌, ◌&&◌, ◌||◌, not, Bool, true, false, List, [], ◌∷◌, ◌++◌, filter_map, map, Option, Some, None, if◌then◌else◌}
use Rattle.std.specs.List.{list_any, flat_map}
use Rattle.iscsi_wire.specs.declared.reply.Reply.{Reply}
use Rattle.iscsi_wire.specs.declared.reply.Reply.TheVariants.{Task as TaskReply}
use Rattle.iscsi_wire.specs.declared.request.Request.{Request}
use Rattle.iscsi_wire.specs.Fields.{connection_of, itt}
use Rattle.iscsi_rules.specs.declared.effect.Effect.{Effect}
use Rattle.iscsi_rules.specs.declared.effect.Effect.TheVariants.{Enter, CloseConn, CloseSession}
use Rattle.iscsi_rules.specs.rules.Trace.{first_of}
use Rattle.iscsi_outbox_rules.specs.rules.Calls.{Opening}
use Rattle.iscsi_outbox_rules.specs.rules.Boxes.{Aim, AtTag, AtUnit, AtConns, Outgoing}
use Rattle.iscsi_outbox_rules.specs.rules.Words.{contains}
use Rattle.iscsi_outbox_rules.specs.rules.Items.{executing, tickets_left, reply_sent, aim}

-- a reply as the session sent it: in this item, after these
pub record Sent : Type 0 where
  pub before : List (List Effect)
  pub item : List Effect
  pub conn : ℕ
  pub reply : Reply

abbrev pub sent_in : List (List Effect) → List Effect → List Sent
sent_in before item = map (λ (s : ℕ × Reply). record { before = before; item = item; conn = s.0; reply = s.1 }) (filter_map reply_sent item)

abbrev pub sent_from : List (List Effect) → List (List Effect) → List Sent
sent_from before [] = []
sent_from before (item ∷ items) = sent_in before item ++ sent_from (before ++ item ∷ []) items

-- all replies of the items, in order
abbrev pub sent_by : List (List Effect) → List Sent
sent_by items = sent_from [] items

abbrev pub nth : {A : Type 0} → ℕ → List A → Option A
nth n [] = None
nth zero (x ∷ xs) = Some x
nth (suc n) (x ∷ xs) = nth n xs

-- a command: its ticket, its unit, and the request
pub record Entered : Type 0 where
  pub ticket : ℕ
  pub unit : ℕ
  pub request : Request

abbrev pub entered_as : Request → Effect → Option Entered
entered_as r (Enter ticket unit attr) = Some (record { ticket = ticket; unit = unit; request = r })
entered_as r _ = None

abbrev pub entered_in : List Effect → List Entered
entered_in item = elim (executing item) [ Some r ↦ filter_map (entered_as r) item | None ↦ [] ]

-- the ticket left its task set in this item by a request that executed: an abort or a Logout
abbrev pub is_taken_out_in : ℕ → List Effect → Bool
is_taken_out_in ticket item = elim (executing item) [ Some r ↦ contains (tickets_left item) ticket | None ↦ false ]

-- the command whose completion the item is
abbrev pub completed_in : List Effect → Option ℕ
completed_in item = elim (executing item) [ Some r ↦ None | None ↦ first_of (tickets_left item) ]

abbrev pub is_completed_in : ℕ → List Effect → Bool
is_completed_in ticket item = elim (completed_in item) [ Some t ↦ t == ticket | None ↦ false ]

-- the connections that an item closes; CloseSession closes all
abbrev pub is_closed_by : ℕ → Effect → Bool
is_closed_by conn (CloseConn c) = c == conn
is_closed_by conn CloseSession = true
is_closed_by conn _ = false

abbrev pub closes_in : ℕ → List Effect → Bool
closes_in conn item = list_any (is_closed_by conn) item

-- a request that executes in this item closes the connection
abbrev pub closes_as : ℕ → Option Request → List Effect → Bool
closes_as conn (Some r) item = closes_in conn item
closes_as conn None item = false

abbrev pub is_closing : ℕ → List Effect → Bool
is_closing conn item = closes_as conn (executing item) item

abbrev pub by_another : ℕ → Option Request → Bool
by_another conn (Some r) = not (conn == connection_of r)
by_another conn None = false

-- the first item that closed the connection is a Logout on another one: what waited there is dropped, and what lies there isn't read
abbrev pub cut_by : List (List Effect) → ℕ → Bool
cut_by [] conn = false
cut_by (item ∷ items) conn = if is_closing conn item then by_another conn (executing item) else cut_by items conn

-- a command is of what the answer in this item is about: its tag and unit, its unit, or the connections that are closed
abbrev pub is_about : Aim → List Effect → Entered → Bool
is_about (AtTag tag unit) item e = itt e.request == tag && e.unit == unit
is_about (AtUnit unit) item e = e.unit == unit
is_about AtConns item e = closes_in (connection_of e.request) item

-- the answer says that there is no such task (RFC 7143 section 11.6.1)
abbrev pub says_no_task : Reply → Bool
says_no_task (TaskReply tag response) = response == 1
says_no_task _ = false

-- it answers a function of several tasks, or an ABORT TASK that found none: what completed before is over by it, too
abbrev pub covers_completed : Aim → Reply → Bool
covers_completed (AtUnit unit) reply = true
covers_completed (AtTag tag unit) reply = says_no_task reply
covers_completed AtConns reply = false

-- what the reply is about, where it answers an abort or a Logout that was carried out
abbrev pub aim_of_sent : Opening → Sent → Option Aim
aim_of_sent o s = aim o (executing s.item) s.reply

-- the command is of what the answer is about, and was taken out in its item or before (RFC 7143 section 4.2.3, SAM-5 section 7)
abbrev pub is_taken_out_by : Opening → Sent → ℕ → Bool
is_taken_out_by o s ticket =
    let items = s.before ++ s.item ∷ [] in
    list_any (is_taken_out_in ticket) items
    && elim (aim_of_sent o s) [
      | Some about ↦ list_any (λ (e : Entered). e.ticket == ticket && is_about about s.item e) (flat_map entered_in items)
      | None ↦ false
    ]

-- the command is of what the answer is about, and completed before. What completed on connections that a Logout closes stands under
-- `NoneBehind`: nothing more goes out there
abbrev pub is_past_by : Opening → Sent → ℕ → Bool
is_past_by o s ticket =
    list_any (is_completed_in ticket) s.before
    && elim (aim_of_sent o s) [
      | Some about ↦ covers_completed about s.reply && list_any (λ (e : Entered). e.ticket == ticket && is_about about s.item e) (flat_map entered_in s.before)
      | None ↦ false
    ]

-- by this reply the initiator holds the command for over (RFC 7143 sections 4.2.3 and 11.6.1, SAM-5 section 7)
abbrev pub is_over_by : Opening → Sent → ℕ → Bool
is_over_by o s ticket = is_taken_out_by o s ticket || is_past_by o s ticket

-- the connection is closed by this reply, and wasn't before
abbrev pub is_closed_with : Opening → Sent → ℕ → Bool
is_closed_with o s conn = elim (aim_of_sent o s) [
  | Some about ↦ closes_in conn s.item && not (list_any (closes_in conn) s.before)
  | None ↦ false
]

-- the reply that was handed out, as the session sent it
abbrev pub sent_as : List (List Effect) → Outgoing → Option Sent
sent_as items out = elim (out.sent) [ Some place ↦ nth place (sent_by items) | None ↦ None ]

-- the answer that was handed out says that this command is over: as it was taken out, as it completed, or either
abbrev pub says_taken_out : Opening → List (List Effect) → Outgoing → ℕ → Bool
says_taken_out o items out ticket = elim (sent_as items out) [ Some s ↦ is_taken_out_by o s ticket | None ↦ false ]

abbrev pub says_past : Opening → List (List Effect) → Outgoing → ℕ → Bool
says_past o items out ticket = elim (sent_as items out) [ Some s ↦ is_past_by o s ticket | None ↦ false ]

abbrev pub says_over : Opening → List (List Effect) → Outgoing → ℕ → Bool
says_over o items out ticket = elim (sent_as items out) [ Some s ↦ is_over_by o s ticket | None ↦ false ]

abbrev pub says_closed : Opening → List (List Effect) → Outgoing → ℕ → Bool
says_closed o items out conn = elim (sent_as items out) [ Some s ↦ is_closed_with o s conn | None ↦ false ]
