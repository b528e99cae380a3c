-- What holds of each box of the rules, where what is taken is what a session gives; and what a session gives in an item.
use Rattle.std.specs.Prelude.{◌≡◌, ◌<◌, ◌≤◌, ℕ, ◌+◌, ◌==◌, ◌&&◌, Bool, true, false, List, [], filter_map, length, Option, Some, None, count_by}
use Rattle.std.specs.List.{list_any}
use Rattle.iscsi_wire.specs.declared.request.Request.{Request}
use Rattle.iscsi_wire.specs.declared.reply.Reply.{Reply}
use Rattle.iscsi_wire.specs.Fields.{connection_of, opcode}
use Rattle.iscsi_rules.specs.declared.effect.Effect.{Effect}
use Rattle.iscsi_rules.specs.declared.effect.Effect.TheVariants.{Enter, CloseConn, CloseSession}
use Rattle.iscsi_rules.specs.rules.Settings.{is_known}
use Rattle.iscsi_rules.specs.rules.Trace.{first_of}
use Rattle.iscsi_outbox_rules.specs.rules.Calls.{Opening}
use Rattle.iscsi_outbox_rules.specs.rules.Boxes.{Phase, Fresh, Task, Outgoing, Handed, Answer, Link, Box, AtConns}
use Rattle.iscsi_outbox_rules.specs.rules.Words.{contains, is_left, is_left_phase, is_live_phase, is_of, is_open}
use Rattle.iscsi_outbox_rules.specs.rules.Queues.{takes_more}
use Rattle.iscsi_outbox_rules.specs.rules.Due.{settle}
use Rattle.iscsi_outbox_rules.specs.rules.Own.{is_own}
use Rattle.iscsi_outbox_rules.specs.rules.Items.{aim, executing, reply_sent, tickets_left}
use Rattle.iscsi_outbox_law.specs.private.Pairs.{EachOf, InOrder}

-- ---- boxes

-- the command that it is of entered on this connection
abbrev pub HasHome : List Task → ℕ → Outgoing → Type 0
HasHome tasks conn out = elim (out.ticket) [ Some k ↦ list_any (λ (t : Task). t.ticket == k && t.conn == conn) tasks ≡ true | None ↦ Unit {0} ]

-- what answers a function of several tasks takes a StatSN
abbrev pub IsFenceFit : Outgoing → Type 0
IsFenceFit out = out.fenced ≡ true → out.takes ≡ true

-- it is of no command that left
abbrev pub IsAlive : List Task → Outgoing → Type 0
IsAlive tasks out = is_of (λ k. list_any (λ (t : Task). t.ticket == k && is_left_phase t.phase) tasks) out ≡ false

pub record IsLinkSound (o : Opening) (tasks : List Task) (l : Link) : Type 0 where
  pub queued : EachOf (HasHome tasks l.conn) l.queue
  pub alive : EachOf (IsAlive tasks) l.queue
  pub fenced : EachOf IsFenceFit l.queue
  pub own : count_by (λ (out : Outgoing). is_own out.pdu) l.queue ≤ o.own
  pub times : InOrder (λ (x y : Outgoing). x.time < y.time) l.queue
  -- nothing waits where nothing may go out
  pub idle : is_open l ≡ false → l.queue ≡ []

-- the commands that it holds for over have left, and its connection takes it
pub record IsAnswerSound (b : Box) (a : Answer) : Type 0 where
  pub scope : (k : ℕ) → contains a.out.scope k ≡ true → is_left b k ≡ true
  pub taken : list_any (λ (l : Link). l.conn == a.conn && takes_more l) b.links ≡ true

-- what was handed out is of commands that entered on its connection, each with a ticket of its own
pub record HaveHomes (b : Box) : Type 0 where
  pub ascending : InOrder (λ (t u : Task). t.ticket < u.ticket) b.tasks
  pub handed : EachOf (λ (l : Link). EachOf (λ (h : Handed). HasHome b.tasks l.conn h.out) l.handed) b.links

-- between the calls, and between the items of an event
pub record IsSound (o : Opening) (b : Box) : Type 0 where
  pub homes : HaveHomes b
  pub known : EachOf (λ (t : Task). is_known t.conn o.session.conns ≡ true) b.tasks
  pub links : EachOf (IsLinkSound o b.tasks) b.links
  pub undue : EachOf (IsAnswerSound b) b.undue
  pub settled : settle o b ≡ b

abbrev pub is_fresh_phase : Phase → Bool
is_fresh_phase Fresh = true
is_fresh_phase _ = false

-- between the calls
abbrev pub NoneIsFresh : Box → Type 0
NoneIsFresh b = EachOf (λ (t : Task). is_fresh_phase t.phase ≡ false) b.tasks

-- ---- items

abbrev pub is_live_in : Box → ℕ → Bool
is_live_in b k = list_any (λ (t : Task). t.ticket == k && is_live_phase t.phase) b.tasks

-- a ticket that enters, and its unit
abbrev pub entry_of : Effect → Option (ℕ × ℕ)
entry_of (Enter ticket unit attr) = Some (ticket, unit)
entry_of _ = None

abbrev pub entries_of : List Effect → List (ℕ × ℕ)
entries_of item = filter_map entry_of item

abbrev pub conn_closed : Effect → Option ℕ
conn_closed (CloseConn conn) = Some conn
conn_closed _ = None

abbrev pub is_close : Effect → Bool
is_close (CloseConn conn) = true
is_close CloseSession = true
is_close _ = false

-- a Logout closes, and nothing else does
abbrev pub IsLogout : Opening → Request → Reply → Type 0
IsLogout o r reply = aim o (Some r) reply ≡ Some AtConns

-- what a session gives in an item
pub record IsItemSound (o : Opening) (b : Box) (item : List Effect) : Type 0 where
  pub left : EachOf (λ k. is_live_in b k ≡ true) (tickets_left item)
  pub entered : EachOf (λ (e : ℕ × ℕ). EachOf (λ (t : Task). t.ticket < e.0) b.tasks × (e.1 < o.session.units)) (entries_of item)
  pub ascending : InOrder (λ (d e : ℕ × ℕ). d.0 < e.0) (entries_of item)
  -- tickets count the commands, from 1 on
  pub next : EachOf (λ (e : ℕ × ℕ). e.0 ≡ 1 + length b.tasks) (entries_of item)
  pub known : (r : Request) → executing item ≡ Some r → is_known (connection_of r) o.session.conns ≡ true
  pub replies : (conn : ℕ) (reply : Reply) → first_of (filter_map reply_sent item) ≡ Some (conn, reply) → is_known conn o.session.conns ≡ true
  pub one_close : length (filter_map conn_closed item) ≤ 1
  pub closing : (conn : ℕ) (reply : Reply) → first_of (filter_map reply_sent item) ≡ Some (conn, reply) → list_any is_close item ≡ true
      → (r : Request) × (executing item ≡ Some r) × IsLogout o r reply
  pub logout : (r : Request) (conn : ℕ) (reply : Reply) → executing item ≡ Some r → first_of (filter_map reply_sent item) ≡ Some (conn, reply)
      → IsLogout o r reply → (opcode r == 0x02) ≡ false
