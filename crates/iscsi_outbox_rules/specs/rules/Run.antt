-- The whole run: what each call of a list answers, and the state after it.
use Rattle.std.specs.Prelude.{ℕ, ◌+◌, ◌-◌, ◌==◌, ◌&&◌, not, nat_lt, nat_le, max, zero, suc, Bool, true, false, List, [], ◌∷◌, length, map, Option, Some, None, if◌then◌else◌, ◌^◌}
use Rattle.std.specs.List.{list_any, position}
use Rattle.iscsi_wire.specs.Serial.{lift, number_of_first}
use Rattle.iscsi_outbox_rules.specs.declared.own_pdu.PutRefusal.{PutRefusal}
use Rattle.iscsi_outbox_rules.specs.rules.Calls.{Opening, Call, Takes, Puts, Stops, Nexts, Writes, Hears, Joins, Loses, Clears}
use Rattle.iscsi_outbox_rules.specs.rules.Boxes.{Phase, Running, Gone, Pings, Replies, Owns, Notices, AtUnit, AtTag, AtConns, Handed, Answer, Link, Box}
use Rattle.iscsi_outbox_rules.specs.rules.Words.{is_running, is_open, unarrived}
use Rattle.iscsi_outbox_rules.specs.rules.Queues.{at_link, drop_on}
use Rattle.iscsi_outbox_rules.specs.rules.Due.{settle}
use Rattle.iscsi_outbox_rules.specs.rules.Items.{in_phase, after_event}
use Rattle.iscsi_outbox_rules.specs.rules.Own.{put_refusal, after_put}
use Rattle.iscsi_outbox_rules.specs.rules.Handing.{Given, Hands, Nothing, IsOver, next_stat_sn, link_of, given, after_given}

-- ---- before any call

abbrev pub new_link : ℕ → Link
new_link conn = record {
  conn = conn;
  first = 0;
  joined = false;
  closed = false;
  cut = false;
  lost = false;
  queue = [];
  handed = [];
  written = 0;
  arrived = 0;
}

abbrev pub opened : Opening → Box
opened o =
    let last = number_of_first o.session.first + o.session.window - 1 in
    record {
      tasks = [];
      links = map (λ (c : ℕ × ℕ). new_link c.0) o.session.conns;
      undue = [];
      sent = 0;
      time = 0;
      exp = o.session.first;
      max = last;
      shown = last;
      reached = last;
    }

-- ---- stopped

abbrev pub phase_stopped : Phase → Phase
phase_stopped Running = Gone
phase_stopped p = p

-- outbox: due/stopped
abbrev pub after_stopped : Opening → Box → ℕ → Box
after_stopped o b ticket = if is_running b ticket then settle o (in_phase phase_stopped (ticket ∷ []) b) else b

-- ---- written and heard

abbrev pub one_written : Link → Link
one_written l = if nat_lt l.written (length l.handed) then record l { written = l.written + 1 } else l

-- how many PDUs stand up to the count-th one that takes a StatSN
abbrev pub up_to_taking : ℕ → List Handed → ℕ
up_to_taking zero hs = 0
up_to_taking (suc count) [] = 0
up_to_taking (suc count) (h ∷ hs) = 1 + (if h.out.takes then up_to_taking count hs else up_to_taking (suc count) hs)

-- by an ExpStatSN: all up to the one that took the StatSN before it. One that wasn't handed out yet says nothing, nor does one
-- that is half of the numbers behind
-- outbox: arrived/stat-sn
abbrev pub arrived_by_stat_sn : Link → ℕ → ℕ
arrived_by_stat_sn l exp_stat_sn =
    let n = lift (next_stat_sn l) exp_stat_sn in
    if nat_le n (next_stat_sn l) && nat_lt (next_stat_sn l - n) (2 ^ 31 - 1) then up_to_taking (n - l.first) l.handed else 0

abbrev pub is_ping_with : ℕ → Handed → Bool
is_ping_with tag h = elim (h.out.pdu) [ Pings t ↦ t == tag | Replies reply ↦ false | Owns p ↦ false | Notices ↦ false ]

-- by the answer to a ping: all up to the ping. An older one says nothing
-- outbox: arrived/ping
abbrev pub arrived_by_ping : Link → ℕ → ℕ
arrived_by_ping l tag = elim (position (is_ping_with tag) (unarrived l)) [ Some place ↦ l.arrived + place + 1 | None ↦ 0 ]

abbrev pub link_heard : ℕ → ℕ → Link → Link
link_heard exp_stat_sn tag l =
    if is_open l then record l { arrived = max l.arrived (max (arrived_by_stat_sn l exp_stat_sn) (arrived_by_ping l tag)) } else l

-- ---- joined and lost

abbrev pub may_join : Box → ℕ → Bool
may_join b conn = list_any (λ (l : Link). l.conn == conn && not l.joined && not l.closed && not l.lost) b.links

abbrev pub link_joined : ℕ → Link → Link
link_joined stat_sn l = record l { joined = true; first = number_of_first stat_sn }

abbrev pub link_lost : Link → Link
link_lost l = record l { lost = true }

-- outbox: lost/dropped
abbrev pub after_lost : Opening → Box → ℕ → Box
after_lost o b conn = settle o (drop_on conn (record b { links = at_link conn link_lost b.links; reached = 0 }))

-- ---- cleared

abbrev pub waits_for_clear : ℕ → Answer → Bool
waits_for_clear unit a = a.uncleared && elim (a.aim) [ AtUnit u ↦ u == unit | AtTag tag u ↦ false | AtConns ↦ false ]

-- the oldest answer that waits for it waits no more
abbrev pub cleared : ℕ → List Answer → List Answer
cleared unit [] = []
cleared unit (a ∷ rest) = if waits_for_clear unit a then record a { uncleared = false } ∷ rest else a ∷ cleared unit rest

-- ---- calls

abbrev pub after_next : Opening → Box → ℕ → Box
after_next o b conn = elim (link_of b conn) [
  | Some l ↦ elim (given o b conn) [ Hands h ↦ after_given o b l h | Nothing ↦ b | IsOver ↦ b ]
  | None ↦ b
]

abbrev pub after_call : Opening → Box → Call → Box
after_call o b (Takes effects numbers) = after_event o b effects numbers
after_call o b (Puts p) = after_put o b p
after_call o b (Stops ticket) = after_stopped o b ticket
after_call o b (Nexts conn) = after_next o b conn
after_call o b (Writes conn) = settle o (record b { links = at_link conn one_written b.links })
after_call o b (Hears conn exp_stat_sn tag) = settle o (record b { links = at_link conn (link_heard exp_stat_sn tag) b.links })
after_call o b (Joins conn stat_sn) = if may_join b conn then record b { links = at_link conn (link_joined stat_sn) b.links } else b
after_call o b (Loses conn) = after_lost o b conn
after_call o b (Clears unit) = settle o (record b { undue = cleared unit b.undue })

abbrev pub after_calls : Opening → Box → List Call → Box
after_calls o b [] = b
after_calls o b (c ∷ cs) = after_calls o (after_call o b c) cs

-- what a call answers
pub data Answered : Type 0 where
  Silent : Answered
  Put : Option PutRefusal → Answered
  Stopped : Bool → Answered  -- whether the command was running
  Gives : Given → Answered
  Joined : Bool → Answered  -- whether it may

abbrev pub answered : Opening → Box → Call → Answered
answered o b (Puts p) = Put (put_refusal o b p)
answered o b (Stops ticket) = Stopped (is_running b ticket)
answered o b (Nexts conn) = Gives (given o b conn)
answered o b (Joins conn stat_sn) = Joined (may_join b conn)
answered o b _ = Silent

abbrev pub answered_from : Opening → Box → List Call → List Answered
answered_from o b [] = []
answered_from o b (c ∷ cs) = answered o b c ∷ answered_from o (after_call o b c) cs

-- what the calls of a list answer
abbrev pub answered_by : Opening → List Call → List Answered
answered_by o cs = answered_from o (opened o) cs
