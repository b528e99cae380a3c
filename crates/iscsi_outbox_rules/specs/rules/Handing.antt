-- What may be handed out on a connection (RFC 7143 sections 4.2.2.2 and 4.2.2.3).
use Rattle.std.specs.Prelude.{ℕ, ◌+◌, ◌%◌, ◌==◌, ◌&&◌, ◌||◌, not, nat_lt, Bool, true, false, List, [], ◌∷◌, ◌++◌, take, drop, replicate, filter, count_by, Option, Some, None, if◌then◌else◌}
use Rattle.std.specs.List.{list_any, list_all}
use Rattle.iscsi_wire.specs.Serial.{wire, lift}
use Rattle.iscsi_wire.specs.Replies.{NO_TAG, bytes_4, header_of, tail_of}
use Rattle.iscsi_rules.specs.rules.Trace.{first_of}
use Rattle.iscsi_outbox_rules.specs.declared.own_pdu.OwnPdu.{OwnPdu}
use Rattle.iscsi_outbox_rules.specs.declared.own_pdu.OwnPdu.TheVariants.{OfCommand, OfConnection}
use Rattle.iscsi_outbox_rules.specs.rules.Calls.{Opening}
use Rattle.iscsi_outbox_rules.specs.rules.Boxes.{Pdu, Replies, Owns, Pings, Notices, Outgoing, Handed, Answer, Link, Box}
use Rattle.iscsi_outbox_rules.specs.rules.Words.{contains, is_left, is_open, is_usable, looks_for_arrival, unwritten, unarrived, under_way, has_under_way, max_shown}
use Rattle.iscsi_outbox_rules.specs.rules.Queues.{at_link}
use Rattle.iscsi_outbox_rules.specs.rules.Own.{FIRST_PING}

-- the other connections that are open
abbrev pub others : Box → Link → List Link
others b l = filter (λ (m : Link). is_open m && not (m.conn == l.conn)) b.links

abbrev pub takes_handed : Handed → Bool
takes_handed h = h.out.takes

abbrev pub fenced_handed : Handed → Bool
fenced_handed h = h.out.fenced

-- ---- the fence

-- nothing that takes a StatSN goes out behind a fenced answer of another connection before that did, and is known to have arrived
abbrev pub lets_pass : Opening → Outgoing → Link → Bool
lets_pass o out m =
    not (list_any (λ (before : Outgoing). before.fenced && nat_lt before.time out.time) m.queue)
    && not (looks_for_arrival o && list_any fenced_handed (unarrived m))

-- a fenced answer goes out when what entered before it on other connections, and takes a StatSN, isn't under way any more
abbrev pub is_clear : Opening → Outgoing → Link → Bool
is_clear o out m =
    not (list_any (λ (before : Outgoing). before.takes && nat_lt before.time out.time) m.queue)
    && not (list_any takes_handed (under_way o m))

-- outbox: fence/before, fence/behind
abbrev pub passes_fence : Opening → Box → Link → Outgoing → Bool
passes_fence o b l out =
    not out.takes || list_all (λ m. lets_pass o out m && (not out.fenced || is_clear o out m)) (others b l)

-- ---- pings

abbrev pub is_ping : Handed → Bool
is_ping h = elim (h.out.pdu) [ Pings tag ↦ true | Replies reply ↦ false | Owns p ↦ false | Notices ↦ false ]

abbrev pub count_pings : Link → ℕ
count_pings l = count_by is_ping l.handed

-- the Logout Response that closes the connection was handed out on it, or it is closed by another one's
abbrev pub is_behind_logout : Link → Bool
is_behind_logout l = l.cut || list_any (λ (h : Handed). contains h.out.closes l.conn) l.handed

-- something waits for what was handed out here to arrive, or may soon: something of a command that left is under way; what
-- takes a StatSN, while a fenced answer waits elsewhere; or a fenced answer, while what takes a StatSN waits elsewhere
abbrev pub is_asked_for : Opening → Box → Link → Bool
is_asked_for o b l =
    has_under_way o (is_left b) l
    || (list_any takes_handed (unarrived l) && list_any (λ m. list_any (λ (out : Outgoing). out.fenced) m.queue) (others b l))
    || (list_any fenced_handed (unarrived l) && list_any (λ m. list_any (λ (out : Outgoing). out.takes) m.queue) (others b l))

-- outbox: ping/asked, ping/one, ping/logout
abbrev pub wants_ping : Opening → Box → Link → Bool
wants_ping o b l =
    looks_for_arrival o && is_asked_for o b l
    && not (list_any is_ping (unarrived l)) && not (is_behind_logout l)

-- ---- the next PDU

abbrev pub nop_in : Box → Pdu → Outgoing
nop_in b pdu = record {
  time = b.time;
  pdu = pdu;
  sent = None;
  ticket = None;
  takes = false;
  fenced = false;
  numbered = false;
  scope = [];
  closes = [];
}

-- transfer tags of pings count from the first one on, and never come to NO_TAG
abbrev pub ping : Box → Link → Outgoing
ping b l = nop_in b (Pings (FIRST_PING + count_pings l % 0x7fff_ffff))

-- all numbers that were shown are used, more may be shown, and nothing waits that shows them: the first connection that takes
-- requests says so
-- outbox: room/notice
abbrev pub wants_notice : Opening → Box → Link → Bool
wants_notice o b l =
    elim (first_of (filter is_usable b.links)) [ Some m ↦ m.conn == l.conn | None ↦ false ]
    && nat_lt b.reached (lift b.shown b.exp) && nat_lt b.reached (max_shown o b)

-- what the queue gives
abbrev pub first_waiting : Opening → Box → Link → List Outgoing → Option Outgoing
first_waiting o b l [] = if wants_notice o b l then Some (nop_in b Notices) else None
first_waiting o b l (out ∷ rest) = if passes_fence o b l out then Some out else None

-- a ping goes before all that waits
-- outbox: ping/first
abbrev pub chosen : Opening → Box → Link → Option Outgoing
chosen o b l = if is_open l then (if wants_ping o b l then Some (ping b l) else first_waiting o b l l.queue) else None

-- nothing more goes out on a connection that a Logout closed
-- outbox: close/over
abbrev pub is_over : Box → Link → Bool
is_over b l =
    is_open l && l.closed && list_all (λ (out : Outgoing). false) l.queue
    && not (list_any (λ (a : Answer). a.conn == l.conn) b.undue)
    && (l.cut || list_all (λ (h : Handed). false) (unwritten l))

pub data Given : Type 0 where
  Hands : Handed → Given
  Nothing : Given
  IsOver : Given

-- ---- handing it out

abbrev pub is_from_queue : Outgoing → Bool
is_from_queue out = elim (out.pdu) [ Replies reply ↦ true | Owns p ↦ true | Pings tag ↦ false | Notices ↦ false ]

abbrev pub taken_from : Outgoing → Link → Link
taken_from out l = if is_from_queue out then record l { queue = drop 1 l.queue } else l

-- the StatSN that the next PDU shows
abbrev pub next_stat_sn : Link → ℕ
next_stat_sn l = l.first + count_by takes_handed l.handed

abbrev pub without_chosen : Box → Link → Outgoing → Box
without_chosen b l out = record b { links = at_link l.conn (taken_from out) b.links }

abbrev pub own_header : OwnPdu → List ℕ
own_header (OfCommand ticket header) = header
own_header (OfConnection conn header) = header

abbrev pub nop_in_header : ℕ → ℕ → ℕ → ℕ → List ℕ
nop_in_header tag stat_sn exp max =
    0x20 ∷ 0x80 ∷ replicate 14 0 ++ bytes_4 NO_TAG ++ bytes_4 tag ++ bytes_4 stat_sn ++ bytes_4 exp ++ bytes_4 max ++ replicate 12 0

-- it is numbered as it is handed out
-- outbox: numbers/stat-sn, numbers/exp, numbers/max
abbrev pub handed_as : Opening → Box → Link → Outgoing → Handed
handed_as o b l out = record {
  out = out;
  stat_sn = wire (next_stat_sn l);
  exp = b.exp;
  max = wire (max_shown o (without_chosen b l out));
}

-- its 48 bytes: of an own PDU with StatSN, ExpCmdSN and MaxCmdSN filled in; of a NOP-In of the outbox's own without a task's tag
abbrev pub header_with : Pdu → ℕ → ℕ → ℕ → List ℕ
header_with (Replies reply) stat_sn exp max = header_of reply stat_sn exp max
header_with (Owns p) stat_sn exp max = let header = own_header p in take 24 header ++ bytes_4 stat_sn ++ bytes_4 exp ++ bytes_4 max ++ drop 36 header
header_with (Pings tag) stat_sn exp max = nop_in_header tag stat_sn exp max
header_with Notices stat_sn exp max = nop_in_header NO_TAG stat_sn exp max

abbrev pub header_handed : Handed → List ℕ
header_handed h = header_with h.out.pdu h.stat_sn h.exp h.max

-- what follows the header, but for the data of an own PDU, which the target has
abbrev pub tail_handed : Handed → List ℕ
tail_handed h = elim (h.out.pdu) [ Replies reply ↦ tail_of reply | Owns p ↦ [] | Pings tag ↦ [] | Notices ↦ [] ]

abbrev pub link_of : Box → ℕ → Option Link
link_of b conn = first_of (filter (λ (l : Link). l.conn == conn) b.links)

abbrev pub given_on : Opening → Box → Link → Given
given_on o b l = elim (chosen o b l) [ Some out ↦ Hands (handed_as o b l out) | None ↦ (if is_over b l then IsOver else Nothing) ]

abbrev pub given : Opening → Box → ℕ → Given
given o b conn = elim (link_of b conn) [ Some l ↦ given_on o b l | None ↦ Nothing ]

abbrev pub after_given : Opening → Box → Link → Handed → Box
after_given o b l h =
    let b' = without_chosen b l h.out in
    record b' {
      links = at_link l.conn (λ m. record m { handed = m.handed ++ h ∷ [] }) b'.links;
      shown = max_shown o b';
      reached = max_shown o b';
    }
