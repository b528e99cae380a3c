-- The connections of the steps stand for those of the rules, and what waits on them for what waits there.
use Rattle.std.specs.Prelude.{◌≡◌, ℕ, ◌%◌, ◌^◌, List, map, Option, Some, None, if◌then◌else◌}
use Rattle.iscsi_arrivals.specs.Counts.{Counts}
use Rattle.iscsi_arrivals.specs.Standing.{StandsFor}
use Rattle.iscsi_outbox_rules.specs.rules.Boxes.{Pdu as RulesPdu, Replies, Owns, Outgoing, Link}
use Rattle.iscsi_outbox_rules.specs.rules.Words.{contains}
use Rattle.iscsi_outbox_state.specs.declared.waiting.Content.{Content}
use Rattle.iscsi_outbox_state.specs.declared.waiting.Content.TheVariants.{Reply, Own}
use Rattle.iscsi_outbox_state.specs.Waits.{Entry}
use Rattle.iscsi_tracked.specs.Tracked.{Tracked, find_ticket}
use Rattle.iscsi_outbox_steps.specs.Steps.{is_live}
use Rattle.iscsi_outbox_law.specs.private.Pairs.{PairsOf}

-- place by place, in the order of the session's options
pub record AreLinks (cids : List ℕ) (counts : List Counts) (links : List Link) : Type 0 where
  pub conns : map (λ (l : Link). l.conn) links ≡ cids
  pub each : PairsOf StandsFor counts links

-- ---- what waits

abbrev pub pdu_of : Content → RulesPdu
pdu_of (Reply sent) = Replies sent.reply
pdu_of (Own own) = Owns own

-- the place of a reply in the session's log, modulo 2^64. An own PDU has none
abbrev pub sent_of : Content → Option ℕ
sent_of (Reply sent) = Some sent.place
sent_of (Own own) = None

-- .. as the rules count it, in a word of 64 bits
abbrev pub word_of : Option ℕ → Option ℕ
word_of (Some place) = Some (place % 2 ^ 64)
word_of None = None

-- the place of the live command with this ticket
abbrev pub live_place : Tracked → ℕ → Option ℕ
live_place v ticket = elim (find_ticket ticket v) [ Some c ↦ (if is_live c then Some c.place else None) | None ↦ None ]

abbrev pub place_of_command : Tracked → Option ℕ → Option ℕ
place_of_command v (Some ticket) = live_place v ticket
place_of_command v None = None

-- what waits on the connection with this CID
pub record IsEntry (v : Tracked) (cid : ℕ) (e : Entry) (out : Outgoing) : Type 0 where
  pub time : e.time ≡ out.time
  pub pdu : pdu_of e.item.content ≡ out.pdu
  pub sent : sent_of e.item.content ≡ word_of out.sent
  pub takes : e.item.takes ≡ out.takes
  pub fenced : e.item.fenced ≡ out.fenced
  pub numbered : e.item.numbered ≡ out.numbered
  pub ends : e.item.ends ≡ contains out.closes cid
  pub command : e.item.command ≡ place_of_command v out.ticket

abbrev pub IsQueue : Tracked → List Entry → Link → Type 0
IsQueue v queue l = PairsOf (IsEntry v l.conn) queue l.queue

abbrev pub AreQueues : Tracked → List (List Entry) → List Link → Type 0
AreQueues v queues links = PairsOf (IsQueue v) queues links
