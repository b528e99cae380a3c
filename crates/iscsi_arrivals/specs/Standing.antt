-- When counts stand for a connection of the rules.
use Rattle.std.specs.Prelude.{◌≡◌, ℕ, ◌+◌, ◌^◌, ◌<◌, ◌≤◌, ◌⊎◌, ◌&&◌, not, Bool, true, false, List, [], ◌∷◌, ◌++◌, length, count_by, if◌then◌else◌}
use Rattle.std.specs.List.{list_any}
use Rattle.iscsi_outbox_rules.specs.rules.Boxes.{Pings, Handed, Link}
use Rattle.iscsi_outbox_rules.specs.rules.Words.{contains}
use Rattle.iscsi_outbox_rules.specs.rules.Handing.{takes_handed, is_ping, count_pings, next_stat_sn}
use Rattle.iscsi_outbox_rules.specs.rules.Run.{link_joined}
use Rattle.iscsi_arrivals.specs.Counts.{Counts, tag_of_ping}
use Rattle.iscsi_arrivals.specs.Stamps.{stat_sn_at, pings_at, IsUpToLast}

-- ---- what becomes of a connection

abbrev pub may_join_now : Link → Bool
may_join_now l = not l.joined && not l.closed && not l.lost

abbrev pub joined_if : ℕ → Link → Link
joined_if stat_sn l = if may_join_now l then link_joined stat_sn l else l

abbrev pub link_closed : Link → Link
link_closed l = record l { closed = true }

abbrev pub link_cut : Link → Link
link_cut l = record l { closed = true; cut = true }

-- it is the Logout Response that closes this connection
abbrev pub closes_conn : ℕ → Handed → Bool
closes_conn conn h = contains h.out.closes conn

-- ---- standing

-- the last ping of what was handed out, with what stands before and behind it, and the StatSN that it showed
pub record LastPing (handed : List Handed) (first asked : ℕ) : Type 0 where
  pub before : List Handed
  pub ping : Handed
  pub after : List Handed
  pub whole : before ++ ping ∷ after ≡ handed
  pub tag : ping.out.pdu ≡ Pings (tag_of_ping (count_by is_ping before))
  pub takes : ping.out.takes ≡ false
  pub last : count_by is_ping after ≡ 0
  pub shown : asked ≡ first + count_by takes_handed before

pub record StandsFor (s : Counts) (l : Link) : Type 0 where
  pub joined : s.joined ≡ l.joined
  pub closed : s.closed ≡ l.closed
  pub cut : s.cut ≡ l.cut
  pub lost : s.lost ≡ l.lost
  pub next : s.next ≡ next_stat_sn l
  pub handed : s.handed ≡ length l.handed
  pub written : s.written ≡ l.written
  pub taken : IsUpToLast takes_handed l.handed s.taken
  pub ended : s.ended ≡ list_any (closes_conn l.conn) l.handed
  pub pings : s.pings ≡ count_pings l
  pub last_ping : (s.pings ≡ 0) ⊎ LastPing l.handed l.first s.asked
  -- the stamp of what isn't known to have arrived first
  pub acknowledged : s.acknowledged ≡ stat_sn_at l l.arrived
  pub answered : s.answered ≡ pings_at l l.arrived
  -- what is known to have arrived ends with what took a StatSN, or with a ping: all before has a lesser stamp
  pub ends : (place : ℕ) → place < l.arrived → (stat_sn_at l place < stat_sn_at l l.arrived) ⊎ (pings_at l place < pings_at l l.arrived)
  -- one ping at the most isn't known to have arrived
  pub one_ping : s.pings ≤ s.answered + 1
  pub within : l.arrived ≤ length l.handed
  pub few_written : l.written ≤ length l.handed
  pub unjoined : l.joined ≡ false → l.handed ≡ []
  pub first : l.joined ≡ true → 2 ^ 32 ≤ l.first
