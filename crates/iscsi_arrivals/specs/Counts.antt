-- What is kept of a connection: counts. What each call answers by them, and what they become.
use Rattle.std.specs.Prelude.{◌≡◌, ℕ, ◌+◌, ◌-◌, ◌%◌, ◌^◌, ◌≤◌, ◌==◌, ◌&&◌, ◌||◌, not, nat_lt, nat_le, max, Bool, true, false, if◌then◌else◌}
use Rattle.iscsi_wire.specs.Serial.{lift, number_of_first}
use Rattle.iscsi_outbox_rules.specs.rules.Own.{FIRST_PING}
use Rattle.iscsi_arrivals.specs.declared.stamp.Stamp.{Stamp}

-- StatSNs are numbers that don't wrap, as `number_of_first` has them
pub record Counts : Type 0 where
  pub joined : Bool
  pub closed : Bool  -- by a Logout
  pub cut : Bool  -- by one on another connection
  pub lost : Bool
  pub next : ℕ  -- the StatSN that the next PDU shows
  pub acknowledged : ℕ  -- what shows a lesser StatSN is known to have arrived
  pub pings : ℕ  -- so many pings were handed out
  pub answered : ℕ  -- so many of them are known to have arrived
  pub asked : ℕ  -- the StatSN that the last one showed
  pub handed : ℕ  -- so many PDUs were handed out
  pub written : ℕ  -- so many of them are written
  pub taken : ℕ  -- so many of them stand up to the last one that took a StatSN
  pub ended : Bool  -- one of them closes the connection: its Logout Response

-- a connection that hasn't joined
abbrev pub new_counts : Counts
new_counts = record {
  joined = false;
  closed = false;
  cut = false;
  lost = false;
  next = 0;
  acknowledged = 0;
  pings = 0;
  answered = 0;
  asked = 0;
  handed = 0;
  written = 0;
  taken = 0;
  ended = false;
}

abbrev pub is_open_by : Counts → Bool
is_open_by s = s.joined && not s.lost

abbrev pub is_usable_by : Counts → Bool
is_usable_by s = is_open_by s && not s.closed

abbrev pub takes_more_by : Counts → Bool
takes_more_by s = is_open_by s && not s.cut

abbrev pub may_join_by : Counts → Bool
may_join_by s = not s.joined && not s.closed && not s.lost

abbrev pub joined_by : ℕ → Counts → Counts
joined_by stat_sn s = if may_join_by s then record s { joined = true; next = number_of_first stat_sn; acknowledged = number_of_first stat_sn } else s

-- ---- what is handed out

-- the stamp of the next PDU
abbrev pub stamp_by : Counts → Stamp
stamp_by s = record { stat_sn = s.next; pings = s.pings; place = s.handed }

-- a PDU that is no ping is handed out; it takes a StatSN or not, and closes the connection or not
abbrev pub handed_by : Bool → Bool → Counts → Counts
handed_by takes ends s = record s {
  next = (if takes then s.next + 1 else s.next);
  handed = s.handed + 1;
  taken = (if takes then s.handed + 1 else s.taken);
  ended = s.ended || ends;
}

-- the transfer tag of a ping, so many pings being handed out before it
abbrev pub tag_of_ping : ℕ → ℕ
tag_of_ping before = FIRST_PING + before % 0x7fff_ffff

abbrev pub pinged_by : Counts → Counts
pinged_by s = record s { pings = s.pings + 1; asked = s.next; handed = s.handed + 1 }

-- ---- what is written, and what is known to have arrived

abbrev pub written_by : Counts → Counts
written_by s = if nat_lt s.written s.handed then record s { written = s.written + 1 } else s

-- the StatSN that an ExpStatSN stands for; 0 where it says nothing: above the next one, or half of the numbers behind it
abbrev pub number_heard : ℕ → ℕ → ℕ
number_heard next exp_stat_sn =
    let n = lift next exp_stat_sn in
    if nat_le n next && nat_lt (next - n) (2 ^ 31 - 1) then n else 0

-- the last ping has this transfer tag
abbrev pub is_answer_by : ℕ → Counts → Bool
is_answer_by tag s = nat_lt 0 s.pings && (tag_of_ping (s.pings - 1) == tag)

-- by its answer all before a ping arrived
abbrev pub acknowledged_with : ℕ → Bool → Counts → ℕ
acknowledged_with exp_stat_sn is_answer s = max s.acknowledged (max (number_heard s.next exp_stat_sn) (if is_answer then s.asked else 0))

-- a ping arrived, too, where a PDU behind it is acknowledged
abbrev pub answered_with : ℕ → Bool → Counts → ℕ
answered_with acknowledged is_answer s = if is_answer || nat_lt s.asked acknowledged then s.pings else s.answered

abbrev pub heard_by : ℕ → ℕ → Counts → Counts
heard_by exp_stat_sn tag s =
    let known = acknowledged_with exp_stat_sn (is_answer_by tag s) s in
    if is_open_by s then record s { acknowledged = known; answered = answered_with known (is_answer_by tag s) s } else s

-- ---- what is asked

abbrev pub is_behind_logout_by : Counts → Bool
is_behind_logout_by s = s.cut || s.ended

abbrev pub has_arrived_by : Stamp → Counts → Bool
has_arrived_by stamp s = nat_lt stamp.stat_sn s.acknowledged || nat_lt stamp.pings s.answered

abbrev pub is_written_by : Stamp → Counts → Bool
is_written_by stamp s = nat_lt stamp.place s.written

-- what takes a StatSN is under way, where that ends by arrival (`looks`), or else by being written
abbrev pub is_busy_by : Bool → Counts → Bool
is_busy_by looks s = is_open_by s && (if looks then nat_lt s.acknowledged s.next else nat_lt s.written s.taken)

abbrev pub is_under_way_by : Bool → Stamp → Counts → Bool
is_under_way_by looks stamp s = is_open_by s && not (if looks then has_arrived_by stamp s else is_written_by stamp s)

-- ---- what holds of all counts

pub record IsSound (joined : Bool) (next pings handed : ℕ) : Type 0 where
  pub fits : next ≤ 2 ^ 33 + handed
  pub few : pings ≤ handed
  pub lifted : joined ≡ true → 2 ^ 32 ≤ next
