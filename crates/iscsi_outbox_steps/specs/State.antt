-- What an outbox keeps: no history, and what its parts keep. What callers ask of it.
use Rattle.std.specs.Prelude.{ℕ, ◌+◌, ◌-◌, ◌*◌, ◌==◌, ◌&&◌, ◌||◌, not, nat_lt, nat_le, min, max, Bool, true, false, List, [], ◌∷◌, length, map, count_by, Option, Some, None, slice_index_or, slice_set, if◌then◌else◌}
use Rattle.std.specs.List.{position}
use Rattle.iscsi_wire.specs.Serial.{lift, number_of_first}
use Rattle.iscsi_outbox_rules.specs.rules.Calls.{Opening}
use Rattle.iscsi_outbox_rules.specs.rules.Words.{looks_for_arrival}
use Rattle.iscsi_arrivals.specs.Counts.{Counts, has_arrived_by, is_behind_logout_by, is_busy_by, is_open_by, is_usable_by, new_counts}
use Rattle.iscsi_outbox_state.specs.declared.waiting.Front.{Front}
use Rattle.iscsi_outbox_state.specs.Waits.{Waits, opened as no_waits, is_fenced, is_fenced_before, is_reply, is_taking, is_taking_before, queue_at, any_in as any_waits, count_in as count_waits, is_numbered as is_numbered_entry}
use Rattle.iscsi_outbox_state.specs.Lane.{Lane, opened as no_answers, any_in as any_stands, count_in as count_stands, goes_out_on, is_left, is_numbered as is_numbered_answer, is_under_way_on}
use Rattle.iscsi_outbox_steps.specs.declared.sent.Sent.{Sent}
use Rattle.iscsi_tracked.specs.Tracked.{Tracked, opened as no_commands}

-- what it is opened with
pub record Limits : Type 0 where
  pub cids : List ℕ  -- the CID of each connection, in the order of the session's options
  pub window : ℕ
  pub units : ℕ
  pub own : ℕ  -- the most own PDUs that wait on a connection
  pub looks : Bool  -- what was written is under way until it is known to have arrived
  pub shared : Bool  -- other sessions have the units, too

pub record State : Type 0 where
  pub limits : Limits
  pub links : List Counts  -- of each connection
  pub waits : Waits
  pub lane : Lane
  pub tracked : Tracked
  pub fence : Option Sent  -- the last answer to a function of several tasks that was handed out
  pub exp : ℕ  -- ExpCmdSN, as the last event showed it
  pub max : ℕ  -- the session's MaxCmdSN, without bound
  pub shown : ℕ  -- the last MaxCmdSN that was shown, without bound
  pub reached : ℕ  -- the same, and 0 once a connection was lost since
  pub sent : ℕ  -- how many replies were taken, modulo 2^64

abbrev pub limits_of : Opening → Limits
limits_of o = record {
  cids = map (λ (c : ℕ × ℕ). c.0) o.session.conns;
  window = o.session.window;
  units = o.session.units;
  own = o.own;
  looks = looks_for_arrival o;
  shared = o.shared;
}

-- ---- sizes

-- the most requests that a session has at once: held, waiting or live
abbrev pub most_at_once : Limits → ℕ
most_at_once o = o.window + 12 * length o.cids

-- the most replies that may wait, and the most commands that may owe, as a request arrives
abbrev pub room : Limits → ℕ
room o = 2 * most_at_once o

-- the most of either that numbered requests may come to
abbrev pub numbered_room : Limits → ℕ
numbered_room o = 2 * o.window + 12 * length o.cids

-- places for replies, and for commands that are live or owe
abbrev pub places : Limits → ℕ
places o = 3 * most_at_once o

-- so many PDUs may wait: replies, and own PDUs of each connection
abbrev pub waiting_room : Limits → ℕ
waiting_room o = places o + o.own * length o.cids

-- `first`: the session's first CmdSN
abbrev pub opened : Limits → ℕ → State
opened o first =
    let last = number_of_first first + o.window - 1 in
    record {
      limits = o;
      links = map (λ (cid : ℕ). new_counts) o.cids;
      waits = no_waits (length o.cids) (places o) (waiting_room o);
      lane = no_answers (length o.cids) (places o) (places o);
      tracked = no_commands (length o.cids) (places o);
      fence = None;
      exp = first;
      max = last;
      shown = last;
      reached = last;
      sent = 0;
    }

-- ---- connections

-- the place of the connection with this CID
abbrev pub place_of : State → ℕ → Option ℕ
place_of s cid = position (λ (c : ℕ). c == cid) s.limits.cids

abbrev pub link_at : State → ℕ → Counts
link_at s conn = slice_index_or s.links conn new_counts

abbrev pub with_link : ℕ → (Counts → Counts) → State → State
with_link conn change s = record s { links = slice_set s.links conn (change (link_at s conn)) }

abbrev pub looks : State → Bool
looks s = s.limits.looks

-- ---- room

abbrev pub numbered_waiting : State → ℕ
numbered_waiting s = count_waits is_numbered_entry s.waits + count_stands is_numbered_answer s.lane

abbrev pub replies_waiting : State → ℕ
replies_waiting s = count_waits is_reply s.waits + count_stands (λ x. not (is_left x)) s.lane

abbrev pub owing : State → ℕ
owing s = count_stands is_left s.lane

abbrev pub may_take : State → Bool
may_take s = nat_lt (replies_waiting s) (room s.limits) && nat_lt (owing s) (room s.limits)

abbrev pub credit_of : State → ℕ
credit_of s = min s.limits.window (numbered_room s.limits - max (numbered_waiting s) (owing s))

abbrev pub max_shown : State → ℕ
max_shown s = max s.shown (s.max - (s.limits.window - credit_of s))

-- ---- the fence

-- the last fenced answer isn't known to have arrived on its connection
abbrev pub is_fence_out : (ℕ → Bool) → State → Bool
is_fence_out where_it_is s = elim (s.fence) [ Some f ↦ where_it_is f.conn && (is_open_by (link_at s f.conn) && not (has_arrived_by f.stamp (link_at s f.conn))) | None ↦ false ]

abbrev pub is_fence_elsewhere : ℕ → State → Bool
is_fence_elsewhere conn s = is_fence_out (λ c. not (c == conn)) s

abbrev pub is_fence_here : ℕ → State → Bool
is_fence_here conn s = is_fence_out (λ c. c == conn) s

abbrev pub busy : State → ℕ
busy s = count_by (λ (l : Counts). is_busy_by (looks s) l) s.links

abbrev pub is_busy_elsewhere : ℕ → State → Bool
is_busy_elsewhere conn s = nat_lt (if is_busy_by (looks s) (link_at s conn) then 1 else 0) (busy s)

-- the first PDU of a connection may go out
abbrev pub passes : ℕ → Front → State → Bool
passes conn f s =
    not f.takes
    || ((not (any_waits (is_fenced_before f.time) s.waits) && not (looks s && is_fence_elsewhere conn s))
    && (not f.fenced || (not (any_waits (is_taking_before f.time) s.waits) && not (is_busy_elsewhere conn s))))

-- ---- pings and notices

abbrev pub is_asked_for : ℕ → State → Bool
is_asked_for conn s =
    nat_lt 0 (count_stands (is_under_way_on conn) s.lane)
    || (nat_lt (link_at s conn).acknowledged (link_at s conn).next && nat_lt (count_by is_fenced (queue_at s.waits conn)) (count_waits is_fenced s.waits))
    || (is_fence_here conn s && nat_lt (count_by is_taking (queue_at s.waits conn)) (count_waits is_taking s.waits))

abbrev pub wants_ping : ℕ → State → Bool
wants_ping conn s =
    looks s && is_asked_for conn s
    && not (nat_lt (link_at s conn).answered (link_at s conn).pings) && not (is_behind_logout_by (link_at s conn))

-- the first connection that takes requests
abbrev pub first_usable : State → Option ℕ
first_usable s = position is_usable_by s.links

abbrev pub wants_notice : ℕ → State → Bool
wants_notice conn s =
    elim (first_usable s) [ Some p ↦ p == conn | None ↦ false ]
    && nat_lt s.reached (lift s.shown s.exp) && nat_lt s.reached (max_shown s)

-- nothing more goes out on a connection that a Logout closed
abbrev pub is_over : ℕ → State → Bool
is_over conn s =
    let l = link_at s conn in
    is_open_by l && l.closed && elim (queue_at s.waits conn) [ [] ↦ true | e ∷ es ↦ false ]
    && not (any_stands (goes_out_on conn) s.lane)
    && (l.cut || nat_le l.handed l.written)
