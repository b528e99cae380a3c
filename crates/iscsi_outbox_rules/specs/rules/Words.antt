-- The words of the rules.
use Rattle.std.specs.Prelude.{ℕ, ◌+◌, ◌-◌, ◌*◌, ◌==◌, ◌&&◌, ◌||◌, not, nat_lt, min, max, Bool, true, false, List, [], length, drop, count_by, Some, None, if◌then◌else◌}
use Rattle.std.specs.List.{list_any, sum_by}
use Rattle.iscsi_outbox_rules.specs.rules.Calls.{Opening}
use Rattle.iscsi_outbox_rules.specs.rules.Boxes.{Phase, Dormant, Fresh, Started, Running, Gone, Task, Pdu, Replies, Outgoing, Handed, Answer, Link, Box}

abbrev pub contains : List ℕ → ℕ → Bool
contains ns n = list_any (λ k. k == n) ns

-- ---- commands

abbrev pub is_live_phase : Phase → Bool
is_live_phase Dormant = true
is_live_phase Fresh = true
is_live_phase Started = true
is_live_phase _ = false

abbrev pub is_running_phase : Phase → Bool
is_running_phase Running = true
is_running_phase _ = false

-- left: taken out of its task set by an abort or a Logout
abbrev pub is_left_phase : Phase → Bool
is_left_phase Running = true
is_left_phase Gone = true
is_left_phase _ = false

-- the command with this ticket is in such a phase
abbrev pub is_in_phase : (Phase → Bool) → Box → ℕ → Bool
is_in_phase test b ticket = list_any (λ (t : Task). t.ticket == ticket && test t.phase) b.tasks

abbrev pub is_running : Box → ℕ → Bool
is_running b ticket = is_in_phase is_running_phase b ticket

abbrev pub is_left : Box → ℕ → Bool
is_left b ticket = is_in_phase is_left_phase b ticket

-- a PDU is of one of these commands
abbrev pub is_of : (ℕ → Bool) → Outgoing → Bool
is_of these out = elim (out.ticket) [ Some ticket ↦ these ticket | None ↦ false ]

-- ---- connections

abbrev pub is_open : Link → Bool
is_open l = l.joined && not l.lost

-- it takes requests and own PDUs
abbrev pub is_usable : Link → Bool
is_usable l = is_open l && not l.closed

-- whether what was written is under way until it is known to have arrived, by StatSNs and pings. In a session of one connection
-- StatSN orders all, and written is enough
abbrev pub looks_for_arrival : Opening → Bool
looks_for_arrival o = o.acknowledged && nat_lt 1 (length o.session.conns)

abbrev pub unwritten : Link → List Handed
unwritten l = drop l.written l.handed

abbrev pub unarrived : Link → List Handed
unarrived l = drop l.arrived l.handed

-- what is under way: handed out, the connection not lost, and not written, or not known to have arrived
abbrev pub under_way : Opening → Link → List Handed
under_way o l = if is_open l then (if looks_for_arrival o then unarrived l else unwritten l) else []

-- something of these commands is under way there
abbrev pub has_under_way : Opening → (ℕ → Bool) → Link → Bool
has_under_way o these l = list_any (λ (h : Handed). is_of these h.out) (under_way o l)

-- ---- room

-- the most requests that a session has at once: held, waiting or live
abbrev pub most_at_once : Opening → ℕ
most_at_once o = o.session.window + 12 * length o.session.conns

-- the most replies that may wait, and the most commands that may owe, as a request arrives
abbrev pub room : Opening → ℕ
room o = 2 * most_at_once o

-- the most of either that numbered requests may come to
abbrev pub numbered_room : Opening → ℕ
numbered_room o = 2 * o.session.window + 12 * length o.session.conns

abbrev pub is_reply : Pdu → Bool
is_reply (Replies reply) = true
is_reply _ = false

abbrev pub count_waiting : (Outgoing → Bool) → Box → ℕ
count_waiting test b = count_by (λ (a : Answer). test a.out) b.undue + sum_by (λ (l : Link). count_by test l.queue) b.links

-- how many replies wait
abbrev pub replies_waiting : Box → ℕ
replies_waiting b = count_waiting (λ (out : Outgoing). is_reply out.pdu) b

abbrev pub numbered_waiting : Box → ℕ
numbered_waiting b = count_waiting (λ (out : Outgoing). out.numbered) b

-- a command that left owes while it runs or something of it is under way
abbrev pub owes : Opening → Box → Task → Bool
owes o b t = is_running_phase t.phase || (is_left_phase t.phase && list_any (has_under_way o (λ ticket. ticket == t.ticket)) b.links)

abbrev pub owing : Opening → Box → ℕ
owing o b = count_by (owes o b) b.tasks

-- a request more may be taken: there is room for its reply, with those of all that is held, waits or is live; and for what
-- it takes out
abbrev pub may_take : Opening → Box → Bool
may_take o b = nat_lt (replies_waiting b) (room o) && nat_lt (owing o b) (room o)

-- the window as it may be shown: the session's, less what waits or owes beyond the numbered room
abbrev pub credit_of : Opening → Box → ℕ
credit_of o b = min o.session.window (numbered_room o - max (numbered_waiting b) (owing o b))

-- MaxCmdSN as it is shown: the session's, less by what the window is less; and never back
abbrev pub max_shown : Opening → Box → ℕ
max_shown o b = max b.shown (b.max - (o.session.window - credit_of o b))
