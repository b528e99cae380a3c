-- Which requests are needed still: nothing of any other one is.
use Rattle.std.specs.Prelude.{ℕ, ◌-◌, ◌==◌, ◌&&◌, ◌||◌, not, Bool, true, false, List, [], ◌∷◌, length, filter, count_by, Option, Some, None, is_some, if◌then◌else◌}
use Rattle.std.specs.List.{find, list_any}
use Rattle.iscsi_rules.specs.rules.Trace.{Arrival, Command, Mark, Admits, Trace, shown, held, waiting, live, entered}
use Rattle.iscsi_outbox_rules.specs.declared.own_pdu.OwnPdu.TheVariants.{OfCommand, OfConnection}
use Rattle.iscsi_outbox_rules.specs.rules.Boxes.{Pdu, Replies, Owns, Pings, Notices, Outgoing, Handed, Answer, Link, Box}
use Rattle.iscsi_outbox_rules.specs.rules.Words.{is_running, unwritten}
use Rattle.iscsi_outbox_rules.specs.promises.Scope.{nth}
use Rattle.iscsi_ffi_rules.specs.rules.Sides.{Asked, Noted, Side}

-- ---- in the session

abbrev pub admitted_by : Mark → Option Arrival
admitted_by (Admits a) = Some a
admitted_by _ = None

abbrev pub is_of_event : ℕ → Arrival → Bool
is_of_event event a = a.event == event

-- it is held at its number
abbrev pub is_held : ℕ → Trace → Bool
is_held event t = elim (find (is_of_event event) (shown admitted_by t)) [ Some a ↦ is_some (held t a.number) | None ↦ false ]

-- it is a function that waits
abbrev pub is_waiting : ℕ → Trace → Bool
is_waiting event t = list_any (is_of_event event) (waiting t)

-- its command is in a task set
abbrev pub is_live : ℕ → Trace → Bool
is_live event t = list_any (λ (c : Command). is_of_event event c.arrival) (live t)

-- ---- in the outbox

-- its command was taken out after it was told to start, and hasn't stopped
abbrev pub runs : ℕ → Trace → Box → Bool
runs event t b = list_any (λ (c : Command). is_of_event event c.arrival && is_running b c.ticket) (entered t)

abbrev pub is_ticket_of : ℕ → Trace → ℕ → Bool
is_ticket_of event t ticket = list_any (λ (c : Command). is_of_event event c.arrival && c.ticket == ticket) (entered t)

-- a PDU answers it, or is of its command
abbrev pub is_about : ℕ → Side → Outgoing → Bool
is_about event s out =
    elim (out.sent) [ Some place ↦ elim (nth place s.answers) [ Some e ↦ e == event | None ↦ false ] | None ↦ false ]
    || elim (out.ticket) [ Some ticket ↦ is_ticket_of event s.both.trace ticket | None ↦ false ]

-- such a PDU waits
abbrev pub waits : ℕ → Side → Bool
waits event s = list_any (λ (l : Link). list_any (is_about event s) l.queue) s.both.box.links || list_any (λ (a : Answer). is_about event s a.out) s.both.box.undue

-- what was handed out on a connection that isn't lost, and isn't written
abbrev pub left_to_write : Link → List Handed
left_to_write l = if l.lost then [] else unwritten l

abbrev pub is_being_written : ℕ → Side → Bool
is_being_written event s = list_any (λ (l : Link). list_any (λ (h : Handed). is_about event s h.out) (left_to_write l)) s.both.box.links

-- ---- whether it is needed

abbrev pub is_needed : Side → Asked → Bool
is_needed s a =
    let t = s.both.trace in
    is_held a.event t || is_waiting a.event t || is_live a.event t || runs a.event t s.both.box || waits a.event s || is_being_written a.event s

-- ---- the target's own PDUs that are of no command

abbrev pub is_noted : Pdu → Bool
is_noted (Owns (OfConnection conn header)) = true
is_noted (Owns (OfCommand ticket header)) = false
is_noted (Replies reply) = false
is_noted (Pings tag) = false
is_noted Notices = false

-- so many of a connection wait
abbrev pub noted_waiting : Link → ℕ
noted_waiting l = count_by (λ (out : Outgoing). is_noted out.pdu) l.queue

-- so many were handed out, and aren't written
abbrev pub noted_unwritten : Link → ℕ
noted_unwritten l = count_by (λ (h : Handed). is_noted h.out.pdu) (left_to_write l)

abbrev pub noted_on : ℕ → List Noted → List Noted
noted_on conn noted = filter (λ (n : Noted). n.conn == conn) noted

-- those of a connection go in the order in which they came, so the last ones are needed: so many as are left
abbrev pub needless_on : (Link → ℕ) → Link → List Noted → ℕ
needless_on left l noted = length (noted_on l.conn noted) - left l

-- the first so many of a connection
abbrev pub first_noted : ℕ → ℕ → List Noted → List Noted
first_noted conn count [] = []
first_noted conn count (n ∷ noted) = if n.conn == conn then (if count == 0 then [] else n ∷ first_noted conn (count - 1) noted) else first_noted conn count noted

-- the others
abbrev pub without_first : ℕ → ℕ → List Noted → List Noted
without_first conn count [] = []
without_first conn count (n ∷ noted) = if n.conn == conn && not (count == 0) then without_first conn (count - 1) noted else n ∷ without_first conn count noted
