-- The parts of what the steps keep, and what they stand for in the rules.
use Rattle.std.specs.Prelude.{◌≡◌, ◌<◌, ◌≤◌, ℕ, ◌+◌, ◌*◌, ◌==◌, ◌&&◌, ◌||◌, not, Bool, true, false, List, [], ◌∷◌, ◌++◌, length, filter, count_by, nat_lt, get_or, Option, Some, None, is_some, if◌then◌else◌}
use Rattle.std.specs.List.{find, list_any}
use Rattle.iscsi_wire.specs.Fields.{cmd_sn, connection_of}
use Rattle.iscsi_rules.specs.rules.Trace.{Arrival, Command as RulesCommand, Trace, entered, has, held, leaves_ticket, was_free}
use Rattle.iscsi_outbox_rules.specs.rules.Boxes.{Answer, Handed, Link, Notices, Outgoing, Owns, Pdu, Pings, Replies}
use Rattle.iscsi_outbox_rules.specs.rules.Words.{contains, is_reply}
use Rattle.iscsi_outbox_rules.specs.rules.Own.{own_ticket}
use Rattle.iscsi_slots.specs.Slots.{times}
use Rattle.iscsi_outbox_rules.specs.promises.Scope.{nth}
use Rattle.iscsi_outbox_law.specs.private.Pairs.{PairsOf, EachOf}
use Rattle.iscsi_requests.specs.Conns.{of_conn}
use Rattle.iscsi_requests.specs.Cookies as cookies
use Rattle.iscsi_requests.specs.Cookies.{Cookies}
use Rattle.iscsi_requests.specs.Functions.{WaitingFunctions}
use Rattle.iscsi_requests.specs.Numbers.{HeldNumbers, held_at}
use Rattle.iscsi_requests.specs.declared.functions.WaitingFunction.{WaitingFunction}
use Rattle.iscsi_requests.specs.Replies.{has_log_place}
use Rattle.iscsi_requests.specs.declared.replies.WaitingReply.{WaitingReply}
use Rattle.iscsi_ffi_commands.specs.declared.command.Command.{Command}
use Rattle.iscsi_ffi_commands.specs.Commands.{is_going, is_live, is_marked}
use Rattle.iscsi_ffi_rules.specs.rules.Sides.{Side}
use Rattle.iscsi_ffi_rules.specs.rules.Needs.{is_about, is_held, is_noted, is_waiting, left_to_write}
use Rattle.iscsi_ffi_steps.specs.State.{State}
use Rattle.iscsi_outbox_steps.specs.State.{State as OutboxState}
use Rattle.iscsi_outbox_steps.specs.Steps.{is_running_ticket}
use Rattle.iscsi_ffi_law.specs.Names.{Name, Note, count_words, handed_notes, note_places, place_named, waiting_notes}
use Rattle.iscsi_ffi_law.specs.Uses.{count_functions, count_held, count_lists, is_place}

-- ---- names

-- no place and no event has two
pub record AreApart (names : List Name) (notes : List Note) : Type 0 where
  pub places : (place : ℕ) → count_by (λ (n : Name). n.place == place) names + count_by (λ (n : Note). n.place == place) notes ≤ 1
  pub events : (event : ℕ) → count_by (λ (n : Name). n.event == event) names ≤ 1

-- what is kept is what is named, place by place and word by word
abbrev pub AreKept : List Name → List Note → Cookies → Type 0
AreKept names notes v = (place cookie : ℕ) → count_by (λ (r : cookies.Request). r.place == place && r.cookie == cookie) v.requests ≡ count_words place cookie names notes

-- no two of them have one place, each is used, and a free place is that of none
pub record AreCounted (v : Cookies) : Type 0 where
  pub unused : (place : ℕ) → 1 ≤ times place v.free → count_by (cookies.is_at place) v.requests ≡ 0
  pub once : (place : ℕ) → count_by (cookies.is_at place) v.requests ≤ 1
  pub used : EachOf (λ (r : cookies.Request). 1 ≤ r.uses) v.requests

-- ---- in the session

-- the place of an own PDU is that of no request; its connection is one of these
pub record IsNote (s : State) (links : List Link) (n : Note) : Type 0 where
  pub held : count_held n.place s ≡ 0
  pub waiting : count_functions n.place s ≡ 0
  pub home : list_any (λ (l : Link). l.conn == n.conn) links ≡ true

-- it is held, or a function that waits, by both
pub record IsRequest (s : State) (t : Trace) (n : Name) : Type 0 where
  pub held : is_held n.event t ≡ nat_lt 0 (count_held n.place s)
  pub waiting : is_waiting n.event t ≡ nat_lt 0 (count_functions n.place s)

-- a request that is held stands in the slot of its number
pub record IsHeldAt (names : List Name) (v : HeldNumbers) (a : Arrival) : Type 0 where
  pub place : ℕ
  pub named : place_named names a.event ≡ Some place
  pub slot : held_at (cmd_sn a.request) v ≡ Some place

-- a place is one of so many
pub record IsWithin (room : ℕ) (n : Name) : Type 0 where
  pub low : 1 ≤ n.place
  pub high : n.place ≤ room

-- so do all that are held, in so many slots, and no place stands in two
pub record AreHeld (size room : ℕ) (names : List Name) (v : HeldNumbers) (t : Trace) : Type 0 where
  pub placed : EachOf (IsWithin room) names
  pub size_is : length v.places ≡ size
  pub there : (n : ℕ) (a : Arrival) → held t n ≡ Some a → IsHeldAt names v a
  pub once : (place : ℕ) → count_by (is_place place) v.places ≤ 1

-- a function that waits, by both
pub record IsFunctionAt (names : List Name) (f : WaitingFunction) (a : Arrival) : Type 0 where
  pub number : f.number ≡ cmd_sn a.request
  pub named : place_named names a.event ≡ Some (f.request)

-- so those of each connection, in the order in which they arrived; no place stands twice, and there is room for four of each
pub record AreFunctions (cids : List ℕ) (names : List Name) (v : WaitingFunctions) (ws : List Arrival) : Type 0 where
  pub each : (p : ℕ) → p < length cids → PairsOf (IsFunctionAt names) (of_conn p v.waiting) (filter (λ (a : Arrival). connection_of a.request == get_or cids p 0) ws)
  pub once : (place : ℕ) → count_lists (λ (f : WaitingFunction). f.request == place) v.waiting ≤ 1
  pub room : v.room ≡ 4 * length cids

-- a command by both
pub record IsCommand (names : List Name) (r : Side) (c : Command) (d : RulesCommand) : Type 0 where
  pub ticket : c.ticket ≡ d.ticket
  pub unit : c.unit ≡ d.unit
  pub attr : c.attr ≡ d.attr
  pub request : place_named names d.arrival.event ≡ Some c.request
  pub live : is_live c ≡ not (has (leaves_ticket d.ticket) r.both.trace)
  pub going : is_going c ≡ (is_live c && contains r.told d.ticket)
  pub marked : is_marked c ≡ (is_live c && contains r.marked d.ticket)
  -- what was told to start was enabled
  pub freed : contains r.told d.ticket ≡ true → was_free d r.both.trace ≡ true

-- a live command doesn't run on behind its end
abbrev pub IsOneUse : OutboxState → Command → Type 0
IsOneUse o c = (is_live c && is_running_ticket c.ticket o) ≡ false

abbrev pub is_named : List Name → RulesCommand → Bool
is_named names d = is_some (place_named names d.arrival.event)

-- the request of a live command is kept
abbrev pub IsLiveNamed : List Name → Trace → RulesCommand → Type 0
IsLiveNamed names t d = has (leaves_ticket d.ticket) t ≡ false → is_named names d ≡ true

-- those whose requests are kept, in their order
abbrev pub AreCommands : List Name → Side → List Command → Type 0
AreCommands names r items = PairsOf (IsCommand names r) items (filter (is_named names) (entered r.both.trace))

-- ---- replies

-- the request that a reply of the session answers, by its place in the log
abbrev pub IsAtEvent : List Name → ℕ → Option ℕ → Type 0
IsAtEvent names request (Some event) = place_named names event ≡ Some request
IsAtEvent names request None = ⊥

abbrev pub IsAnswered : List Name → List ℕ → ℕ → ℕ → Type 0
IsAnswered names answers log_place request = IsAtEvent names request (nth log_place answers)

abbrev pub is_sent_at : ℕ → Outgoing → Bool
is_sent_at place out = elim (out.sent) [ Some p ↦ p == place | None ↦ false ]

-- how often a reply waits on a connection, also one that isn't due
abbrev pub count_sent : ℕ → List Answer → Link → ℕ
count_sent place undue l = count_by (is_sent_at place) l.queue + count_by (λ (a : Answer). a.conn == l.conn && is_sent_at place a.out) undue

-- it comes before this place of the log, if there is one
abbrev pub IsBefore : ℕ → Option ℕ → Type 0
IsBefore place (Some last) = last < place
IsBefore place None = Unit {0}

-- ---- what was handed out

-- what isn't written is about a request, or about none that is kept; an own PDU that is of no command has a place of its own
pub record IsAbout (names : List Name) (notes : List Note) (r : Side) (conn : ℕ) (x : Option ℕ) (h : Handed) : Type 0 where
  pub named : EachOf (λ (n : Name). is_about n.event r h.out ≡ is_place n.place x) names
  pub noted : EachOf (λ (n : Note). is_place n.place x ≡ true → (is_noted h.out.pdu ≡ true) × (n.conn ≡ conn)) notes

-- the own PDUs among these that are of no command
abbrev pub noted_in : List (Option ℕ) → List Handed → List (Option ℕ)
noted_in (x ∷ xs) (h ∷ hs) = if is_noted h.out.pdu then x ∷ noted_in xs hs else noted_in xs hs
noted_in xs [] = []
noted_in [] (h ∷ hs) = []

-- ---- what waits

-- an own PDU of a command waits while that is live, or before its reply: so its request is used
abbrev pub covers : (ℕ → Bool) → List Outgoing → ℕ → Bool
covers live later ticket = live ticket || list_any (λ (out : Outgoing). is_some out.sent && elim (out.ticket) [ Some k ↦ k == ticket | None ↦ false ]) later

abbrev pub IsCovered : (ℕ → Bool) → List Outgoing → Type 0
IsCovered live [] = Unit {0}
IsCovered live (out ∷ later) = (elim (out.ticket) [ Some ticket ↦ is_some out.sent || covers live later ticket | None ↦ true ] ≡ true) × IsCovered live later

abbrev pub is_live_ticket : Trace → ℕ → Bool
is_live_ticket t ticket = list_any (λ (d : RulesCommand). d.ticket == ticket && not (has (leaves_ticket d.ticket) t)) (entered t)

-- what waits, or isn't written, is of a request that is kept: a reply by its place in the log, a PDU of a command by its ticket
abbrev pub IsOfTicket : List Name → Trace → ℕ → Type 0
IsOfTicket names t ticket = (d : RulesCommand) × (find (λ (e : RulesCommand). e.ticket == ticket) (entered t) ≡ Some d) × (is_named names d ≡ true)

-- a reply has its place in the log, and an own PDU of a command its ticket
abbrev pub IsOwnOut : Pdu → Option ℕ → Option ℕ → Type 0
IsOwnOut (Replies reply) ticket sent = is_some sent ≡ true
IsOwnOut (Owns p) ticket sent = (ticket ≡ own_ticket p) × (sent ≡ None)
IsOwnOut (Pings tag) ticket sent = ⊥
IsOwnOut Notices ticket sent = ⊥

abbrev pub IsNamedEvent : List Name → Option ℕ → Type 0
IsNamedEvent names (Some event) = is_some (place_named names event) ≡ true
IsNamedEvent names None = ⊥

abbrev pub IsOfReply : List Name → List ℕ → Option ℕ → Type 0
IsOfReply names answers (Some place) = IsNamedEvent names (nth place answers)
IsOfReply names answers None = Unit {0}

abbrev pub IsOfCommand : List Name → Trace → Option ℕ → Type 0
IsOfCommand names t (Some ticket) = IsOfTicket names t ticket
IsOfCommand names t None = Unit {0}

-- the reply of a command answers its request
abbrev pub IsReplyOf : Trace → List ℕ → Option ℕ → Option ℕ → Type 0
IsReplyOf t answers (Some place) (Some ticket) = (d : RulesCommand) × (find (λ (e : RulesCommand). e.ticket == ticket) (entered t) ≡ Some d) × (nth place answers ≡ Some d.arrival.event)
IsReplyOf t answers (Some place) None = Unit {0}
IsReplyOf t answers None ticket = Unit {0}

pub record IsKnownOut (names : List Name) (t : Trace) (answers : List ℕ) (out : Outgoing) : Type 0 where
  pub of_reply : IsOfReply names answers out.sent
  pub of_command : IsOfCommand names t out.ticket
  pub same : IsReplyOf t answers out.sent out.ticket
  pub own : IsOwnOut out.pdu out.ticket out.sent

-- what isn't due is a reply of no command
pub record IsUndue (names : List Name) (answers : List ℕ) (a : Answer) : Type 0 where
  pub own : IsOwnOut a.out.pdu a.out.ticket a.out.sent
  pub reply : is_reply a.out.pdu ≡ true
  pub ticket : a.out.ticket ≡ None
  pub of_reply : IsOfReply names answers a.out.sent

-- what waits on a connection, and isn't due; these replies, and so many own PDUs that are of no command
pub record IsQueued (names : List Name) (t : Trace) (answers : List ℕ) (undue : List Answer) (replies : List WaitingReply) (noted : ℕ) (l : Link) : Type 0 where
  pub sent : (place : ℕ) → count_by (has_log_place place) replies ≡ count_sent place undue l
  pub noting : noted ≡ count_by (λ (out : Outgoing). is_noted out.pdu) l.queue
  pub known : EachOf (IsKnownOut names t answers) l.queue
  pub covered : IsCovered (is_live_ticket t) l.queue

-- ---- a connection

-- the places of its own PDUs that are of no command: those that wait, and those that were handed out and aren't written; `gone`: of those
-- that are needed no more, which came before them
pub record AreNotesOn (notes : List Note) (conn : ℕ) (gone waiting unwritten : List (Option ℕ)) : Type 0 where
  pub gone_handed : List (Option ℕ)
  pub gone_waiting : List (Option ℕ)
  pub gone_are : gone ≡ gone_handed ++ gone_waiting
  pub waiting_are : note_places conn (waiting_notes notes) ≡ gone_waiting ++ waiting
  pub handed_are : note_places conn (handed_notes notes) ≡ gone_handed ++ unwritten

-- the connection in this place; `gone`: the places of own PDUs of it that are needed no more
pub record IsConn (names : List Name) (notes : List Note) (gone : List (Option ℕ)) (s : State) (r : Side) (p : ℕ) (l : Link) : Type 0 where
  pub replies : EachOf (λ (x : WaitingReply). IsAnswered names r.answers x.log_place x.request) (of_conn p s.replies.waiting)
  pub queued : IsQueued names r.both.trace r.answers r.both.box.undue (of_conn p s.replies.waiting) (length (of_conn p s.noted.handed)) l
  pub written : PairsOf (IsAbout names notes r l.conn) (of_conn p s.unwritten.handed) (left_to_write l)
  pub noted : AreNotesOn notes l.conn gone (of_conn p s.noted.handed) (noted_in (of_conn p s.unwritten.handed) (left_to_write l))
