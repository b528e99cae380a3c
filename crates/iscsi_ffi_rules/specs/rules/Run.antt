-- What each call answers, what it tells, and the state after it.
use Rattle.std.specs.Prelude.{ℕ, ◌+◌, ◌*◌, ◌/◌, ◌%◌, ◌==◌, ◌&&◌, not, nat_le, Bool, true, false, List, [], ◌∷◌, ◌++◌, length, map, take, drop, replicate, filter, Option, Some, None, if◌then◌else◌}
use Rattle.std.specs.List.{find}
use Rattle.iscsi_wire.specs.Fields.{big_endian_from}
use Rattle.iscsi_wire.specs.Replies.{NO_TAG}
use Rattle.iscsi_rules.specs.declared.event.Event.TheVariants.{Arrive, Done}
use Rattle.iscsi_rules.specs.rules.Settings.{Setting, is_known}
use Rattle.iscsi_rules.specs.rules.Trace.{Command, entered, is_closed, live_in}
use Rattle.iscsi_rules.specs.rules.Agenda.{command_of}
use Rattle.iscsi_outbox_rules.specs.declared.own_pdu.OwnPdu.{OwnPdu}
use Rattle.iscsi_outbox_rules.specs.declared.own_pdu.OwnPdu.TheVariants.{OfCommand, OfConnection}
use Rattle.iscsi_outbox_rules.specs.declared.own_pdu.PutRefusal.{PutRefusal}
use Rattle.iscsi_outbox_rules.specs.rules.Calls as outbox
use Rattle.iscsi_outbox_rules.specs.rules.Boxes.{Outgoing, Handed, Link}
use Rattle.iscsi_outbox_rules.specs.rules.Words.{contains, is_open, is_running, may_take, unwritten}
use Rattle.iscsi_outbox_rules.specs.rules.Own.{put_refusal, pdu_opcode}
use Rattle.iscsi_outbox_rules.specs.rules.Handing.{Hands, Nothing, IsOver, given, link_of}
use Rattle.iscsi_outbox_rules.specs.rules.Run.{may_join}
use Rattle.iscsi_outbox_rules.specs.promises.Scope.{nth}
use Rattle.iscsi_ffi_rules.specs.declared.action.Action.{Action}
use Rattle.iscsi_ffi_rules.specs.declared.action.Action.TheVariants.{Ready, Close, Forget}
use Rattle.iscsi_ffi_rules.specs.declared.action.StopReason.TheVariants.{Cleared as ClearedReason}
use Rattle.iscsi_ffi_rules.specs.declared.refusal.Refusal.{Refusal}
use Rattle.iscsi_ffi_rules.specs.declared.refusal.Refusal.TheVariants.{UnknownConnection, NotJoined, Exhausted, Busy}
use Rattle.iscsi_ffi_rules.specs.rules.Calls.{Interface, Call, Arrives, Completes, Stops, Nexts, Puts, Writes, Hears, Joins, Loses, Clears, Cleared}
use Rattle.iscsi_ffi_rules.specs.rules.Sides.{Asked, Noted, Side, cookie_of, opened}
use Rattle.iscsi_ffi_rules.specs.rules.Needs.{is_needed, is_noted, needless_on, first_noted, noted_unwritten, noted_waiting, without_first}
use Rattle.iscsi_ffi_rules.specs.rules.Clearing.{TASK_ABORTED, is_marked}
use Rattle.iscsi_ffi_rules.specs.rules.Happening.{Told, happens, is_started, other, quiet, stop, withheld}

-- what a call answers
pub data Answer : Type 0 where
  Taken : Answer
  Refused : Refusal → Answer
  Stale : Answer  -- no command with this ticket was told to start, and is left to complete or to stop
  Put : Option PutRefusal → Answer
  Joined : Bool → Answer  -- whether it may
  Goes : Handed → Option ℕ → Answer  -- a PDU, with the word for what it belongs to
  Blocked : Answer  -- as many are handed out and not written as may
  NoneGoes : Answer
  NoneIsLeft : Answer  -- nothing goes out on the connection any more

pub record Answered : Type 0 where
  pub told : Told
  pub answer : Answer

abbrev pub done : Told → Answered
done w = record { told = w; answer = Taken }

-- nothing changes
abbrev pub answers : Side → Answer → Answered
answers s answer = record { told = quiet s; answer = answer }

-- ---- requests

-- so many events are kept back: one for each connection that is lost, and one for each command that completes
abbrev pub kept_back : Setting → ℕ
kept_back o = 64 + o.window + 8 * length o.conns

abbrev pub is_joined : Side → ℕ → Bool
is_joined s conn = elim (link_of s.both.box conn) [ Some l ↦ is_open l | None ↦ false ]

abbrev pub refusal_of : Interface → Side → ℕ → Option Refusal
refusal_of i s conn =
    if not (is_known conn i.outbox.session.conns) then Some UnknownConnection
    else (if not (is_joined s conn) then Some NotJoined
    else (if nat_le i.outbox.session.events (s.both.event + kept_back i.outbox.session) then Some Exhausted
    else (if not (may_take i.outbox s.both.box) then Some Busy else None)))

-- ExpStatSN stands at one place in all requests; a NOP-Out has the transfer tag of a ping that it answers (RFC 7143 section 11.18)
abbrev pub word_at : ℕ → List ℕ → ℕ
word_at from header = big_endian_from 0 (take 4 (drop from header))

abbrev pub tag_heard : List ℕ → ℕ
tag_heard header = if pdu_opcode header == 0x00 then word_at 20 header else NO_TAG

abbrev pub heard_in : Interface → Side → ℕ → List ℕ → Side
heard_in i s conn header = other i s (outbox.Hears conn (word_at 28 header) (tag_heard header))

abbrev pub arrive : Interface → Side → ℕ → List ℕ → ℕ → Answered
arrive i s conn header cookie = elim (refusal_of i s conn) [
  | Some refusal ↦ answers s (Refused refusal)
  | None ↦
      let s' = heard_in i s conn header in
      done (happens i (record s' { asked = s'.asked ++ record { event = s'.both.event; cookie = cookie } ∷ [] }) (Arrive conn header))
]

-- ---- commands

-- it was told to start, and neither completed nor was taken out
abbrev pub is_going : Side → ℕ → Bool
is_going s ticket = elim (command_of s.both.trace ticket) [ Some c ↦ contains s.told ticket | None ↦ false ]

-- one that left runs until it is told that it stopped
abbrev pub stopped : Interface → Side → ℕ → Answered
stopped i s ticket = if is_running s.both.box ticket then done (quiet (other i s (outbox.Stops ticket))) else answers s Stale

-- of one that another session's reset takes out the status isn't looked at
abbrev pub complete : Interface → Side → ℕ → ℕ → Answered
complete i s ticket status =
    if is_going s ticket then done (happens i s (Done ticket (if contains s.marked ticket then TASK_ABORTED else status)))
    else stopped i s ticket

abbrev pub stops : Interface → Side → ℕ → Answered
stops i s ticket =
    if is_going s ticket && contains s.marked ticket then done (happens i s (Done ticket TASK_ABORTED))
    else stopped i s ticket

-- the commands of the unit are marked; those that were told to start are told to stop
abbrev pub clear : Interface → Side → ℕ → Answered
clear i s unit =
    let these = filter (λ (c : Command). not (is_marked s c)) (live_in unit s.both.trace) in
    done (withheld i (record {
      side = record s { marked = s.marked ++ map (λ (c : Command). c.ticket) these };
      actions = map (stop s ClearedReason) (filter (is_started s) these);
    }))

-- ---- connections

-- the Logout by which the session is told that a connection was lost: immediate, on that connection, to close it
abbrev pub parting : ℕ → List ℕ
parting conn = 0x46 ∷ 0x81 ∷ replicate 18 0 ++ conn / 256 ∷ conn % 256 ∷ replicate 26 0

abbrev pub is_lost : Side → ℕ → Bool
is_lost s conn = elim (link_of s.both.box conn) [ Some l ↦ l.lost | None ↦ true ]

abbrev pub lose : Interface → Side → ℕ → Answered
lose i s conn =
    if not (is_known conn i.outbox.session.conns) then answers s (Refused UnknownConnection)
    else (if is_lost s conn then answers s (Refused NotJoined)
    else (let s' = other i s (outbox.Loses conn) in
    done (if is_closed conn s'.both.trace then quiet s' else happens i s' (Arrive conn (parting conn)))))

-- ---- what goes out

-- the word for a PDU of a command
abbrev pub cookie_of_ticket : Side → ℕ → Option ℕ
cookie_of_ticket s ticket = elim (find (λ (c : Command). c.ticket == ticket) (entered s.both.trace)) [ Some c ↦ Some (cookie_of s.asked c.arrival.event) | None ↦ None ]

-- the word for an own PDU that is of no command: the first one of those that wait on its connection
abbrev pub cookie_noted : Side → ℕ → Option ℕ
cookie_noted s conn = elim (find (λ (n : Noted). n.conn == conn) s.noted) [ Some n ↦ Some n.cookie | None ↦ None ]

abbrev pub cookie_handed : Side → ℕ → Outgoing → Option ℕ
cookie_handed s conn out = elim (out.sent) [
  | Some place ↦ elim (nth place s.answers) [ Some event ↦ Some (cookie_of s.asked event) | None ↦ None ]
  | None ↦ elim (out.ticket) [ Some ticket ↦ cookie_of_ticket s ticket | None ↦ (if is_noted out.pdu then cookie_noted s conn else None) ]
]

-- it waits no more then
abbrev pub handed_on : ℕ → Outgoing → Side → Side
handed_on conn out s =
    if is_noted out.pdu then record s { noted = without_first conn 1 s.noted; handed_notes = s.handed_notes ++ first_noted conn 1 s.noted } else s

abbrev pub is_blocked : Interface → Side → ℕ → Bool
is_blocked i s conn = elim (link_of s.both.box conn) [ Some l ↦ is_open l && nat_le i.unwritten (length (unwritten l)) | None ↦ false ]

abbrev pub asleep : ℕ → Side → Side
asleep conn s = record s { awake = filter (λ c. not (c == conn)) s.awake }

abbrev pub next : Interface → Side → ℕ → Answered
next i s conn =
    if is_blocked i s conn then answers s Blocked
    else elim (given i.outbox s.both.box conn) [
      | Hands h ↦ record { told = quiet (handed_on conn h.out (other i s (outbox.Nexts conn))); answer = Goes h (cookie_handed s conn h.out) }
      | Nothing ↦ answers (asleep conn s) NoneGoes
      | IsOver ↦ answers (asleep conn s) NoneIsLeft
    ]

abbrev pub noted_with : OwnPdu → ℕ → List Noted
noted_with (OfConnection conn header) cookie = record { conn = conn; cookie = cookie } ∷ []
noted_with (OfCommand ticket header) cookie = []

abbrev pub put : Interface → Side → OwnPdu → ℕ → Answered
put i s p cookie =
    let refusal = put_refusal i.outbox s.both.box p in
    let s' = other i s (outbox.Puts p) in
    record {
      told = quiet (elim refusal [ Some why ↦ s' | None ↦ record s' { noted = s'.noted ++ noted_with p cookie } ]);
      answer = Put refusal;
    }

-- ---- at the end of a call

-- who is to be told: what may go out there, and they aren't awake
abbrev pub gives : Interface → Side → ℕ → Bool
gives i s conn = elim (given i.outbox s.both.box conn) [ Hands h ↦ true | Nothing ↦ false | IsOver ↦ false ]

abbrev pub is_over : Interface → Side → ℕ → Bool
is_over i s conn = elim (given i.outbox s.both.box conn) [ Hands h ↦ false | Nothing ↦ false | IsOver ↦ true ]

abbrev pub cids : Interface → List ℕ
cids i = map (λ (c : ℕ × ℕ). c.0) i.outbox.session.conns

abbrev pub newly_ready : Interface → Side → List ℕ
newly_ready i s = filter (λ conn. gives i s conn && not (contains s.awake conn)) (cids i)

abbrev pub newly_over : Interface → Side → List ℕ
newly_over i s = filter (λ conn. is_over i s conn && not (contains s.over conn)) (cids i)

-- own PDUs that are needed no more, and those that are
pub record Parted : Type 0 where
  pub needless : List Noted
  pub needed : List Noted

-- connection by connection, by how many of each are left
abbrev pub parted : (Link → ℕ) → List Link → List Noted → Parted
parted left [] noted = record { needless = []; needed = noted }
parted left (l ∷ links) noted =
    let count = needless_on left l noted in
    let rest = parted left links (without_first l.conn count noted) in
    record { needless = first_noted l.conn count noted ++ rest.needless; needed = rest.needed }

-- of those that wait, which are needed; and of those that were handed out
abbrev pub parted_waiting : Side → Parted
parted_waiting s = parted noted_waiting s.both.box.links s.noted

abbrev pub parted_handed : Side → Parted
parted_handed s = parted noted_unwritten s.both.box.links s.handed_notes

abbrev pub forgets : Side → List Action
forgets s =
    map (λ (a : Asked). Forget a.cookie) (filter (λ (a : Asked). not (is_needed s a)) s.asked)
    ++ map (λ (n : Noted). Forget n.cookie) ((parted_waiting s).needless ++ (parted_handed s).needless)

abbrev pub ended : Interface → Told → Told
ended i w =
    let s = w.side in
    let ready = newly_ready i s in
    let over = newly_over i s in
    record {
      side = record s {
        awake = s.awake ++ ready;
        over = s.over ++ over;
        asked = filter (is_needed s) s.asked;
        noted = (parted_waiting s).needed;
        handed_notes = (parted_handed s).needed;
      };
      actions = w.actions ++ map (λ conn. Ready conn) ready ++ map (λ conn. Close conn) over ++ forgets s;
    }

-- ---- calls

abbrev pub called : Interface → Side → Call → Answered
called i s (Arrives conn header cookie) = arrive i s conn header cookie
called i s (Completes ticket status) = complete i s ticket status
called i s (Stops ticket) = stops i s ticket
called i s (Nexts conn) = next i s conn
called i s (Puts p cookie) = put i s p cookie
called i s (Writes conn) = done (quiet (other i s (outbox.Writes conn)))
called i s (Hears conn exp_stat_sn tag) = done (quiet (other i s (outbox.Hears conn exp_stat_sn tag)))
called i s (Joins conn stat_sn) = record { told = quiet (other i s (outbox.Joins conn stat_sn)); answer = Joined (may_join s.both.box conn) }
called i s (Loses conn) = lose i s conn
called i s (Clears unit) = clear i s unit
called i s (Cleared unit) = done (quiet (other i s (outbox.Clears unit)))

abbrev pub after_call : Interface → Side → Call → Answered
after_call i s c = let a = called i s c in record { told = ended i a.told; answer = a.answer }

-- what each call of a list answers, and tells
abbrev pub answered_from : Interface → Side → List Call → List (Answer × List Action)
answered_from i s [] = []
answered_from i s (c ∷ cs) = let a = after_call i s c in (a.answer, a.told.actions) ∷ answered_from i a.told.side cs

abbrev pub answered_by : Interface → List Call → List (Answer × List Action)
answered_by i cs = answered_from i (opened i) cs
