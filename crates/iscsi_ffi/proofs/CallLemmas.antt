-- What each call makes of a side, by its steps.
use Rattle.std.proofs.Common.{◌≡◌, ◌∙◌, ◌+◌, ◌<◌, ◌==◌, ◌&&◌, ◌||◌, not, nat_lt, nat_le, ℕ, zero, suc, Bool, true, false, List, [], ◌∷◌, length, map, Option, Some, None, refl, sym, ap, arith, if◌then◌else◌}
use Rattle.iscsi_wire.specs.declared.request.Request.{Request}
use Rattle.iscsi_wire.specs.Fields.{request_of}
use Rattle.iscsi_rules.specs.declared.effect.Effect.{Effect}
use Rattle.iscsi_rules.specs.declared.event.Event.TheVariants.{Arrive, Done}
use Rattle.iscsi_rules.specs.rules.Run.{entry_of}
use Rattle.iscsi_outbox_rules.specs.declared.own_pdu.OwnPdu.TheVariants.{OfCommand, OfConnection}
use Rattle.iscsi_outbox_rules.specs.rules.Calls.{Loses, Nexts, Stops, Writes}
use Rattle.iscsi_outbox_steps.specs.declared.given.Given.{Given}
use Rattle.iscsi_outbox_steps.specs.declared.given.Given.TheVariants.{Hands, Nothing, IsOver}
use Rattle.iscsi_outbox_steps.specs.declared.given.Handed.{Handed}
use Rattle.iscsi_outbox_steps.specs.declared.given.Pdu.{Pdu}
use Rattle.iscsi_outbox_steps.specs.declared.given.Pdu.TheVariants.{Reply, Own, Ping, Notice}
use Rattle.iscsi_outbox_steps.specs.State.{State as OutboxState, Limits, place_of}
use Rattle.iscsi_outbox_steps.specs.Steps.{given, is_running_ticket, next as next_out, stopped, written}
use Rattle.iscsi_outbox.proofs.LimitsLemmas.{limits_stay}
use Rattle.iscsi_requests.specs.Conns.{of_conn, oldest}
use Rattle.iscsi_requests.specs.Cookies.{cookie_at, has_place, used_more, uses_at}
use Rattle.iscsi_requests.specs.Unwritten.{popped}
use Rattle.iscsi_ffi_commands.specs.declared.command.Command.{Command}
use Rattle.iscsi_ffi_commands.specs.Commands.{find_ticket, is_going, is_marked}
use Rattle.iscsi_ffi_rules.specs.rules.Calls.{Interface}
use Rattle.iscsi_ffi_steps.specs.State.{State}
use Rattle.iscsi_ffi_steps.specs.Walk.{Doing, in_state, release, release_if}
use Rattle.iscsi_ffi_steps.specs.Steps as steps
use Rattle.iscsi_ffi_steps.specs.Steps.{Going, Side, arriving, changed, close_each, going, hand_out, happens, is_blocked, is_held_first, leaves_queue, next, pushed_with_room, request_handed, stop_running, used_again, write, write_on}
use Rattle.iscsi_ffi_desk.specs.Calls.{after_given, cookie_of_place, ended, handed_out, stopped_running, with_outbox, written_on}
use Rattle.iscsi_ffi_desk.proofs.DropLemmas.{released_if_stays, released_stays}
use Rattle.iscsi_ffi_desk.proofs.EndLemmas.{close_on_outbox, tell_each_outbox}
use Rattle.iscsi_ffi.specs.Held.{held_of, own_of}
use Rattle.std.specs.List.{list_any, position}
use Rattle.std.proofs.lemmas.Bool.{leb-false, lt-ltb}
use Rattle.std.proofs.lemmas.List.Folds.{list_any_at}
use Rattle.std.proofs.lemmas.List.Quantifiers.{position-Some}
use Rattle.iscsi_rules.specs.rules.Settings.{is_known}
use Rattle.iscsi_arrivals.specs.Counts.{is_open_by}
use Rattle.iscsi_outbox_steps.specs.State.{limits_of, link_at, may_take}
use Rattle.iscsi_outbox_steps.specs.Steps.{heard, lost}
use Rattle.iscsi_requests.specs.Cookies.{next_place}
use Rattle.iscsi_ffi_rules.specs.declared.refusal.Refusal.{Refusal}
use Rattle.iscsi_ffi_rules.specs.declared.refusal.Refusal.TheVariants.{UnknownConnection, NotJoined, Exhausted, Busy}
use Rattle.iscsi_ffi_rules.specs.rules.Run.{kept_back, parting, tag_heard, word_at}
use Rattle.iscsi_ffi_rules.specs.rules.Clearing.{TASK_ABORTED}
use Rattle.iscsi_ffi_steps.specs.Walk.{drop_waiting}
use Rattle.iscsi_ffi_steps.specs.Steps.{drop_unwritten, enter_request}
use Rattle.iscsi_ffi_desk.specs.Calls.{entered_request, lost_on}
use Rattle.iscsi_ffi_desk.proofs.DropLemmas.{waiting_outbox}

-- ---- a call ends

close_each_box : (conn : ℕ) (cids : List ℕ) (d : Doing) → (close_each conn cids d).state.outbox ≡ d.state.outbox
close_each_box conn [] d = refl
close_each_box conn (cid ∷ cids) d = close_each_box (conn + 1) cids _ ∙ close_on_outbox conn cid d

pub ended_limits : (d : Doing) → (ended d).state.outbox.limits ≡ d.state.outbox.limits
ended_limits d =
    let cids = d.state.outbox.limits.cids in
    ap (λ (o : OutboxState). o.limits) (close_each_box 0 cids (steps.tell_each 0 cids d) ∙ tell_each_outbox 0 cids d)

-- ---- a command has stopped

pub stop_going : (ticket : ℕ) (s : Side) → (stop_running ticket s).going ≡ record (going s) { doing = stopped_running ticket (going s).doing }
stop_going ticket s = by_cases (is_running_ticket ticket s.state.outbox) (find_ticket ticket s.state.commands)
  where
    by_cases : (b : Bool) (o : Option Command) →
        (if b then steps.done (elim o as (λ (q : Option Command). Going) [
          | Some c ↦ changed (release (c.request)) (changed (in_state (λ t. record t { outbox = stopped ticket t.outbox })) (going s))
          | None ↦ changed (in_state (λ t. record t { outbox = stopped ticket t.outbox })) (going s)
        ]) else steps.says s steps.Stale).going
        ≡ record (going s) {
          doing = (if b then elim o as (λ (q : Option Command). Doing) [
            | Some c ↦ release (c.request) (with_outbox (stopped ticket s.state.outbox) (going s).doing)
            | None ↦ with_outbox (stopped ticket s.state.outbox) (going s).doing
          ] else (going s).doing);
        }
    by_cases true (Some c) = refl
    by_cases true None = refl
    by_cases false o = refl

pub stop_limits : (ticket : ℕ) (d : Doing) → (stopped_running ticket d).state.outbox.limits ≡ d.state.outbox.limits
stop_limits ticket d = by_cases (is_running_ticket ticket d.state.outbox) (find_ticket ticket d.state.commands)
  where
    by_cases : (b : Bool) (o : Option Command) →
        (if b then elim o as (λ (q : Option Command). Doing) [
          | Some c ↦ release (c.request) (with_outbox (stopped ticket d.state.outbox) d)
          | None ↦ with_outbox (stopped ticket d.state.outbox) d
        ] else d).state.outbox.limits ≡ d.state.outbox.limits
    by_cases true (Some c) =
        ap (λ (o : OutboxState). o.limits) (released_stays (c.request) (with_outbox (stopped ticket d.state.outbox) d)).outbox ∙ limits_stay d.state.outbox (Stops ticket)
    by_cases true None = limits_stay d.state.outbox (Stops ticket)
    by_cases false o = refl

-- ---- a PDU is handed out

used_box : (place : ℕ) (s : State) → (used_again place s).outbox ≡ s.outbox
used_box place s = by_bool (has_place place s.cookies && nat_lt (uses_at place s.cookies) 4294967295)
  where
    by_bool : (b : Bool) → (if b then record s { cookies = used_more place s.cookies } else s).outbox ≡ s.outbox
    by_bool true = refl
    by_bool false = refl

queue_box : (conn : ℕ) (pdu : Pdu) (request : Option ℕ) (s : State) → (leaves_queue conn pdu request s).outbox ≡ s.outbox
queue_box conn (Reply sent) request s = refl
queue_box conn (Own (OfCommand ticket header)) (Some place) s = used_box place s
queue_box conn (Own (OfCommand ticket header)) None s = refl
queue_box conn (Own (OfConnection cid header)) request s = refl
queue_box conn (Ping tag) request s = refl
queue_box conn Notice request s = refl

abbrev by_given : ℕ → ℕ → Side → Given → steps.Answered
by_given cid conn s g = elim g as (λ (q : Given). steps.Answered) [
  | Hands x ↦ hand_out cid conn x s
  | Nothing ↦ steps.says (steps.asleep conn s) steps.NoneGoes
  | IsOver ↦ steps.says (steps.asleep conn s) steps.NoneIsLeft
]

pub hands_going : (i : Interface) (cid conn : ℕ) (h : Handed) (s : Side) → place_of s.state.outbox cid ≡ Some conn → is_blocked i conn s.state ≡ false → given cid s.state.outbox ≡ Hands h
    → (next i cid s).going ≡ record (going s) { doing = handed_out cid conn (going s).doing }
hands_going i cid conn h s at may hands =
    let request = request_handed s.state conn h.pdu in
    ap (λ (o : Option ℕ). (elim o as (λ (q : Option ℕ). steps.Answered) [ Some c ↦ steps.next_on i cid c s | None ↦ steps.says s steps.NoneGoes ]).going) at
    ∙ ap (λ (b : Bool). (if b then steps.says s steps.Blocked else by_given cid conn s (given cid s.state.outbox)).going) may
    ∙ ap (λ (g : Given). (by_given cid conn s g).going) hands
    ∙ ap (λ (o : OutboxState). record (going s) { doing = in_state (λ t. record (leaves_queue conn h.pdu request t) { outbox = next_out cid o; unwritten = pushed_with_room conn request (leaves_queue conn h.pdu request t).unwritten }) (going s).doing }) (queue_box conn h.pdu request s.state)
    ∙ ap (λ (g : Given). record (going s) { doing = after_given cid conn g (going s).doing }) (sym hands)

pub hands_says : (i : Interface) (cid conn : ℕ) (h : Handed) (s : Side) → place_of s.state.outbox cid ≡ Some conn → is_blocked i conn s.state ≡ false → given cid s.state.outbox ≡ Hands h
    → (next i cid s).answer ≡ steps.Goes h (cookie_of_place s.state (request_handed s.state conn h.pdu))
hands_says i cid conn h s at may hands =
    ap (λ (o : Option ℕ). (elim o as (λ (q : Option ℕ). steps.Answered) [ Some c ↦ steps.next_on i cid c s | None ↦ steps.says s steps.NoneGoes ]).answer) at
    ∙ ap (λ (b : Bool). (if b then steps.says s steps.Blocked else by_given cid conn s (given cid s.state.outbox)).answer) may
    ∙ ap (λ (g : Given). (by_given cid conn s g).answer) hands
    ∙ ap (steps.Goes h) (by_request (request_handed s.state conn h.pdu))
  where
    by_request : (o : Option ℕ) → elim o as (λ (q : Option ℕ). Option ℕ) [ Some place ↦ Some (cookie_at place s.state.cookies) | None ↦ None ] ≡ cookie_of_place s.state o
    by_request (Some place) = refl
    by_request None = refl

pub handed_limits : (cid conn : ℕ) (d : Doing) → (handed_out cid conn d).state.outbox.limits ≡ d.state.outbox.limits
handed_limits cid conn d = by_given (given cid d.state.outbox)
  where
    by_given : (g : Given) → (after_given cid conn g d).state.outbox.limits ≡ d.state.outbox.limits
    by_given (Hands h) = limits_stay d.state.outbox (Nexts cid)
    by_given Nothing = refl
    by_given IsOver = refl

-- ---- a PDU is written

pub write_going : (cid conn : ℕ) (s : Side) → place_of s.state.outbox cid ≡ Some conn → (write cid s).going ≡ record (going s) { doing = written_on cid conn (going s).doing }
write_going cid conn s at =
    ap (λ (o : Option ℕ). (steps.done (elim o as (λ (q : Option ℕ). Going) [
      | Some c ↦ changed (write_on c) (changed (in_state (λ t. record t { outbox = written cid t.outbox })) (going s))
      | None ↦ changed (in_state (λ t. record t { outbox = written cid t.outbox })) (going s)
    ])).going) at

pub write_limits : (cid conn : ℕ) (d : Doing) → (written_on cid conn d).state.outbox.limits ≡ d.state.outbox.limits
write_limits cid conn d = by_oldest (oldest (of_conn conn d.state.unwritten.handed))
  where
    by_oldest : (o : Option (Option ℕ)) →
        (elim o as (λ (q : Option (Option ℕ)). Doing) [
          | Some request ↦ release_if request (in_state (λ s. record s { unwritten = popped conn s.unwritten }) (with_outbox (written cid d.state.outbox) d))
          | None ↦ with_outbox (written cid d.state.outbox) d
        ]).state.outbox.limits ≡ d.state.outbox.limits
    by_oldest (Some request) =
        ap (λ (o : OutboxState). o.limits) (released_if_stays request (in_state (λ s. record s { unwritten = popped conn s.unwritten }) (with_outbox (written cid d.state.outbox) d))).outbox
        ∙ limits_stay d.state.outbox (Writes cid)
    by_oldest None = limits_stay d.state.outbox (Writes cid)

-- ---- a request arrives

pub arriving_goes : (i : Interface) (cid : ℕ) (header : List ℕ) (place : ℕ) (g : Going) (effects : List Effect) → effects ≡ (entry_of i.outbox.session g.event g.trace (Arrive cid header)).effects
    → happens i (own_of (request_of cid header) place effects) (Arrive cid header) (record g { doing = held_of (request_of cid header) place effects g.doing }) ≡ arriving i cid header (Some place) g
arriving_goes i cid header place g effects is =
    let r = request_of cid header in
    ap (λ (es : List Effect). happens i (own_of r place es) (Arrive cid header) (record g { doing = held_of r place es g.doing })) is
    ∙ by_bool (is_held_first r (entry_of i.outbox.session g.event g.trace (Arrive cid header)).effects)
  where
    by_bool : (b : Bool) →
        happens i (if b then None else Some place) (Arrive cid header) (record g { doing = (if b then steps.hold (request_of cid header) place g.doing else g.doing) })
        ≡ (if b then happens i None (Arrive cid header) (changed (steps.hold (request_of cid header) place) g) else happens i (Some place) (Arrive cid header) g)
    by_bool true = refl
    by_bool false = refl

pub held_limits : (r : Request) (place : ℕ) (effects : List Effect) (d : Doing) → (held_of r place effects d).state.outbox.limits ≡ d.state.outbox.limits
held_limits r place effects d = by_bool (is_held_first r effects)
  where
    by_bool : (b : Bool) → (if b then steps.hold r place d else d).state.outbox.limits ≡ d.state.outbox.limits
    by_bool true = refl
    by_bool false = refl

-- ---- a connection is one of the session's

known_any : (cid : ℕ) (conns : List (ℕ × ℕ)) → list_any (λ c. c == cid) (map (λ (c : ℕ × ℕ). c.0) conns) ≡ is_known cid conns
known_any cid [] = refl
known_any cid (c ∷ conns) = ap (λ (b : Bool). (c.0 == cid) || b) (known_any cid conns)

pub place_known : (i : Interface) (o : OutboxState) (cid conn : ℕ) → o.limits ≡ limits_of i.outbox → place_of o cid ≡ Some conn → is_known cid i.outbox.session.conns ≡ true
place_known i o cid conn limits at =
    let cids = map (λ (c : ℕ × ℕ). c.0) i.outbox.session.conns in
    let here : position (λ c. c == cid) cids ≡ Some conn = ap (λ (l : Limits). position (λ c. c == cid) l.cids) (sym limits) ∙ at in
    let p = position-Some (λ c. c == cid) cids conn 0 here in
    sym (known_any cid i.outbox.session.conns) ∙ list_any_at (λ c. c == cid) cids conn 0 (p.0) (p.1)

-- ---- a connection is lost

unwritten_box : (n conn : ℕ) (d : Doing) → (drop_unwritten n conn d).state.outbox ≡ d.state.outbox
unwritten_box zero conn d = refl
unwritten_box (suc n) conn d = unwritten_box n conn _ ∙ one_box (oldest (of_conn conn d.state.unwritten.handed))
  where
    one_box : (o : Option (Option ℕ)) →
        (elim o as (λ (q : Option (Option ℕ)). Doing) [
          | Some request ↦ release_if request (in_state (λ s. record s { unwritten = popped conn s.unwritten }) d)
          | None ↦ d
        ]).state.outbox ≡ d.state.outbox
    one_box (Some request) = (released_if_stays request (in_state (λ s. record s { unwritten = popped conn s.unwritten }) d)).outbox
    one_box None = refl

pub lost_limits : (cid conn : ℕ) (d : Doing) → (lost_on cid conn d).state.outbox.limits ≡ d.state.outbox.limits
lost_limits cid conn d =
    let d' = drop_waiting conn (with_outbox (lost cid d.state.outbox) d) in
    ap (λ (o : OutboxState). o.limits) (unwritten_box (length (of_conn conn d'.state.unwritten.handed)) conn d' ∙ waiting_outbox conn (with_outbox (lost cid d.state.outbox) d))
    ∙ limits_stay d.state.outbox (Loses cid)

-- ---- a request is taken

pub not_refused : (i : Interface) (s : Side) (cid : ℕ) → None ≡ steps.refusal_of i s cid → (conn : ℕ) × ((place_of s.state.outbox cid ≡ Some conn) × (nat_lt s.event i.outbox.session.events ≡ true))
not_refused i s cid none = by_place (place_of s.state.outbox cid) refl none
  where
    taken : (open_ kept may : Bool) → None ≡ (if not open_ then Some NotJoined else (if kept then Some Exhausted else (if not may then Some Busy else None))) → kept ≡ false
    taken true true may e = cc
    taken true false may e = refl
    taken false kept may e = cc

    by_place : (o : Option ℕ) → place_of s.state.outbox cid ≡ o → None ≡ (elim o as (λ (q : Option ℕ). Option Refusal) [ Some conn ↦ steps.refusal_on i s conn | None ↦ Some UnknownConnection ])
        → (conn : ℕ) × ((place_of s.state.outbox cid ≡ Some conn) × (nat_lt s.event i.outbox.session.events ≡ true))
    by_place (Some conn) e f =
        let k = taken (is_open_by (link_at s.state.outbox conn)) (nat_le i.outbox.session.events (s.event + kept_back i.outbox.session)) (may_take s.state.outbox) f in
        let above : s.event + kept_back i.outbox.session < i.outbox.session.events = leb-false i.outbox.session.events (s.event + kept_back i.outbox.session) k in
        (conn, (e, lt-ltb s.event i.outbox.session.events (omega (arith, above))))
    by_place None e f = cc

abbrev pub heard_doing : ℕ → List ℕ → Doing → Doing
heard_doing cid header d = with_outbox (heard cid (word_at 28 header) (tag_heard header) d.state.outbox) d

-- a request that isn't refused, with its place
pub taken_going : (i : Interface) (cid : ℕ) (header : List ℕ) (cookie place : ℕ) (s : Side) → None ≡ steps.refusal_of i s cid → next_place s.state.cookies ≡ Some place
    → arriving i cid header (Some place) (record (going s) { doing = enter_request cookie place (heard_doing cid header (going s).doing) }) ≡ (steps.arrive i cid header cookie s).going
taken_going i cid header cookie place s none at = sym (
    ap (λ (o : Option Refusal). (elim o as (λ (q : Option Refusal). steps.Answered) [
      | Some refusal ↦ steps.says s (steps.Refused refusal)
      | None ↦ steps.done (arriving i cid header (next_place s.state.cookies) (steps.known cookie (next_place s.state.cookies) (changed (in_state (steps.heard_first cid header)) (going s))))
    ]).going) (sym none)
    ∙ ap (λ (o : Option ℕ). arriving i cid header o (steps.known cookie o (changed (in_state (steps.heard_first cid header)) (going s)))) at)

-- .. and without one
pub untaken_going : (i : Interface) (cid : ℕ) (header : List ℕ) (cookie : ℕ) (s : Side) → None ≡ steps.refusal_of i s cid → next_place s.state.cookies ≡ None
    → record (going s) { doing = heard_doing cid header (going s).doing } ≡ (steps.arrive i cid header cookie s).going
untaken_going i cid header cookie s none at = sym (
    ap (λ (o : Option Refusal). (elim o as (λ (q : Option Refusal). steps.Answered) [
      | Some refusal ↦ steps.says s (steps.Refused refusal)
      | None ↦ steps.done (arriving i cid header (next_place s.state.cookies) (steps.known cookie (next_place s.state.cookies) (changed (in_state (steps.heard_first cid header)) (going s))))
    ]).going) (sym none)
    ∙ ap (λ (o : Option ℕ). arriving i cid header o (steps.known cookie o (changed (in_state (steps.heard_first cid header)) (going s)))) at)

pub lose_going : (i : Interface) (cid conn : ℕ) (s : Side) (is_closed : Bool) → place_of s.state.outbox cid ≡ Some conn → (link_at s.state.outbox conn).lost ≡ false → (link_at s.state.outbox conn).closed ≡ is_closed
    → (steps.lose i cid s).going ≡ (if is_closed then record (going s) { doing = lost_on cid conn (going s).doing } else happens i None (Arrive cid (parting cid)) (record (going s) { doing = lost_on cid conn (going s).doing }))
lose_going i cid conn s is_closed at here closed =
    let g = record (going s) { doing = lost_on cid conn (going s).doing } in
    ap (λ (o : Option ℕ). (elim o as (λ (q : Option ℕ). steps.Answered) [ Some c ↦ steps.lose_on i cid c s | None ↦ steps.says s (steps.Refused UnknownConnection) ]).going) at
    ∙ ap (λ (b : Bool). (if b then steps.says s (steps.Refused NotJoined) else steps.done (if (link_at s.state.outbox conn).closed then g else happens i None (Arrive cid (parting cid)) g)).going) here
    ∙ ap (λ (b : Bool). if b then g else happens i None (Arrive cid (parting cid)) g) closed

-- ---- a command completes, or stops

pub complete_none : (i : Interface) (ticket status : ℕ) (s : Side) → find_ticket ticket s.state.commands ≡ None → steps.complete i ticket status s ≡ stop_running ticket s
complete_none i ticket status s none = ap (λ (o : Option Command). elim o as (λ (q : Option Command). steps.Answered) [ Some c ↦ steps.complete_as i c status s | None ↦ stop_running ticket s ]) none

pub complete_not : (i : Interface) (c : Command) (status : ℕ) (s : Side) → is_going c ≡ false → steps.complete_as i c status s ≡ stop_running c.ticket s
complete_not i c status s it = ap (λ (b : Bool). if b then steps.done (happens i None (Done c.ticket (if is_marked c then TASK_ABORTED else status)) (going s)) else stop_running c.ticket s) it

pub complete_goes : (i : Interface) (c : Command) (status : ℕ) (s : Side) → is_going c ≡ true → happens i None (Done c.ticket (if is_marked c then TASK_ABORTED else status)) (going s) ≡ (steps.complete_as i c status s).going
complete_goes i c status s it = sym (ap (λ (b : Bool). (if b then steps.done (happens i None (Done c.ticket (if is_marked c then TASK_ABORTED else status)) (going s)) else stop_running c.ticket s).going) it)

pub complete_says : (i : Interface) (c : Command) (status : ℕ) (s : Side) → is_going c ≡ true → steps.Taken ≡ (steps.complete_as i c status s).answer
complete_says i c status s it = sym (ap (λ (b : Bool). (if b then steps.done (happens i None (Done c.ticket (if is_marked c then TASK_ABORTED else status)) (going s)) else stop_running c.ticket s).answer) it)

pub stop_none : (i : Interface) (ticket : ℕ) (s : Side) → find_ticket ticket s.state.commands ≡ None → steps.stop i ticket s ≡ stop_running ticket s
stop_none i ticket s none = ap (λ (o : Option Command). elim o as (λ (q : Option Command). steps.Answered) [ Some c ↦ steps.stop_as i c s | None ↦ stop_running ticket s ]) none

pub stop_not : (i : Interface) (c : Command) (s : Side) → (is_going c && is_marked c) ≡ false → steps.stop_as i c s ≡ stop_running c.ticket s
stop_not i c s it = ap (λ (b : Bool). if b then steps.done (happens i None (Done c.ticket TASK_ABORTED) (going s)) else stop_running c.ticket s) it

pub stop_goes : (i : Interface) (c : Command) (s : Side) → (is_going c && is_marked c) ≡ true → happens i None (Done c.ticket TASK_ABORTED) (going s) ≡ (steps.stop_as i c s).going
stop_goes i c s it = sym (ap (λ (b : Bool). (if b then steps.done (happens i None (Done c.ticket TASK_ABORTED) (going s)) else stop_running c.ticket s).going) it)

pub entered_with : (cookie place : ℕ) (d : Doing) → next_place d.state.cookies ≡ Some place → entered_request cookie d ≡ enter_request cookie place d
entered_with cookie place d at = ap (λ (o : Option ℕ). elim o as (λ (q : Option ℕ). Doing) [ Some p ↦ enter_request cookie p d | None ↦ d ]) at

pub entered_without : (cookie : ℕ) (d : Doing) → next_place d.state.cookies ≡ None → entered_request cookie d ≡ d
entered_without cookie d at = ap (λ (o : Option ℕ). elim o as (λ (q : Option ℕ). Doing) [ Some p ↦ enter_request cookie p d | None ↦ d ]) at
