-- .. and so a call does.
use Rattle.std.proofs.Common.{◌≡◌, ℕ, zero, suc, ◌+◌, ◌&&◌, not, cond, nat_lt, true, false, List, [], ◌∷◌, length, slice_index_or, slice_set, Option, Some, None, refl}
use Rattle.std.proofs.lemmas.Bool.{cond_both}
use Rattle.iscsi_ffi_commands.specs.Commands.{find_ticket, is_going, is_marked, of_unit}
use Rattle.iscsi_ffi_commands.specs.declared.command.Command.{Command}
use Rattle.iscsi_ffi_commands.specs.declared.command.Stage.{Stage}
use Rattle.iscsi_ffi_commands.specs.declared.command.Stage.TheVariants.{Cleared, Entered, Marked, Over, Started}
use Rattle.iscsi_ffi_rules.specs.declared.action.Action.TheVariants.{Close, Ready, Stop}
use Rattle.iscsi_ffi_rules.specs.declared.action.StopReason.TheVariants.{Cleared as ClearedReason}
use Rattle.iscsi_ffi_rules.specs.declared.refusal.Refusal.{Refusal}
use Rattle.iscsi_ffi_rules.specs.declared.refusal.Refusal.TheVariants.{NotJoined, UnknownConnection}
use Rattle.iscsi_ffi_rules.specs.rules.Calls.{Arrives, Call, Cleared as IsCleared, Clears, Completes, Hears, Interface, Joins, Loses, Nexts, Puts, Stops, Writes}
use Rattle.iscsi_ffi_rules.specs.rules.Clearing.{TASK_ABORTED}
use Rattle.iscsi_ffi_rules.specs.rules.Run.{parting}
use Rattle.iscsi_ffi_steps.specs.State.{State}
use Rattle.iscsi_ffi_steps.specs.Steps as steps
use Rattle.iscsi_ffi_steps.specs.Steps.{Answered, Blocked, Goes, Going, NoneGoes, NoneIsLeft, Refused, Side, Stale, after, arrive, arriving, asleep, called, changed, clear, clear_each, clear_one, close_each, close_on, complete, complete_as, done, drop_unwritten, ended, enter_request, gives, gives_no_more, going, hand_out, happening, happens, hold, is_blocked, is_held_first, known, leaves_queue, lose, lose_on, next, next_on, note, note_as, pushed_with_room, put, refusal_of, request_handed, resets_in, says, start, start_each, status_of, stop, stop_as, stop_running, takes, tell_each, tell_on, used_again, walk_from, withholding, write, write_on}
use Rattle.iscsi_ffi_steps.specs.Walk.{Doing, drop_waiting, in_state, release, release_if, tell, with_stage}
use Rattle.iscsi_rules.specs.declared.entry.Entry.{Entry}
use Rattle.iscsi_rules.specs.declared.event.Event.{Event}
use Rattle.iscsi_rules.specs.declared.event.Event.TheVariants.{Arrive, Done}
use Rattle.iscsi_rules.specs.rules.Run.{entry_of}
use Rattle.iscsi_outbox_rules.specs.declared.own_pdu.OwnPdu.{OwnPdu}
use Rattle.iscsi_outbox_rules.specs.declared.own_pdu.OwnPdu.TheVariants.{OfCommand, OfConnection}
use Rattle.iscsi_outbox_rules.specs.declared.own_pdu.PutRefusal.{PutRefusal}
use Rattle.iscsi_outbox_steps.specs.State.{link_at, place_of}
use Rattle.iscsi_outbox_steps.specs.Steps.{cleared_of, given, heard, is_running_ticket, joined, lost, next as handed_out, put as taken_in, put_refusal, stopped as stopped_in, written as written_out}
use Rattle.iscsi_outbox_steps.specs.declared.given.Given.{Given}
use Rattle.iscsi_outbox_steps.specs.declared.given.Given.TheVariants.{Hands, IsOver, Nothing}
use Rattle.iscsi_outbox_steps.specs.declared.given.Handed.{Handed}
use Rattle.iscsi_outbox_steps.specs.declared.given.Pdu.{Pdu}
use Rattle.iscsi_outbox_steps.specs.declared.given.Pdu.TheVariants.{Notice, Own as IsOwn, Ping, Reply as IsReply}
use Rattle.iscsi_requests.specs.Conns.{of_conn, oldest}
use Rattle.iscsi_requests.specs.Cookies.{cookie_at, entered, has_place, next_place, used_more, uses_at}
use Rattle.iscsi_requests.specs.Unwritten.{popped as handed_popped}
use Rattle.iscsi_wire.specs.Fields.{cmd_sn, request_of}
use Rattle.iscsi_wire.specs.declared.request.Request.{Request}
use Rattle.iscsi_ffi_law.proofs.side_invariants.FitSteps.{StateWalk, on_happens, on_release, on_release_if, on_waiting}

module _ (P : State → Type 0) (w : StateWalk P) where
  -- ---- requests

  arrives : (i : Interface) (cid : ℕ) (header : List ℕ) (x : Option ℕ) (g : Going) → P g.doing.state → P (arriving i cid header x g).doing.state
  arrives i cid header None g h = h
  arrives i cid header (Some request) g h =
      let r : Request = request_of cid header in
      let entry : Entry = entry_of i.outbox.session g.event g.trace (Arrive cid header) in
      cond_both (is_held_first r entry.effects) (happens i None (Arrive cid header) (changed (hold r request) g)) (happens i (Some request) (Arrive cid header) g) (λ (x : Going). P x.doing.state)
      (λ is. on_happens P w i None (Arrive cid header) (changed (hold r request) g) (w.held g.doing.state (cmd_sn r) (Some request) h))
      (λ is. on_happens P w i (Some request) (Arrive cid header) g h)

  on_arrive : (i : Interface) (cid : ℕ) (header : List ℕ) (cookie : ℕ) (s : Side) → P s.state → P (arrive i cid header cookie s).going.doing.state
  on_arrive i cid header cookie s h = by_refusal (refusal_of i s cid)
    where
      heard_now : Going
      heard_now = changed (in_state (steps.heard_first cid header)) (going s)

      by_place : (x : Option ℕ) → next_place s.state.cookies ≡ x → P (arriving i cid header x (known cookie x heard_now)).doing.state
      by_place None is = w.outbox s.state (steps.heard_first cid header s.state).outbox h
      by_place (Some place) is =
          arrives i cid header (Some place) (known cookie (Some place) heard_now) (w.enters (steps.heard_first cid header s.state) cookie place is (w.outbox s.state (steps.heard_first cid header s.state).outbox h))

      by_refusal : (x : Option Refusal) → P (elim x as (λ y. Answered) [
        | Some refusal ↦ says s (Refused refusal)
        | None ↦ let place = next_place s.state.cookies in done (arriving i cid header place (known cookie place (changed (in_state (steps.heard_first cid header)) (going s))))
      ]).going.doing.state
      by_refusal (Some refusal) = h
      by_refusal None = by_place (next_place s.state.cookies) refl

  -- ---- commands

  on_running : (ticket : ℕ) (s : Side) → P s.state → P (stop_running ticket s).going.doing.state
  on_running ticket s h =
      cond_both (is_running_ticket ticket s.state.outbox) _ (says s Stale) (λ (x : Answered). P x.going.doing.state) (λ is. by_command (find_ticket ticket s.state.commands)) (λ is. h)
    where
      g : Going
      g = changed (in_state (λ t. record t { outbox = stopped_in ticket t.outbox })) (going s)

      by_command : (x : Option Command) → P (elim x as (λ y. Going) [ Some c ↦ changed (release c.request) g | None ↦ g ]).doing.state
      by_command (Some c) = on_release P w c.request g.doing (w.outbox s.state (stopped_in ticket s.state.outbox) h)
      by_command None = w.outbox s.state (stopped_in ticket s.state.outbox) h

  on_complete : (i : Interface) (ticket status : ℕ) (s : Side) → P s.state → P (complete i ticket status s).going.doing.state
  on_complete i ticket status s h = by_command (find_ticket ticket s.state.commands)
    where
      by_command : (x : Option Command) → P (elim x as (λ y. Answered) [ Some c ↦ complete_as i c status s | None ↦ stop_running ticket s ]).going.doing.state
      by_command (Some c) =
          let e : Event = Done c.ticket (cond (is_marked c) TASK_ABORTED status) in
          cond_both (is_going c) (done (happens i None e (going s))) (stop_running c.ticket s) (λ (x : Answered). P x.going.doing.state) (λ is. on_happens P w i None e (going s) h) (λ is. on_running c.ticket s h)
      by_command None = on_running ticket s h

  on_stops : (i : Interface) (ticket : ℕ) (s : Side) → P s.state → P (stop i ticket s).going.doing.state
  on_stops i ticket s h = by_command (find_ticket ticket s.state.commands)
    where
      by_command : (x : Option Command) → P (elim x as (λ y. Answered) [ Some c ↦ stop_as i c s | None ↦ stop_running ticket s ]).going.doing.state
      by_command (Some c) =
          let e : Event = Done c.ticket TASK_ABORTED in
          cond_both (is_going c && is_marked c) (done (happens i None e (going s))) (stop_running c.ticket s) (λ (x : Answered). P x.going.doing.state) (λ is. on_happens P w i None e (going s) h) (λ is. on_running c.ticket s h)
      by_command None = on_running ticket s h

  on_clear_one : (c : Command) (d : Doing) → P d.state → P (clear_one c d).state
  on_clear_one c d h = by_stage c.stage
    where
      by_stage : (x : Stage) → P (elim x as (λ y. Doing) [
        | Entered ↦ in_state (with_stage Marked c.ticket) d
        | Started ↦ in_state (with_stage Cleared c.ticket) (tell (Stop c.ticket (cookie_at c.request d.state.cookies) ClearedReason) d)
        | Marked ↦ d
        | Cleared ↦ d
        | Over ↦ d
      ]).state
      by_stage Entered = w.staged d.state Marked c.ticket h
      by_stage Started = w.staged d.state Cleared c.ticket h
      by_stage Marked = h
      by_stage Cleared = h
      by_stage Over = h

  on_clear_each : (cs : List Command) (d : Doing) → P d.state → P (clear_each cs d).state
  on_clear_each [] d h = h
  on_clear_each (c ∷ cs) d h = on_clear_each cs (clear_one c d) (on_clear_one c d h)

  -- ---- connections

  on_unwritten : (n conn : ℕ) (d : Doing) → P d.state → P (drop_unwritten n conn d).state
  on_unwritten zero conn d h = h
  on_unwritten (suc n) conn d h = by_oldest (on_unwritten n conn) (oldest (of_conn conn d.state.unwritten.handed))
    where
      popped : Doing
      popped = in_state (λ s. record s { unwritten = handed_popped conn s.unwritten }) d

      by_oldest : ((d' : Doing) → P d'.state → P (drop_unwritten n conn d').state) → (x : Option (Option ℕ))
          → P (drop_unwritten n conn (elim x as (λ y. Doing) [ Some request ↦ release_if request (in_state (λ s. record s { unwritten = handed_popped conn s.unwritten }) d) | None ↦ d ])).state
      by_oldest further (Some request) = further (release_if request popped) (on_release_if P w request popped (w.unwritten_popped d.state conn h))
      by_oldest further None = further d h

  on_lose : (i : Interface) (cid : ℕ) (s : Side) → P s.state → P (lose i cid s).going.doing.state
  on_lose i cid s h = by_place (place_of s.state.outbox cid)
    where
      dropped : ℕ → Doing
      dropped conn = drop_waiting conn (in_state (λ t. record t { outbox = lost cid t.outbox }) (going s).doing)

      g : ℕ → Going
      g conn = record (going s) { doing = drop_unwritten (length (of_conn conn (dropped conn).state.unwritten.handed)) conn (dropped conn) }

      kept : (conn : ℕ) → P (g conn).doing.state
      kept conn = on_unwritten (length (of_conn conn (dropped conn).state.unwritten.handed)) conn (dropped conn) (on_waiting P w conn (in_state (λ t. record t { outbox = lost cid t.outbox }) (going s).doing) (w.outbox s.state (lost cid s.state.outbox) h))

      by_place : (x : Option ℕ) → P (elim x as (λ y. Answered) [ Some conn ↦ lose_on i cid conn s | None ↦ says s (Refused UnknownConnection) ]).going.doing.state
      by_place None = h
      by_place (Some conn) =
          cond_both (link_at s.state.outbox conn).lost (says s (Refused NotJoined)) (done (cond (link_at s.state.outbox conn).closed (g conn) (happens i None (Arrive cid (parting cid)) (g conn)))) (λ (x : Answered). P x.going.doing.state)
          (λ is. h)
          (λ is. cond_both (link_at s.state.outbox conn).closed (g conn) (happens i None (Arrive cid (parting cid)) (g conn)) (λ (x : Going). P x.doing.state) (λ closed. kept conn) (λ closed. on_happens P w i None (Arrive cid (parting cid)) (g conn) (kept conn)))

  -- ---- what goes out

  on_used_again : (place : ℕ) (s : State) → P s → P (used_again place s)
  on_used_again place s h = cond_both (has_place place s.cookies && nat_lt (uses_at place s.cookies) 4294967295) (record s { cookies = used_more place s.cookies }) s P (λ is. w.used s place h) (λ is. h)

  on_leaves_queue : (conn : ℕ) (p : Pdu) (x : Option ℕ) (s : State) → P s → P (leaves_queue conn p x s)
  on_leaves_queue conn (IsReply sent) x s h = w.reply_taken s sent.place h
  on_leaves_queue conn (IsOwn (OfCommand ticket header)) (Some place) s h = on_used_again place s h
  on_leaves_queue conn (IsOwn (OfCommand ticket header)) None s h = h
  on_leaves_queue conn (IsOwn (OfConnection cid header)) x s h = w.noted_popped s conn h
  on_leaves_queue conn (Ping tag) x s h = h
  on_leaves_queue conn Notice x s h = h

  on_hand_out : (cid conn : ℕ) (g : Handed) (s : Side) → P s.state → P (hand_out cid conn g s).going.doing.state
  on_hand_out cid conn g s h =
      let request : Option ℕ = request_handed s.state conn g.pdu in
      let t' : State = leaves_queue conn g.pdu request s.state in
      w.unwritten_pushed (record t' { outbox = handed_out cid t'.outbox }) conn request (w.outbox t' (handed_out cid t'.outbox) (on_leaves_queue conn g.pdu request s.state h))

  on_next : (i : Interface) (cid : ℕ) (s : Side) → P s.state → P (next i cid s).going.doing.state
  on_next i cid s h = by_place (place_of s.state.outbox cid)
    where
      by_given : (conn : ℕ) (g : Given) → P (elim g as (λ y. Answered) [ Hands x ↦ hand_out cid conn x s | Nothing ↦ says (asleep conn s) NoneGoes | IsOver ↦ says (asleep conn s) NoneIsLeft ]).going.doing.state
      by_given conn (Hands x) = on_hand_out cid conn x s h
      by_given conn Nothing = w.aside s.state s.state.withheld (asleep conn s).state.awake s.state.over h
      by_given conn IsOver = w.aside s.state s.state.withheld (asleep conn s).state.awake s.state.over h

      by_place : (x : Option ℕ) → P (elim x as (λ y. Answered) [ Some conn ↦ next_on i cid conn s | None ↦ says s NoneGoes ]).going.doing.state
      by_place None = h
      by_place (Some conn) = cond_both (is_blocked i conn s.state) (says s Blocked) _ (λ (x : Answered). P x.going.doing.state) (λ is. h) (λ is. by_given conn (given cid s.state.outbox))

  on_write : (cid : ℕ) (s : Side) → P s.state → P (write cid s).going.doing.state
  on_write cid s h = by_place (place_of s.state.outbox cid)
    where
      d : Doing
      d = in_state (λ t. record t { outbox = written_out cid t.outbox }) (going s).doing

      h' : P (in_state (λ t. record t { outbox = written_out cid t.outbox }) (going s).doing).state
      h' = w.outbox s.state (written_out cid s.state.outbox) h

      by_oldest : (conn : ℕ) (x : Option (Option ℕ)) → P (elim x as (λ y. Doing) [ Some request ↦ release_if request (in_state (λ t. record t { unwritten = handed_popped conn t.unwritten }) d) | None ↦ d ]).state
      by_oldest conn (Some request) = on_release_if P w request (in_state (λ t. record t { unwritten = handed_popped conn t.unwritten }) d) (w.unwritten_popped d.state conn h')
      by_oldest conn None = h'

      by_place : (x : Option ℕ) → P (elim x as (λ y. Going) [ Some conn ↦ changed (write_on conn) (record (going s) { doing = d }) | None ↦ record (going s) { doing = d } ]).doing.state
      by_place None = h'
      by_place (Some conn) = by_oldest conn (oldest (of_conn conn s.state.unwritten.handed))

  on_note : (p : OwnPdu) (cookie : ℕ) (s : State) → P s → P (note p cookie s)
  on_note (OfCommand ticket header) cookie s h = h
  on_note (OfConnection cid header) cookie s h = by_places (place_of s.outbox cid) (next_place s.cookies) refl
    where
      by_places : (x y : Option ℕ) → next_place s.cookies ≡ y → P (note_as x y cookie s)
      by_places None None is = h
      by_places None (Some place) is = h
      by_places (Some conn) None is = h
      by_places (Some conn) (Some place) is = w.noted_pushed (record s { cookies = entered cookie place s.cookies }) conn (Some place) (w.enters s cookie place is h)

  on_put : (p : OwnPdu) (cookie : ℕ) (s : Side) → P s.state → P (put p cookie s).going.doing.state
  on_put p cookie s h = by_refusal (put_refusal p s.state.outbox)
    where
      by_refusal : (x : Option PutRefusal) → P (elim x as (λ y. Going) [ Some why ↦ going s | None ↦ changed (in_state (λ t. note p cookie (record t { outbox = taken_in p t.outbox }))) (going s) ]).doing.state
      by_refusal (Some why) = h
      by_refusal None = on_note p cookie (record s.state { outbox = taken_in p s.state.outbox }) (w.outbox s.state (taken_in p s.state.outbox) h)

  -- ---- at the end of a call

  on_tell_each : (conn : ℕ) (cids : List ℕ) (d : Doing) → P d.state → P (tell_each conn cids d).state
  on_tell_each conn [] d h = h
  on_tell_each conn (cid ∷ cids) d h =
      on_tell_each (conn + 1) cids (tell_on conn cid d)
      (cond_both (gives (given cid d.state.outbox) && not (slice_index_or d.state.awake conn false)) (in_state (λ s. record s { awake = slice_set s.awake conn true }) (tell (Ready cid) d)) d (λ (x : Doing). P x.state)
      (λ is. w.aside d.state d.state.withheld (slice_set d.state.awake conn true) d.state.over h) (λ is. h))

  on_close_each : (conn : ℕ) (cids : List ℕ) (d : Doing) → P d.state → P (close_each conn cids d).state
  on_close_each conn [] d h = h
  on_close_each conn (cid ∷ cids) d h =
      on_close_each (conn + 1) cids (close_on conn cid d)
      (cond_both (gives_no_more (given cid d.state.outbox) && not (slice_index_or d.state.over conn false)) (in_state (λ s. record s { over = slice_set s.over conn true }) (tell (Close cid) d)) d (λ (x : Doing). P x.state)
      (λ is. w.aside d.state d.state.withheld d.state.awake (slice_set d.state.over conn true) h) (λ is. h))

  on_ended : (g : Going) → P g.doing.state → P (ended g).doing.state
  on_ended g h = let cids : List ℕ = g.doing.state.outbox.limits.cids in on_close_each 0 cids (tell_each 0 cids g.doing) (on_tell_each 0 cids g.doing h)

  on_called : (i : Interface) (c : Call) (s : Side) → P s.state → P (called i c s).going.doing.state
  on_called i (Arrives cid header cookie) s h = on_arrive i cid header cookie s h
  on_called i (Completes ticket status) s h = on_complete i ticket status s h
  on_called i (Stops ticket) s h = on_stops i ticket s h
  on_called i (Nexts cid) s h = on_next i cid s h
  on_called i (Puts p cookie) s h = on_put p cookie s h
  on_called i (Writes cid) s h = on_write cid s h
  on_called i (Hears cid exp_stat_sn tag) s h = w.outbox s.state (heard cid exp_stat_sn tag s.state.outbox) h
  on_called i (Joins cid stat_sn) s h = w.outbox s.state (joined cid stat_sn s.state.outbox) h
  on_called i (Loses cid) s h = on_lose i cid s h
  on_called i (Clears unit) s h = on_clear_each (of_unit unit s.state.commands) (going s).doing h
  on_called i (IsCleared unit) s h = w.outbox s.state (cleared_of unit s.state.outbox) h

  pub on_step : (i : Interface) (s : Side) (c : Call) → P s.state → P (after (ended (called i c s).going)).state
  on_step i s c h = on_ended (called i c s).going (on_called i c s h)
