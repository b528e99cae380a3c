-- The calls of a list go alike, by what holds of both sides.
use Rattle.std.proofs.Common.{zero, suc, ◌++◌, length, ◌≡◌, ℕ, ◌+◌, ◌&&◌, inl, inr, Bool, true, false, List, [], ◌∷◌, Option, Some, None, filter, not, refl}
use Rattle.iscsi_rules.specs.rules.Settings.{is_known}
use Rattle.iscsi_rules.specs.rules.Trace.{Command, entered, has, is_closed, leaves_ticket, was_free}
use Rattle.iscsi_outbox_rules.specs.rules.Calls as outbox
use Rattle.iscsi_outbox_rules.specs.rules.Words.{contains}
use Rattle.iscsi_ffi_rules.specs.declared.refusal.Refusal.{Refusal}
use Rattle.iscsi_rules.specs.declared.event.Event.TheVariants.{Arrive, Done}
use Rattle.iscsi_rules.specs.rules.Trace.{live}
use Rattle.iscsi_ffi_rules.specs.rules.Happening.{happening}
use Rattle.iscsi_ffi_rules.specs.rules.Calls.{Arrives, Call, Cleared, Clears, Completes, Hears, Interface, Joins, Loses, Nexts, Puts, Stops, Writes}
use Rattle.iscsi_ffi_rules.specs.rules.Run.{after_call, heard_in, is_going, is_lost, refusal_of}
use Rattle.iscsi_ffi_rules.specs.declared.action.Action.{Action}
use Rattle.iscsi_ffi_rules.specs.rules.Clearing.{next_withheld, status_of}
use Rattle.iscsi_ffi_law.specs.Done.{AreDoneFit, IsDoneFit}
use Rattle.iscsi_ffi_rules.specs.rules.Sides.{Asked, Side, opened}
use Rattle.iscsi_ffi_steps.specs.Steps.{Side as StepsSide, after, begun, called, ended}
use Rattle.iscsi_outbox_law.specs.private.Pairs.{EachOf}
use Rattle.iscsi_ffi_law.specs.Alike.{GoesAlike}
use Rattle.iscsi_ffi_law.specs.Lists.{AreAlike, Meets}
use Rattle.iscsi_ffi_law.specs.Sides.{AreFitFrom, IsCallFit, IsOfBytes, IsOpening, IsShort, IsSideFit, asking}
use Rattle.iscsi_ffi_law.specs.Stands.{Stands}
use Rattle.iscsi_ffi_law.proofs.calls.AllCalls.{goes}
use Rattle.iscsi_ffi_law.proofs.premises.FitAll.{all_fit, of_call}
use Rattle.iscsi_ffi_law.proofs.premises.FitFacts.{limits}
use Rattle.iscsi_ffi_law.proofs.premises.FitEvents.{taken_leaves}
use Rattle.iscsi_ffi_law.proofs.side_invariants.FitHolds.{Holds}
use Rattle.iscsi_ffi_law.proofs.side_invariants.FitLasts.{Lasts, lasts_begun, lasts_walk}
use Rattle.iscsi_ffi_law.proofs.premises.FitRoom.{free, placed, room_to_tell, uses_few}
use Rattle.iscsi_ffi_law.proofs.side_invariants.FitSized.{AreSized, sized_begun, sized_step}
use Rattle.iscsi_ffi_law.proofs.side_invariants.FitWalks.{on_call}
use Rattle.iscsi_ffi_law.proofs.commands.HeldNews.{told_free}
use Rattle.iscsi_ffi_law.proofs.premises.FitLoss.{loss_holds}
use Rattle.iscsi_ffi_law.proofs.general.Members.{each_in, in_pairs}
use Rattle.iscsi_ffi_law.proofs.calls.Opened.{stands_begun}
use Rattle.iscsi_ffi_law.specs.Parts.{IsCommand, IsLiveNamed, is_named}
use Rattle.iscsi_rules.proofs.general.BoolLemmas.{not_true}
use Rattle.iscsi_rules.proofs.general.ElementLemmas.{In, filter-in, in-filter}

-- who asked for what doesn't matter as commands complete
done_asked : (i : Interface) (m : ℕ) (s : Side) (asked : List Asked) (acts acts' : List Action) → AreDoneFit i m (record { side = s; actions = acts }) → AreDoneFit i m (record { side = record s { asked = asked }; actions = acts' })
done_asked i zero s asked acts acts' h = tt
done_asked i (suc m) s asked acts acts' h = by_next (done_asked i m) (next_withheld s) h
  where
    by_next : ((s' : Side) (asked' : List Asked) (as' bs : List Action) → AreDoneFit i m (record { side = s'; actions = as' }) → AreDoneFit i m (record { side = record s' { asked = asked' }; actions = bs })) → (x : Option Command)
        → elim x as (λ y. Type 0) [
          | Some c ↦ IsDoneFit i s c.ticket (status_of s c) × (let g = happening i s (Done c.ticket (status_of s c)) in AreDoneFit i m (record { side = g.side; actions = acts ++ g.actions }))
          | None ↦ Unit {0}
        ]
        → elim x as (λ y. Type 0) [
          | Some c ↦ IsDoneFit i (record s { asked = asked }) c.ticket (status_of (record s { asked = asked }) c) × (let g = happening i (record s { asked = asked }) (Done c.ticket (status_of (record s { asked = asked }) c)) in AreDoneFit i m (record { side = g.side; actions = acts' ++ g.actions }))
          | None ↦ Unit {0}
        ]
    by_next further None k = tt
    by_next further (Some c) k =
        let d = k.0 in
        let g = happening i s (Done c.ticket (status_of s c)) in
        (record { fit = d.fit; room = d.room; stale = d.stale; events = d.events; sent = d.sent; replies = d.replies; few = d.few; there = d.there; takes = d.takes; handed = d.handed }, further g.side asked (acts ++ g.actions) (acts' ++ (happening i (record s { asked = asked }) (Done c.ticket (status_of s c))).actions) k.1)

module _ (i : Interface) (opening : IsOpening i) where
  module _ (n : ℕ) (s : StepsSide) (r : Side) (st : Stands i s r) (z : AreSized i s.state) (lasts : Lasts i n r) (fit : IsSideFit i r) where
    h : Holds i n r
    h = lasts.holds

    -- a live command was told to start where it is enabled
    told_is : (c : Command) → In c (live r.both.trace) → contains r.told c.ticket ≡ was_free c r.both.trace
    told_is c at =
        let there = in-filter (λ (d : Command). not (has (leaves_ticket d.ticket) r.both.trace)) (entered r.both.trace) c at in
        told_free i [] r (λ d none. absurd none) st.requests.tickets st.calm freed c there.0 (not_true (has (leaves_ticket c.ticket) r.both.trace) there.1)
      where
        freed : (c : Command) → In c (entered r.both.trace) → has (leaves_ticket c.ticket) r.both.trace ≡ false → contains r.told c.ticket ≡ true → was_free c r.both.trace ≡ true
        freed c there lives told =
            let named : is_named st.names c ≡ true = each_in (IsLiveNamed st.names r.both.trace) (entered r.both.trace) c there st.requests.live_named lives in
            let pair = in_pairs (IsCommand st.names r) s.state.commands.items (filter (is_named st.names) (entered r.both.trace)) c (filter-in (is_named st.names) (entered r.both.trace) c there named) st.requests.commands in
            pair.2.freed told

    meets_arrival : (cid : ℕ) (header : List ℕ) (cookie : ℕ) → IsCallFit i r (Arrives cid header cookie) → (x : Option Refusal) → refusal_of i r cid ≡ x → Meets i s r (Arrives cid header cookie)
    meets_arrival cid header cookie call (Some why) is = inl (fit.leaves (outbox.Hears cid 0 0) refl, (why, is))
    meets_arrival cid header cookie call None is =
        let k = call is in
        let w = k.event in
        inr (record {
          fit = record {
            before = k.before;
            heard = k.heard;
            event = record { fit = w.fit; steps = w.steps (taken_leaves i opening n r cid header is h w.items w.stale lasts.replied lasts.freed told_is); stale = w.stale; sent = w.sent; replies = w.sends; found = w.found; short = w.short; enabled = w.enabled; few = w.few; regular = w.regular; distinct = w.distinct; received = w.received; prompt = w.prompt; waits = w.waits };
          };
          taken = is;
          room = free i opening n s r st z h;
          placed = placed i opening n s r st z h;
          behind = record {
            withheld = (let v = happening i (asking (heard_in i r cid header) cookie) (Arrive cid header) in let u = happening i (heard_in i r cid header) (Arrive cid header) in done_asked i (length (live v.side.both.trace)) v.side u.side.asked v.actions u.actions k.withheld);
          };
        })

    meets_completed : (ticket status : ℕ) → IsCallFit i r (Completes ticket status) → (v : Bool) → is_going r ticket ≡ v → Meets i s r (Completes ticket status)
    meets_completed ticket status call true is = inr (is, call is)
    meets_completed ticket status call false is = inl (fit.leaves (outbox.Stops ticket) refl, is)

    meets_stopped : (ticket : ℕ) → IsCallFit i r (Stops ticket) → (v : Bool) → (is_going r ticket && contains r.marked ticket) ≡ v → Meets i s r (Stops ticket)
    meets_stopped ticket call true is = inr (is, call is)
    meets_stopped ticket call false is = inl (fit.leaves (outbox.Stops ticket) refl, is)

    meets_loss : (cid : ℕ) → IsCallFit i r (Loses cid) → (u v w : Bool) → is_known cid i.outbox.session.conns ≡ u → is_lost r cid ≡ v → is_closed cid r.both.trace ≡ w → Meets i s r (Loses cid)
    meets_loss cid call false v w known lost closed = inl (fit.leaves (outbox.Hears cid 0 0) refl, inl known)
    meets_loss cid call true true w known lost closed = inl (fit.leaves (outbox.Hears cid 0 0) refl, inr lost)
    meets_loss cid call true false true known lost closed = inr (inl (record { leaves = fit.leaves (outbox.Loses cid) refl; orderly = fit.orderly; closed = closed; known = known; kept = lost }))
    meets_loss cid call true false false known lost closed = inr (inr (loss_holds i n r lasts opening told_is cid known lost closed (fit.leaves (outbox.Loses cid) refl) fit.orderly (call known lost closed)))

    meets : (c : Call) → IsCallFit i r c → Meets i s r c
    meets (Arrives cid header cookie) call = meets_arrival cid header cookie call (refusal_of i r cid) refl
    meets (Completes ticket status) call = meets_completed ticket status call (is_going r ticket) refl
    meets (Stops ticket) call = meets_stopped ticket call (is_going r ticket && contains r.marked ticket) refl
    meets (Nexts cid) call = (fit.leaves (outbox.Nexts cid) refl, uses_few i opening n s r st z h, fit.sent)
    meets (Puts p cookie) call = (fit.leaves (outbox.Puts p) refl, fit.orderly, free i opening n s r st z h)
    meets (Writes cid) call = fit.leaves (outbox.Writes cid) refl
    meets (Hears cid exp_stat_sn tag) call = fit.leaves (outbox.Hears cid exp_stat_sn tag) refl
    meets (Joins cid stat_sn) call = fit.leaves (outbox.Joins cid stat_sn) refl
    meets (Loses cid) call = meets_loss cid call (is_known cid i.outbox.session.conns) (is_lost r cid) (is_closed cid r.both.trace) refl refl refl
    meets (Clears unit) call = record { fit = fit.fit; room = room_to_tell i opening n s r st z h }
    meets (Cleared unit) call = fit.leaves (outbox.Clears unit) refl

  alike_from : (n : ℕ) (s : StepsSide) (r : Side) (calls : List Call) → EachOf IsOfBytes calls → Stands i s r → AreSized i s.state → Lasts i n r → AreFitFrom i r calls → AreAlike i s r calls
  alike_from n s r [] bytes st z h fit = tt
  alike_from n s r (c ∷ cs) bytes st z h fit =
      let g : GoesAlike i s r c = goes i s r c st (meets n s r st z h fit.0 c fit.1) in (
        g.answer,
        g.tells,
        alike_from (n + 1) (after (ended (called i c s).going)) (after_call i r c).told.side cs bytes.1 g.stands (sized_step i s c z) (on_call i (Lasts i) (lasts_walk i (limits i opening).distinct) n r c (of_call c bytes.0) h) fit.2,
      )

pub all_alike : (i : Interface) (calls : List Call) → IsOpening i → IsShort i calls → EachOf IsOfBytes calls → AreAlike i (begun i) (opened i) calls
all_alike i calls opening short bytes = alike_from i opening 0 (begun i) (opened i) calls bytes (stands_begun i) (sized_begun i) (lasts_begun i) (all_fit i calls opening short bytes)
