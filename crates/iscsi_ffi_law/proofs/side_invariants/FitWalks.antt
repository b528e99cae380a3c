-- What each part of a call keeps, every call keeps, with one call more.
use Rattle.std.proofs.Common.{◌≡◌, ℕ, zero, suc, ◌+◌, ◌==◌, ◌&&◌, not, cond, Bool, true, false, List, [], ◌∷◌, ◌++◌, map, filter, length, Option, Some, None, refl, ap, sym, ◌∙◌, ◌≤◌, arith}
use Rattle.std.proofs.lemmas.Bool.{cond_both, false≢true, and_parts}
use Rattle.iscsi_rules.specs.declared.event.Event.TheVariants.{Arrive, Done}
use Rattle.iscsi_rules.specs.rules.Agenda.{command_of}
use Rattle.iscsi_rules.specs.rules.Settings.{is_known}
use Rattle.iscsi_rules.specs.rules.Trace.{Command, first_of, is_closed, live, was_free}
use Rattle.iscsi_rules.proofs.general.ElementLemmas.{In, filter-in, first-in, in-filter}
use Rattle.iscsi_outbox_rules.specs.declared.own_pdu.OwnPdu.{OwnPdu}
use Rattle.iscsi_outbox_rules.specs.declared.own_pdu.PutRefusal.{PutRefusal}
use Rattle.iscsi_outbox_rules.specs.rules.Calls as outbox
use Rattle.iscsi_outbox_rules.specs.rules.Handing.{Given, Hands, IsOver, Nothing, given}
use Rattle.iscsi_outbox_rules.specs.rules.Own.{put_refusal}
use Rattle.iscsi_outbox_rules.specs.rules.Words.{contains, is_running}
use Rattle.iscsi_ffi_rules.specs.declared.action.StopReason.TheVariants.{Cleared as ClearedReason}
use Rattle.iscsi_ffi_rules.specs.declared.refusal.Refusal.{Refusal}
use Rattle.iscsi_ffi_rules.specs.declared.refusal.Refusal.TheVariants.{NotJoined, UnknownConnection}
use Rattle.iscsi_ffi_rules.specs.rules.Calls.{Arrives, Call, Cleared, Clears, Completes, Hears, Interface, Joins, Loses, Nexts, Puts, Stops, Writes}
use Rattle.iscsi_ffi_rules.specs.rules.Clearing.{TASK_ABORTED, next_withheld, status_of}
use Rattle.iscsi_ffi_rules.specs.rules.Happening.{Told, happening, happens, is_started, other, quiet, stop, withheld, withholding}
use Rattle.iscsi_ffi_rules.specs.rules.Needs.{first_noted, is_noted, without_first}
use Rattle.iscsi_ffi_rules.specs.rules.Run.{Answered, Blocked, Goes, NoneGoes, NoneIsLeft, Refused, Stale, after_call, answers, arrive, asleep, called, clear, complete, cookie_handed, done, ended, handed_on, heard_in, is_blocked, is_going, is_lost, lose, next, noted_with, parting, put, refusal_of, stopped, stops}
use Rattle.iscsi_ffi_rules.specs.rules.Sides.{Asked, Noted, Side}
use Rattle.iscsi_ffi_rules.specs.promises.Deeds.{side_after}
use Rattle.iscsi_ffi_rules.proofs.SideWalks.{left_to_clear}
use Rattle.iscsi_ffi_law.specs.Sides.{asking}
use Rattle.std.proofs.Common.{eq-eqb}

-- a call of the outbox that takes no event, and loses no connection
abbrev pub IsSimple : outbox.Call → Type 0
IsSimple (outbox.Takes effects numbers) = ⊥
IsSimple (outbox.Loses conn) = ⊥
IsSimple _ = Unit {0}

-- what holds of the header that arrives in a call
abbrev pub OfCall : (List ℕ → Type 0) → Call → Type 0
OfCall H (Arrives cid header cookie) = H header
OfCall H _ = Unit {0}

-- what holds of a side behind so many calls, through a call; `H`: of the headers that arrive
pub record SideWalk (i : Interface) (H : List ℕ → Type 0) (P : ℕ → Side → Type 0) : Type 0 where
  pub completes : (k : ℕ) (s : Side) (ticket status : ℕ) (c : Command) → command_of s.both.trace ticket ≡ Some c → P k s → P k (happening i s (Done ticket status)).side
  pub arrives : (k : ℕ) (s : Side) (cid : ℕ) (header : List ℕ) (cookie : ℕ) → refusal_of i s cid ≡ None → H header → P k s → P (k + 1) (happening i (asking (heard_in i s cid header) cookie) (Arrive cid header)).side
  pub loses : (k : ℕ) (s : Side) (cid : ℕ) → is_known cid i.outbox.session.conns ≡ true → is_lost s cid ≡ false → is_closed cid s.both.trace ≡ false → P k s
      → P (k + 1) (happening i (other i s (outbox.Loses cid)) (Arrive cid (parting cid))).side
  pub loses_closed : (k : ℕ) (s : Side) (cid : ℕ) → is_known cid i.outbox.session.conns ≡ true → is_lost s cid ≡ false → is_closed cid s.both.trace ≡ true → P k s → P (k + 1) (other i s (outbox.Loses cid))
  pub calls : (k : ℕ) (s : Side) (c : outbox.Call) → IsSimple c → P k s → P (k + 1) (other i s c)
  pub clears : (k : ℕ) (s : Side) (unit : ℕ) → P k s → P k (record s { marked = s.marked ++ map (λ (c : Command). c.ticket) (left_to_clear s unit) })
  pub forgets : (k : ℕ) (s : Side) (p : Asked → Bool) → P k s → P k (record s { asked = filter p s.asked })
  pub beside : (k : ℕ) (s : Side) (noted handed : List Noted) (awake over : List ℕ) → P k s → P k (record s { noted = noted; handed_notes = handed; awake = awake; over = over })
  pub more : (k : ℕ) (s : Side) → P k s → P (k + 1) s

-- a command that is withheld is one that the session has
pub withheld_there : (s : Side) (c : Command) → next_withheld s ≡ Some c → (d : Command) × (command_of s.both.trace c.ticket ≡ Some d)
withheld_there s c is =
    let there = in-filter (λ (x : Command). was_free x s.both.trace && not (contains s.told x.ticket)) (live s.both.trace) c (first-in _ c is) in
    let free = and_parts (was_free c s.both.trace) (not (contains s.told c.ticket)) there.1 in
    some_first (filter (λ (x : Command). x.ticket == c.ticket && was_free x s.both.trace) (live s.both.trace)) c
    (filter-in (λ (x : Command). x.ticket == c.ticket && was_free x s.both.trace) (live s.both.trace) c there.0 (both (c.ticket == c.ticket) (was_free c s.both.trace) (eq-eqb c.ticket c.ticket refl) free.0))
  where
    both : (u v : Bool) → u ≡ true → v ≡ true → (u && v) ≡ true
    both u v h k = ap (λ x. x && v) h ∙ k

    some_first : (cs : List Command) (x : Command) → In x cs → (d : Command) × (first_of cs ≡ Some d)
    some_first [] x at = absurd at
    some_first (d ∷ cs) x at = (d, refl)

pub going_there : (s : Side) (ticket : ℕ) → is_going s ticket ≡ true → (c : Command) × (command_of s.both.trace ticket ≡ Some c)
going_there s ticket is = by_command (command_of s.both.trace ticket) refl is
  where
    by_command : (x : Option Command) → command_of s.both.trace ticket ≡ x → elim x [ Some c ↦ contains s.told ticket | None ↦ false ] ≡ true → (c : Command) × (command_of s.both.trace ticket ≡ Some c)
    by_command (Some c) found k = (c, found)
    by_command None found k = absurd (false≢true k)

module _ (i : Interface) {H : List ℕ → Type 0} (P : ℕ → Side → Type 0) (w : SideWalk i H P) where
  pub on_withholding : (k n : ℕ) (t : Told) → P k t.side → P k (withholding i n t).side
  on_withholding k zero t h = h
  on_withholding k (suc n) t h = by_next (on_withholding k n) (next_withheld t.side) refl
    where
      by_next : ((t' : Told) → P k t'.side → P k (withholding i n t').side) → (x : Option Command) → next_withheld t.side ≡ x → P k (elim x as (λ y. Told) [
        | Some c ↦ let g = happening i t.side (Done c.ticket (status_of t.side c)) in withholding i n (record { side = g.side; actions = t.actions ++ g.actions })
        | None ↦ t
      ]).side
      by_next further None is = h
      by_next further (Some c) is =
          let g : Told = happening i t.side (Done c.ticket (status_of t.side c)) in
          let there = withheld_there t.side c is in
          further (record { side = g.side; actions = t.actions ++ g.actions }) (w.completes k t.side c.ticket (status_of t.side c) there.0 there.1 h)

  pub on_withheld : (k : ℕ) (t : Told) → P k t.side → P k (withheld i t).side
  on_withheld k t h = on_withholding k (length (live t.side.both.trace)) t h

  on_arrive : (k : ℕ) (s : Side) (cid : ℕ) (header : List ℕ) (cookie : ℕ) → H header → P k s → P (k + 1) (arrive i s cid header cookie).told.side
  on_arrive k s cid header cookie of h = by_refusal (refusal_of i s cid) refl
    where
      by_refusal : (x : Option Refusal) → refusal_of i s cid ≡ x → P (k + 1) (elim x as (λ y. Answered) [
        | Some refusal ↦ answers s (Refused refusal)
        | None ↦
            let s' = heard_in i s cid header in
            done (happens i (record s' { asked = s'.asked ++ record { event = s'.both.event; cookie = cookie } ∷ [] }) (Arrive cid header))
      ]).told.side
      by_refusal (Some refusal) is = w.more k s h
      by_refusal None is = on_withheld (k + 1) (happening i (asking (heard_in i s cid header) cookie) (Arrive cid header)) (w.arrives k s cid header cookie is of h)

  on_stopped : (k : ℕ) (s : Side) (ticket : ℕ) → P k s → P (k + 1) (stopped i s ticket).told.side
  on_stopped k s ticket h =
      cond_both (is_running s.both.box ticket) (done (quiet (other i s (outbox.Stops ticket)))) (answers s Stale) (λ (a : Answered). P (k + 1) a.told.side)
      (λ is. w.calls k s (outbox.Stops ticket) tt h) (λ is. w.more k s h)

  on_complete : (k : ℕ) (s : Side) (ticket status : ℕ) → P k s → P (k + 1) (complete i s ticket status).told.side
  on_complete k s ticket status h =
      let st : ℕ = cond (contains s.marked ticket) TASK_ABORTED status in
      cond_both (is_going s ticket) (done (happens i s (Done ticket st))) (stopped i s ticket) (λ (a : Answered). P (k + 1) a.told.side)
      (λ is. let there = going_there s ticket is in on_withheld (k + 1) (happening i s (Done ticket st)) (w.completes (k + 1) s ticket st there.0 there.1 (w.more k s h))) (λ is. on_stopped k s ticket h)

  on_stops : (k : ℕ) (s : Side) (ticket : ℕ) → P k s → P (k + 1) (stops i s ticket).told.side
  on_stops k s ticket h =
      cond_both (is_going s ticket && contains s.marked ticket) (done (happens i s (Done ticket TASK_ABORTED))) (stopped i s ticket) (λ (a : Answered). P (k + 1) a.told.side)
      (λ is. let there = going_there s ticket (and_parts (is_going s ticket) (contains s.marked ticket) is).0 in on_withheld (k + 1) (happening i s (Done ticket TASK_ABORTED)) (w.completes (k + 1) s ticket TASK_ABORTED there.0 there.1 (w.more k s h)))
      (λ is. on_stopped k s ticket h)

  on_clear : (k : ℕ) (s : Side) (unit : ℕ) → P k s → P (k + 1) (clear i s unit).told.side
  on_clear k s unit h =
      let these : List Command = left_to_clear s unit in
      on_withheld (k + 1) (record { side = record s { marked = s.marked ++ map (λ (c : Command). c.ticket) these }; actions = map (stop s ClearedReason) (filter (is_started s) these) }) (w.clears (k + 1) s unit (w.more k s h))

  on_lose : (k : ℕ) (s : Side) (cid : ℕ) → P k s → P (k + 1) (lose i s cid).told.side
  on_lose k s cid h =
      let s' : Side = other i s (outbox.Loses cid) in
      let lost : Answered = done (cond (is_closed cid s'.both.trace) (quiet s') (happens i s' (Arrive cid (parting cid)))) in
      cond_both (not (is_known cid i.outbox.session.conns)) (answers s (Refused UnknownConnection)) (cond (is_lost s cid) (answers s (Refused NotJoined)) lost) (λ (a : Answered). P (k + 1) a.told.side)
      (λ is. w.more k s h)
      (λ known. cond_both (is_lost s cid) (answers s (Refused NotJoined)) lost (λ (a : Answered). P (k + 1) a.told.side)
      (λ is. w.more k s h)
      (λ kept. cond_both (is_closed cid s'.both.trace) (quiet s') (happens i s' (Arrive cid (parting cid))) (λ (t : Told). P (k + 1) t.side)
      (λ is. w.loses_closed k s cid (unnot (is_known cid i.outbox.session.conns) known) kept is h)
      (λ is. on_withheld (k + 1) (happening i s' (Arrive cid (parting cid))) (w.loses k s cid (unnot (is_known cid i.outbox.session.conns) known) kept is h))))
    where
      unnot : (v : Bool) → not v ≡ false → v ≡ true
      unnot true e = refl
      unnot false e = absurd (false≢true (sym e))

  on_next : (k : ℕ) (s : Side) (cid : ℕ) → P k s → P (k + 1) (next i s cid).told.side
  on_next k s cid h =
      cond_both (is_blocked i s cid) (answers s Blocked) _ (λ (a : Answered). P (k + 1) a.told.side) (λ is. w.more k s h) (λ is. by_given (given i.outbox s.both.box cid))
    where
      by_given : (g : Given) → P (k + 1) (elim g as (λ y. Answered) [
        | Hands h ↦ record { told = quiet (handed_on cid h.out (other i s (outbox.Nexts cid))); answer = Goes h (cookie_handed s cid h.out) }
        | Nothing ↦ answers (asleep cid s) NoneGoes
        | IsOver ↦ answers (asleep cid s) NoneIsLeft
      ]).told.side
      by_given (Hands g) =
          let s' : Side = other i s (outbox.Nexts cid) in
          cond_both (is_noted g.out.pdu) (record s' { noted = without_first cid 1 s'.noted; handed_notes = s'.handed_notes ++ first_noted cid 1 s'.noted }) s' (P (k + 1))
          (λ is. w.beside (k + 1) s' (without_first cid 1 s'.noted) (s'.handed_notes ++ first_noted cid 1 s'.noted) s'.awake s'.over (w.calls k s (outbox.Nexts cid) tt h)) (λ is. w.calls k s (outbox.Nexts cid) tt h)
      by_given Nothing = w.beside (k + 1) s s.noted s.handed_notes (asleep cid s).awake s.over (w.more k s h)
      by_given IsOver = w.beside (k + 1) s s.noted s.handed_notes (asleep cid s).awake s.over (w.more k s h)

  on_put : (k : ℕ) (s : Side) (p : OwnPdu) (cookie : ℕ) → P k s → P (k + 1) (put i s p cookie).told.side
  on_put k s p cookie h = by_refusal (put_refusal i.outbox s.both.box p)
    where
      by_refusal : (x : Option PutRefusal) → P (k + 1) (elim x as (λ y. Side) [ Some why ↦ other i s (outbox.Puts p) | None ↦ record (other i s (outbox.Puts p)) { noted = s.noted ++ noted_with p cookie } ])
      by_refusal (Some why) = w.calls k s (outbox.Puts p) tt h
      by_refusal None = w.beside (k + 1) (other i s (outbox.Puts p)) (s.noted ++ noted_with p cookie) s.handed_notes s.awake s.over (w.calls k s (outbox.Puts p) tt h)

  on_called : (k : ℕ) (s : Side) (c : Call) → OfCall H c → P k s → P (k + 1) (called i s c).told.side
  on_called k s (Arrives cid header cookie) of h = on_arrive k s cid header cookie of h
  on_called k s (Completes ticket status) of h = on_complete k s ticket status h
  on_called k s (Stops ticket) of h = on_stops k s ticket h
  on_called k s (Nexts cid) of h = on_next k s cid h
  on_called k s (Puts p cookie) of h = on_put k s p cookie h
  on_called k s (Writes cid) of h = w.calls k s (outbox.Writes cid) tt h
  on_called k s (Hears cid exp_stat_sn tag) of h = w.calls k s (outbox.Hears cid exp_stat_sn tag) tt h
  on_called k s (Joins cid stat_sn) of h = w.calls k s (outbox.Joins cid stat_sn) tt h
  on_called k s (Loses cid) of h = on_lose k s cid h
  on_called k s (Clears unit) of h = on_clear k s unit h
  on_called k s (Cleared unit) of h = w.calls k s (outbox.Clears unit) tt h

  pub on_call : (k : ℕ) (s : Side) (c : Call) → OfCall H c → P k s → P (k + 1) (after_call i s c).told.side
  on_call k s c of h =
      let t : Told = (called i s c).told in
      let left : Side = (ended i t).side in
      w.beside (k + 1) (record t.side { asked = left.asked }) left.noted left.handed_notes left.awake left.over (w.forgets (k + 1) t.side _ (on_called k s c of h))

-- ---- events don't come to fewer

abbrev pub IsAny : List ℕ → Type 0
IsAny header = Unit {0}

any_call : (c : Call) → OfCall IsAny c
any_call (Arrives cid header cookie) = tt
any_call (Completes ticket status) = tt
any_call (Stops ticket) = tt
any_call (Nexts cid) = tt
any_call (Puts p cookie) = tt
any_call (Writes cid) = tt
any_call (Hears cid exp_stat_sn tag) = tt
any_call (Joins cid stat_sn) = tt
any_call (Loses cid) = tt
any_call (Clears unit) = tt
any_call (Cleared unit) = tt

pub later_walk : (i : Interface) (m : ℕ) → SideWalk i IsAny (λ k s. m ≤ s.both.event)
later_walk i m = record {
  completes = λ k s ticket status c is h. omega (arith, h);
  arrives = λ k s cid header cookie is of h. omega (arith, h);
  loses = λ k s cid known kept unclosed h. omega (arith, h);
  loses_closed = λ k s cid known kept closed h. h;
  calls = λ k s c simple h. h;
  clears = λ k s unit h. h;
  forgets = λ k s p h. h;
  beside = λ k s noted handed awake over h. h;
  more = λ k s h. h;
}

pub no_fewer : (i : Interface) (r : Side) (c : Call) → r.both.event ≤ (after_call i r c).told.side.both.event
no_fewer i r c = on_call i (λ k s. r.both.event ≤ s.both.event) (later_walk i r.both.event) 0 r c (any_call c) (omega arith)

pub no_fewer_then : (i : Interface) (r : Side) (cs : List Call) → r.both.event ≤ (side_after i r cs).both.event
no_fewer_then i r [] = omega arith
no_fewer_then i r (c ∷ cs) = omega (arith, no_fewer i r c, no_fewer_then i (after_call i r c).told.side cs)
