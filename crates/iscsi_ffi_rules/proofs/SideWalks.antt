-- What each part of a call keeps, every call keeps.
use Rattle.std.proofs.Common.{◌≡◌, ℕ, zero, suc, ◌&&◌, not, cond, Bool, true, false, List, [], ◌∷◌, ◌++◌, map, filter, length, Option, Some, None, refl, sym, subst}
use Rattle.std.proofs.lemmas.Bool.{cond_both}
use Rattle.std.proofs.lemmas.List.{append_assoc, append-nil}
use Rattle.iscsi_rules.specs.declared.event.Event.{Event}
use Rattle.iscsi_rules.specs.declared.event.Event.TheVariants.{Arrive, Done}
use Rattle.iscsi_rules.specs.rules.Settings.{is_known}
use Rattle.iscsi_rules.specs.rules.Trace.{Command, is_closed, live, live_in}
use Rattle.iscsi_outbox_rules.specs.declared.own_pdu.OwnPdu.{OwnPdu}
use Rattle.iscsi_outbox_rules.specs.declared.own_pdu.PutRefusal.{PutRefusal}
use Rattle.iscsi_outbox_rules.specs.rules.Calls as outbox
use Rattle.iscsi_outbox_rules.specs.rules.Words.{contains, is_running}
use Rattle.iscsi_outbox_rules.specs.rules.Own.{put_refusal}
use Rattle.iscsi_outbox_rules.specs.rules.Handing.{Given, Hands, Nothing, IsOver, given}
use Rattle.iscsi_outbox_rules.specs.promises.Room.{is_other}
use Rattle.iscsi_outbox_rules.proofs.general.EachLemmas.{EachOf, each-append}
use Rattle.iscsi_ffi_rules.specs.declared.action.Action.{Action}
use Rattle.iscsi_ffi_rules.specs.declared.action.Action.TheVariants.{Start, Stop, Reset, Ready, Close, Forget}
use Rattle.iscsi_ffi_rules.specs.declared.action.StopReason.TheVariants.{Cleared as ClearedReason}
use Rattle.iscsi_ffi_rules.specs.declared.refusal.Refusal.{Refusal}
use Rattle.iscsi_ffi_rules.specs.declared.refusal.Refusal.TheVariants.{UnknownConnection, NotJoined}
use Rattle.iscsi_ffi_rules.specs.rules.Calls.{Interface, Call, Arrives, Completes, Stops, Nexts, Puts, Writes, Hears, Joins, Loses, Clears, Cleared}
use Rattle.iscsi_ffi_rules.specs.rules.Sides.{Asked, Noted, Side, opened}
use Rattle.iscsi_ffi_rules.specs.rules.Needs.{first_noted, is_needed, is_noted, without_first}
use Rattle.iscsi_ffi_rules.specs.rules.Clearing.{TASK_ABORTED, is_marked, next_withheld, status_of}
use Rattle.iscsi_ffi_rules.specs.rules.Happening.{Told, is_started, happening, withholding, withheld, happens, stop, other, quiet}
use Rattle.iscsi_ffi_rules.specs.rules.Run.{Blocked, NoneGoes, NoneIsLeft, Goes, Refused, Stale, Answered, done, answers, refusal_of, word_at, tag_heard, heard_in, arrive, is_going, stopped, complete, stops, clear, parting, is_lost, lose, cookie_handed, handed_on, is_blocked, asleep, next, noted_with, put, newly_ready, newly_over, parted_handed, parted_waiting, forgets, ended, called, after_call}
use Rattle.iscsi_ffi_rules.specs.promises.Deeds.{deeds_from, deeds_of, told_in, side_after, side_of}

-- it is no word to a unit
abbrev pub is_aside : Action → Bool
is_aside (Start ticket unit attr cookie) = false
is_aside (Stop ticket cookie why) = false
is_aside (Reset unit function) = false
is_aside (Ready cid) = true
is_aside (Close cid) = true
is_aside (Forget cookie) = true

abbrev pub left_to_clear : Side → ℕ → List Command
left_to_clear s unit = filter (λ (c : Command). not (is_marked s c)) (live_in unit s.both.trace)

-- what holds of a state, and of all that was told on the way to it, through a call but for its end
pub record InCall (i : Interface) (P : Side → List Action → Type 0) : Type 0 where
  pub event : (s : Side) (acts : List Action) (e : Event) → P s acts → P (happening i s e).side (acts ++ (happening i s e).actions)
  pub by_other : (s : Side) (acts : List Action) (c : outbox.Call) → is_other c ≡ true → P s acts → P (other i s c) acts
  pub clearing : (s : Side) (acts : List Action) (unit : ℕ) → P s acts
      → P (record s { marked = s.marked ++ map (λ (c : Command). c.ticket) (left_to_clear s unit) }) (acts ++ map (stop s ClearedReason) (filter (is_started s) (left_to_clear s unit)))
  pub arrives : (s : Side) (acts : List Action) (new : Asked) → P s acts → P (record s { asked = s.asked ++ new ∷ [] }) acts
  pub notes : (s : Side) (acts : List Action) (more : List Noted) → P s acts → P (record s { noted = s.noted ++ more }) acts
  pub hands : (s : Side) (acts : List Action) (conn : ℕ) → P s acts → P (record s { noted = without_first conn 1 s.noted; handed_notes = s.handed_notes ++ first_noted conn 1 s.noted }) acts
  pub sleeps : (s : Side) (acts : List Action) (conn : ℕ) → P s acts → P (asleep conn s) acts

-- and to its end
pub record Kept (i : Interface) (P : Side → List Action → Type 0) : Type 0 where
  pub event : (s : Side) (acts : List Action) (e : Event) → P s acts → P (happening i s e).side (acts ++ (happening i s e).actions)
  pub by_other : (s : Side) (acts : List Action) (c : outbox.Call) → is_other c ≡ true → P s acts → P (other i s c) acts
  pub clearing : (s : Side) (acts : List Action) (unit : ℕ) → P s acts
      → P (record s { marked = s.marked ++ map (λ (c : Command). c.ticket) (left_to_clear s unit) }) (acts ++ map (stop s ClearedReason) (filter (is_started s) (left_to_clear s unit)))
  pub beside : (s : Side) (acts : List Action) (asked : List Asked) (noted handed : List Noted) (awake over : List ℕ) → P s acts → P (record s { asked = asked; noted = noted; handed_notes = handed; awake = awake; over = over }) acts
  pub aside : (s : Side) (acts more : List Action) → EachOf (λ a. is_aside a ≡ true) more → P s acts → P s (acts ++ more)

pub in_call : (i : Interface) (P : Side → List Action → Type 0) → Kept i P → InCall i P
in_call i P k = record {
  event = k.event;
  by_other = k.by_other;
  clearing = k.clearing;
  arrives = λ s acts new h. k.beside s acts (s.asked ++ new ∷ []) s.noted s.handed_notes s.awake s.over h;
  notes = λ s acts more h. k.beside s acts s.asked (s.noted ++ more) s.handed_notes s.awake s.over h;
  hands = λ s acts conn h. k.beside s acts s.asked (without_first conn 1 s.noted) (s.handed_notes ++ first_noted conn 1 s.noted) s.awake s.over h;
  sleeps = λ s acts conn h. k.beside s acts s.asked s.noted s.handed_notes (asleep conn s).awake s.over h;
}

module _ (i : Interface) (P : Side → List Action → Type 0) (k : InCall i P) where
  -- behind what was told before
  abbrev pub On : List Action → Told → Type 0
  On acts w = P w.side (acts ++ w.actions)

  on_withholding : (acts : List Action) (n : ℕ) (w : Told) → On acts w → On acts (withholding i n w)
  on_withholding acts zero w h = h
  on_withholding acts (suc n) w h = by_next (on_withholding acts n) (next_withheld w.side)
    where
      by_next : ((w' : Told) → On acts w' → On acts (withholding i n w')) → (x : Option Command) → On acts (elim x [
        | Some c ↦ let g = happening i w.side (Done c.ticket (status_of w.side c)) in withholding i n (record { side = g.side; actions = w.actions ++ g.actions })
        | None ↦ w
      ])
      by_next further None = h
      by_next further (Some c) =
          let e : Event = Done c.ticket (status_of w.side c) in
          let g : Told = happening i w.side e in
          further (record { side = g.side; actions = w.actions ++ g.actions })
          (subst (P g.side) (append_assoc acts w.actions g.actions) (k.event w.side (acts ++ w.actions) e h))

  pub on_withheld : (acts : List Action) (w : Told) → On acts w → On acts (withheld i w)
  on_withheld acts w h = on_withholding acts (length (live w.side.both.trace)) w h

  pub on_happens : (acts : List Action) (s : Side) (e : Event) → P s acts → On acts (happens i s e)
  on_happens acts s e h = on_withheld acts (happening i s e) (k.event s acts e h)

  on_quiet : (acts : List Action) (s : Side) → P s acts → On acts (quiet s)
  on_quiet acts s h = subst (P s) (sym (append-nil acts)) h

  on_other : (acts : List Action) (s : Side) (c : outbox.Call) → is_other c ≡ true → P s acts → On acts (quiet (other i s c))
  on_other acts s c is h = on_quiet acts (other i s c) (k.by_other s acts c is h)

  -- ---- calls

  on_arrive : (acts : List Action) (s : Side) (conn : ℕ) (header : List ℕ) (cookie : ℕ) → P s acts → On acts (arrive i s conn header cookie).told
  on_arrive acts s conn header cookie h = by_refusal (refusal_of i s conn)
    where
      by_refusal : (x : Option Refusal) → let a : Answered = elim x [
        | Some refusal ↦ answers s (Refused refusal)
        | None ↦
            let s' = heard_in i s conn header in
            done (happens i (record s' { asked = s'.asked ++ record { event = s'.both.event; cookie = cookie } ∷ [] }) (Arrive conn header))
      ] in On acts a.told
      by_refusal (Some refusal) = on_quiet acts s h
      by_refusal None =
          let s' : Side = heard_in i s conn header in
          let new : Asked = record { event = s'.both.event; cookie = cookie } in
          on_happens acts (record s' { asked = s'.asked ++ new ∷ [] }) (Arrive conn header) (k.arrives s' acts new (k.by_other s acts (outbox.Hears conn (word_at 28 header) (tag_heard header)) refl h))

  on_stopped : (acts : List Action) (s : Side) (ticket : ℕ) → P s acts → On acts (stopped i s ticket).told
  on_stopped acts s ticket h =
      cond_both (is_running s.both.box ticket) (done (quiet (other i s (outbox.Stops ticket)))) (answers s Stale) (λ (a : Answered). On acts a.told)
      (λ is. on_other acts s (outbox.Stops ticket) refl h) (λ is. on_quiet acts s h)

  on_complete : (acts : List Action) (s : Side) (ticket status : ℕ) → P s acts → On acts (complete i s ticket status).told
  on_complete acts s ticket status h =
      let e : Event = Done ticket (cond (contains s.marked ticket) TASK_ABORTED status) in
      cond_both (is_going s ticket) (done (happens i s e)) (stopped i s ticket) (λ (a : Answered). On acts a.told)
      (λ is. on_happens acts s e h) (λ is. on_stopped acts s ticket h)

  on_stops : (acts : List Action) (s : Side) (ticket : ℕ) → P s acts → On acts (stops i s ticket).told
  on_stops acts s ticket h =
      cond_both (is_going s ticket && contains s.marked ticket) (done (happens i s (Done ticket TASK_ABORTED))) (stopped i s ticket) (λ (a : Answered). On acts a.told)
      (λ is. on_happens acts s (Done ticket TASK_ABORTED) h) (λ is. on_stopped acts s ticket h)

  on_clear : (acts : List Action) (s : Side) (unit : ℕ) → P s acts → On acts (clear i s unit).told
  on_clear acts s unit h =
      let these : List Command = left_to_clear s unit in
      on_withheld acts (record { side = record s { marked = s.marked ++ map (λ (c : Command). c.ticket) these }; actions = map (stop s ClearedReason) (filter (is_started s) these) }) (k.clearing s acts unit h)

  on_lose : (acts : List Action) (s : Side) (conn : ℕ) → P s acts → On acts (lose i s conn).told
  on_lose acts s conn h =
      let s' : Side = other i s (outbox.Loses conn) in
      let lost : Answered = done (cond (is_closed conn s'.both.trace) (quiet s') (happens i s' (Arrive conn (parting conn)))) in
      cond_both (not (is_known conn i.outbox.session.conns)) (answers s (Refused UnknownConnection)) (cond (is_lost s conn) (answers s (Refused NotJoined)) lost) (λ (a : Answered). On acts a.told)
      (λ is. on_quiet acts s h)
      (λ is. cond_both (is_lost s conn) (answers s (Refused NotJoined)) lost (λ (a : Answered). On acts a.told)
      (λ is. on_quiet acts s h)
      (λ is. cond_both (is_closed conn s'.both.trace) (quiet s') (happens i s' (Arrive conn (parting conn))) (λ (w : Told). On acts w)
      (λ is. on_other acts s (outbox.Loses conn) refl h)
      (λ is. on_happens acts s' (Arrive conn (parting conn)) (k.by_other s acts (outbox.Loses conn) refl h))))

  on_next : (acts : List Action) (s : Side) (conn : ℕ) → P s acts → On acts (next i s conn).told
  on_next acts s conn h =
      cond_both (is_blocked i s conn) (answers s Blocked) _ (λ (a : Answered). On acts a.told)
      (λ is. on_quiet acts s h) (λ is. by_given (given i.outbox s.both.box conn))
    where
      by_given : (g : Given) → let a : Answered = elim g [
        | Hands h ↦ record { told = quiet (handed_on conn h.out (other i s (outbox.Nexts conn))); answer = Goes h (cookie_handed s conn h.out) }
        | Nothing ↦ answers (asleep conn s) NoneGoes
        | IsOver ↦ answers (asleep conn s) NoneIsLeft
      ] in On acts a.told
      by_given (Hands g) =
          let s' : Side = other i s (outbox.Nexts conn) in
          on_quiet acts (handed_on conn g.out s')
          (cond_both (is_noted g.out.pdu) (record s' { noted = without_first conn 1 s'.noted; handed_notes = s'.handed_notes ++ first_noted conn 1 s'.noted }) s' (λ (x : Side). P x acts)
          (λ is. k.hands s' acts conn (k.by_other s acts (outbox.Nexts conn) refl h)) (λ is. k.by_other s acts (outbox.Nexts conn) refl h))
      by_given Nothing = on_quiet acts (asleep conn s) (k.sleeps s acts conn h)
      by_given IsOver = on_quiet acts (asleep conn s) (k.sleeps s acts conn h)

  on_put : (acts : List Action) (s : Side) (p : OwnPdu) (cookie : ℕ) → P s acts → On acts (put i s p cookie).told
  on_put acts s p cookie h = by_refusal (put_refusal i.outbox s.both.box p)
    where
      by_refusal : (x : Option PutRefusal) → On acts (quiet (elim x [ Some why ↦ other i s (outbox.Puts p) | None ↦ record (other i s (outbox.Puts p)) { noted = s.noted ++ noted_with p cookie } ]))
      by_refusal (Some why) = on_other acts s (outbox.Puts p) refl h
      by_refusal None =
          let s' : Side = other i s (outbox.Puts p) in
          on_quiet acts (record s' { noted = s'.noted ++ noted_with p cookie }) (k.notes s' acts (noted_with p cookie) (k.by_other s acts (outbox.Puts p) refl h))

  pub on_called : (acts : List Action) (s : Side) (c : Call) → P s acts → On acts (called i s c).told
  on_called acts s (Arrives conn header cookie) h = on_arrive acts s conn header cookie h
  on_called acts s (Completes ticket status) h = on_complete acts s ticket status h
  on_called acts s (Stops ticket) h = on_stops acts s ticket h
  on_called acts s (Nexts conn) h = on_next acts s conn h
  on_called acts s (Puts p cookie) h = on_put acts s p cookie h
  on_called acts s (Writes conn) h = on_other acts s (outbox.Writes conn) refl h
  on_called acts s (Hears conn exp_stat_sn tag) h = on_other acts s (outbox.Hears conn exp_stat_sn tag) refl h
  on_called acts s (Joins conn stat_sn) h = on_other acts s (outbox.Joins conn stat_sn) refl h
  on_called acts s (Loses conn) h = on_lose acts s conn h
  on_called acts s (Clears unit) h = on_clear acts s unit h
  on_called acts s (Cleared unit) h = on_other acts s (outbox.Clears unit) refl h

module _ (i : Interface) (P : Side → List Action → Type 0) (k : Kept i P) where
  all_aside : {A : Type 0} (f : A → Action) (xs : List A) → ((x : A) → is_aside (f x) ≡ true) → EachOf (λ a. is_aside a ≡ true) (map f xs)
  all_aside f [] h = tt
  all_aside f (x ∷ xs) h = (h x, all_aside f xs h)

  on_ended : (acts : List Action) (w : Told) → On i P (in_call i P k) acts w → On i P (in_call i P k) acts (ended i w)
  on_ended acts w h =
      let s : Side = w.side in
      let ready : List Action = map (λ conn. Ready conn) (newly_ready i s) in
      let over : List Action = map (λ conn. Close conn) (newly_over i s) in
      let s' : Side = (ended i w).side in
      let asides : (a : Action) → Type 0 = λ a. is_aside a ≡ true in
      let beside : P s' (acts ++ w.actions) = k.beside s (acts ++ w.actions) s'.asked s'.noted s'.handed_notes s'.awake s'.over h in
      subst (P s') (append_assoc acts (w.actions ++ ready ++ over) (forgets s))
      (k.aside s' (acts ++ (w.actions ++ ready ++ over)) (forgets s)
      (each-append asides (map (λ (a : Asked). Forget a.cookie) (filter (λ (a : Asked). not (is_needed s a)) s.asked)) _
      (all_aside (λ (a : Asked). Forget a.cookie) (filter (λ (a : Asked). not (is_needed s a)) s.asked) (λ a. refl))
      (all_aside (λ (n : Noted). Forget n.cookie) ((parted_waiting s).needless ++ (parted_handed s).needless) (λ n. refl)))
      (subst (P s') (append_assoc acts (w.actions ++ ready) over)
      (k.aside s' (acts ++ (w.actions ++ ready)) over (all_aside (λ conn. Close conn) (newly_over i s) (λ conn. refl))
      (subst (P s') (append_assoc acts w.actions ready)
      (k.aside s' (acts ++ w.actions) ready (all_aside (λ conn. Ready conn) (newly_ready i s) (λ conn. refl)) beside)))))

  -- each call keeps it
  pub kept_by_call : (acts : List Action) (s : Side) (c : Call) → P s acts → P (after_call i s c).told.side (acts ++ (after_call i s c).told.actions)
  kept_by_call acts s c h = on_ended acts (called i s c).told (on_called i P (in_call i P k) acts s c h)

  -- and so do all of a list
  pub kept_by_calls : (acts : List Action) (s : Side) (cs : List Call) → P s acts → P (side_after i s cs) (acts ++ told_in (deeds_from i s cs))
  kept_by_calls acts s [] h = subst (P s) (sym (append-nil acts)) h
  kept_by_calls acts s (c ∷ cs) h =
      let w : Told = (after_call i s c).told in
      subst (P (side_after i w.side cs)) (append_assoc acts w.actions (told_in (deeds_from i w.side cs)))
      (kept_by_calls (acts ++ w.actions) w.side cs (kept_by_call acts s c h))

  pub kept_from_start : (cs : List Call) → P (opened i) [] → P (side_of i cs) (told_in (deeds_of i cs))
  kept_from_start cs h = kept_by_calls [] (opened i) cs h
