-- Each word comes back once, or is kept.
use Rattle.std.proofs.Common.{◌≡◌, ℕ, zero, suc, ◌+◌, ◌-◌, ◌==◌, ◌&&◌, not, cond, Bool, true, false, List, [], ◌∷◌, ◌++◌, map, filter, filter_map, count_by, length, Option, Some, None, refl, ap, arith}
use Rattle.std.specs.List.{flat_map, list_any}
use Rattle.std.proofs.lemmas.Bool.{cond_both}
use Rattle.std.proofs.lemmas.List.Sums.{sum_by-append}
use Rattle.iscsi_wire.specs.Fields.{function}
use Rattle.iscsi_rules.specs.declared.event.Event.{Event}
use Rattle.iscsi_rules.specs.declared.event.Event.TheVariants.{Arrive, Done}
use Rattle.iscsi_rules.specs.rules.Settings.{is_known}
use Rattle.iscsi_rules.specs.rules.Trace.{Arrival, Command, Mark, is_closed, live, live_in}
use Rattle.iscsi_rules.specs.rules.Execution.{unit_named}
use Rattle.iscsi_rules.specs.rules.Agenda.{items_of}
use Rattle.iscsi_rules.specs.rules.Run.{entry_of}
use Rattle.iscsi_rules.specs.promises.Replies.{executed_in, reply_sent}
use Rattle.iscsi_rules.proofs.general.ListLemmas.{count_by-map}
use Rattle.iscsi_rules.proofs.general.CountLemmas.{one, count-cons, count-filter, count-split}
use Rattle.iscsi_outbox_rules.specs.declared.own_pdu.OwnPdu.{OwnPdu}
use Rattle.iscsi_outbox_rules.specs.declared.own_pdu.OwnPdu.TheVariants.{OfCommand, OfConnection}
use Rattle.iscsi_outbox_rules.specs.declared.own_pdu.PutRefusal.{PutRefusal}
use Rattle.iscsi_outbox_rules.specs.rules.Calls as outbox
use Rattle.iscsi_outbox_rules.specs.rules.Boxes.{Link}
use Rattle.iscsi_outbox_rules.specs.rules.Words.{contains, is_running}
use Rattle.iscsi_outbox_rules.specs.rules.Own.{put_refusal}
use Rattle.iscsi_outbox_rules.specs.rules.Handing.{Given, Hands, Nothing, IsOver, given}
use Rattle.iscsi_ffi_rules.specs.declared.action.Action.{Action}
use Rattle.iscsi_ffi_rules.specs.declared.action.Action.TheVariants.{Reset, Ready, Close, Forget}
use Rattle.iscsi_ffi_rules.specs.declared.action.StopReason.TheVariants.{Cleared as ClearedReason}
use Rattle.iscsi_ffi_rules.specs.declared.refusal.Refusal.{Refusal}
use Rattle.iscsi_ffi_rules.specs.declared.refusal.Refusal.TheVariants.{UnknownConnection, NotJoined}
use Rattle.iscsi_ffi_rules.specs.rules.Calls.{Interface, Call, Arrives, Completes, Stops, Nexts, Puts, Writes, Hears, Joins, Loses, Clears, Cleared}
use Rattle.iscsi_ffi_rules.specs.rules.Sides.{Asked, Noted, Side, opened}
use Rattle.iscsi_ffi_rules.specs.rules.Needs.{is_needed, is_noted, needless_on, first_noted, noted_unwritten, noted_waiting, without_first}
use Rattle.iscsi_ffi_rules.specs.rules.Clearing.{TASK_ABORTED, is_marked, next_withheld, status_of}
use Rattle.iscsi_ffi_rules.specs.rules.Happening.{Told, stops_in, resets_in, is_complete, is_reset, reset, reason_of, is_started, leaving, starting, start, stepped, happening, withholding, withheld, happens, stop, other, quiet}
use Rattle.iscsi_ffi_rules.specs.rules.Run.{Blocked, NoneGoes, NoneIsLeft, Goes, Put, Refused, Stale, Answered, done, answers, refusal_of, heard_in, arrive, is_going, stopped, complete, stops, clear, parting, is_lost, lose, cookie_handed, handed_on, is_blocked, asleep, next, noted_with, put, newly_ready, newly_over, parted, parted_handed, parted_waiting, forgets, ended, called}
use Rattle.iscsi_ffi_rules.specs.promises.Deeds.{Deed, deeds_from, told_in, side_after}
use Rattle.iscsi_ffi_rules.specs.promises.Words.{gives_word, is_forget, count_kept, ComesBackOnce}

module _ (word : ℕ) where
  -- how often it is to be forgotten
  abbrev back : List Action → ℕ
  back actions = count_by (is_forget word) actions

  back-append : (xs ys : List Action) → back (xs ++ ys) ≡ back xs + back ys
  back-append xs ys = sum_by-append (λ (a : Action). cond (is_forget word a) 1 0) xs ys

  none_of_map : {A : Type 0} (f : A → Action) (xs : List A) → ((x : A) → is_forget word (f x) ≡ false) → back (map f xs) ≡ 0
  none_of_map f [] h = refl
  none_of_map f (x ∷ xs) h = omega (arith, count-cons (is_forget word) (f x) (map f xs), ap one (h x), none_of_map f xs h)

  none_of_flat_map : {A : Type 0} (f : A → List Action) (xs : List A) → ((x : A) → back (f x) ≡ 0) → back (flat_map f xs) ≡ 0
  none_of_flat_map f [] h = refl
  none_of_flat_map f (x ∷ xs) h = omega (arith, back-append (f x) (flat_map f xs), h x, none_of_flat_map f xs h)

  -- ---- an event

  none_stops : (s : Side) (item : List Mark) → back (stops_in s item) ≡ 0
  none_stops s item = by_executed (executed_in item)
    where
      by_executed : (x : Option Arrival) → back (elim x [ Some a ↦ map (stop s (reason_of s.asked a)) (filter (is_started s) (filter_map leaving item)) | None ↦ [] ]) ≡ 0
      by_executed None = refl
      by_executed (Some a) = none_of_map (stop s (reason_of s.asked a)) (filter (is_started s) (filter_map leaving item)) (λ c. refl)

  none_resets : (i : Interface) (item : List Mark) → back (resets_in i.outbox item) ≡ 0
  none_resets i item = by_executed (executed_in item)
    where
      by_unit : (a : Arrival) (x : Option ℕ) → back (elim x [ Some unit ↦ Reset unit (function a.request) ∷ [] | None ↦ [] ]) ≡ 0
      by_unit a None = refl
      by_unit a (Some unit) = refl

      by_executed : (x : Option Arrival) → back (elim x [ Some a ↦ cond (i.outbox.shared && is_reset a.request && list_any is_complete (filter_map reply_sent item)) (reset i.outbox.session.units a.request) [] | None ↦ [] ]) ≡ 0
      by_executed None = refl
      by_executed (Some a) = cond_both _ (reset i.outbox.session.units a.request) [] (λ (xs : List Action). back xs ≡ 0) (λ is. by_unit a (unit_named i.outbox.session.units a.request)) (λ is. refl)

  none_happening : (i : Interface) (s : Side) (e : Event) → back (happening i s e).actions ≡ 0
  none_happening i s e =
      let items : List (List Mark) = items_of i.outbox.session s.both.event s.both.trace e in
      let s' : Side = stepped i s e in
      let started : List Command = starting s' (entry_of i.outbox.session s.both.event s.both.trace e).effects in
      omega (
        arith,
        back-append (flat_map (stops_in s) items ++ flat_map (resets_in i.outbox) items) (map (start s') started),
        back-append (flat_map (stops_in s) items) (flat_map (resets_in i.outbox) items),
        none_of_flat_map (stops_in s) items (none_stops s),
        none_of_flat_map (resets_in i.outbox) items (none_resets i),
        none_of_map (start s') started (λ c. refl),
      )

  -- on the way to this state none is to be forgotten, and `more` words more are kept
  pub record Calm (s : Side) (more : ℕ) (w : Told) : Type 0 where
    pub silent : back w.actions ≡ 0
    pub kept : count_kept word w.side ≡ count_kept word s + more

  calm_withholding : (i : Interface) (s : Side) (more n : ℕ) (w : Told) → Calm s more w → Calm s more (withholding i n w)
  calm_withholding i s more zero w h = h
  calm_withholding i s more (suc n) w h = by_next (calm_withholding i s more n) (next_withheld w.side)
    where
      by_next : ((w' : Told) → Calm s more w' → Calm s more (withholding i n w')) → (x : Option Command) → Calm s more (elim x [
        | Some c ↦ let g = happening i w.side (Done c.ticket (status_of w.side c)) in withholding i n (record { side = g.side; actions = w.actions ++ g.actions })
        | None ↦ w
      ])
      by_next further None = h
      by_next further (Some c) =
          let g : Told = happening i w.side (Done c.ticket (status_of w.side c)) in
          further (record { side = g.side; actions = w.actions ++ g.actions })
          (record {
            silent = omega (arith, back-append w.actions g.actions, h.silent, none_happening i w.side (Done c.ticket (status_of w.side c)));
            kept = h.kept;
          })

  calm_withheld : (i : Interface) (s : Side) (more : ℕ) (w : Told) → Calm s more w → Calm s more (withheld i w)
  calm_withheld i s more w h = calm_withholding i s more (length (live w.side.both.trace)) w h

  calm_happens : (i : Interface) (s s' : Side) (more : ℕ) (e : Event) → count_kept word s' ≡ count_kept word s + more → Calm s more (happens i s' e)
  calm_happens i s s' more e h = calm_withheld i s more (happening i s' e) (record { silent = none_happening i s' e; kept = h })

  calm_quiet : (s s' : Side) (more : ℕ) → count_kept word s' ≡ count_kept word s + more → Calm s more (quiet s')
  calm_quiet s s' more h = record { silent = refl; kept = h }

  same : (s : Side) → count_kept word s ≡ count_kept word s + 0
  same s = omega arith

  abbrev has_word : Noted → Bool
  has_word n = n.cookie == word

  none_first : (conn count : ℕ) (noted : List Noted) → (count == 0) ≡ true → first_noted conn count noted ≡ []
  none_first conn count [] h = refl
  none_first conn count (n ∷ noted) h =
      cond_both (n.conn == conn) (cond (count == 0) [] (n ∷ first_noted conn (count - 1) noted)) (first_noted conn count noted) (λ (xs : List Noted). xs ≡ [])
      (λ is. ap (λ b. cond b [] (n ∷ first_noted conn (count - 1) noted)) h) (λ isnt. none_first conn count noted h)

  first_counted : (conn count : ℕ) (noted : List Noted) → count_by has_word (first_noted conn count noted) + count_by has_word (without_first conn count noted) ≡ count_by has_word noted
  first_counted conn count [] = refl
  first_counted conn count (n ∷ noted) = by_tests (first_counted conn count noted) (first_counted conn (count - 1) noted) (n.conn == conn) (count == 0) refl
    where
      by_tests : count_by has_word (first_noted conn count noted) + count_by has_word (without_first conn count noted) ≡ count_by has_word noted
          → count_by has_word (first_noted conn (count - 1) noted) + count_by has_word (without_first conn (count - 1) noted) ≡ count_by has_word noted → (b z : Bool) → (count == 0) ≡ z
          → count_by has_word (cond b (cond z [] (n ∷ first_noted conn (count - 1) noted)) (first_noted conn count noted)) + count_by has_word (cond (b && not z) (without_first conn (count - 1) noted) (n ∷ without_first conn count noted)) ≡ count_by has_word (n ∷ noted)
      by_tests same less true true is =
          omega (arith, same, ap (count_by has_word) (none_first conn count noted is), count-cons has_word n (without_first conn count noted), count-cons has_word n noted)
      by_tests same less true false is =
          omega (arith, less, count-cons has_word n (first_noted conn (count - 1) noted), count-cons has_word n noted)
      by_tests same less false z is =
          omega (arith, same, count-cons has_word n (without_first conn count noted), count-cons has_word n noted)

  -- the word of one that is handed out is kept still
  pub handed_counted : (conn : ℕ) (s : Side) → count_kept word (record s { noted = without_first conn 1 s.noted; handed_notes = s.handed_notes ++ first_noted conn 1 s.noted }) ≡ count_kept word s
  handed_counted conn s = omega (arith, first_counted conn 1 s.noted, sum_by-append (λ (n : Noted). cond (has_word n) 1 0) s.handed_notes (first_noted conn 1 s.noted))

  -- ---- calls

  calm_arrive : (i : Interface) (s : Side) (conn : ℕ) (header : List ℕ) (cookie : ℕ) → let a = arrive i s conn header cookie in Calm s (one (gives_word word (Arrives conn header cookie) a.answer)) a.told
  calm_arrive i s conn header cookie = by_refusal (refusal_of i s conn)
    where
      s' : Side
      s' = heard_in i s conn header

      by_refusal : (x : Option Refusal) → let a : Answered = elim x [
        | Some refusal ↦ answers s (Refused refusal)
        | None ↦
            let s' = heard_in i s conn header in
            done (happens i (record s' { asked = s'.asked ++ record { event = s'.both.event; cookie = cookie } ∷ [] }) (Arrive conn header))
      ] in Calm s (one (gives_word word (Arrives conn header cookie) a.answer)) a.told
      by_refusal (Some refusal) = calm_quiet s s 0 (same s)
      by_refusal None =
          let s' = heard_in i s conn header in
          let p : Asked → Bool = λ a. a.cookie == word in
          let new : Asked = record { event = s'.both.event; cookie = cookie } in
          calm_happens i s (record s' { asked = s'.asked ++ new ∷ [] }) (one (cookie == word)) (Arrive conn header)
          (omega (arith, sum_by-append (λ (a : Asked). cond (p a) 1 0) s.asked (new ∷ []), count-cons p new []))

  calm_stopped : (i : Interface) (s : Side) (ticket : ℕ) → Calm s 0 (stopped i s ticket).told
  calm_stopped i s ticket =
      cond_both (is_running s.both.box ticket) (done (quiet (other i s (outbox.Stops ticket)))) (answers s Stale) (λ (a : Answered). Calm s 0 a.told)
      (λ is. calm_quiet s (other i s (outbox.Stops ticket)) 0 (same s)) (λ is. calm_quiet s s 0 (same s))

  calm_complete : (i : Interface) (s : Side) (ticket status : ℕ) → Calm s 0 (complete i s ticket status).told
  calm_complete i s ticket status =
      cond_both (is_going s ticket) (done (happens i s (Done ticket (cond (contains s.marked ticket) TASK_ABORTED status)))) (stopped i s ticket) (λ (a : Answered). Calm s 0 a.told)
      (λ is. calm_happens i s s 0 (Done ticket (cond (contains s.marked ticket) TASK_ABORTED status)) (same s)) (λ is. calm_stopped i s ticket)

  calm_stops : (i : Interface) (s : Side) (ticket : ℕ) → Calm s 0 (stops i s ticket).told
  calm_stops i s ticket =
      cond_both (is_going s ticket && contains s.marked ticket) (done (happens i s (Done ticket TASK_ABORTED))) (stopped i s ticket) (λ (a : Answered). Calm s 0 a.told)
      (λ is. calm_happens i s s 0 (Done ticket TASK_ABORTED) (same s)) (λ is. calm_stopped i s ticket)

  calm_clear : (i : Interface) (s : Side) (unit : ℕ) → Calm s 0 (clear i s unit).told
  calm_clear i s unit =
      let these : List Command = filter (λ (c : Command). not (is_marked s c)) (live_in unit s.both.trace) in
      calm_withheld i s 0 (record { side = record s { marked = s.marked ++ map (λ (c : Command). c.ticket) these }; actions = map (stop s ClearedReason) (filter (is_started s) these) }) (record {
        silent = none_of_map (stop s ClearedReason) (filter (is_started s) these) (λ c. refl);
        kept = same s;
      })

  calm_lose : (i : Interface) (s : Side) (conn : ℕ) → Calm s 0 (lose i s conn).told
  calm_lose i s conn =
      let s' : Side = other i s (outbox.Loses conn) in
      let lost : Answered = done (cond (is_closed conn s'.both.trace) (quiet s') (happens i s' (Arrive conn (parting conn)))) in
      cond_both (not (is_known conn i.outbox.session.conns)) (answers s (Refused UnknownConnection)) (cond (is_lost s conn) (answers s (Refused NotJoined)) lost) (λ (a : Answered). Calm s 0 a.told)
      (λ is. calm_quiet s s 0 (same s))
      (λ is. cond_both (is_lost s conn) (answers s (Refused NotJoined)) lost (λ (a : Answered). Calm s 0 a.told)
      (λ is. calm_quiet s s 0 (same s))
      (λ is. cond_both (is_closed conn s'.both.trace) (quiet s') (happens i s' (Arrive conn (parting conn))) (λ (w : Told). Calm s 0 w)
      (λ is. calm_quiet s s' 0 (same s)) (λ is. calm_happens i s s' 0 (Arrive conn (parting conn)) (same s))))

  calm_next : (i : Interface) (s : Side) (conn : ℕ) → Calm s 0 (next i s conn).told
  calm_next i s conn =
      cond_both (is_blocked i s conn) (answers s Blocked) _ (λ (a : Answered). Calm s 0 a.told)
      (λ is. calm_quiet s s 0 (same s)) (λ is. by_given (given i.outbox s.both.box conn))
    where
      by_given : (g : Given) → let a : Answered = elim g [
        | Hands h ↦ record { told = quiet (handed_on conn h.out (other i s (outbox.Nexts conn))); answer = Goes h (cookie_handed s conn h.out) }
        | Nothing ↦ answers (asleep conn s) NoneGoes
        | IsOver ↦ answers (asleep conn s) NoneIsLeft
      ] in Calm s 0 a.told
      by_given (Hands h) =
          let s' : Side = other i s (outbox.Nexts conn) in
          cond_both (is_noted h.out.pdu) (record s' { noted = without_first conn 1 s'.noted; handed_notes = s'.handed_notes ++ first_noted conn 1 s'.noted }) s' (λ (x : Side). Calm s 0 (quiet x))
          (λ is. calm_quiet s _ 0 (omega (arith, handed_counted conn s))) (λ is. calm_quiet s s' 0 (same s))
      by_given Nothing = calm_quiet s (asleep conn s) 0 (same s)
      by_given IsOver = calm_quiet s (asleep conn s) 0 (same s)

  calm_put : (i : Interface) (s : Side) (p : OwnPdu) (cookie : ℕ) → let a = put i s p cookie in Calm s (one (gives_word word (Puts p cookie) a.answer)) a.told
  calm_put i s p cookie = by_refusal p (put_refusal i.outbox s.both.box p)
    where
      s' : Side
      s' = other i s (outbox.Puts p)

      by_refusal : (q : OwnPdu) (x : Option PutRefusal) → Calm s (one (gives_word word (Puts q cookie) (Put x))) (quiet (elim x [ Some why ↦ other i s (outbox.Puts p) | None ↦ record (other i s (outbox.Puts p)) { noted = s.noted ++ noted_with q cookie } ]))
      by_refusal (OfCommand ticket header) (Some why) = calm_quiet s (other i s (outbox.Puts p)) 0 (same s)
      by_refusal (OfConnection conn header) (Some why) = calm_quiet s (other i s (outbox.Puts p)) 0 (same s)
      by_refusal (OfCommand ticket header) None =
          let t : Noted → Bool = λ n. n.cookie == word in
          calm_quiet s (record (other i s (outbox.Puts p)) { noted = s.noted ++ [] }) 0 (omega (arith, sum_by-append (λ (n : Noted). cond (t n) 1 0) s.noted []))
      by_refusal (OfConnection conn header) None =
          let t : Noted → Bool = λ n. n.cookie == word in
          let new : Noted = record { conn = conn; cookie = cookie } in
          calm_quiet s (record (other i s (outbox.Puts p)) { noted = s.noted ++ new ∷ [] }) (one (cookie == word)) (omega (arith, sum_by-append (λ (n : Noted). cond (t n) 1 0) s.noted (new ∷ []), count-cons t new []))

  pub calm_called : (i : Interface) (s : Side) (c : Call) → let a = called i s c in Calm s (one (gives_word word c a.answer)) a.told
  calm_called i s (Arrives conn header cookie) = calm_arrive i s conn header cookie
  calm_called i s (Completes ticket status) = calm_complete i s ticket status
  calm_called i s (Stops ticket) = calm_stops i s ticket
  calm_called i s (Nexts conn) = calm_next i s conn
  calm_called i s (Puts p cookie) = calm_put i s p cookie
  calm_called i s (Writes conn) = calm_quiet s (other i s (outbox.Writes conn)) 0 (same s)
  calm_called i s (Hears conn exp_stat_sn tag) = calm_quiet s (other i s (outbox.Hears conn exp_stat_sn tag)) 0 (same s)
  calm_called i s (Joins conn stat_sn) = calm_quiet s (other i s (outbox.Joins conn stat_sn)) 0 (same s)
  calm_called i s (Loses conn) = calm_lose i s conn
  calm_called i s (Clears unit) = calm_clear i s unit
  calm_called i s (Cleared unit) = calm_quiet s (other i s (outbox.Clears unit)) 0 (same s)

  -- ---- the end of a call

  split_counted : {A : Type 0} (p q : A → Bool) (xs : List A) → count_by p (filter q xs) + count_by p (filter (λ x. not (q x)) xs) ≡ count_by p xs
  split_counted p q xs = omega (arith, count-filter p q xs, count-filter p (λ x. not (q x)) xs, count-split p q xs)

  parted_counted : (left : Link → ℕ) (links : List Link) (noted : List Noted) → count_by has_word (parted left links noted).needless + count_by has_word (parted left links noted).needed ≡ count_by has_word noted
  parted_counted left [] noted = omega arith
  parted_counted left (l ∷ links) noted =
      let count = needless_on left l noted in
      let rest = without_first l.conn count noted in
      omega (
        arith,
        sum_by-append (λ (n : Noted). cond (has_word n) 1 0) (first_noted l.conn count noted) (parted left links rest).needless,
        first_counted l.conn count noted,
        parted_counted left links rest,
      )

  pub ended_counted : (i : Interface) (w : Told) → count_kept word (ended i w).side + back (ended i w).actions ≡ count_kept word w.side + back w.actions
  ended_counted i w =
      let s : Side = w.side in
      let ready : List ℕ = newly_ready i s in
      let over : List ℕ = newly_over i s in
      let forgotten : List Asked = filter (λ (a : Asked). not (is_needed s a)) s.asked in
      let waiting : List Noted = (parted_waiting s).needless in
      let handed : List Noted = (parted_handed s).needless in
      let asked_word : Asked → Bool = λ a. a.cookie == word in
      omega (
        arith,
        back-append (w.actions ++ map (λ conn. Ready conn) ready ++ map (λ conn. Close conn) over) (forgets s),
        back-append (w.actions ++ map (λ conn. Ready conn) ready) (map (λ conn. Close conn) over),
        back-append w.actions (map (λ conn. Ready conn) ready),
        back-append (map (λ (a : Asked). Forget a.cookie) forgotten) (map (λ (n : Noted). Forget n.cookie) (waiting ++ handed)),
        none_of_map (λ conn. Ready conn) ready (λ conn. refl),
        none_of_map (λ conn. Close conn) over (λ conn. refl),
        count_by-map (is_forget word) (λ (a : Asked). Forget a.cookie) forgotten,
        count_by-map (is_forget word) (λ (n : Noted). Forget n.cookie) (waiting ++ handed),
        sum_by-append (λ (n : Noted). cond (has_word n) 1 0) waiting handed,
        split_counted asked_word (is_needed s) s.asked,
        parted_counted noted_waiting s.both.box.links s.noted,
        parted_counted noted_unwritten s.both.box.links s.handed_notes,
      )

  -- ---- all calls

  abbrev given_by : Deed → Bool
  given_by d = gives_word word d.call d.answer

  counted : (i : Interface) (s : Side) (cs : List Call) → count_by given_by (deeds_from i s cs) + count_kept word s ≡ back (told_in (deeds_from i s cs)) + count_kept word (side_after i s cs)
  counted i s [] = refl
  counted i s (c ∷ cs) =
      let a : Answered = called i s c in
      let w : Told = ended i a.told in
      let d : Deed = record { call = c; answer = a.answer; actions = w.actions } in
      let h : Calm s (one (gives_word word c a.answer)) a.told = calm_called i s c in
      omega (
        arith,
        count-cons given_by d (deeds_from i w.side cs),
        back-append w.actions (told_in (deeds_from i w.side cs)),
        h.silent,
        h.kept,
        ended_counted i a.told,
        counted i w.side cs,
      )

pub comes_back_once : (i : Interface) (cs : List Call) → ComesBackOnce i cs
comes_back_once i cs word = omega (arith, counted word i (opened i) cs)
