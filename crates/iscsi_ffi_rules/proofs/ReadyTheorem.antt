-- A connection that could give something was told to be ready since it last gave nothing, and is told once.
use Rattle.std.proofs.Common.{◌≡◌, ℕ, zero, suc, ◌==◌, ◌&&◌, ◌||◌, not, cond, Bool, true, false, List, [], ◌∷◌, ◌++◌, map, filter, filter_map, length, Option, Some, None, refl, ap, sym, ◌∙◌, eq-eqb}
use Rattle.std.specs.List.{list_any, flat_map}
use Rattle.std.proofs.lemmas.Bool.{false≢true, cond_both, eqb-true}
use Rattle.std.proofs.lemmas.List.Folds.{list_any-append}
use Rattle.iscsi_wire.specs.Fields.{function}
use Rattle.iscsi_rules.specs.declared.event.Event.{Event}
use Rattle.iscsi_rules.specs.declared.event.Event.TheVariants.{Arrive, Done}
use Rattle.iscsi_rules.specs.rules.Settings.{is_known}
use Rattle.iscsi_rules.specs.rules.Trace.{Arrival, Command, Mark, is_closed, live}
use Rattle.iscsi_rules.specs.rules.Execution.{unit_named}
use Rattle.iscsi_rules.specs.rules.Agenda.{items_of}
use Rattle.iscsi_rules.specs.rules.Run.{entry_of}
use Rattle.iscsi_rules.specs.promises.Replies.{executed_in, reply_sent}
use Rattle.iscsi_rules.proofs.general.BoolLemmas.{and_true, or_comm, or_first, or_second}
use Rattle.iscsi_rules.proofs.general.ListLemmas.{filtered_among, list_any-map}
use Rattle.iscsi_outbox_rules.specs.declared.own_pdu.OwnPdu.{OwnPdu}
use Rattle.iscsi_outbox_rules.specs.declared.own_pdu.PutRefusal.{PutRefusal}
use Rattle.iscsi_outbox_rules.specs.rules.Calls as outbox
use Rattle.iscsi_outbox_rules.specs.rules.Boxes.{Link}
use Rattle.iscsi_outbox_rules.specs.rules.Words.{contains, is_running, is_open}
use Rattle.iscsi_outbox_rules.specs.rules.Own.{put_refusal}
use Rattle.iscsi_outbox_rules.specs.rules.Handing.{Given, Hands, Nothing, IsOver, link_of, is_over, handed_as, given_on, given, wants_ping, ping, first_waiting}
use Rattle.iscsi_outbox_rules.specs.rules.Run.{new_link, opened as box_opened}
use Rattle.iscsi_outbox_rules.proofs.general.EachLemmas.{EachOf, each-first_of}
use Rattle.iscsi_ffi_rules.specs.declared.action.Action.{Action}
use Rattle.iscsi_ffi_rules.specs.declared.action.Action.TheVariants.{Reset, Ready, Close, Forget}
use Rattle.iscsi_ffi_rules.specs.declared.action.StopReason.TheVariants.{Cleared as ClearedReason}
use Rattle.iscsi_ffi_rules.specs.declared.refusal.Refusal.{Refusal}
use Rattle.iscsi_ffi_rules.specs.declared.refusal.Refusal.TheVariants.{UnknownConnection, NotJoined}
use Rattle.iscsi_ffi_rules.specs.rules.Calls.{Interface, Call, Arrives, Completes, Stops, Nexts, Puts, Writes, Hears, Joins, Loses, Clears, Cleared}
use Rattle.iscsi_ffi_rules.specs.rules.Sides.{Asked, Noted, Side, opened}
use Rattle.iscsi_ffi_rules.specs.rules.Needs.{first_noted, is_needed, is_noted, without_first}
use Rattle.iscsi_ffi_rules.specs.rules.Clearing.{TASK_ABORTED, next_withheld, status_of}
use Rattle.iscsi_ffi_rules.specs.rules.Happening.{Told, stop, stops_in, resets_in, is_complete, is_reset, reset, reason_of, is_started, leaving, starting, start, stepped, happening, withholding, happens, other, quiet}
use Rattle.iscsi_ffi_rules.specs.rules.Run.{Blocked, NoneGoes, NoneIsLeft, Goes, Refused, Stale, Answered, done, answers, refusal_of, heard_in, arrive, is_going, stopped, complete, stops, clear, parting, is_lost, lose, cookie_handed, handed_on, is_blocked, asleep, next, noted_with, put, gives, cids, newly_ready, newly_over, parted_handed, parted_waiting, forgets, ended, called, after_call}
use Rattle.iscsi_ffi_rules.specs.promises.Deeds.{Deed, deeds_from, side_after}
use Rattle.iscsi_ffi_rules.specs.promises.Ready.{is_ready, is_in_vain, is_awake_from, ReadyHolds}
use Rattle.iscsi_ffi_rules.proofs.NeedForms.{both_none}
use Rattle.iscsi_ffi_rules.proofs.SideWalks.{left_to_clear, InCall, on_called}

same_number : (m n : ℕ) → (m == n) ≡ (n == m)
same_number m n = by_tests (m == n) (n == m) refl refl
  where
    by_tests : (a b : Bool) → (m == n) ≡ a → (n == m) ≡ b → (m == n) ≡ (n == m)
    by_tests true b is other = is ∙ sym (eq-eqb n m (sym (eqb-true m n is)))
    by_tests false true is other = eq-eqb m n (sym (eqb-true n m other)) ∙ sym other
    by_tests false false is other = is ∙ sym other

module _ (i : Interface) where
  -- ---- which connections stay awake in a call

  awake_withholding : (n : ℕ) (w : Told) → (withholding i n w).side.awake ≡ w.side.awake
  awake_withholding zero w = refl
  awake_withholding (suc n) w = by_next (awake_withholding n) (next_withheld w.side)
    where
      by_next : ((w' : Told) → (withholding i n w').side.awake ≡ w'.side.awake) → (x : Option Command) → (elim x as (λ y. Told) [
        | Some c ↦ let g = happening i w.side (Done c.ticket (status_of w.side c)) in withholding i n (record { side = g.side; actions = w.actions ++ g.actions })
        | None ↦ w
      ]).side.awake ≡ w.side.awake
      by_next further None = refl
      by_next further (Some c) = let g : Told = happening i w.side (Done c.ticket (status_of w.side c)) in further (record { side = g.side; actions = w.actions ++ g.actions })

  awake_happens : (s : Side) (e : Event) → (happens i s e).side.awake ≡ s.awake
  awake_happens s e = awake_withholding (length (live (happening i s e).side.both.trace)) (happening i s e)

  -- the same stay awake
  abbrev Stays : Side → Answered → Type 0
  Stays s a = a.told.side.awake ≡ s.awake

  stays_stopped : (s : Side) (ticket : ℕ) → Stays s (stopped i s ticket)
  stays_stopped s ticket = cond_both (is_running s.both.box ticket) (done (quiet (other i s (outbox.Stops ticket)))) (answers s Stale) (Stays s) (λ is. refl) (λ is. refl)

  stays_arrive : (s : Side) (conn : ℕ) (header : List ℕ) (cookie : ℕ) → Stays s (arrive i s conn header cookie)
  stays_arrive s conn header cookie = by_refusal (refusal_of i s conn)
    where
      by_refusal : (x : Option Refusal) → Stays s (elim x [
        | Some refusal ↦ answers s (Refused refusal)
        | None ↦
            let s' = heard_in i s conn header in
            done (happens i (record s' { asked = s'.asked ++ record { event = s'.both.event; cookie = cookie } ∷ [] }) (Arrive conn header))
      ])
      by_refusal (Some refusal) = refl
      by_refusal None = let s' : Side = heard_in i s conn header in awake_happens (record s' { asked = s'.asked ++ record { event = s'.both.event; cookie = cookie } ∷ [] }) (Arrive conn header)

  stays_complete : (s : Side) (ticket status : ℕ) → Stays s (complete i s ticket status)
  stays_complete s ticket status =
      let e : Event = Done ticket (cond (contains s.marked ticket) TASK_ABORTED status) in
      cond_both (is_going s ticket) (done (happens i s e)) (stopped i s ticket) (Stays s) (λ is. awake_happens s e) (λ is. stays_stopped s ticket)

  stays_stops : (s : Side) (ticket : ℕ) → Stays s (stops i s ticket)
  stays_stops s ticket =
      cond_both (is_going s ticket && contains s.marked ticket) (done (happens i s (Done ticket TASK_ABORTED))) (stopped i s ticket) (Stays s) (λ is. awake_happens s (Done ticket TASK_ABORTED)) (λ is. stays_stopped s ticket)

  stays_clear : (s : Side) (unit : ℕ) → Stays s (clear i s unit)
  stays_clear s unit =
      let these : List Command = left_to_clear s unit in
      let w : Told = record { side = record s { marked = s.marked ++ map (λ (c : Command). c.ticket) these }; actions = map (stop s ClearedReason) (filter (is_started s) these) } in
      awake_withholding (length (live w.side.both.trace)) w

  stays_lose : (s : Side) (conn : ℕ) → Stays s (lose i s conn)
  stays_lose s conn =
      let s' : Side = other i s (outbox.Loses conn) in
      let lost : Answered = done (cond (is_closed conn s'.both.trace) (quiet s') (happens i s' (Arrive conn (parting conn)))) in
      cond_both (not (is_known conn i.outbox.session.conns)) (answers s (Refused UnknownConnection)) (cond (is_lost s conn) (answers s (Refused NotJoined)) lost) (Stays s) (λ is. refl)
      (λ is. cond_both (is_lost s conn) (answers s (Refused NotJoined)) lost (Stays s) (λ is. refl)
      (λ is. cond_both (is_closed conn s'.both.trace) (quiet s') (happens i s' (Arrive conn (parting conn))) (λ (w : Told). w.side.awake ≡ s.awake) (λ is. refl) (λ is. awake_happens s' (Arrive conn (parting conn)))))

  stays_put : (s : Side) (p : OwnPdu) (cookie : ℕ) → Stays s (put i s p cookie)
  stays_put s p cookie = by_refusal (put_refusal i.outbox s.both.box p)
    where
      by_refusal : (x : Option PutRefusal) → (elim x as (λ y. Side) [ Some why ↦ other i s (outbox.Puts p) | None ↦ record (other i s (outbox.Puts p)) { noted = s.noted ++ noted_with p cookie } ]).awake ≡ s.awake
      by_refusal (Some why) = refl
      by_refusal None = refl

  module _ (conn : ℕ) where
    -- but for one that is asked in vain
    abbrev Awake : Side → Call → Answered → Type 0
    Awake s c a = contains a.told.side.awake conn ≡ (contains s.awake conn && not (is_in_vain conn c a.answer))

    by_staying : (s s' : Side) → s'.awake ≡ s.awake → contains s'.awake conn ≡ (contains s.awake conn && true)
    by_staying s s' same = ap (λ ks. contains ks conn) same ∙ sym (and_true (contains s.awake conn))

    by_sleeping : (s : Side) (c : ℕ) → contains (asleep c s).awake conn ≡ (contains s.awake conn && not (c == conn))
    by_sleeping s c = filtered_among (λ k. not (k == c)) conn s.awake ∙ ap (λ b. contains s.awake conn && not b) (same_number conn c)

    awake_next : (s : Side) (c : ℕ) → Awake s (Nexts c) (next i s c)
    awake_next s c = cond_both (is_blocked i s c) (answers s Blocked) _ (Awake s (Nexts c)) (λ is. by_staying s s refl) (λ is. by_given (given i.outbox s.both.box c))
      where
        by_given : (g : Given) → Awake s (Nexts c) (elim g [
          | Hands h ↦ record { told = quiet (handed_on c h.out (other i s (outbox.Nexts c))); answer = Goes h (cookie_handed s c h.out) }
          | Nothing ↦ answers (asleep c s) NoneGoes
          | IsOver ↦ answers (asleep c s) NoneIsLeft
        ])
        by_given (Hands h) =
            let s' : Side = other i s (outbox.Nexts c) in
            by_staying s (handed_on c h.out s')
            (cond_both (is_noted h.out.pdu) (record s' { noted = without_first c 1 s'.noted; handed_notes = s'.handed_notes ++ first_noted c 1 s'.noted }) s' (λ (x : Side). x.awake ≡ s.awake) (λ is. refl) (λ is. refl))
        by_given Nothing = by_sleeping s c
        by_given IsOver = by_sleeping s c

    awake_called : (s : Side) (c : Call) → Awake s c (called i s c)
    awake_called s (Arrives c header cookie) = by_staying s (called i s (Arrives c header cookie)).told.side (stays_arrive s c header cookie)
    awake_called s (Completes ticket status) = by_staying s (called i s (Completes ticket status)).told.side (stays_complete s ticket status)
    awake_called s (Stops ticket) = by_staying s (called i s (Stops ticket)).told.side (stays_stops s ticket)
    awake_called s (Nexts c) = awake_next s c
    awake_called s (Puts p cookie) = by_staying s (called i s (Puts p cookie)).told.side (stays_put s p cookie)
    awake_called s (Writes c) = by_staying s s refl
    awake_called s (Hears c exp_stat_sn tag) = by_staying s s refl
    awake_called s (Joins c stat_sn) = by_staying s s refl
    awake_called s (Loses c) = by_staying s (called i s (Loses c)).told.side (stays_lose s c)
    awake_called s (Clears unit) = by_staying s (called i s (Clears unit)).told.side (stays_clear s unit)
    awake_called s (Cleared unit) = by_staying s s refl

    -- ---- who is told at the end of a call

    none_of_map : {A : Type 0} (f : A → Action) (xs : List A) → ((x : A) → is_ready conn (f x) ≡ false) → list_any (is_ready conn) (map f xs) ≡ false
    none_of_map f [] h = refl
    none_of_map f (x ∷ xs) h = ap (λ b. b || list_any (is_ready conn) (map f xs)) (h x) ∙ none_of_map f xs h

    none_of_flat_map : {A : Type 0} (f : A → List Action) (xs : List A) → ((x : A) → list_any (is_ready conn) (f x) ≡ false) → list_any (is_ready conn) (flat_map f xs) ≡ false
    none_of_flat_map f [] h = refl
    none_of_flat_map f (x ∷ xs) h = both_none (is_ready conn) (f x) (flat_map f xs) (h x) (none_of_flat_map f xs h)

    none_stops : (s : Side) (item : List Mark) → list_any (is_ready conn) (stops_in s item) ≡ false
    none_stops s item = by_executed (executed_in item)
      where
        by_executed : (x : Option Arrival) → list_any (is_ready conn) (elim x [ Some a ↦ map (stop s (reason_of s.asked a)) (filter (is_started s) (filter_map leaving item)) | None ↦ [] ]) ≡ false
        by_executed None = refl
        by_executed (Some a) = none_of_map (stop s (reason_of s.asked a)) (filter (is_started s) (filter_map leaving item)) (λ c. refl)

    none_resets : (o : outbox.Opening) (item : List Mark) → list_any (is_ready conn) (resets_in o item) ≡ false
    none_resets o item = by_executed (executed_in item)
      where
        by_unit : (a : Arrival) (x : Option ℕ) → list_any (is_ready conn) (elim x [ Some unit ↦ Reset unit (function a.request) ∷ [] | None ↦ [] ]) ≡ false
        by_unit a None = refl
        by_unit a (Some unit) = refl

        by_executed : (x : Option Arrival) → list_any (is_ready conn) (elim x [ Some a ↦ cond (o.shared && is_reset a.request && list_any is_complete (filter_map reply_sent item)) (reset o.session.units a.request) [] | None ↦ [] ]) ≡ false
        by_executed None = refl
        by_executed (Some a) = cond_both _ (reset o.session.units a.request) [] (λ (xs : List Action). list_any (is_ready conn) xs ≡ false) (λ is. by_unit a (unit_named o.session.units a.request)) (λ is. refl)

    abbrev Unready : Side → List Action → Type 0
    Unready s acts = list_any (is_ready conn) acts ≡ false

    unready_in_call : InCall i Unready
    unready_in_call = record {
      event = λ s acts e h.
          let items : List (List Mark) = items_of i.outbox.session s.both.event s.both.trace e in
          let s' : Side = stepped i s e in
          let started : List Command = starting s' (entry_of i.outbox.session s.both.event s.both.trace e).effects in
          both_none (is_ready conn) acts (flat_map (stops_in s) items ++ flat_map (resets_in i.outbox) items ++ map (start s') started) h
          (both_none (is_ready conn) (flat_map (stops_in s) items ++ flat_map (resets_in i.outbox) items) (map (start s') started)
          (both_none (is_ready conn) (flat_map (stops_in s) items) (flat_map (resets_in i.outbox) items) (none_of_flat_map (stops_in s) items (none_stops s)) (none_of_flat_map (resets_in i.outbox) items (none_resets i.outbox)))
          (none_of_map (start s') started (λ c. refl)));
      by_other = λ s acts c is h. h;
      clearing = λ s acts unit h.
          both_none (is_ready conn) acts (map (stop s ClearedReason) (filter (is_started s) (left_to_clear s unit))) h (none_of_map (stop s ClearedReason) (filter (is_started s) (left_to_clear s unit)) (λ c. refl));
      arrives = λ s acts new h. h;
      notes = λ s acts more h. h;
      hands = λ s acts c h. h;
      sleeps = λ s acts c h. h;
    }

    told_ready : (w : Told) → list_any (is_ready conn) w.actions ≡ false → list_any (is_ready conn) (ended i w).actions ≡ contains (newly_ready i w.side) conn
    told_ready w h =
        let ready : List Action = map (λ c. Ready c) (newly_ready i w.side) in
        let over : List Action = map (λ c. Close c) (newly_over i w.side) in
        let gone : list_any (is_ready conn) (forgets w.side) ≡ false
        = both_none (is_ready conn) (map (λ (a : Asked). Forget a.cookie) (filter (λ (a : Asked). not (is_needed w.side a)) w.side.asked)) (map (λ (n : Noted). Forget n.cookie) ((parted_waiting w.side).needless ++ (parted_handed w.side).needless))
        (none_of_map (λ (a : Asked). Forget a.cookie) (filter (λ (a : Asked). not (is_needed w.side a)) w.side.asked) (λ a. refl))
        (none_of_map (λ (n : Noted). Forget n.cookie) ((parted_waiting w.side).needless ++ (parted_handed w.side).needless) (λ n. refl)) in
        list_any-append (is_ready conn) (w.actions ++ ready ++ over) (forgets w.side)
        ∙ ap (λ b. list_any (is_ready conn) (w.actions ++ ready ++ over) || b) gone ∙ or_comm (list_any (is_ready conn) (w.actions ++ ready ++ over)) false
        ∙ list_any-append (is_ready conn) (w.actions ++ ready) over
        ∙ ap (λ b. list_any (is_ready conn) (w.actions ++ ready) || b) (none_of_map (λ c. Close c) (newly_over i w.side) (λ c. refl)) ∙ or_comm (list_any (is_ready conn) (w.actions ++ ready)) false
        ∙ list_any-append (is_ready conn) w.actions ready
        ∙ ap (λ b. b || list_any (is_ready conn) ready) h
        ∙ list_any-map (is_ready conn) (λ c. Ready c) (newly_ready i w.side)

    call_ready : (s : Side) (c : Call) → list_any (is_ready conn) (after_call i s c).told.actions ≡ contains (newly_ready i (called i s c).told.side) conn
    call_ready s c = told_ready (called i s c).told (on_called i Unready unready_in_call [] s c refl)

    newly_is : (s : Side) → contains (newly_ready i s) conn ≡ (contains (cids i) conn && (gives i s conn && not (contains s.awake conn)))
    newly_is s = filtered_among (λ c. gives i s c && not (contains s.awake c)) conn (cids i)

    call_awake : (s : Side) (c : Call) → contains (after_call i s c).told.side.awake conn ≡ (list_any (is_ready conn) (after_call i s c).told.actions || (contains s.awake conn && not (is_in_vain conn c (called i s c).answer)))
    call_awake s c =
        let s' : Side = (called i s c).told.side in
        list_any-append (λ n. n == conn) s'.awake (newly_ready i s')
        ∙ or_comm (contains s'.awake conn) (contains (newly_ready i s') conn)
        ∙ ap (λ b. b || contains s'.awake conn) (sym (call_ready s c))
        ∙ ap (λ b. list_any (is_ready conn) (after_call i s c).told.actions || b) (awake_called s c)

    -- ---- all calls

    awake_is : (cs : List Call) (s : Side) → is_awake_from conn (contains s.awake conn) (deeds_from i s cs) ≡ contains (side_after i s cs).awake conn
    awake_is [] s = refl
    awake_is (c ∷ cs) s = ap (λ b. is_awake_from conn b (deeds_from i (after_call i s c).told.side cs)) (sym (call_awake s c)) ∙ awake_is cs (after_call i s c).told.side

    -- one that could give something is awake
    abbrev Told_of : Side → Type 0
    Told_of s = contains (cids i) conn ≡ true → gives i s conn ≡ true → contains s.awake conn ≡ true

    told_after : (s : Side) (c : Call) → Told_of (after_call i s c).told.side
    told_after s c known may = by_awake (contains (called i s c).told.side.awake conn) refl
      where
        s' : Side
        s' = (called i s c).told.side

        by_awake : (b : Bool) → contains (called i s c).told.side.awake conn ≡ b → contains ((called i s c).told.side.awake ++ newly_ready i (called i s c).told.side) conn ≡ true
        by_awake true is = list_any-append (λ n. n == conn) s'.awake (newly_ready i s') ∙ or_first (contains s'.awake conn) (contains (newly_ready i s') conn) is
        by_awake false is =
            list_any-append (λ n. n == conn) s'.awake (newly_ready i s')
            ∙ or_second (contains s'.awake conn) (contains (newly_ready i s') conn)
            (newly_is s' ∙ ap (λ b. b && (gives i s' conn && not (contains s'.awake conn))) known ∙ ap (λ b. b && not (contains s'.awake conn)) may ∙ ap not is)

    told_by : (cs : List Call) (s : Side) → Told_of s → Told_of (side_after i s cs)
    told_by [] s h = h
    told_by (c ∷ cs) s h = told_by cs (after_call i s c).told.side (told_after s c)

    told_once : (cs : List Call) (s : Side) (before after : List Deed) (d : Deed) → before ++ d ∷ after ≡ deeds_from i s cs → is_awake_from conn (contains s.awake conn) before ≡ true → is_in_vain conn d.call d.answer ≡ false → list_any (is_ready conn) d.actions ≡ false
    told_once [] s [] after d is awake asked = absurd cc
    told_once [] s (x ∷ before) after d is awake asked = absurd cc
    told_once (c ∷ cs) s [] after d is awake asked =
        let same : d ≡ record { call = c; answer = (called i s c).answer; actions = (after_call i s c).told.actions } = cc in
        let s' : Side = (called i s c).told.side in
        let heard : is_in_vain conn c (called i s c).answer ≡ false = sym (ap (λ (y : Deed). is_in_vain conn y.call y.answer) same) ∙ asked in
        let still : contains s'.awake conn ≡ true = awake_called s c ∙ ap (λ b. b && not (is_in_vain conn c (called i s c).answer)) awake ∙ ap not heard in
        ap (λ (y : Deed). list_any (is_ready conn) y.actions) same
        ∙ call_ready s c ∙ newly_is s' ∙ ap (λ b. contains (cids i) conn && (gives i s' conn && not b)) still ∙ never (contains (cids i) conn) (gives i s' conn)
      where
        never : (a b : Bool) → (a && (b && false)) ≡ false
        never true true = refl
        never true false = refl
        never false b = refl
    told_once (c ∷ cs) s (x ∷ before) after d is awake asked =
        let head : x ≡ record { call = c; answer = (called i s c).answer; actions = (after_call i s c).told.actions } = cc in
        let tail : before ++ d ∷ after ≡ deeds_from i (after_call i s c).told.side cs = cc in
        told_once cs (after_call i s c).told.side before after d tail
        (ap (λ b. is_awake_from conn b before) (call_awake s c) ∙ sym (ap (λ (y : Deed). is_awake_from conn (list_any (is_ready conn) y.actions || (contains s.awake conn && not (is_in_vain conn y.call y.answer))) before) head) ∙ awake) asked

    -- nothing goes out before any call
    none_given : gives i (opened i) conn ≡ false
    none_given = by_link (link_of (box_opened i.outbox) conn) refl
      where
        closed : (conns : List (ℕ × ℕ)) → EachOf (λ (l : Link). is_open l ≡ false) (map (λ (c : ℕ × ℕ). new_link c.0) conns)
        closed [] = tt
        closed (c ∷ conns) = (refl, closed conns)

        by_link : (x : Option Link) → link_of (box_opened i.outbox) conn ≡ x
            → elim (elim x as (λ y. Given) [ Some l ↦ given_on i.outbox (box_opened i.outbox) l | None ↦ Nothing ]) [ Hands h ↦ true | Nothing ↦ false | IsOver ↦ false ] ≡ false
        by_link None is = refl
        by_link (Some l) is =
            let shut : is_open l ≡ false = each-first_of (λ (m : Link). is_open m ≡ false) (λ (m : Link). m.conn == conn) (box_opened i.outbox).links l is (closed i.outbox.session.conns) in
            ap (λ b. elim (elim (cond b (cond (wants_ping i.outbox (box_opened i.outbox) l) (Some (ping (box_opened i.outbox) l)) (first_waiting i.outbox (box_opened i.outbox) l l.queue)) None) as (λ y. Given) [ Some out ↦ Hands (handed_as i.outbox (box_opened i.outbox) l out) | None ↦ cond (is_over (box_opened i.outbox) l) IsOver Nothing ]) [ Hands h ↦ true | Nothing ↦ false | IsOver ↦ false ]) shut
            ∙ cond_both (is_over (box_opened i.outbox) l) IsOver Nothing (λ (g : Given). elim g [ Hands h ↦ true | Nothing ↦ false | IsOver ↦ false ] ≡ false) (λ over. refl) (λ over. refl)

pub ready_holds : (i : Interface) (cs : List Call) → ReadyHolds i cs
ready_holds i cs = record {
  no_lost = λ conn known may. awake_is i conn cs (opened i) ∙ told_by i conn cs (opened i) (λ k m. absurd (false≢true (sym (none_given i conn) ∙ m))) known may;
  once = λ before after d conn is awake asked. told_once i conn cs (opened i) before after d is awake asked;
}
