-- A word that was given once is named no more once it was to be forgotten.
use Rattle.std.proofs.Common.{◌≡◌, ℕ, ◌+◌, ◌≤◌, ◌==◌, ◌&&◌, ◌||◌, not, cond, Bool, true, false, List, [], ◌∷◌, ◌++◌, map, filter, filter_map, find, count_by, Option, Some, None, refl, ap, sym, subst, ◌∙◌, arith, eq-eqb}
use Rattle.std.specs.List.{list_any, flat_map}
use Rattle.std.proofs.lemmas.Bool.{false≢true, cond_both}
use Rattle.std.proofs.lemmas.Bool.Decides.{nat_tests}
use Rattle.std.proofs.lemmas.List.{append_assoc}
use Rattle.std.proofs.lemmas.List.Sums.{sum_by-append}
use Rattle.iscsi_wire.specs.Fields.{function}
use Rattle.iscsi_rules.specs.declared.event.Event.TheVariants.{Arrive, Done}
use Rattle.iscsi_rules.specs.rules.Settings.{is_known}
use Rattle.iscsi_rules.specs.rules.Trace.{Arrival, Command, Mark, is_closed, entered}
use Rattle.iscsi_rules.specs.rules.Execution.{unit_named}
use Rattle.iscsi_rules.specs.rules.Agenda.{items_of}
use Rattle.iscsi_rules.specs.rules.Run.{entry_of}
use Rattle.iscsi_rules.specs.promises.Replies.{executed_in, reply_sent}
use Rattle.iscsi_rules.proofs.general.BoolLemmas.{or_none}
use Rattle.iscsi_rules.proofs.general.CountLemmas.{one, count-cons}
use Rattle.iscsi_rules.proofs.general.ListLemmas.{any_flat_map, any_same}
use Rattle.iscsi_outbox_rules.specs.rules.Calls as outbox
use Rattle.iscsi_outbox_rules.specs.rules.Boxes.{Outgoing, Handed}
use Rattle.iscsi_outbox_rules.specs.rules.Words.{contains, is_running}
use Rattle.iscsi_outbox_rules.specs.rules.Handing.{Given, Hands, Nothing, IsOver, given}
use Rattle.iscsi_outbox_rules.specs.promises.Scope.{nth}
use Rattle.iscsi_ffi_rules.specs.declared.action.Action.{Action}
use Rattle.iscsi_ffi_rules.specs.declared.action.Action.TheVariants.{Start, Stop, Reset, Ready, Close, Forget}
use Rattle.iscsi_ffi_rules.specs.declared.action.StopReason.{StopReason}
use Rattle.iscsi_ffi_rules.specs.declared.action.StopReason.TheVariants.{Cleared as ClearedReason}
use Rattle.iscsi_ffi_rules.specs.declared.refusal.Refusal.{Refusal}
use Rattle.iscsi_ffi_rules.specs.declared.refusal.Refusal.TheVariants.{UnknownConnection, NotJoined}
use Rattle.iscsi_ffi_rules.specs.rules.Calls.{Interface, Call, Arrives, Completes, Stops, Nexts, Puts, Writes, Hears, Joins, Loses, Clears, Cleared}
use Rattle.iscsi_ffi_rules.specs.rules.Sides.{Asked, Noted, Side, cookie_of, opened}
use Rattle.iscsi_ffi_rules.specs.rules.Needs.{is_needed, is_noted}
use Rattle.iscsi_ffi_rules.specs.rules.Clearing.{TASK_ABORTED}
use Rattle.iscsi_ffi_rules.specs.rules.Happening.{Told, stop, stops_in, resets_in, is_complete, is_reset, reset, reason_of, is_started, leaving, starting, start, stepped, happens, other, quiet}
use Rattle.iscsi_ffi_rules.specs.rules.Run.{Answer, Blocked, NoneGoes, NoneIsLeft, Goes, Refused, Stale, Taken, Put, Joined, Answered, done, answers, refusal_of, heard_in, is_going, stopped, parting, is_lost, cookie_of_ticket, cookie_noted, cookie_handed, handed_on, is_blocked, asleep, newly_ready, newly_over, parted_handed, parted_waiting, forgets, ended, called, after_call}
use Rattle.iscsi_ffi_rules.specs.promises.Deeds.{Deed, deeds_from}
use Rattle.iscsi_ffi_rules.specs.promises.Words.{gives_word, is_forget, count_kept, Mention, Names, Forgets, mentions_of, mentions_in, mentions, is_named, ForgottenLast}
use Rattle.iscsi_ffi_rules.proofs.NeedForms.{both_none, counted_none}
use Rattle.iscsi_ffi_rules.proofs.SideWalks.{left_to_clear, InCall, on_called}
use Rattle.iscsi_ffi_rules.proofs.WordTheorem.{Calm, calm_called, ended_counted, handed_counted}

some_counted : {A : Type 0} (p : A → Bool) (xs : List A) → list_any p xs ≡ true → 1 ≤ count_by p xs
some_counted p [] h = absurd (false≢true h)
some_counted p (x ∷ xs) h =
    let all : count_by p (x ∷ xs) ≡ one (p x) + count_by p xs = count-cons p x xs in
    elim (p x) as (λ b. (b || list_any p xs) ≡ true → one b + count_by p xs ≡ count_by p (x ∷ xs) → 1 ≤ count_by p (x ∷ xs)) [
      | true ↦ λ here all. omega arith
      | false ↦ λ later all. omega (arith, some_counted p xs later)
    ] h (sym all)

module _ (word : ℕ) (some : (word == 0) ≡ false) where
  -- the action names it
  abbrev names : Action → Bool
  names a = list_any (is_named word) (mentions_of a)

  unnamed_map : {A : Type 0} (f : A → Action) (xs : List A) → ((x : A) → names (f x) ≡ false) → list_any names (map f xs) ≡ false
  unnamed_map f [] h = refl
  unnamed_map f (x ∷ xs) h = ap (λ b. b || list_any names (map f xs)) (h x) ∙ unnamed_map f xs h

  unnamed_flat_map : {A : Type 0} (f : A → List Action) (xs : List A) → ((x : A) → list_any names (f x) ≡ false) → list_any names (flat_map f xs) ≡ false
  unnamed_flat_map f [] h = refl
  unnamed_flat_map f (x ∷ xs) h = both_none names (f x) (flat_map f xs) (h x) (unnamed_flat_map f xs h)

  -- ---- where it isn't kept

  record Unkept (s : Side) : Type 0 where
    asked : list_any (λ (a : Asked). a.cookie == word) s.asked ≡ false
    noted : list_any (λ (n : Noted). n.cookie == word) s.noted ≡ false

  unkept : (s : Side) → count_kept word s ≡ 0 → Unkept s
  unkept s h = record {
    asked = counted_none (λ (a : Asked). a.cookie == word) s.asked (omega (arith, h));
    noted = counted_none (λ (n : Noted). n.cookie == word) s.noted (omega (arith, h));
  }

  nothing : (0 == word) ≡ false
  nothing = grind (arith, nat_tests)

  other_cookie : (asked : List Asked) (event : ℕ) → list_any (λ (a : Asked). a.cookie == word) asked ≡ false → (cookie_of asked event == word) ≡ false
  other_cookie [] event h = nothing
  other_cookie (a ∷ asked) event h =
      let parts = or_none (a.cookie == word) (list_any (λ (b : Asked). b.cookie == word) asked) h in
      elim (a.event == event) as (λ b. (elim (cond b (Some a) (find (λ (x : Asked). x.event == event) asked)) [ Some x ↦ x.cookie | None ↦ 0 ] == word) ≡ false) [
        | true ↦ parts.0
        | false ↦ other_cookie asked event parts.1
      ]

  alone : (b : Bool) → b ≡ false → (b || false) ≡ false
  alone b h = ap (λ c. c || false) h

  unnamed_stops : (s : Side) → Unkept s → (why : StopReason) (cs : List Command) → list_any names (map (stop s why) cs) ≡ false
  unnamed_stops s u why cs = unnamed_map (stop s why) cs (λ c. alone (cookie_of s.asked c.arrival.event == word) (other_cookie s.asked c.arrival.event u.asked))

  unnamed_stopping : (s : Side) → Unkept s → (item : List Mark) → list_any names (stops_in s item) ≡ false
  unnamed_stopping s u item = by_executed (executed_in item)
    where
      by_executed : (x : Option Arrival) → list_any names (elim x [ Some a ↦ map (stop s (reason_of s.asked a)) (filter (is_started s) (filter_map leaving item)) | None ↦ [] ]) ≡ false
      by_executed None = refl
      by_executed (Some a) = unnamed_stops s u (reason_of s.asked a) (filter (is_started s) (filter_map leaving item))

  unnamed_resets : (o : outbox.Opening) (item : List Mark) → list_any names (resets_in o item) ≡ false
  unnamed_resets o item = by_executed (executed_in item)
    where
      by_unit : (a : Arrival) (x : Option ℕ) → list_any names (elim x [ Some unit ↦ Reset unit (function a.request) ∷ [] | None ↦ [] ]) ≡ false
      by_unit a None = refl
      by_unit a (Some unit) = refl

      by_executed : (x : Option Arrival) → list_any names (elim x [ Some a ↦ cond (o.shared && is_reset a.request && list_any is_complete (filter_map reply_sent item)) (reset o.session.units a.request) [] | None ↦ [] ]) ≡ false
      by_executed None = refl
      by_executed (Some a) = cond_both _ (reset o.session.units a.request) [] (λ (xs : List Action). list_any names xs ≡ false) (λ is. by_unit a (unit_named o.session.units a.request)) (λ is. refl)

  -- none is named that isn't kept
  abbrev Unnamed : Side → List Action → Type 0
  Unnamed s acts = count_kept word s ≡ 0 → list_any names acts ≡ false

  unnamed_in_call : (i : Interface) → InCall i Unnamed
  unnamed_in_call i = record {
    event = λ s acts e h none.
        let u : Unkept s = unkept s none in
        let items : List (List Mark) = items_of i.outbox.session s.both.event s.both.trace e in
        let s' : Side = stepped i s e in
        let started : List Command = starting s' (entry_of i.outbox.session s.both.event s.both.trace e).effects in
        both_none names acts (flat_map (stops_in s) items ++ flat_map (resets_in i.outbox) items ++ map (start s') started) (h none)
        (both_none names (flat_map (stops_in s) items ++ flat_map (resets_in i.outbox) items) (map (start s') started)
        (both_none names (flat_map (stops_in s) items) (flat_map (resets_in i.outbox) items) (unnamed_flat_map (stops_in s) items (unnamed_stopping s u)) (unnamed_flat_map (resets_in i.outbox) items (unnamed_resets i.outbox)))
        (unnamed_map (start s') started (λ c. alone (cookie_of s.asked c.arrival.event == word) (other_cookie s.asked c.arrival.event u.asked))));
    by_other = λ s acts c is h. h;
    clearing = λ s acts unit h none.
        both_none names acts (map (stop s ClearedReason) (filter (is_started s) (left_to_clear s unit))) (h none) (unnamed_stops s (unkept s none) ClearedReason (filter (is_started s) (left_to_clear s unit)));
    arrives = λ s acts new h none. h (omega (arith, none, sum_by-append (λ (a : Asked). cond (a.cookie == word) 1 0) s.asked (new ∷ [])));
    notes = λ s acts more h none. h (omega (arith, none, sum_by-append (λ (n : Noted). cond (n.cookie == word) 1 0) s.noted more));
    hands = λ s acts conn h none. h (omega (arith, none, handed_counted word conn s));
    sleeps = λ s acts conn h. h;
  }

  unnamed_called : (i : Interface) (s : Side) (c : Call) → count_kept word (called i s c).told.side ≡ 0 → list_any names (called i s c).told.actions ≡ false
  unnamed_called i s c none = on_called i Unnamed (unnamed_in_call i) [] s c (λ before. refl) none

  -- ---- what is handed out

  abbrev Silent : Answer → Type 0
  Silent a = list_any (is_named word) (mentions_in a) ≡ false

  silent_word : (h : Handed) (x : Option ℕ) → elim x [ Some cookie ↦ (cookie == word) | None ↦ false ] ≡ false → Silent (Goes h x)
  silent_word h None no_word = refl
  silent_word h (Some cookie) no_word = alone (cookie == word) no_word

  abbrev is_word : Option ℕ → Bool
  is_word x = elim x [ Some cookie ↦ (cookie == word) | None ↦ false ]

  other_noted : (conn : ℕ) (noted : List Noted) → list_any (λ (n : Noted). n.cookie == word) noted ≡ false → is_word (elim (find (λ (n : Noted). n.conn == conn) noted) [ Some n ↦ Some n.cookie | None ↦ None ]) ≡ false
  other_noted conn [] h = refl
  other_noted conn (n ∷ noted) h =
      let parts = or_none (n.cookie == word) (list_any (λ (m : Noted). m.cookie == word) noted) h in
      elim (n.conn == conn) as (λ b. is_word (elim (cond b (Some n) (find (λ (m : Noted). m.conn == conn) noted)) [ Some m ↦ Some m.cookie | None ↦ None ]) ≡ false) [
        | true ↦ parts.0
        | false ↦ other_noted conn noted parts.1
      ]

  other_handed : (s : Side) (conn : ℕ) (out : Outgoing) → Unkept s → is_word (cookie_handed s conn out) ≡ false
  other_handed s conn out u = by_sent out.sent
    where
      by_answer : (x : Option ℕ) → is_word (elim x [ Some event ↦ Some (cookie_of s.asked event) | None ↦ None ]) ≡ false
      by_answer None = refl
      by_answer (Some event) = other_cookie s.asked event u.asked

      by_command : (x : Option Command) → is_word (elim x [ Some c ↦ Some (cookie_of s.asked c.arrival.event) | None ↦ None ]) ≡ false
      by_command None = refl
      by_command (Some c) = other_cookie s.asked c.arrival.event u.asked

      own : is_word (cookie_noted s conn) ≡ false
      own = other_noted conn s.noted u.noted

      by_ticket : (x : Option ℕ) → is_word (elim x [ Some ticket ↦ cookie_of_ticket s ticket | None ↦ (cond (is_noted out.pdu) (cookie_noted s conn) None) ]) ≡ false
      by_ticket (Some ticket) = by_command (find (λ (c : Command). c.ticket == ticket) (entered s.both.trace))
      by_ticket None = cond_both (is_noted out.pdu) (cookie_noted s conn) None (λ (x : Option ℕ). is_word x ≡ false) (λ is. own) (λ is. refl)

      by_sent : (x : Option ℕ) → is_word (elim x [
        | Some place ↦ elim (nth place s.answers) [ Some event ↦ Some (cookie_of s.asked event) | None ↦ None ]
        | None ↦ elim (out.ticket) [ Some ticket ↦ cookie_of_ticket s ticket | None ↦ (cond (is_noted out.pdu) (cookie_noted s conn) None) ]
      ]) ≡ false
      by_sent (Some place) = by_answer (nth place s.answers)
      by_sent None = by_ticket out.ticket

  silent_stopped : (i : Interface) (s : Side) (ticket : ℕ) → Silent (stopped i s ticket).answer
  silent_stopped i s ticket = cond_both (is_running s.both.box ticket) (done (quiet (other i s (outbox.Stops ticket)))) (answers s Stale) (λ (a : Answered). Silent a.answer) (λ is. refl) (λ is. refl)

  silent_called : (i : Interface) (s : Side) (c : Call) → count_kept word s ≡ 0 → Silent (called i s c).answer
  silent_called i s (Arrives conn header cookie) none = by_refusal (refusal_of i s conn)
    where
      by_refusal : (x : Option Refusal) → let a : Answered = elim x [
        | Some refusal ↦ answers s (Refused refusal)
        | None ↦
            let s' = heard_in i s conn header in
            done (happens i (record s' { asked = s'.asked ++ record { event = s'.both.event; cookie = cookie } ∷ [] }) (Arrive conn header))
      ] in Silent a.answer
      by_refusal (Some refusal) = refl
      by_refusal None = refl
  silent_called i s (Completes ticket status) none =
      cond_both (is_going s ticket) (done (happens i s (Done ticket (cond (contains s.marked ticket) TASK_ABORTED status)))) (stopped i s ticket) (λ (a : Answered). Silent a.answer) (λ is. refl) (λ is. silent_stopped i s ticket)
  silent_called i s (Stops ticket) none =
      cond_both (is_going s ticket && contains s.marked ticket) (done (happens i s (Done ticket TASK_ABORTED))) (stopped i s ticket) (λ (a : Answered). Silent a.answer) (λ is. refl) (λ is. silent_stopped i s ticket)
  silent_called i s (Nexts conn) none =
      cond_both (is_blocked i s conn) (answers s Blocked) _ (λ (a : Answered). Silent a.answer) (λ is. refl) (λ is. by_given (given i.outbox s.both.box conn))
    where
      by_given : (g : Given) → let a : Answered = elim g [
        | Hands h ↦ record { told = quiet (handed_on conn h.out (other i s (outbox.Nexts conn))); answer = Goes h (cookie_handed s conn h.out) }
        | Nothing ↦ answers (asleep conn s) NoneGoes
        | IsOver ↦ answers (asleep conn s) NoneIsLeft
      ] in Silent a.answer
      by_given (Hands h) = silent_word h (cookie_handed s conn h.out) (other_handed s conn h.out (unkept s none))
      by_given Nothing = refl
      by_given IsOver = refl
  silent_called i s (Puts p cookie) none = refl
  silent_called i s (Writes conn) none = refl
  silent_called i s (Hears conn exp_stat_sn tag) none = refl
  silent_called i s (Joins conn stat_sn) none = refl
  silent_called i s (Loses conn) none =
      let s' : Side = other i s (outbox.Loses conn) in
      let lost : Answered = done (cond (is_closed conn s'.both.trace) (quiet s') (happens i s' (Arrive conn (parting conn)))) in
      cond_both (not (is_known conn i.outbox.session.conns)) (answers s (Refused UnknownConnection)) (cond (is_lost s conn) (answers s (Refused NotJoined)) lost) (λ (a : Answered). Silent a.answer) (λ is. refl)
      (λ is. cond_both (is_lost s conn) (answers s (Refused NotJoined)) lost (λ (a : Answered). Silent a.answer) (λ is. refl) (λ is. refl))
  silent_called i s (Clears unit) none = refl
  silent_called i s (Cleared unit) none = refl

  -- ---- one call after the other

  mentions-append : (xs ys : List Action) → flat_map mentions_of (xs ++ ys) ≡ flat_map mentions_of xs ++ flat_map mentions_of ys
  mentions-append [] ys = refl
  mentions-append (a ∷ xs) ys = ap (λ ms. mentions_of a ++ ms) (mentions-append xs ys) ∙ sym (append_assoc (mentions_of a) (flat_map mentions_of xs) (flat_map mentions_of ys))

  unnamed_mentions : (acts : List Action) → list_any names acts ≡ false → list_any (is_named word) (flat_map mentions_of acts) ≡ false
  unnamed_mentions acts h = any_flat_map (is_named word) mentions_of acts ∙ h

  abbrev forgets_word : Mention → Bool
  forgets_word (Forgets cookie) = cookie == word
  forgets_word (Names cookie) = false

  same_forgets : (acts : List Action) → list_any forgets_word (flat_map mentions_of acts) ≡ list_any (is_forget word) acts
  same_forgets acts = any_flat_map forgets_word mentions_of acts ∙ any_same (λ a. list_any forgets_word (mentions_of a)) (is_forget word) acts by_action
    where
      or_false : (b : Bool) → (b || false) ≡ b
      or_false true = refl
      or_false false = refl

      by_action : (a : Action) → list_any forgets_word (mentions_of a) ≡ is_forget word a
      by_action (Start ticket unit attr cookie) = refl
      by_action (Stop ticket cookie why) = refl
      by_action (Reset unit function) = refl
      by_action (Ready cid) = refl
      by_action (Close cid) = refl
      by_action (Forget cookie) = or_false (cookie == word)

  answers_unforgotten : (a : Answer) → list_any forgets_word (mentions_in a) ≡ false
  answers_unforgotten (Goes h (Some cookie)) = refl
  answers_unforgotten (Goes h None) = refl
  answers_unforgotten Taken = refl
  answers_unforgotten (Refused refusal) = refl
  answers_unforgotten Stale = refl
  answers_unforgotten (Put refusal) = refl
  answers_unforgotten (Joined may) = refl
  answers_unforgotten Blocked = refl
  answers_unforgotten NoneGoes = refl
  answers_unforgotten NoneIsLeft = refl

  -- behind each of its Forgets it isn't named
  abbrev Ordered : List Mention → Type 0
  Ordered [] = Unit {0}
  Ordered (Names cookie ∷ ms) = Ordered ms
  Ordered (Forgets cookie ∷ ms) = (cookie ≡ word → list_any (is_named word) ms ≡ false) × Ordered ms

  ordered_at : (before after : List Mention) → Ordered (before ++ Forgets word ∷ after) → list_any (is_named word) after ≡ false
  ordered_at [] after h = h.0 refl
  ordered_at (Names cookie ∷ before) after h = ordered_at before after h
  ordered_at (Forgets cookie ∷ before) after h = ordered_at before after h.1

  unnamed_ordered : (ms : List Mention) → list_any (is_named word) ms ≡ false → Ordered ms
  unnamed_ordered [] h = tt
  unnamed_ordered (Names cookie ∷ ms) h = unnamed_ordered ms (or_none (cookie == word) (list_any (is_named word) ms) h).1
  unnamed_ordered (Forgets cookie ∷ ms) h = (λ is. h, unnamed_ordered ms h)

  ordered_behind : (xs ys : List Mention) → list_any forgets_word xs ≡ false → Ordered ys → Ordered (xs ++ ys)
  ordered_behind [] ys none h = h
  ordered_behind (Names cookie ∷ xs) ys none h = ordered_behind xs ys none h
  ordered_behind (Forgets cookie ∷ xs) ys none h =
      let parts = or_none (cookie == word) (list_any forgets_word xs) none in
      (λ is. absurd (false≢true (sym parts.0 ∙ eq-eqb cookie word is)), ordered_behind xs ys parts.1 h)

  module _ (i : Interface) where
    abbrev given_by : Deed → Bool
    given_by d = gives_word word d.call d.answer

    -- what is told at the end of a call but for what is forgotten
    abbrev words : Told → List Action
    words w = w.actions ++ map (λ conn. Ready conn) (newly_ready i w.side) ++ map (λ conn. Close conn) (newly_over i w.side)

    unnamed_forgets : (s : Side) → list_any names (forgets s) ≡ false
    unnamed_forgets s =
        both_none names (map (λ (a : Asked). Forget a.cookie) (filter (λ (a : Asked). not (is_needed s a)) s.asked)) (map (λ (n : Noted). Forget n.cookie) ((parted_waiting s).needless ++ (parted_handed s).needless))
        (unnamed_map (λ (a : Asked). Forget a.cookie) (filter (λ (a : Asked). not (is_needed s a)) s.asked) (λ a. refl))
        (unnamed_map (λ (n : Noted). Forget n.cookie) ((parted_waiting s).needless ++ (parted_handed s).needless) (λ n. refl))

    unnamed_words : (w : Told) → list_any names w.actions ≡ false → list_any names (words w) ≡ false
    unnamed_words w h =
        both_none names (w.actions ++ map (λ conn. Ready conn) (newly_ready i w.side)) (map (λ conn. Close conn) (newly_over i w.side))
        (both_none names w.actions (map (λ conn. Ready conn) (newly_ready i w.side)) h (unnamed_map (λ conn. Ready conn) (newly_ready i w.side) (λ conn. refl)))
        (unnamed_map (λ conn. Close conn) (newly_over i w.side) (λ conn. refl))

    abbrev forgotten : List Action → Bool
    forgotten acts = list_any (is_forget word) acts

    unforgotten_map : {A : Type 0} (f : A → Action) (xs : List A) → ((x : A) → is_forget word (f x) ≡ false) → forgotten (map f xs) ≡ false
    unforgotten_map f [] h = refl
    unforgotten_map f (x ∷ xs) h = ap (λ b. b || forgotten (map f xs)) (h x) ∙ unforgotten_map f xs h

    unforgotten_words : (w : Told) → count_by (is_forget word) w.actions ≡ 0 → forgotten (words w) ≡ false
    unforgotten_words w h =
        both_none (is_forget word) (w.actions ++ map (λ conn. Ready conn) (newly_ready i w.side)) (map (λ conn. Close conn) (newly_over i w.side))
        (both_none (is_forget word) w.actions (map (λ conn. Ready conn) (newly_ready i w.side)) (counted_none (is_forget word) w.actions (omega (arith, h))) (unforgotten_map (λ conn. Ready conn) (newly_ready i w.side) (λ conn. refl)))
        (unforgotten_map (λ conn. Close conn) (newly_over i w.side) (λ conn. refl))

    -- what a call mentions: what is said in it, and what is forgotten at its end
    abbrev said : Side → Call → List Mention
    said s c = let a = called i s c in mentions_in a.answer ++ flat_map mentions_of (words a.told)

    mentions-first : (s : Side) (c : Call) (cs : List Call) → mentions (deeds_from i s (c ∷ cs)) ≡ said s c ++ (flat_map mentions_of (forgets (called i s c).told.side) ++ mentions (deeds_from i (after_call i s c).told.side cs))
    mentions-first s c cs =
        let a : Answered = called i s c in
        let now : List Mention = flat_map mentions_of (words a.told) in
        let last : List Mention = flat_map mentions_of (forgets a.told.side) in
        let rest : List Mention = mentions (deeds_from i (after_call i s c).told.side cs) in
        ap (λ ms. mentions_in a.answer ++ ms ++ rest) (mentions-append (words a.told) (forgets a.told.side))
        ∙ ap (λ ms. ms ++ rest) (sym (append_assoc (mentions_in a.answer) now last))
        ∙ append_assoc (mentions_in a.answer ++ now) last rest

    -- a word that is neither kept nor given
    unmentioned : (cs : List Call) (s : Side) → count_kept word s ≡ 0 → count_by given_by (deeds_from i s cs) ≡ 0 → list_any (is_named word) (mentions (deeds_from i s cs)) ≡ false
    unmentioned [] s none ungiven = refl
    unmentioned (c ∷ cs) s none ungiven =
        let a : Answered = called i s c in
        let w : Told = ended i a.told in
        let d : Deed = record { call = c; answer = a.answer; actions = w.actions } in
        let all : count_by given_by (d ∷ deeds_from i w.side cs) ≡ one (given_by d) + count_by given_by (deeds_from i w.side cs) = count-cons given_by d (deeds_from i w.side cs) in
        let h : Calm word s (one (gives_word word c a.answer)) a.told = calm_called word i s c in
        let kept : count_kept word a.told.side ≡ 0 = omega (arith, h.kept, none, all, ungiven) in
        let after : count_kept word w.side ≡ 0 = omega (arith, kept, h.silent, ended_counted word i a.told) in
        ap (list_any (is_named word)) (mentions-first s c cs)
        ∙ both_none (is_named word) (said s c) (flat_map mentions_of (forgets a.told.side) ++ mentions (deeds_from i w.side cs))
        (both_none (is_named word) (mentions_in a.answer) (flat_map mentions_of (words a.told)) (silent_called i s c none) (unnamed_mentions (words a.told) (unnamed_words a.told (unnamed_called i s c kept))))
        (both_none (is_named word) (flat_map mentions_of (forgets a.told.side)) (mentions (deeds_from i w.side cs)) (unnamed_mentions (forgets a.told.side) (unnamed_forgets a.told.side)) (unmentioned cs w.side after (omega (arith, all, ungiven))))

    ordered : (cs : List Call) (s : Side) → count_kept word s + count_by given_by (deeds_from i s cs) ≤ 1 → Ordered (mentions (deeds_from i s cs))
    ordered [] s few = tt
    ordered (c ∷ cs) s few = subst Ordered (sym (mentions-first s c cs)) (ordered_behind (said s c) (last ++ rest) unsaid (by_forgotten (ordered cs w.side) (forgotten (forgets (called i s c).told.side)) refl))
      where
        a : Answered
        a = called i s c

        w : Told
        w = ended i (called i s c).told

        d : Deed
        d = record { call = c; answer = (called i s c).answer; actions = (ended i (called i s c).told).actions }

        last : List Mention
        last = flat_map mentions_of (forgets (called i s c).told.side)

        rest : List Mention
        rest = mentions (deeds_from i (ended i (called i s c).told).side cs)

        all : count_by given_by (d ∷ deeds_from i (ended i (called i s c).told).side cs) ≡ one (given_by d) + count_by given_by (deeds_from i (ended i (called i s c).told).side cs)
        all = count-cons given_by d (deeds_from i (ended i (called i s c).told).side cs)

        h : Calm word s (one (gives_word word c (called i s c).answer)) (called i s c).told
        h = calm_called word i s c

        ends : count_kept word (ended i (called i s c).told).side + count_by (is_forget word) (ended i (called i s c).told).actions ≡ count_kept word (called i s c).told.side + count_by (is_forget word) (called i s c).told.actions
        ends = ended_counted word i (called i s c).told

        split : count_by (is_forget word) (ended i (called i s c).told).actions ≡ count_by (is_forget word) (words (called i s c).told) + count_by (is_forget word) (forgets (called i s c).told.side)
        split = sum_by-append (λ (x : Action). cond (is_forget word x) 1 0) (words (called i s c).told) (forgets (called i s c).told.side)

        unsaid : list_any forgets_word (said s c) ≡ false
        unsaid = both_none forgets_word (mentions_in (called i s c).answer) (flat_map mentions_of (words (called i s c).told)) (answers_unforgotten (called i s c).answer) (same_forgets (words (called i s c).told) ∙ unforgotten_words (called i s c).told h.silent)

        by_forgotten : (count_kept word (ended i (called i s c).told).side + count_by given_by (deeds_from i (ended i (called i s c).told).side cs) ≤ 1 → Ordered (mentions (deeds_from i (ended i (called i s c).told).side cs)))
            → (b : Bool) → forgotten (forgets (called i s c).told.side) ≡ b → Ordered (flat_map mentions_of (forgets (called i s c).told.side) ++ mentions (deeds_from i (ended i (called i s c).told).side cs))
        by_forgotten further false is = ordered_behind last rest (same_forgets (forgets (called i s c).told.side) ∙ is) (further (omega (arith, few, all, h.kept, h.silent, ends)))
        by_forgotten further true is =
            let now : 1 ≤ count_by (is_forget word) (forgets (called i s c).told.side) = some_counted (is_forget word) (forgets (called i s c).told.side) is in
            unnamed_ordered (last ++ rest)
            (both_none (is_named word) last rest (unnamed_mentions (forgets (called i s c).told.side) (unnamed_forgets (called i s c).told.side))
            (unmentioned cs (ended i (called i s c).told).side (omega (arith, now, few, all, h.kept, h.silent, ends, split)) (omega (arith, now, few, all, h.kept, h.silent, ends, split))))

pub forgotten_last : (i : Interface) (cs : List Call) → ForgottenLast i cs
forgotten_last i cs word some few before after is = ordered_at word some before after (subst (Ordered word some) (sym is) (ordered word some i cs (opened i) (omega (arith, few))))
