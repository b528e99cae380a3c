-- A request arrives that has a place: both go on alike.
use Rattle.std.proofs.Common.{◌≡◌, ℕ, ◌<◌, not, cond, Bool, true, false, List, [], ◌∷◌, ◌++◌, length, filter, Option, Some, None, refl, ap, sym, subst, ◌∙◌, arith, length-set, ◌≤◌, ◌==◌}
use Rattle.iscsi_outbox_rules.specs.promises.Room.{places}
use Rattle.iscsi_rules.specs.rules.Settings.{is_known}
use Rattle.iscsi_ffi_rules.specs.rules.Run.{cids}
use Rattle.std.proofs.lemmas.List.{length-map}
use Rattle.iscsi_requests.specs.Numbers.{HeldNumbers, size_for, index_of}
use Rattle.iscsi_ffi_law.proofs.requests.KeptCounts.{held_or_waiting, kept_few}
use Rattle.iscsi_rules.proofs.promises.NumberingLemmas.{to_list}
use Rattle.iscsi_rules.proofs.items.TouchLemmas.{enters_form}
use Rattle.std.specs.List.{list_all}
use Rattle.std.proofs.lemmas.Bool.{and_from, eq-eqb, false≢true}
use Rattle.iscsi_wire.specs.Fields.{connection_of, header_of, is_immediate, request_of, cmd_sn}
use Rattle.iscsi_wire.specs.declared.reply.Reply.TheVariants.{Reject}
use Rattle.iscsi_wire.specs.declared.request.Request.{Request}
use Rattle.iscsi_rules.specs.declared.effect.Why.{Why}
use Rattle.iscsi_rules.specs.declared.event.Event.{Event}
use Rattle.iscsi_rules.specs.declared.event.Event.TheVariants.{Arrive}
use Rattle.iscsi_rules.specs.rules.Execution.{rejected}
use Rattle.iscsi_rules.specs.rules.Management.{MOST_WAITING, waiting_on}
use Rattle.iscsi_rules.specs.rules.Run.{effects_of, effects_of_item}
use Rattle.iscsi_rules.specs.rules.Trace.{Admits, Arrival, Command, Executes, Ignores, Mark, Trace, Waits, entered, is_received, waiting}
use Rattle.iscsi_rules.proofs.items.Forms.{AfterWaiting, AtArrival, AtTurn, Deeds, IsDone, Start, marks_done, start_mark, Executed}
use Rattle.iscsi_rules.proofs.general.ElementLemmas.{filter-in}
use Rattle.iscsi_rules.proofs.traces.NewlyLemmas.{newly-untouched}
use Rattle.iscsi_outbox_rules.specs.rules.Run.{after_call}
use Rattle.iscsi_outbox_rules.proofs.closes.ClosedParts.{EachOn}
use Rattle.iscsi_outbox_law.specs.private.Sound.{IsSound}
use Rattle.iscsi_ffi_rules.specs.rules.Calls.{Interface}
use Rattle.iscsi_ffi_rules.specs.rules.Happening.{happens as happens_there}
use Rattle.iscsi_ffi_rules.specs.rules.Run as rules
use Rattle.iscsi_ffi_rules.specs.rules.Sides.{Side}
use Rattle.iscsi_ffi_steps.specs.State.{State}
use Rattle.iscsi_ffi_steps.specs.Steps.{Going, arriving, changed, done, happens, hold, is_held_first}
use Rattle.iscsi_ffi_law.specs.Arrived.{AreStepsFit, IsBehindFit, arrive_call, arrived, items_then, side_behind, starts_late}
use Rattle.iscsi_ffi_law.specs.Names.{Name, Note}
use Rattle.iscsi_ffi_law.specs.Parts.{IsCommand, IsLiveNamed, is_named}
use Rattle.iscsi_ffi_law.proofs.arrivals.ArriveItems.{arrived_unheld, executed_go, held_now, ignored_go, postponed_go, received_go, rejected_go}
use Rattle.iscsi_ffi_law.proofs.arrivals.ArriveOpens.{IsFoundAt}
use Rattle.iscsi_ffi_law.proofs.items.Between.{IsBetween, pending_as, pending_of}
use Rattle.iscsi_ffi_law.proofs.completions.DoneShape.{enables}
use Rattle.iscsi_ffi_law.proofs.calls.Ends.{GoesTo}
use Rattle.iscsi_ffi_law.proofs.events.EventEnds.{AreBegun, IsEventOf}
use Rattle.iscsi_ffi_law.proofs.events.EventGoes.{first_between, first_unswept, outbox_first, parts}
use Rattle.iscsi_ffi_law.proofs.events.EventLaw.{event_goes, pairs_live}
use Rattle.iscsi_ffi_law.proofs.events.EventRules.{admits_alone}
use Rattle.iscsi_ffi_law.proofs.commands.HeldNews.{enters_once, fresh_untold, one_at_most}
use Rattle.iscsi_ffi_law.proofs.items.ItemsGo.{AllGo, first_go, side_after}
use Rattle.iscsi_ffi_law.proofs.arrivals.Opens.{Opens}
use Rattle.iscsi_ffi_law.proofs.resets.Marking.{named_first}
use Rattle.iscsi_ffi_law.proofs.general.Members.{each_in, in_pairs}
use Rattle.iscsi_ffi_law.proofs.requests.Releasing.{ending}
use Rattle.iscsi_ffi_law.proofs.events.Unswept.{Unswept, none_at, none_counted, none_unswept}
use Rattle.iscsi_requests.specs.declared.replies.WaitingReply.{WaitingReply}
use Rattle.iscsi_ffi_law.specs.Uses.{is_place}
use Rattle.iscsi_ffi_law.proofs.completions.DoneRoom.{all_few, noted_few}
use Rattle.iscsi_ffi_law.proofs.arrivals.Turns.{Becomes, IsDue, IsExecuted, IsIgnored, IsPostponed, IsReceived, IsRejected, becomes}

-- behind the last item the box is sound
last_sound : (i : Interface) (items : List (List Mark)) (r : Side) → AreStepsFit i r items → IsSound i.outbox (side_after i r items).both.box
last_sound i [] r h = h
last_sound i (item ∷ items) r h = last_sound i items (side_behind i r item) h.1

due_alone : (i : Interface) (items : List (List Mark)) (t : Trace) → EachOn (IsDue i.outbox.session) t items → list_all admits_alone items ≡ true
due_alone i [] t due = refl
due_alone i (item ∷ items) t due = and_from (admits_alone item) (list_all admits_alone items) (ap admits_alone due.0.is ∙ by_start due.0.start due.0.a (marks_done due.0.a due.0.deeds)) (due_alone i items (item ∷ t) due.1)
  where
    by_start : (start : Start) (a : Arrival) (ms : List Mark) → admits_alone (start_mark start a ∷ ms) ≡ true
    by_start AtTurn a ms = refl
    by_start AtArrival a ms = refl
    by_start AfterWaiting a ms = refl

-- one command enters by each, if any does
item_once : (start : Start) (a : Arrival) (d : Deeds) → enters_once (start_mark start a ∷ marks_done a d) ≡ true
item_once start a d = ap one_at_most (enters_form (Executed start a d)) ∙ by_entering d.entering
  where
    by_entering : (x : Option Command) → one_at_most (to_list x) ≡ true
    by_entering None = refl
    by_entering (Some c) = refl

due_once : (i : Interface) (items : List (List Mark)) (t : Trace) → EachOn (IsDue i.outbox.session) t items → list_all enters_once items ≡ true
due_once i [] t due = refl
due_once i (item ∷ items) t due = and_from (enters_once item) (list_all enters_once items) (ap enters_once due.0.is ∙ item_once due.0.start due.0.a due.0.deeds) (due_once i items (item ∷ t) due.1)

module _ (i : Interface) (names : List Name) (notes : List Note) (s : State) (r : Side) (cid : ℕ) (header : List ℕ) (place : ℕ) (f : IsFoundAt i names notes s r cid header place) (p : IsBehindFit i r cid header) where
  abbrev e : Event
  e = Arrive cid header

  abbrev a : Arrival
  a = arrived i r cid header

  abbrev request : Request
  request = request_of cid header

  abbrev begins : Going
  begins = record { event = r.both.event; trace = r.both.trace; doing = record { state = s; actions = []; forgets = [] } }

  -- both go on with what arrived
  abbrev pub ArrivesTo : Type 0
  ArrivesTo = GoesTo i (done (arriving i cid header (Some place) (record { event = r.both.event; trace = r.both.trace; doing = record { state = s; actions = []; forgets = [] } }))) (rules.done (happens_there i r (Arrive cid header)))

  abbrev begun : IsBetween i names notes s r (Some place) []
  begun = record {
    unswept = none_unswept s;
    gone = λ q. [];
    requests = pending_as names notes (ending (Some place)) (pending_of (none_unswept s) (Some place) []) (λ q. []) s r (λ n. omega (arith, none_counted (λ (x : WaitingReply). x.request == n) s.replies.waiting, none_counted (is_place n) s.noted.handed)) f.requests;
    slots = f.slots;
    functions = f.functions;
    outbox = f.outbox;
    sizes = f.sizes;
    flags = f.flags;
    counts = f.counts;
    withheld = f.withheld;
    distinct = f.fit.distinct;
    over = λ n some. absurd (let no : ⊥ = omega (arith, some) in no);
    own_named = λ n is. f.named ∙ is;
    own_unheld = λ n is. arrived_unheld names notes (ending (Some place)) (λ q. []) s r f.requests f.before.admitted f.before.waiting n (f.named ∙ is);
    own_first = λ n is. refl;
    long_replies = length-map s.replies.waiting (λ (xs : List WaitingReply). []) ∙ f.sizes.replies;
    long_noted = length-map s.noted.handed (λ (xs : List (Option ℕ)). []) ∙ f.sizes.noted;
    clear = λ q within takes. (none_at s.replies.waiting q, none_at s.noted.handed q);
  }

  -- no more are held, or wait, than there are places for
  few_kept : (v : HeldNumbers) → length v.places ≡ size_for i.outbox.session.window → held_or_waiting v s.functions ≤ places i.outbox
  few_kept v size =
      let few = kept_few (cids i) names s.functions (waiting r.both.trace) f.functions f.sizes.functions f.fit.waits v i.outbox.session.window size in
      let conns = length-map i.outbox.session.conns (λ (x : ℕ × ℕ). x.0) in
      let some = known_some cid i.outbox.session.conns f.known in
      omega (arith, few, conns, some)
    where
      known_some : (c : ℕ) (cs : List (ℕ × ℕ)) → is_known c cs ≡ true → 1 ≤ length cs
      known_some c [] known = absurd (false≢true known)
      known_some c (x ∷ cs) known = omega arith

  -- commands before it
  begun_with : AreBegun i s r []
  begun_with = record {
    waits = all_few i names notes (ending (Some place)) (λ q. []) s r f.requests f.outbox f.sizes;
    replies_room = (let z = f.sizes.replies_room in let conns = length-map i.outbox.session.conns (λ (x : ℕ × ℕ). x.0) in omega (arith, z, conns));
    rooms =
        let waits = all_few i names notes (ending (Some place)) (λ q. []) s r f.requests f.outbox f.sizes in
        let notes_few = noted_few i names notes (ending (Some place)) (λ q. []) s r f.requests f.outbox f.sizes f.fit.fit.sound in
        let replies = f.fit.replies in
        let room = f.sizes.room in
        let conns = length-map i.outbox.session.conns (λ (x : ℕ × ℕ). x.0) in
        omega (arith, waits, notes_few, replies, room, conns);
    few =
        let lives = pairs_live names r s.commands.items (filter (is_named names) (entered r.both.trace)) f.requests.commands in
        let named = ap length (named_first names r.both.trace (entered r.both.trace) f.requests.live_named) in
        let few = f.fit.found in
        omega (arith, lives, named, few);
    kept = few_kept s.held f.slots.size_is;
    freed = λ c there lives told.
        let named : is_named names c ≡ true = each_in (IsLiveNamed names r.both.trace) (entered r.both.trace) c there f.requests.live_named lives in
        let pair = in_pairs (IsCommand names r) s.commands.items (filter (is_named names) (entered r.both.trace)) c (filter-in (is_named names) (entered r.both.trace) c there named) f.requests.commands in
        pair.2.freed told;
  }

  abbrev lead : Bool
  lead = (parts i r e).lead

  abbrev s0 : State
  s0 = record s { outbox = outbox_first i r e lead s.outbox }

  abbrev first : IsBetween i names notes s0 r (Some place) []
  first = first_between i names notes s r (Some place) [] (after_call i.outbox r.both.box (arrive_call i r cid header)) f.fit.fit lead begun

  same_first : first.unswept ≡ none_unswept s
  same_first = first_unswept i names notes s r (Some place) [] (after_call i.outbox r.both.box (arrive_call i r cid header)) f.fit.fit lead begun

  event_of : list_all admits_alone (items_then i r cid header) ≡ true → starts_late r.both.event (items_then i r cid header) ≡ false → list_all enters_once (items_then i r cid header) ≡ true → IsEventOf i r e
  event_of alone prompt once = record {
    fit = f.fit.fit;
    stale = f.fit.stale;
    events = f.events;
    sent = f.fit.sent;
    short = f.fit.short;
    enabled = f.fit.enabled;
    prompt = prompt;
    few = f.fit.few;
    regular = f.fit.regular;
    untold = fresh_untold i (items_then i r cid header) r f.fit.steps once;
    alone = alone;
    behind = last_sound i (items_then i r cid header) r f.fit.steps;
  }

  once_by : (items : List (List Mark)) → items_then i r cid header ≡ items → list_all enters_once items ≡ true → list_all enters_once (items_then i r cid header) ≡ true
  once_by items is once = ap (list_all enters_once) is ∙ once

  -- it isn't held first
  not_held : is_held_first request (effects_of i.outbox.session r.both.trace (items_then i r cid header)) ≡ false → list_all admits_alone (items_then i r cid header) ≡ true → starts_late r.both.event (items_then i r cid header) ≡ false → list_all enters_once (items_then i r cid header) ≡ true → AllGo i names notes (none_unswept s) s0 r (Some place) [] (items_then i r cid header) → ArrivesTo
  not_held isnt alone prompt once go =
      subst (λ v. GoesTo i (done (cond v (happens i None e (changed (hold request place) begins)) (happens i (Some place) e begins))) (rules.done (happens_there i r e))) (sym isnt)
      (event_goes i names notes s r (Some place) [] e (event_of alone prompt once) begun_with f.outbox (first_go i names notes (none_unswept s) s0 r (Some place) [] (items_then i r cid header) f.fit.replies go) f.calm p.withheld)

  over : (why : Why) → items_then i r cid header ≡ (Ignores why ∷ []) ∷ [] → ArrivesTo
  over why is =
      not_held (ap (λ ms. is_held_first request (effects_of i.outbox.session r.both.trace ms)) is) (ap (list_all admits_alone) is) (ap (starts_late r.both.event) is) (ap (list_all enters_once) is)
      (subst (AllGo i names notes (none_unswept s) s0 r (Some place) []) (sym is) (subst (λ (v : Unswept). AllGo i names notes v s0 r (Some place) [] ((Ignores why ∷ []) ∷ [])) same_first
      (ignored_go i names notes f.fit.fit.distinct s0 r place first why (subst (AreStepsFit i r) is f.fit.steps))))

  rejects : items_then i r cid header ≡ rejected a ∷ [] → ArrivesTo
  rejects is =
      not_held (ap (λ ms. is_held_first request (effects_of i.outbox.session r.both.trace ms)) is) (ap (list_all admits_alone) is) (ap (starts_late r.both.event) is) (ap (list_all enters_once) is)
      (subst (AllGo i names notes (none_unswept s) s0 r (Some place) []) (sym is) (subst (λ (v : Unswept). AllGo i names notes v s0 r (Some place) [] (rejected a ∷ [])) same_first
      (rejected_go i names notes f.fit.fit.distinct s0 r place first (connection_of a.request) (Reject 5 (header_of a.request)) (subst (AreStepsFit i r) is f.fit.steps))))

  executes : (d : Deeds) (rest : List (List Mark)) → is_immediate a.request ≡ true → IsDone i.outbox.session r.both.trace AtArrival a d → Opens i.outbox.session a (marks_done a d) → items_then i r cid header ≡ (Executes a ∷ marks_done a d) ∷ rest → EachOn (IsDue i.outbox.session) ((Executes a ∷ marks_done a d) ∷ r.both.trace) rest → ArrivesTo
  executes d rest immediate does opens is due =
      not_held (ap (λ ms. is_held_first request (effects_of i.outbox.session r.both.trace ms)) is ∙ ap not immediate) (ap (list_all admits_alone) is ∙ due_alone i rest ((Executes a ∷ marks_done a d) ∷ r.both.trace) due) (ap (starts_late r.both.event) is ∙ ap not (eq-eqb r.both.event r.both.event refl)) (once_by ((Executes a ∷ marks_done a d) ∷ rest) is by_item)
      (subst (AllGo i names notes (none_unswept s) s0 r (Some place) []) (sym is)
      (subst (λ (v : Unswept). AllGo i names notes v s0 r (Some place) [] ((Executes a ∷ marks_done a d) ∷ rest)) same_first
      (executed_go i names notes f.fit.fit.distinct s0 r place first a refl f.before.waiting d rest does opens due (subst (AreStepsFit i r) is f.fit.steps))))
    where
      by_item : list_all enters_once ((Executes a ∷ marks_done a d) ∷ rest) ≡ true
      by_item = and_from (enters_once (Executes a ∷ marks_done a d)) (list_all enters_once rest) (item_once AtArrival a d) (due_once i rest ((Executes a ∷ marks_done a d) ∷ r.both.trace) due)

  -- ---- it is held first

  module _ (rest : List (List Mark)) (numbered : is_immediate a.request ≡ false) (new : is_received r.both.trace a.number ≡ false) (is : items_then i r cid header ≡ (Admits a ∷ []) ∷ rest) (due : EachOn (IsDue i.outbox.session) ((Admits a ∷ []) ∷ r.both.trace) rest) where
    steps : AreStepsFit i r ((Admits a ∷ []) ∷ rest)
    steps = subst (AreStepsFit i r) is f.fit.steps

    behind_first : (items : List (List Mark)) → AreStepsFit i (side_behind i r (Admits a ∷ [])) items → IsSound i.outbox (side_behind i r (Admits a ∷ [])).both.box
    behind_first [] h = h
    behind_first (item ∷ items) h = h.0.fit.sound

    abbrev held_state : State
    held_state = record s { held = held_now i names notes f.fit.fit.distinct s0 r place first a refl f.before.admitted f.before.waiting new (f.fit.received rest is) steps.0 (behind_first rest steps.1) }

    held_first : is_held_first request (effects_of i.outbox.session r.both.trace ((Admits a ∷ []) ∷ rest)) ≡ true
    held_first =
        ap (λ es. is_held_first request (enables es ++ effects_of i.outbox.session ((Admits a ∷ []) ∷ r.both.trace) rest)) (newly-untouched i.outbox.session r.both.trace (Admits a ∷ []) (record { enters_none = refl; leaves_no = λ n. refl }))
        ∙ by_rest rest ((Admits a ∷ []) ∷ r.both.trace) due
      where
        by_start : (items : List (List Mark)) (t : Trace) (item : List Mark) (start : Start) (b : Arrival) (ms : List Mark) → is_held_first request (effects_of_item i.outbox.session t (start_mark start b ∷ ms) ++ effects_of i.outbox.session (item ∷ t) items) ≡ true
        by_start items t item AtTurn b ms = ap not numbered
        by_start items t item AtArrival b ms = ap not numbered
        by_start items t item AfterWaiting b ms = ap not numbered

        by_rest : (items : List (List Mark)) (t : Trace) → EachOn (IsDue i.outbox.session) t items → is_held_first request (effects_of i.outbox.session t items) ≡ true
        by_rest [] t h = ap not numbered
        by_rest (item ∷ items) t h = ap (λ ms. is_held_first request (effects_of_item i.outbox.session t ms ++ effects_of i.outbox.session (item ∷ t) items)) h.0.is ∙ by_start items t item h.0.start h.0.a (marks_done h.0.a h.0.deeds)

    pub holds : ArrivesTo
    holds =
        subst (λ v. GoesTo i (done (cond v (happens i None e (changed (hold request place) begins)) (happens i (Some place) e begins))) (rules.done (happens_there i r e)))
        (sym (ap (λ ms. is_held_first request (effects_of i.outbox.session r.both.trace ms)) is ∙ held_first))
        (event_goes i names notes held_state r None [] e (event_of (ap (list_all admits_alone) is ∙ due_alone i rest ((Admits a ∷ []) ∷ r.both.trace) due) (ap (starts_late r.both.event) is) (once_by ((Admits a ∷ []) ∷ rest) is (due_once i rest ((Admits a ∷ []) ∷ r.both.trace) due))) (record { waits = begun_with.waits; replies_room = begun_with.replies_room; rooms = begun_with.rooms; few = begun_with.few; kept = few_kept held_state.held (length-set s.held.places (index_of (cmd_sn a.request) s.held) (Some place) ∙ f.slots.size_is); freed = begun_with.freed }) f.outbox
        (first_go i names notes (none_unswept s) (record held_state { outbox = outbox_first i r e lead s.outbox }) r None [] (items_then i r cid header) f.fit.replies
        (subst (AllGo i names notes (none_unswept s) (record held_state { outbox = outbox_first i r e lead s.outbox }) r None []) (sym is)
        (subst (λ (v : Unswept). AllGo i names notes v (record held_state { outbox = outbox_first i r e lead s.outbox }) r None [] ((Admits a ∷ []) ∷ rest)) same_first
        (received_go i names notes f.fit.fit.distinct s0 r place first a refl f.before.admitted f.before.waiting new (f.fit.received rest is) steps.0 (behind_first rest steps.1) rest due (f.fit.prompt rest is) steps.1)))) f.calm p.withheld)

  postponed : (rest : List (List Mark)) → is_immediate a.request ≡ true → waiting_on (connection_of a.request) r.both.trace < MOST_WAITING → items_then i r cid header ≡ (Waits a ∷ []) ∷ rest → EachOn (IsDue i.outbox.session) ((Waits a ∷ []) ∷ r.both.trace) rest → ArrivesTo
  postponed rest immediate few is due =
      not_held (ap (λ ms. is_held_first request (effects_of i.outbox.session r.both.trace ms)) is ∙ ap not immediate) (ap (list_all admits_alone) is ∙ due_alone i rest ((Waits a ∷ []) ∷ r.both.trace) due) (ap (starts_late r.both.event) is)
      (once_by ((Waits a ∷ []) ∷ rest) is (due_once i rest ((Waits a ∷ []) ∷ r.both.trace) due))
      (subst (AllGo i names notes (none_unswept s) s0 r (Some place) []) (sym is)
      (subst (λ (v : Unswept). AllGo i names notes v s0 r (Some place) [] ((Waits a ∷ []) ∷ rest)) same_first
      (postponed_go i names notes f.fit.fit.distinct s0 r place first a refl f.before.admitted f.before.waiting f.known f.fit.waits few rest due (subst (AreStepsFit i r) is f.fit.steps))))

  pub arrives_to : ArrivesTo
  arrives_to = by_becomes (becomes i.outbox.session r.both.trace a)
    where
      by_becomes : Becomes i.outbox.session r.both.trace a (items_then i r cid header) → ArrivesTo
      by_becomes (IsIgnored why is) = over why is
      by_becomes (IsRejected is) = rejects is
      by_becomes (IsReceived rest numbered new is due) = holds rest numbered new is due
      by_becomes (IsExecuted d rest immediate does opens is due) = executes d rest immediate does opens is due
      by_becomes (IsPostponed rest immediate few is due) = postponed rest immediate few is due
