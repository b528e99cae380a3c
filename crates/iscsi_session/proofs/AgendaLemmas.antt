-- The agenda: what is left of it, function by function and number by number.
use Rattle.iscsi_session.proofs.Names.{eq-eqb, inl, ◌≡◌, ℕ, ◌+◌, ◌-◌, ◌<◌, ◌≤◌, ◌==◌, ◌&&◌, ◌||◌, not, cond, Bool, true, false, List, [], ◌∷◌, ◌++◌, filter, Option, Some, None, option_map, refl, ap, sym, ◌∙◌, arith, nat_lt, nat_le, is_some, subst, append_assoc, inr, ⊎_elim, find, list_any, filter_map, list_all, cases_Bool, nat_tests, append-nil, Request, lift, number_of_first, connection_of, is_immediate, itt, cmd_sn, Offer, Held, OutsideWindow, Known, Member, is_enabled_in, number_expected, room_of, at_place, offer_to, turned_on, advanced_if, advanced, Outside, Duplicate, Stale, Closed, Data, Event, Done, Setting, is_known, Arrival, Command, Mark, Admits, Trace, first_of, is_received, live, live_in, was_free, is_among, received, after_items, number_received, is_closed, exp_of, max_of, completion, sense_of_status, rejected, reply_of, with_turns, numbered, arrival_of, command_of, items_of, belongs, kind_of, arrival_as, arrival_open, arrival, agenda, item_of, function_item, functions_at, turn_at, immediate_item, newly_enabled, effects_of, effects_of_item, SessionFault, refusal_of, Core, kept, is_regular, IsRegularRequest, member_of, Agrees, Settled, StandsFor, arrival_waiting, is_gone, find_ticket, comes_on, set_at, with_offered, enabled_of, enabled_in, covers_ticket, left_answered, completed, Step, Appends, Continues, Runs, Handles, count_reply, is_among_open, Takes, unchanged, replied, not_flip, list_any-map, is_known-cids, filter-swap, list_all-filter, find-passes, filtered_among, is_none, enables, newly-untouched, wire-lift, first_passing, none_passing, ticket_alone, untouched-admits, completion_item, first_passes, quiet-completion, LeavesSome, Task, Reply, Scsi, list_all-map, HeldRequest, Effect, Waiting, may_wait, turn_taken, next_waiting, function_taken, arrival_by, comes_next, immediate_taken, after_items-append, expected_past, turn_receives_none, function_receives_none, functions_receive_none, immediate_receives_one, agenda-halves, effects_of-append, same_exp, turns, turns-more, PassedOver, Unknown, ExecutesKind, HasOneMore, RejectAnswer}
use Rattle.iscsi_session.specs.private.Steps.{refusal_by}
use Rattle.iscsi_session.proofs.WindowLemmas.{WindowAgrees-quiet, Next, next_request, passed_at, WindowAgrees-passed, read_inside, held_now, comes_alone, Delivered, delivered}
use Rattle.iscsi_session.proofs.AgreeLemmas.{find_kept, Regular, regular_parts, regular_live, settled_expected, settled_max, Stepped, Stepped-ignored, step_ignored, Agrees-admitted, known_of, Agrees-untouched, RepliesAgree-sent}
use Rattle.iscsi_session.proofs.ExecutionLemmas.{covered_in, gone_tickets, Leaving, leaving-agrees, leaving-effects, Follows, numbered_held}
use Rattle.iscsi_session.proofs.KeptLemmas.{started, continued, ended}
use Rattle.iscsi_session.proofs.SoundLemmas.{next_function, no_function}
use Rattle.iscsi_session.proofs.FunctionLemmas.{turned-item, waited-item, immediate-item}
use Rattle.iscsi_session.proofs.DeedLemmas.{stays_expected, executed_stays, function_stays, immediate_same}

-- ==== an arrival, a completion, and an event as a whole

-- ---- a completion

Stepped-completed : (o : Setting) (s : Core) (t : Trace) (c : Command) (ticket status : ℕ) → Settled o s t → first_of (filter (λ d. d.ticket == ticket) (live t)) ≡ Some c
    → Stepped o (left_answered s c.unit (covers_ticket c.ticket) (connection_of c.arrival.request) (Scsi (itt c.arrival.request) status (sense_of_status status))) t (completion_item c status ∷ [])
Stepped-completed o s t c ticket status h found =
    let a = h.agrees in
    let r : Regular o c = regular_parts o c (first_passes (λ d. d.ticket == ticket) (is_regular o) (live t) c (regular_live o s.live s.entered t a.lasts.commands) found) in
    let item : List Mark = completion_item c status in
    let covers : Task → Bool = covers_ticket c.ticket in
    let conn : ℕ = connection_of c.arrival.request in
    let reply : Reply = Scsi (itt c.arrival.request) status (sense_of_status status) in
    let one = (ticket_alone (λ d. d.ticket == ticket) (live t) c a.lasts.commands.apart found).0 in
    let gone : covered_in o t c.unit covers ≡ c ∷ [] = filter-swap (λ (d : Command). d.ticket == c.ticket) (λ (d : Command). d.unit == c.unit) (live t) ∙ rw (one, eq-eqb c.unit c.unit refl) in
    let leaves : LeavesSome item (is_gone covers (set_at s c.unit)) = record { enters_none = refl; some = λ k. sym (gone_tickets o t (set_at s c.unit) c.unit (a.lasts.sets.lists c.unit r.unit) covers k ∙ ap (is_among k) gone) } in
    let leaving : Leaving o s t item c.unit covers conn = search (a.lasts, WindowAgrees-quiet o s.window t item (quiet-completion c status) a.window, r.unit, r.known, leaves) in
    record {
      settled = record { agrees = leaving-agrees o s t item c.unit covers conn reply leaving; none_due = h.none_due };
      effects_are = rw (leaving-effects o s t item c.unit covers conn reply leaving, gone, append-nil (enables (newly_enabled o t item)));
      receives = inl (append-nil (received t));
    }

-- what a session finds by the ticket
pub Stepped-completion : (o : Setting) (s : Core) (t : Trace) (event ticket status : ℕ) → Settled o s t
    → Stepped o (completed s (enabled_in s.sets s.live ticket) status) t (items_of o event t (Done ticket status))
Stepped-completion o s t event ticket status h = by_ticket (first_of (filter (λ d. d.ticket == ticket) (live t))) refl
  where
    kept_is : enabled_in s.sets s.live ticket ≡ enabled_of s.sets ticket (option_map kept (first_of (filter (λ d. d.ticket == ticket) (live t))))
    kept_is = ap (enabled_of s.sets ticket) (ap (find_ticket ticket) h.agrees.lasts.commands.commands ∙ find_kept ticket (live t))

    by_ticket : (x : Option Command) → first_of (filter (λ d. d.ticket == ticket) (live t)) ≡ x → Stepped o (completed s (enabled_in s.sets s.live ticket) status) t (completion status (command_of t ticket))
    by_ticket None none = rw (kept_is, none, none_passing (λ d. was_free d t) ticket (live t) none) (Stepped-ignored o s t Stale h)
    by_ticket (Some c) found =
        let r : Regular o c = regular_parts o c (first_passes (λ d. d.ticket == ticket) (is_regular o) (live t) c (regular_live o s.live s.entered t h.agrees.lasts.commands) found) in
        let one = first_passing (λ d. was_free d t) ticket (live t) c h.agrees.lasts.commands.apart found in
        let enabled_here : is_enabled_in ticket (set_at s c.unit).list ≡ list_any (λ d. d.ticket == ticket && was_free d t) (live_in c.unit t) =
        ap (is_enabled_in ticket) (h.agrees.lasts.sets.lists c.unit r.unit) ∙ list_any-map (λ (m : Member). m.task.ticket == ticket && m.enabled) (member_of o t) (live_in c.unit t) in
        ⊎_elim
        (λ (free : was_free c t ≡ true). rw (kept_is, found, enabled_here, one.1, one.0, free) (Stepped-completed o s t c ticket status h found))
        (λ (barred : was_free c t ≡ false). rw (kept_is, found, enabled_here, one.1, one.0, barred) (Stepped-ignored o s t Stale h))
        (cases_Bool (was_free c t))

-- ---- an arrival

-- the number is outside the window of the definitions just where the window says so
outside_test : (o : Setting) (s : Core) (t : Trace) (n : ℕ) → Settled o s t
    → (nat_lt n (exp_of o t) || nat_lt (max_of o t) n) ≡ not (nat_le (number_expected s.window) n && nat_lt n (number_expected s.window + room_of s.window))
outside_test o s t n h = grind (arith, nat_tests, settled_max o s t h, settled_expected o s t h, h.agrees.window.few)

-- the agenda as a whole
abbrev pub whole_of : Setting → Core → Trace → List (List Mark)
whole_of o s t = agenda o (number_expected s.window) (exp_of o t - number_expected s.window) t

-- what comes of what the window says of a number. Where the request is held, it is at its place, and its turn may have come
abbrev pub Answered : Setting → Trace → Arrival → Core → Offer → Type 0
Answered o t a core OutsideWindow = Stepped o (step_ignored core Outside) t (numbered o t a)
Answered o t a core Known = Stepped o (step_ignored core Duplicate) t (numbered o t a)
Answered o t a core Held =
    Agrees o core ((Admits a ∷ []) ∷ t)
    × (numbered o t a ≡ (Admits a ∷ []) ∷ whole_of o core ((Admits a ∷ []) ∷ t))
    × ((rest : List (List Mark)) → effects_of o t ((Admits a ∷ []) ∷ rest) ≡ effects_of o ((Admits a ∷ []) ∷ t) rest)

answered : (o : Setting) (s : Core) (t : Trace) (a : Arrival) → Settled o s t → a.number ≡ lift (number_expected s.window) (cmd_sn a.request) → a.event ≡ s.taken - 1 → IsRegularRequest o a.number a.request
    → Answered o t a (with_offered s a.request) (offer_to s.window a.request)
answered o s t a h number event regular = by_tests (nat_le (number_expected s.window) a.number && nat_lt a.number (number_expected s.window + room_of s.window)) (is_received t a.number) refl refl
  where
    within : (nat_le (number_expected s.window) a.number && nat_lt a.number (number_expected s.window + room_of s.window)) ≡ true → (number_expected s.window ≤ a.number) × (a.number < number_expected s.window + room_of s.window)
    within is = grind (arith, nat_tests)

    by_tests : (b v : Bool) → (nat_le (number_expected s.window) a.number && nat_lt a.number (number_expected s.window + room_of s.window)) ≡ b → is_received t a.number ≡ v → Answered o t a (with_offered s a.request) (offer_to s.window a.request)
    by_tests false v is there = rw (← number, is, outside_test o s t a.number h, is) (Stepped-ignored o s t Outside h)
    by_tests true true is there =
        let at = within is in
        rw (← number, is, read_inside o s.window t a.number h.agrees.window at.0 (omega (arith, at.1)), there, outside_test o s t a.number h, is, there) (Stepped-ignored o s t Duplicate h)
    by_tests true false is gone =
        let at = within is in
        let t₁ : Trace = (Admits a ∷ []) ∷ t in
        let items_are : numbered o t a ≡ with_turns o t (Admits a ∷ []) = rw (outside_test o s t a.number h, is, gone) in
        rw (← number, is, read_inside o s.window t a.number h.agrees.window at.0 (omega (arith, at.1)), gone, ← event) (
          Agrees-admitted o s t a h.agrees at.0 at.1 gone regular,
          items_are ∙ ap (λ e. (Admits a ∷ []) ∷ agenda o e (exp_of o t₁ - e) t₁) (settled_expected o s t h),
          λ rest. ap (λ cs. enables cs ++ effects_of o t₁ rest) (newly-untouched o t (Admits a ∷ []) (untouched-admits a)),
        )

-- a numbered request that comes on one of the connections
pub offered_known : (o : Setting) (s : Core) (event : ℕ) (t : Trace) (r : Request) {answer : Offer} → offer_to s.window r ≡ answer → Settled o s t → is_immediate r ≡ false → is_known (connection_of r) s.conns ≡ true → s.taken ≡ event + 1
    → Answered o t (arrival_of o event t r) (with_offered s r) answer
offered_known o s event t r said h not_immediate known taken =
    subst (Answered o t (arrival_of o event t r) (with_offered s r)) said
    (answered o s t (arrival_of o event t r) h (ap (λ e. lift e (cmd_sn r)) (settled_expected o s t h)) (omega (arith, taken)) (record { numbered = not_immediate; known = known_of o s t _ h.agrees known; shows = rw (settled_expected o s t h, wire-lift) }))

-- ---- refusals

-- what the session found is what the definitions say
pub refusal_as : (o : Setting) (s : Core) (h : List Event) (e : Event) (x : Option SessionFault) → StandsFor o s h → refusal_by s e ≡ x → refusal_of o h e ≡ x
refusal_as o s h e x stands is =
    let same : comes_on s.conns e ≡ belongs o e = grind (arith, nat_tests, is_known-cids, stands.settled.agrees) in
    let here : refusal_by s e ≡ refusal_of o h e = cc same in
    sym here ∙ is

-- an event that isn't refused
pub taken_by : (s : Core) (e : Event) → refusal_by s e ≡ None → (comes_on s.conns e ≡ true) × (s.taken < s.events)
taken_by s e h = grind (arith, nat_tests)

-- ==== the agenda

-- ---- what is left

-- of some items that are due: the trace so far, what was appended for it, and that this and what is left of them give the whole
pub record Leads {S : Type 0} (has : S → List ℕ → List Effect → Type 0) (o : Setting) (t₀ : Trace) (out₀ : S) (whole : List (List Mark)) (s : Core) (out : S) (rest : Trace → List (List Mark)) : Type 0 where
  pub trace : Trace
  pub agrees : Agrees o s trace
  pub same : received trace ≡ received t₀
  pub effects : Continues has (effects_of o t₀ whole) (effects_of o trace (rest trace)) out₀ out
  pub after : after_items (rest trace) trace ≡ after_items whole t₀

-- where the agenda stands, before the functions of the next number and after them
abbrev pub left_before : Setting → Trace → Core → Trace → List (List Mark)
left_before o t₀ s t = agenda o (number_expected s.window) (exp_of o t₀ - number_expected s.window) t

abbrev pub left_after : Setting → Trace → Core → Trace → List (List Mark)
left_after o t₀ s t = turns o (number_expected s.window) (exp_of o t₀ - number_expected s.window) t

-- what is left of these functions
abbrev pub left_functions : Setting → Core → Trace → List (List Mark)
left_functions o s t = functions_at o (number_expected s.window) t

-- nothing is done yet
pub begun : {S : Type 0} (has : S → List ℕ → List Effect → Type 0) (o : Setting) (s : Core) (t : Trace) (out : S) (rest : Trace → List (List Mark)) → Agrees o s t → Leads has o t out (rest t) s out rest
begun has o s t out rest a = record { trace = t; agrees = a; same = refl; effects = started; after = refl }

module _ {S : Type 0} {has : S → List ℕ → List Effect → Type 0} {o : Setting} {t₀ : Trace} {out₀ : S} {whole : List (List Mark)} where
  -- some items more
  Leads-on : {s s' : Core} {out out' : S} {rest : Trace → List (List Mark)} (rest' : Trace → List (List Mark)) (d : Leads has o t₀ out₀ whole s out rest) (items : List (List Mark)) → Agrees o s' (after_items items d.trace)
      → received (after_items items d.trace) ≡ received d.trace → rest d.trace ≡ items ++ rest' (after_items items d.trace) → Appends has (effects_of o d.trace items) out out' → Leads has o t₀ out₀ whole s' out' rest'
  Leads-on rest' d items agrees same splits given = record {
    trace = after_items items d.trace;
    agrees = agrees;
    same = same ∙ d.same;
    effects = continued (effects_of o d.trace items) d.effects (ap (effects_of o d.trace) splits ∙ effects_of-append o items (rest' (after_items items d.trace)) d.trace) given;
    after = grind (arith, nat_tests, after_items-append, d.after);
  }

  -- one item more
  Leads-item : {capacity : S → ℕ} {s s' : Core} {out out' : S} {rest : Trace → List (List Mark)} (rest' : Trace → List (List Mark)) (d : Leads has o t₀ out₀ whole s out rest) (item : List Mark) (x : Step) → Takes has capacity x s' out out' → Follows o d.trace item x
      → filter_map number_received item ≡ [] → rest d.trace ≡ item ∷ rest' (item ∷ d.trace) → Leads has o t₀ out₀ whole s' out' rest'
  Leads-item {out = out} {out' = out'} rest' d item x takes done none splits =
      Leads-on rest' d (item ∷ []) (subst (λ v. Agrees o v (item ∷ d.trace)) (sym takes.core) done.0) (ap (λ ns. received d.trace ++ ns) none ∙ append-nil (received d.trace)) splits
      (subst (λ more. Appends has more out out') (done.1 ∙ sym (append-nil (effects_of_item o d.trace item))) takes.effects)

  -- nothing is left of them
  Leads-done : {s : Core} {out : S} {rest : Trace → List (List Mark)} (d : Leads has o t₀ out₀ whole s out rest) → rest d.trace ≡ [] → Runs has o t₀ whole s out₀ out
  Leads-done {s = s} {out = out} d nothing = record {
    agrees = subst (Agrees o s) (ap (λ items. after_items items d.trace) (sym nothing) ∙ d.after) d.agrees;
    effects = ended d.effects (ap (effects_of o d.trace) nothing);
  }

  -- and nothing more happens
  Runs-still : {capacity : S → ℕ} {s s' : Core} {out out' : S} → Runs has o t₀ whole s out₀ out → Takes has capacity (unchanged s) s' out out' → Runs has o t₀ whole s' out₀ out'
  Runs-still {out' = out'} r takes = record {
    agrees = subst (λ v. Agrees o v (after_items whole t₀)) (sym takes.core) r.agrees;
    effects = λ text es was. subst (has out' text) (append-nil (es ++ effects_of o t₀ whole)) (takes.effects text (es ++ effects_of o t₀ whole) (r.effects text es was));
  }

  -- ---- the functions of the next number

  -- the next one executes
  pub functions-on : {capacity : S → ℕ} {s s' : Core} {out out' : S} (x : Option Waiting) → next_waiting s ≡ x → is_some x ≡ true → Leads has o t₀ out₀ whole s out (left_functions o s) → Takes has capacity (function_taken s x) s' out out'
      → Leads has o t₀ out₀ whole s' out' (left_functions o s')
  functions-on None is some d takes = absurd cc
  functions-on {s = s} {s' = s'} (Some w) is some d takes =
      let t : Trace = d.trace in
      let a : Arrival = arrival_waiting o.first w in
      let item : List Mark = function_item o t a in
      let y : Step = function_taken s (Some w) in
      let at : number_of_first o.first + s.window.turned ≡ number_expected s.window = omega (arith, d.agrees.window.first) in
      let next : functions_at o (number_expected s.window) t ≡ item ∷ functions_at o (number_expected s.window) (item ∷ t) =
      subst (λ k. functions_at o k t ≡ item ∷ functions_at o k (item ∷ t)) at (next_function o t s.waiting s.window.turned w d.agrees.waiting.list is) in
      let may : may_wait a.request ≡ true = find-passes (λ (v : Waiting). v.turn == s.window.turned) (λ v. may_wait v.request) s.waiting w d.agrees.waiting.may is in
      Leads-item (left_functions o s') d item y takes (waited-item o s t w d.agrees is) (function_receives_none o t a may)
      (next ∙ ap (λ k. item ∷ functions_at o k (item ∷ t)) (sym (ap (λ (v : Core). number_expected v.window) takes.core ∙ stays_expected 0 s y.core (function_stays s (Some w)))))

  -- there is none any more
  functions-done : {s : Core} {out : S} → next_waiting s ≡ None → Leads has o t₀ out₀ whole s out (left_functions o s) → Runs has o t₀ whole s out₀ out
  functions-done {s = s} none d =
      let at : number_expected s.window ≡ number_of_first o.first + s.window.turned = omega (arith, d.agrees.window.first) in
      Leads-done d (ap (λ k. functions_at o k d.trace) at ∙ no_function o d.trace s.waiting s.window.turned d.agrees.waiting.list none)

  pub functions-end : {capacity : S → ℕ} {s s' : Core} {out out' : S} → next_waiting s ≡ None → Leads has o t₀ out₀ whole s out (left_functions o s) → Takes has capacity (function_taken s (next_waiting s)) s' out out' → Runs has o t₀ whole s' out₀ out'
  functions-end {capacity = capacity} {s = s} {s' = s'} {out = out} {out' = out'} none d takes = Runs-still (functions-done none d) (subst (λ x. Takes has capacity (function_taken s x) s' out out') none takes)

  -- once they are taken
  pub Leads-functions : {s s' : Core} {out out' : S} → Leads has o t₀ out₀ whole s out (left_before o t₀ s) → number_expected s'.window ≡ number_expected s.window → ((o : Setting) (t : Trace) → Agrees o s t → Runs has o t (left_functions o s t) s' out out')
      → Leads has o t₀ out₀ whole s' out' (left_after o t₀ s')
  Leads-functions {s = s} {s' = s'} d same runs =
      let n : ℕ = number_expected s.window in
      let r = runs o d.trace d.agrees in
      let none : received (after_items (functions_at o n d.trace) d.trace) ≡ received d.trace = grind (arith, nat_tests, functions_receive_none, list_all-filter, list_all-map, d.agrees.waiting) in
      Leads-on (left_after o t₀ s') d (functions_at o n d.trace) r.agrees none
      (agenda-halves o n (exp_of o t₀ - n) d.trace ∙ ap (λ k. functions_at o n d.trace ++ turns o k (exp_of o t₀ - k) (after_items (functions_at o n d.trace) d.trace)) (sym same)) r.effects

  -- ---- a turn

  -- its request executes, or there is none
  pub turned-one : {capacity : S → ℕ} {s s' : Core} {out out' : S} (p : Option (Option HeldRequest)) → at_place s.window 0 ≡ p → is_some p ≡ true → Leads has o t₀ out₀ whole s out (left_after o t₀ s) → Takes has capacity (turn_taken s p) s' out out'
      → Leads has o t₀ out₀ whole s' out' (left_before o t₀ s')
  turned-one None place some d takes = absurd cc
  turned-one {s = s} {s' = s'} (Some (Some r)) place some d takes =
      let t : Trace = d.trace in
      let e : ℕ = number_expected s.window in
      let f : ℕ = exp_of o t₀ in
      let x : Next s.window t r = next_request o s.window t r d.agrees.window place in
      let item : List Mark = item_of o t x.arrival in
      let past : e < f = subst (λ m. e < m) (same_exp o t t₀ d.same) (expected_past o.first e t (λ k l u. d.agrees.window.below k l u) x.received_is) in
      let turn_is : turn_at o e t ≡ item ∷ [] = ap (λ y. elim y [ Some b ↦ item_of o t b ∷ [] | None ↦ [] ]) x.held_is in
      let on : Core = record s { window = advanced s.window } in
      let next : number_expected s'.window ≡ e + 1 =
      ap (λ (v : Core). number_expected v.window) takes.core ∙ stays_expected 1 on _ (executed_stays on r.request r.event) ∙ ap (λ q. number_expected (advanced_if s.window q)) place ∙ (let z : number_expected (turned_on s.window) ≡ e + 1 = omega arith in z) in
      Leads-item (left_before o t₀ s') d item (turn_taken s (Some (Some r))) takes (turned-item o s t r d.agrees place x) (turn_receives_none o t x.arrival (numbered_held o s t r d.agrees x))
      (turns-more o e f t past ∙ ap (λ now. now ++ agenda o (e + 1) (f - (e + 1)) (after_items now t)) turn_is ∙ ap (λ k. item ∷ agenda o k (f - k) (item ∷ t)) (sym next))
  turned-one {capacity = capacity} {s = s} {s' = s'} {out = out} {out' = out'} (Some None) place some d passes =
      let takes = subst (λ q. Takes has capacity (unchanged (record s { window = advanced_if s.window q })) s' out out') place passes in
      let t : Trace = d.trace in
      let e : ℕ = number_expected s.window in
      let f : ℕ = exp_of o t₀ in
      let a = d.agrees in
      let p = passed_at o s.window t a.window place in
      let past : e < f = subst (λ m. e < m) (same_exp o t t₀ d.same) (expected_past o.first e t (λ k l u. a.window.below k l u) p.0) in
      let turn_is : turn_at o e t ≡ [] = ap (λ y. elim y [ Some b ↦ item_of o t b ∷ [] | None ↦ [] ]) p.1 in
      let next : number_expected s'.window ≡ e + 1 = ap (λ (v : Core). number_expected v.window) takes.core ∙ (let z : number_expected (turned_on s.window) ≡ e + 1 = omega arith in z) in
      let now : Agrees o s' t = subst (λ v. Agrees o v t) (sym takes.core) (search (a, WindowAgrees-passed o s.window t a.window place)) in
      Leads-on (left_before o t₀ s') d [] now refl
      (turns-more o e f t past ∙ ap (λ now. now ++ agenda o (e + 1) (f - (e + 1)) (after_items now t)) turn_is ∙ ap (λ k. agenda o k (f - k) t) (sym next)) takes.effects

  -- no turn any more
  pub turns_done : {capacity : S → ℕ} {s new : Core} {out out' : S} → is_some (at_place s.window 0) ≡ false → Takes has capacity (turn_taken s (at_place s.window 0)) new out out' → Leads has o t₀ out₀ whole s out (left_after o t₀ s)
      → Handles has o t₀ whole (λ ns ns'. ns' ≡ ns) new out₀ out'
  turns_done {capacity = capacity} {s = s} {new = new} {out = out} {out' = out'} last x d =
      let none : at_place s.window 0 ≡ None = is_none (at_place s.window 0) last in
      let takes = subst (λ p. Takes has capacity (turn_taken s p) new out out') none x in
      let e : ℕ = number_expected s.window in
      let done : exp_of o t₀ - e ≡ 0 = omega (arith, same_exp o d.trace t₀ d.same, settled_expected o s d.trace (record { agrees = d.agrees; none_due = none })) in
      let nothing : turns o e (exp_of o t₀ - e) d.trace ≡ [] = ap (λ n. turns o e n d.trace) done in
      let c = Runs-still (Leads-done d nothing) takes in
      record {
        settled = record { agrees = c.agrees; none_due = ap (λ (v : Core). at_place v.window 0) takes.core ∙ none };
        effects = c.effects;
        receives = ap received (sym d.after ∙ ap (λ items. after_items items d.trace) nothing) ∙ d.same;
      }

-- where no function waits
pub none_wait : {S : Type 0} (has : S → List ℕ → List Effect → Type 0) (o : Setting) (t : Trace) (s : Core) (out : S) → next_waiting s ≡ None → Agrees o s t → Runs has o t (left_functions o s t) s out out
none_wait has o t s out none a = functions-done none (begun has o s t out (left_functions o s) a)

-- ---- a numbered request

-- what an agenda comes to, from each history with which a session agrees
abbrev pub RunsAgenda : {S : Type 0} → (S → List ℕ → List Effect → Type 0) → Core → Core → S → S → Type 0
RunsAgenda has s f out out' = (o : Setting) (t : Trace) → Agrees o s t → Handles has o t (whole_of o s t) (λ ns ns'. ns' ≡ ns) f out out'

-- it is delivered as it comes: what the agenda comes to from there is what it comes to with the request held
pub carried_at_once : {S : Type 0} (has : S → List ℕ → List Effect → Type 0) (capacity : S → ℕ) (s s' f : Core) (r : Request) (out out' out'' : S) → comes_next s r ≡ true → Takes has capacity (turn_taken (with_offered s r) (Some (Some (held_now s r)))) s' out out' → RunsAgenda has s' f out' out''
    → RunsAgenda has (with_offered s r) f out out''
carried_at_once has capacity s s' f r out out' out'' next x rest = λ o t a.
    let now : Core = with_offered s r in
    let whole : List (List Mark) = whole_of o now t in
    let parts = comes_alone s r next in
    let come : Delivered s.window (held_now s r) = delivered s.window (held_now s r) parts.1 in
    let none : next_waiting now ≡ None = ap (λ n. find (λ (w : Waiting). w.turn == n) s.waiting) come.grown_is.turned ∙ parts.0 in
    let due : Leads has o t out whole now out (left_after o t now) = Leads-functions (begun has o now t out (left_before o t now) a) refl (λ o t a. none_wait has o t now out none a) in
    let d : Leads has o t out whole s' out' (left_before o t s') = turned-one (Some (Some (held_now s r))) come.there refl due x in
    let left : whole_of o s' d.trace ≡ left_before o t s' d.trace = ap (λ e. agenda o (number_expected s'.window) (e - number_expected s'.window) d.trace) (same_exp o d.trace t d.same) in
    let ends : after_items (whole_of o s' d.trace) d.trace ≡ after_items whole t = ap (λ items. after_items items d.trace) left ∙ d.after in
    let c = rest o d.trace d.agrees in
    record {
      settled = subst (Settled o f) ends c.settled;
      effects = ended (continued (effects_of o d.trace (whole_of o s' d.trace)) d.effects (ap (effects_of o d.trace) (sym left) ∙ sym (append-nil (effects_of o d.trace (whole_of o s' d.trace)))) c.effects) refl;
      receives = ap received (sym ends) ∙ c.receives ∙ d.same;
    }

-- a request that is held
pub held_handled : {S : Type 0} (has : S → List ℕ → List Effect → Type 0) (o : Setting) (s s' f : Core) (index : ℕ) (t : Trace) (r : Request) (out out' : S) → Answered o t (arrival_of o index t r) (with_offered s r) Held → s' ≡ with_offered s r → RunsAgenda has s' f out out'
    → Handles has o t (numbered o t (arrival_of o index t r)) HasOneMore f out out'
held_handled has o s s' f index t r out out' h is runs =
    let a : Arrival = arrival_of o index t r in
    let t₁ : Trace = (Admits a ∷ []) ∷ t in
    let rest : List (List Mark) = whole_of o (with_offered s r) t₁ in
    let done = subst (λ (v : Core). RunsAgenda has v f out out') is runs o t₁ h.0 in
    subst (λ (items : List (List Mark)). Handles has o t items HasOneMore f out out') (sym h.1) (record {
      settled = done.settled;
      effects = λ text es was. subst (λ more. has out' text (es ++ more)) (sym (h.2 rest)) (done.effects text es was);
      receives = inr (a.number, done.receives);
    })

-- ---- an arrival that isn't numbered

-- it is passed over
pub passed_over : (o : Setting) (s : Core) (index : ℕ) (t : Trace) (r : Request) → Settled o s t → kind_of r ≡ PassedOver → Stepped o (step_ignored s Data) t (arrival_open o t (arrival_of o index t r))
passed_over o s index t r h kind = subst (λ k. Stepped o (step_ignored s Data) t (arrival_as o t (arrival_of o index t r) k)) (sym kind) (Stepped-ignored o s t Data h)

-- it is rejected
pub rejected_opcode : (o : Setting) (s : Core) (index : ℕ) (t : Trace) (r : Request) → Settled o s t → kind_of r ≡ Unknown → is_known (connection_of r) o.conns ≡ true
    → Stepped o (replied s (connection_of r) (reply_of r (RejectAnswer 5))) t (arrival_open o t (arrival_of o index t r))
rejected_opcode o s index t r h kind known =
    let item : List Mark = rejected (arrival_of o index t r) in
    rw kind (record {
      settled = record {
        agrees = Agrees-untouched o s t item s.window (count_reply (connection_of r) s.conns) s.waiting (search) (search) h.agrees.lasts refl (WindowAgrees-quiet o s.window t item (search) h.agrees.window) (RepliesAgree-sent o s.conns t item (connection_of r) refl known h.agrees.replies) (search);
        none_due = h.none_due;
      };
      effects_are = rw (newly-untouched o t item (search), h.agrees.replies.stat_sns (connection_of r) known);
      receives = inl (append-nil (received t));
    })

-- an immediate request executes, waits or is refused, and the agenda follows
pub at_once : {S : Type 0} (has : S → List ℕ → List Effect → Type 0) (capacity : S → ℕ) (o : Setting) (s s' f : Core) (index : ℕ) (t : Trace) (r : Request) (out out' out'' : S) → Settled o s t → kind_of r ≡ ExecutesKind → is_immediate r ≡ true → is_known (connection_of r) o.conns ≡ true → s.taken ≡ index + 1 → list_all (λ w. nat_lt (w.event + 1) s.taken) s.waiting ≡ true
    → Takes has capacity (immediate_taken s r (arrival_by s r)) s' out out' → RunsAgenda has s' f out' out'' → Handles has o t (arrival_open o t (arrival_of o index t r)) HasOneMore f out out''
at_once has capacity o s s' f index t r out out' out'' h kind immediate known taken waited x runs =
    let a : Arrival = arrival_of o index t r in
    let item : List Mark = immediate_item o t a in
    let t₁ : Trace = item ∷ t in
    let first = immediate-item o s index t r h immediate known taken waited in
    let start : exp_of o t ≡ number_expected s'.window = settled_expected o s t h ∙ sym (ap (λ (v : Core). number_expected v.window) x.core ∙ (immediate_same s r).expected) in
    let rest : List (List Mark) = whole_of o s' t₁ in
    let items_are : arrival_open o t a ≡ item ∷ rest = ap (arrival_as o t a) kind ∙ ap (λ b. cond b (with_turns o t item) (numbered o t a)) immediate ∙ ap (λ e. item ∷ agenda o e (exp_of o t₁ - e) t₁) start in
    let done = runs o t₁ (subst (λ (v : Core). Agrees o v t₁) (sym x.core) first.0) in
    subst (λ (items : List (List Mark)). Handles has o t items HasOneMore f out out'') (sym items_are) (record {
      settled = done.settled;
      effects = λ text es was. subst (has out'' text) (ap (λ more. (es ++ more) ++ effects_of o t₁ rest) first.1 ∙ append_assoc es (effects_of_item o t item) (effects_of o t₁ rest)) (done.effects text (es ++ (immediate_taken s r (arrival_by s r)).effects) (x.effects text es was));
      receives = ⊎_elim (λ nothing. inl (done.receives ∙ ap (λ ns. received t ++ ns) nothing ∙ append-nil (received t))) (λ one. inr (one.0, done.receives ∙ ap (λ ns. received t ++ ns) one.1)) (immediate_receives_one o t a);
    })

-- ---- an arrival on a connection that is closed

-- the session knows which connections are open
open_is : (o : Setting) (s : Core) (t : Trace) (conn : ℕ) → Agrees o s t → is_known conn o.conns ≡ true → is_among_open conn s.open_conns ≡ not (is_closed conn t)
open_is o s t conn h known = grind (arith, nat_tests, filtered_among, list_any-map)

pub opened_arrival : (o : Setting) (s : Core) (index : ℕ) (t : Trace) (r : Request) → Agrees o s t → is_known (connection_of r) o.conns ≡ true → is_among_open (connection_of r) s.open_conns ≡ true
    → arrival o t (arrival_of o index t r) ≡ arrival_open o t (arrival_of o index t r)
opened_arrival o s index t r h known there = grind (arith, nat_tests, not_flip, open_is)

pub closed_arrival : (o : Setting) (s : Core) (index : ℕ) (t : Trace) (r : Request) → Settled o s t → is_known (connection_of r) o.conns ≡ true → is_among_open (connection_of r) s.open_conns ≡ false
    → Stepped o (step_ignored s Closed) t (arrival o t (arrival_of o index t r))
closed_arrival o s index t r h known gone =
    let closed : is_closed (connection_of r) t ≡ true = grind (arith, nat_tests, not_flip, open_is o s t (connection_of r) h.agrees known) in rw closed (Stepped-ignored o s t Closed h)
