-- The items of an event by which a request arrives, from the first one on.
use Rattle.std.proofs.Common.{◌≡◌, ℕ, ◌+◌, ◌<◌, ◌≤◌, ◌==◌, ◌&&◌, ⊎_elim, Bool, true, false, List, [], ◌∷◌, ◌++◌, length, find, Option, Some, None, is_some, nat_lt, refl, ap, sym, subst, ◌∙◌, arith, lt-ltb, ne_eqb, ◌⊎◌, filter_map}
use Rattle.std.proofs.lemmas.Bool.{cases_lt, eqb-true, false≢true}
use Rattle.std.proofs.lemmas.List.{append-nil}
use Rattle.iscsi_wire.specs.Fields.{connection_of}
use Rattle.iscsi_wire.specs.declared.reply.Reply.{Reply}
use Rattle.iscsi_rules.specs.declared.effect.Effect.{Effect}
use Rattle.iscsi_rules.specs.declared.effect.Effect.TheVariants.{Ignore}
use Rattle.iscsi_rules.specs.declared.effect.Why.{Why}
use Rattle.iscsi_rules.specs.rules.Management.{MOST_WAITING, waiting_on}
use Rattle.iscsi_rules.specs.rules.Run.{effects_of}
use Rattle.iscsi_rules.specs.rules.Settings.{are_distinct, is_known}
use Rattle.iscsi_rules.specs.rules.Trace.{Admits, Arrival, Executes, Ignores, Mark, Sends, Waits, held, is_received, shown, waiting}
use Rattle.iscsi_rules.proofs.general.CountLemmas.{one}
use Rattle.iscsi_rules.proofs.items.Forms.{AtArrival, Deeds, IsDone, marks_done}
use Rattle.iscsi_rules.proofs.traces.NewlyLemmas.{Untouched, newly-untouched}
use Rattle.iscsi_outbox_rules.specs.rules.Boxes.{Box}
use Rattle.iscsi_outbox_rules.specs.rules.Items.{after_item, reply_sent}
use Rattle.iscsi_outbox_rules.specs.rules.Words.{is_running}
use Rattle.iscsi_outbox_rules.proofs.closes.ClosedParts.{EachOn}
use Rattle.iscsi_outbox_law.specs.private.Pairs.{EachOf}
use Rattle.iscsi_outbox_law.specs.private.Sound.{IsSound}
use Rattle.iscsi_outbox_law.proofs.general.PairLemmas.{each-weaken}
use Rattle.iscsi_outbox_steps.specs.State.{State as OutboxState}
use Rattle.iscsi_outbox_steps.specs.Steps.{after_item as steps_after_item}
use Rattle.iscsi_requests.specs.Numbers.{HeldNumbers, size_for}
use Rattle.iscsi_ffi_rules.specs.rules.Calls.{Interface}
use Rattle.iscsi_ffi_rules.specs.rules.Needs.{admitted_by, is_held, is_of_event, is_waiting as is_waiting_event}
use Rattle.iscsi_ffi_rules.specs.rules.Sides.{Side}
use Rattle.iscsi_ffi_steps.specs.State.{State}
use Rattle.iscsi_ffi_steps.specs.Walk.{on_effects}
use Rattle.iscsi_ffi_law.specs.Arrived.{AreStepsFit, IsReceivable, IsStepFit, effects_by, side_behind, starts_late}
use Rattle.iscsi_ffi_law.specs.Names.{Name, Note, place_named}
use Rattle.iscsi_ffi_law.specs.Parts.{IsRequest}
use Rattle.iscsi_ffi_law.specs.Stands.{AreRequests}
use Rattle.iscsi_ffi_law.specs.Uses.{count_functions, count_held}
use Rattle.iscsi_ffi_law.proofs.arrivals.Admitting.{distinct_with, held_with, requests_with, slots_with, some_with}
use Rattle.iscsi_ffi_law.proofs.arrivals.Asked.{any_nothing, find_nothing}
use Rattle.iscsi_ffi_law.proofs.items.Between.{IsBetween, arrival_headed, distinct_same, held_same, pending_of}
use Rattle.iscsi_ffi_law.proofs.completions.DoneShape.{enables}
use Rattle.iscsi_ffi_law.proofs.items.ItemsGo.{AllGo, all_due, executed_goes, first_sound, goes_then, led_due, none_more}
use Rattle.iscsi_ffi_law.proofs.general.Members.{each_in}
use Rattle.iscsi_ffi_law.proofs.calls.Moved.{IsMoved, requests_moved}
use Rattle.iscsi_ffi_law.proofs.requests.NameLemmas.{Named, found_named}
use Rattle.iscsi_ffi_law.proofs.arrivals.Opens.{Opens}
use Rattle.iscsi_ffi_law.proofs.items.Postponing.{postponed_goes}
use Rattle.iscsi_ffi_law.proofs.items.QuietBox.{empty_item, quiet_item}
use Rattle.iscsi_ffi_law.proofs.items.QuietItems.{IsUnheld, is_held_on}
use Rattle.iscsi_ffi_law.proofs.items.QuietRequests.{entered_on, requests_on}
use Rattle.iscsi_ffi_law.proofs.requests.Releases.{endings}
use Rattle.iscsi_ffi_law.proofs.arrivals.Slots.{slots_same}
use Rattle.iscsi_ffi_law.proofs.items.Stepping.{GoesOn, ItemGoes, last_then, plain_goes, runs_then, stands_then, still_clear}
use Rattle.iscsi_ffi_law.proofs.items.TailSends.{goes_sent, rejected_answering}
use Rattle.iscsi_ffi_law.proofs.arrivals.Turns.{IsDue}
use Rattle.iscsi_ffi_law.proofs.events.Unswept.{is_some_effect, put_state}
use Rattle.iscsi_ffi_law.proofs.items.Framing.{touched_in}
use Rattle.iscsi_requests.specs.Conns.{of_conn}
use Rattle.std.specs.List.{flat_map}
use Rattle.iscsi_rules.proofs.general.ElementLemmas.{In}
use Rattle.iscsi_ffi_law.proofs.items.Walking.{ends_with_it, walk_at}

-- the request that arrives isn't held yet, and doesn't wait
pub arrived_unheld : (names : List Name) (notes : List Note) (pending : ℕ → ℕ) (gone : ℕ → List (Option ℕ)) (s : State) (r : Side) → AreRequests names notes pending gone s r → EachOf (λ (b : Arrival). b.event < r.both.event) (shown admitted_by r.both.trace) → EachOf (λ (b : Arrival). b.event < r.both.event) (waiting r.both.trace) → (place : ℕ)
    → place_named names r.both.event ≡ Some place → count_held place s + count_functions place s ≡ 0
arrived_unheld names notes pending gone s r k before waits_before place named =
    let f : Named names r.both.event place = found_named names r.both.event place named in
    let q : IsRequest s r.both.trace f.name = each_in (IsRequest s r.both.trace) names f.name f.there k.named in
    let none : nat_lt 0 (count_held f.name.place s) ≡ false = sym q.held ∙ ap (λ e. is_held e r.both.trace) f.event_is ∙ unheld in
    let none_waits : nat_lt 0 (count_functions f.name.place s) ≡ false = sym q.waiting ∙ ap (λ e. is_waiting_event e r.both.trace) f.event_is ∙ unwaiting in
    let none_held : count_held place s ≡ 0 = subst (λ p. count_held p s ≡ 0) f.place_is (no_more (count_held f.name.place s) none) in
    let none_left : count_functions place s ≡ 0 = subst (λ p. count_functions p s ≡ 0) f.place_is (no_more (count_functions f.name.place s) none_waits) in
    omega (arith, none_held, none_left)
  where
    no_more : (n : ℕ) → nat_lt 0 n ≡ false → n ≡ 0
    no_more n none = ⊎_elim (λ more. absurd (false≢true (sym none ∙ lt-ltb 0 n more))) (λ few. omega (arith, few)) (cases_lt 0 n)

    none_yet : find (is_of_event r.both.event) (shown admitted_by r.both.trace) ≡ None
    none_yet = find_nothing (is_of_event r.both.event) (shown admitted_by r.both.trace)
        (λ b there. ne_eqb b.event r.both.event (λ same. let lt : b.event < r.both.event = each_in (λ (c : Arrival). c.event < r.both.event) (shown admitted_by r.both.trace) b there before in let none : ⊥ = omega (arith, same, lt) in none))

    unheld : is_held r.both.event r.both.trace ≡ false
    unheld = ap (λ (x : Option Arrival). elim x as (λ (y : Option Arrival). Bool) [ Some b ↦ is_some (held r.both.trace b.number) | None ↦ false ]) none_yet

    unwaiting : is_waiting_event r.both.event r.both.trace ≡ false
    unwaiting = any_nothing (is_of_event r.both.event) (waiting r.both.trace)
        (λ b there. ne_eqb b.event r.both.event (λ same. let lt : b.event < r.both.event = each_in (λ (c : Arrival). c.event < r.both.event) (waiting r.both.trace) b there waits_before in let none : ⊥ = omega (arith, same, lt) in none))

module _ (i : Interface) (names : List Name) (notes : List Note) (distinct : are_distinct i.outbox.session.conns ≡ true) where
  -- ---- it is passed over

  module _ (s : State) (r : Side) (place : ℕ) (k : IsBetween i names notes s r (Some place) []) (why : Why) (fit : IsStepFit i r (Ignores why ∷ [])) (sound : IsSound i.outbox (side_behind i r (Ignores why ∷ [])).both.box) where
    abbrev item : List Mark
    item = Ignores why ∷ []

    u : Untouched (Ignores why ∷ [])
    u = record { enters_none = refl; leaves_no = λ n. refl }

    v : IsUnheld (Ignores why ∷ [])
    v = record { admits = refl; admits_none = λ n. refl; delivers = λ n. refl; empties = λ n. refl }

    effects_are : effects_by i r (Ignores why ∷ []) ≡ Ignore why ∷ []
    effects_are = ap (λ ns. Ignore why ∷ enables ns) (newly-untouched i.outbox.session r.both.trace item u)

    box_same : after_item i.outbox r.both.box (effects_by i r (Ignores why ∷ [])) ≡ r.both.box
    box_same = ap (after_item i.outbox r.both.box) effects_are
        ∙ quiet_item i.outbox r.both.box (Ignore why ∷ []) None None (record { enables = refl; left = refl; entries = refl; entering = λ x. refl; closing = λ links. refl; executes = refl; sends = refl }) ∙ fit.fit.sound.settled

    abbrev outbox' : OutboxState
    outbox' = steps_after_item (effects_by i r item) s.outbox

    abbrev r1 : Side
    r1 = record r { both = record r.both { trace = item ∷ r.both.trace } }

    requests1 : AreRequests names notes (pending_of k.unswept None (Some place ∷ [])) k.gone s r1
    requests1 = requests_on names notes (pending_of k.unswept (Some place) []) k.gone s r k.requests item u r.both.event s.held s.functions (pending_of k.unswept None (Some place ∷ [])) (λ p. omega arith)
        (each-weaken (IsRequest s r.both.trace) (IsRequest s (item ∷ r.both.trace)) names (λ n e. record { held = is_held_on r.both.trace item v n.event ∙ e.held; waiting = e.waiting }) k.requests.named) k.requests.noted_apart

    moved : IsMoved names s r1 (after_item i.outbox r.both.box (effects_by i r (Ignores why ∷ [])))
    moved = subst (IsMoved names s r1) (sym box_same) (record { long = refl; sent = refl; queued = λ q within. (requests1.conns q within).queued; undue = requests1.undue; conn = λ q within. refl; left = λ q within. refl })

    abbrev state' : State
    state' = record s { outbox = steps_after_item (effects_by i r item) s.outbox }

    requests2 : AreRequests names notes (pending_of k.unswept None (Some place ∷ [])) k.gone state' (side_behind i r item)
    requests2 = subst (λ as'. AreRequests names notes (pending_of k.unswept None (Some place ∷ [])) k.gone state' (record (side_behind i r item) { answers = as' })) (sym (append-nil r.answers))
        (requests_moved names notes (pending_of k.unswept None (Some place ∷ [])) k.gone s r1 requests1 outbox' (after_item i.outbox r.both.box (effects_by i r item))
        (runs_then i names notes s r (Some place) [] k item fit.fit distinct sound (λ ticket. ap (λ (b : Box). is_running b ticket) box_same)) moved)

    ignored_goes : GoesOn i names notes k.unswept s r (Some place) [] (Ignores why ∷ [])
    ignored_goes = record {
      state = state';
      ended = Some place ∷ [];
      between = record {
        requests = requests2;
        slots = slots_same (size_for i.outbox.session.window) s.commands.room names s.held r.both.trace (item ∷ r.both.trace) (held_same r.both.trace item v) k.slots;
        functions = k.functions;
        unswept = k.unswept;
        gone = k.gone;
        long_replies = k.long_replies;
        long_noted = k.long_noted;
        clear = still_clear i names notes s r (Some place) [] k item fit.fit distinct sound;
        outbox = stands_then i names notes s r (Some place) [] k item fit.fit distinct sound;
        sizes = record { room = k.sizes.room; functions = k.sizes.functions; replies = k.sizes.replies; noted = k.sizes.noted; unwritten = k.sizes.unwritten; noted_room = k.sizes.noted_room; unwritten_room = k.sizes.unwritten_room; replies_room = k.sizes.replies_room; slots = k.sizes.slots; few = k.sizes.few };
        flags = record { awake = k.flags.awake; over = k.flags.over };
        counts = record { units = k.counts.units; last = (let same = ap length (entered_on r.both.trace item u) in let below = k.counts.last in omega (arith, same, below)); tracked = last_then i names notes s r (Some place) [] k item fit.fit distinct sound };
        withheld = k.withheld;
        distinct = distinct_same r.both.trace item v (λ e. omega arith) k.distinct;
        over = λ p some. by_place p (place == p) refl some;
        own_named = λ p none. absurd (let no : ⊥ = cc in no);
        own_unheld = λ p none. absurd (let no : ⊥ = cc in no);
        own_first = λ p none. absurd (let no : ⊥ = cc in no);
      };
      outbox = refl;
      room = refl;
      few = record { lives = omega arith; going = omega arith };
      same = refl;
      begins = ap is_some_effect effects_are;
      waits = omega arith;
      notes_kept = refl;
      walk = λ o limits acts first late rest led.
          ap (λ es. on_effects first (es ++ rest) (walk_at o s acts [] (Some place) r.both.box.sent)) effects_are
          ∙ ap (on_effects false rest) (ends_with_it o s acts [] (Some place) None None r.both.box.sent)
          ∙ ap (λ (b : Box). on_effects false rest (walk_at o state' acts (Some place ∷ []) None b.sent)) (sym box_same);
    }
      where
        by_place : (p : ℕ) (w : Bool) → (place == p) ≡ w → 1 ≤ endings (Some place ∷ []) p → count_held p s + count_functions p s ≡ 0
        by_place p true is some = ap (λ q. count_held q s + count_functions q s) (sym (eqb-true place p is)) ∙ k.own_unheld place refl
        by_place p false is some = absurd (let none : one (place == p) ≡ 0 = ap one is in let no : ⊥ = omega (arith, some, none) in no)

  -- ---- it is received

  module _ (s : State) (r : Side) (place : ℕ) (k : IsBetween i names notes s r (Some place) []) (a : Arrival) (now : a.event ≡ r.both.event) (before : EachOf (λ (b : Arrival). b.event < r.both.event) (shown admitted_by r.both.trace)) (waits_before : EachOf (λ (b : Arrival). b.event < r.both.event) (waiting r.both.trace)) (new : is_received r.both.trace a.number ≡ false)
      (receivable : IsReceivable i.outbox.session r.both.trace a) (fit : IsStepFit i r (Admits a ∷ [])) (sound : IsSound i.outbox (side_behind i r (Admits a ∷ [])).both.box) where
    abbrev admission : List Mark
    admission = Admits a ∷ []

    abbrev earlier : EachOf (λ (b : Arrival). b.event < a.event) (shown admitted_by r.both.trace)
    earlier = subst (λ e. EachOf (λ (b : Arrival). b.event < e) (shown admitted_by r.both.trace)) (sym now) before

    abbrev earlier_waits : EachOf (λ (b : Arrival). b.event < a.event) (waiting r.both.trace)
    earlier_waits = subst (λ e. EachOf (λ (b : Arrival). b.event < e) (waiting r.both.trace)) (sym now) waits_before

    abbrev its_name : place_named names a.event ≡ Some place
    its_name = ap (place_named names) now ∙ k.own_named place refl

    abbrev pub held_now : HeldNumbers
    held_now = held_with i.outbox.session names notes (pending_of k.unswept (Some place) []) k.gone s r k.requests k.slots k.distinct k.sizes.slots a earlier earlier_waits new receivable place its_name

    w : Untouched (Admits a ∷ [])
    w = record { enters_none = refl; leaves_no = λ n. refl }

    none_effects : effects_by i r (Admits a ∷ []) ≡ []
    none_effects = ap enables (newly-untouched i.outbox.session r.both.trace admission w)

    box_still : after_item i.outbox r.both.box (effects_by i r (Admits a ∷ [])) ≡ r.both.box
    box_still = ap (after_item i.outbox r.both.box) none_effects ∙ empty_item i.outbox r.both.box fit.fit.sound

    abbrev s1 : State
    s1 = record s { held = held_now }

    abbrev r2 : Side
    r2 = record r { both = record r.both { trace = admission ∷ r.both.trace } }

    requests_now : AreRequests names notes (pending_of k.unswept None []) k.gone s1 r2
    requests_now = requests_with i.outbox.session names notes (pending_of k.unswept (Some place) []) k.gone s r k.requests k.slots k.distinct k.sizes.slots a earlier earlier_waits new receivable place its_name r.both.event (pending_of k.unswept None []) (λ p. omega arith)

    moved_now : IsMoved names s1 r2 (after_item i.outbox r.both.box (effects_by i r (Admits a ∷ [])))
    moved_now = subst (IsMoved names s1 r2) (sym box_still) (record { long = refl; sent = refl; queued = λ q within. (requests_now.conns q within).queued; undue = requests_now.undue; conn = λ q within. refl; left = λ q within. refl })

    abbrev state_held : State
    state_held = record s { held = held_now; outbox = steps_after_item (effects_by i r admission) s.outbox }

    requests_then : AreRequests names notes (pending_of k.unswept None []) k.gone state_held (side_behind i r admission)
    requests_then = subst (λ as'. AreRequests names notes (pending_of k.unswept None []) k.gone state_held (record (side_behind i r admission) { answers = as' })) (sym (append-nil r.answers))
        (requests_moved names notes (pending_of k.unswept None []) k.gone s1 r2 requests_now (steps_after_item (effects_by i r admission) s.outbox) (after_item i.outbox r.both.box (effects_by i r admission))
        (runs_then i names notes s r (Some place) [] k admission fit.fit distinct sound (λ ticket. ap (λ (b : Box). is_running b ticket) box_still)) moved_now)

    pub between_held : IsBetween i names notes state_held (side_behind i r (Admits a ∷ [])) None []
    between_held = record {
      requests = requests_then;
      slots = slots_with i.outbox.session names notes (pending_of k.unswept (Some place) []) k.gone s r k.requests k.slots k.distinct k.sizes.slots a earlier earlier_waits new receivable place its_name;
      functions = k.functions;
      unswept = k.unswept;
      gone = k.gone;
      long_replies = k.long_replies;
      long_noted = k.long_noted;
      clear = still_clear i names notes s r (Some place) [] k admission fit.fit distinct sound;
      outbox = stands_then i names notes s r (Some place) [] k admission fit.fit distinct sound;
      sizes = record {
        room = k.sizes.room;
        functions = k.sizes.functions;
        replies = k.sizes.replies;
        noted = k.sizes.noted;
        unwritten = k.sizes.unwritten;
        noted_room = k.sizes.noted_room;
        unwritten_room = k.sizes.unwritten_room;
        replies_room = k.sizes.replies_room;
        slots = some_with i.outbox.session names notes (pending_of k.unswept (Some place) []) k.gone s r k.requests k.slots k.distinct k.sizes.slots a earlier earlier_waits new receivable place its_name;
        few = k.sizes.few;
      };
      flags = record { awake = k.flags.awake; over = k.flags.over };
      counts = record { units = k.counts.units; last = (let same = ap length (entered_on r.both.trace admission w) in let below = k.counts.last in omega (arith, same, below)); tracked = last_then i names notes s r (Some place) [] k admission fit.fit distinct sound };
      withheld = k.withheld;
      distinct = distinct_with i.outbox.session names notes (pending_of k.unswept (Some place) []) k.gone s r k.requests k.slots k.distinct k.sizes.slots a earlier earlier_waits new receivable place its_name;
      over = λ p some. absurd (let no : ⊥ = omega (arith, some) in no);
      own_named = λ p none. absurd (let no : ⊥ = cc in no);
      own_unheld = λ p none. absurd (let no : ⊥ = cc in no);
      own_first = λ p none. absurd (let no : ⊥ = cc in no);
    }

    pub received_go : (rest : List (List Mark)) → EachOn (IsDue i.outbox.session) ((Admits a ∷ []) ∷ r.both.trace) rest → starts_late r.both.event rest ≡ false → AreStepsFit i (side_behind i r (Admits a ∷ [])) rest
        → AllGo i names notes k.unswept s1 r None [] ((Admits a ∷ []) ∷ rest)
    unfolding between_held
    received_go rest due prompt fits =
        let later : AllGo i names notes k.unswept state_held (side_behind i r admission) None [] rest = all_due i names notes distinct rest state_held (side_behind i r admission) [] between_held due fits in
        record {
          state = later.state;
          ended = later.ended;
          between = later.between;
          outbox = later.outbox;
          room = later.room;
          few = omega (arith, later.few);
          stops = later.stops;
          waits = (let waits = later.waits in let same = none_sent in omega (arith, waits, same));
          notes_kept = later.notes_kept;
          touched = λ o found p. subst (λ (es : List Effect). ((of_conn p later.between.unswept.replies ≡ of_conn p k.unswept.replies) × (of_conn p later.between.unswept.noted ≡ of_conn p k.unswept.noted)) ⊎ In p (flat_map (touched_in o) (es ++ effects_of i.outbox.session (admission ∷ r.both.trace) rest))) (sym none_effects) (later.touched o found p);
          walk = λ o limits acts first late room few.
              ap (λ es. on_effects first (es ++ effects_of i.outbox.session (admission ∷ r.both.trace) rest) (walk_at o (put_state k.unswept s1) acts [] None r.both.box.sent)) none_effects
              ∙ ap (λ (b : Box). on_effects first (effects_of i.outbox.session (admission ∷ r.both.trace) rest) (walk_at o (put_state k.unswept s1) acts [] None b.sent)) (sym box_still)
              ∙ later.walk o limits acts first (ap (λ v. first && v) prompt ∙ and_none first) room (let same = none_sent in omega (arith, few, same));
        }
      where
        none_sent : length (filter_map reply_sent (effects_by i r admission ++ effects_of i.outbox.session (admission ∷ r.both.trace) rest)) ≡ length (filter_map reply_sent (effects_of i.outbox.session (admission ∷ r.both.trace) rest))
        none_sent = ap (λ (es : List Effect). length (filter_map reply_sent (es ++ effects_of i.outbox.session (admission ∷ r.both.trace) rest))) none_effects

        and_none : (v : Bool) → (v && false) ≡ false
        and_none true = refl
        and_none false = refl

  -- ---- each of these, from the first item on

  pub ignored_go : (s : State) (r : Side) (place : ℕ) (k : IsBetween i names notes s r (Some place) []) (why : Why) → AreStepsFit i r ((Ignores why ∷ []) ∷ []) → AllGo i names notes k.unswept s r (Some place) [] ((Ignores why ∷ []) ∷ [])
  ignored_go s r place k why fit =
      let g : ItemGoes i names notes k.unswept s r (Some place) [] (Ignores why ∷ []) = plain_goes i names notes k.unswept s r (Some place) [] (Ignores why ∷ []) refl (ignored_goes s r place k why fit.0 fit.1) in
      goes_then i names notes s r (Some place) [] k (Ignores why ∷ []) [] fit.0 distinct g (none_more i names notes distinct g.state (side_behind i r (Ignores why ∷ [])) g.ended g.between) refl

  pub rejected_go : (s : State) (r : Side) (place : ℕ) (k : IsBetween i names notes s r (Some place) []) (cid : ℕ) (reply : Reply) → AreStepsFit i r ((Sends cid reply ∷ []) ∷ []) → AllGo i names notes k.unswept s r (Some place) [] ((Sends cid reply ∷ []) ∷ [])
  rejected_go s r place k cid reply fit =
      let g : ItemGoes i names notes k.unswept s r (Some place) [] (Sends cid reply ∷ [])
      = plain_goes i names notes k.unswept s r (Some place) [] (Sends cid reply ∷ []) refl (goes_sent i names notes s r (Some place) [] k (Sends cid reply ∷ []) None cid r.both.event reply fit.0 distinct fit.1 (rejected_answering i names notes s r place [] k cid reply)) in
      goes_then i names notes s r (Some place) [] k (Sends cid reply ∷ []) [] fit.0 distinct g (none_more i names notes distinct g.state (side_behind i r (Sends cid reply ∷ [])) g.ended g.between) refl

  pub executed_go : (s : State) (r : Side) (place : ℕ) (k : IsBetween i names notes s r (Some place) []) (a : Arrival) (now : a.event ≡ r.both.event) (before : EachOf (λ (b : Arrival). b.event < r.both.event) (waiting r.both.trace)) (d : Deeds) (rest : List (List Mark)) → IsDone i.outbox.session r.both.trace AtArrival a d → Opens i.outbox.session a (marks_done a d)
      → EachOn (IsDue i.outbox.session) ((Executes a ∷ marks_done a d) ∷ r.both.trace) rest → AreStepsFit i r ((Executes a ∷ marks_done a d) ∷ rest)
      → AllGo i names notes k.unswept s r (Some place) [] ((Executes a ∷ marks_done a d) ∷ rest)
  executed_go s r place k a now before d rest done opens due fit =
      let item : List Mark = Executes a ∷ marks_done a d in
      let g : ItemGoes i names notes k.unswept s r (Some place) [] (Executes a ∷ marks_done a d)
      = executed_goes i names notes distinct s r (Some place) [] k AtArrival a d opens done fit.0 (first_sound i (side_behind i r item) rest fit.1) (arrival_headed i names notes s r place [] k a now before) in
      goes_then i names notes s r (Some place) [] k (Executes a ∷ marks_done a d) rest fit.0 distinct g
      (all_due i names notes distinct rest g.state (side_behind i r item) g.ended g.between due fit.1)
      (led_due i names notes distinct (item ∷ r.both.trace) rest due)

  pub postponed_go : (s : State) (r : Side) (place : ℕ) (k : IsBetween i names notes s r (Some place) []) (a : Arrival) (now : a.event ≡ r.both.event) (before : EachOf (λ (b : Arrival). b.event < r.both.event) (shown admitted_by r.both.trace)) (waits_before : EachOf (λ (b : Arrival). b.event < r.both.event) (waiting r.both.trace))
      → is_known (connection_of a.request) i.outbox.session.conns ≡ true → EachOf (λ (b : Arrival). waiting_on (connection_of b.request) r.both.trace ≤ MOST_WAITING) (waiting r.both.trace) → waiting_on (connection_of a.request) r.both.trace < MOST_WAITING
      → (rest : List (List Mark)) → EachOn (IsDue i.outbox.session) ((Waits a ∷ []) ∷ r.both.trace) rest → AreStepsFit i r ((Waits a ∷ []) ∷ rest) → AllGo i names notes k.unswept s r (Some place) [] ((Waits a ∷ []) ∷ rest)
  postponed_go s r place k a now before waits_before known all_wait one_waits rest due fit =
      let item : List Mark = Waits a ∷ [] in
      let g : ItemGoes i names notes k.unswept s r (Some place) [] (Waits a ∷ [])
      = plain_goes i names notes k.unswept s r (Some place) [] (Waits a ∷ []) refl (postponed_goes i names notes distinct s r place k a now before waits_before known all_wait one_waits fit.0 (first_sound i (side_behind i r item) rest fit.1)) in
      goes_then i names notes s r (Some place) [] k (Waits a ∷ []) rest fit.0 distinct g (all_due i names notes distinct rest g.state (side_behind i r item) g.ended g.between due fit.1) (led_due i names notes distinct (item ∷ r.both.trace) rest due)
