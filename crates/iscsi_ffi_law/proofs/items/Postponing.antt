-- A function waits: it keeps its place behind those that wait on its connection.
use Rattle.std.proofs.Common.{◌≡◌, ℕ, zero, suc, ◌+◌, ◌*◌, ◌<◌, ◌≤◌, ◌==◌, ◌||◌, ⊎_elim, cond, Bool, true, false, List, [], ◌∷◌, ◌++◌, length, count_by, filter, get_or, Some, None, nat_lt, refl, ap, sym, subst, ◌∙◌, arith, ne_eqb, eq-eqb, lt-ltb, length-set}
use Rattle.iscsi_rules.proofs.general.ListLemmas.{count_by-push}
use Rattle.std.specs.List.{list_any, position}
use Rattle.std.proofs.lemmas.Bool.{cases_eq, eqb-true}
use Rattle.std.proofs.lemmas.List.{append-nil, get_or-set_other, get_or-set_same}
use Rattle.std.proofs.lemmas.List.Elements.{filter-append}
use Rattle.std.proofs.lemmas.List.Folds.{list_any-append}
use Rattle.std.proofs.lemmas.List.Sums.{sum_by-append}
use Rattle.iscsi_wire.specs.Fields.{cmd_sn, connection_of}
use Rattle.iscsi_rules.specs.declared.effect.Effect.TheVariants.{Wait}
use Rattle.iscsi_rules.specs.rules.Management.{MOST_WAITING, waiting_on}
use Rattle.iscsi_rules.specs.rules.Settings.{are_distinct, is_known}
use Rattle.iscsi_rules.specs.rules.Trace.{Arrival, Mark, Waits, shown, waiting}
use Rattle.iscsi_rules.proofs.general.CountLemmas.{one, count-cons}
use Rattle.iscsi_rules.proofs.general.ElementLemmas.{In}
use Rattle.iscsi_rules.proofs.traces.NewlyLemmas.{Untouched, newly-untouched}
use Rattle.iscsi_outbox_rules.specs.rules.Boxes.{Box}
use Rattle.iscsi_outbox_rules.specs.rules.Items.{after_item}
use Rattle.iscsi_outbox_rules.specs.rules.Words.{is_running}
use Rattle.iscsi_outbox_law.specs.private.Pairs.{EachOf, PairsOf}
use Rattle.iscsi_outbox_law.specs.private.Sound.{IsSound}
use Rattle.iscsi_outbox_law.proofs.general.PairLemmas.{pairs-append, pairs-length}
use Rattle.iscsi_outbox_steps.specs.State.{Limits, State as OutboxState}
use Rattle.iscsi_outbox_steps.specs.Steps.{after_item as steps_after_item}
use Rattle.iscsi_requests.specs.Conns.{count_all, of_conn}
use Rattle.iscsi_requests.specs.Functions.{WaitingFunctions, pushed}
use Rattle.iscsi_requests.specs.Numbers.{size_for}
use Rattle.iscsi_requests.specs.declared.functions.WaitingFunction.{WaitingFunction}
use Rattle.iscsi_ffi_rules.specs.rules.Calls.{Interface}
use Rattle.iscsi_ffi_rules.specs.rules.Needs.{admitted_by, is_waiting}
use Rattle.iscsi_ffi_rules.specs.rules.Run.{cids}
use Rattle.iscsi_ffi_rules.specs.rules.Sides.{Side}
use Rattle.iscsi_ffi_steps.specs.State.{State}
use Rattle.iscsi_ffi_steps.specs.Walk.{end_item, on_effects, wait_on}
use Rattle.iscsi_ffi_law.specs.Arrived.{AreDistinct, IsStepFit, effects_by, side_behind}
use Rattle.iscsi_ffi_law.specs.Names.{Name, Note, place_named}
use Rattle.iscsi_ffi_law.specs.Parts.{AreFunctions, IsFunctionAt, IsNote, IsRequest}
use Rattle.iscsi_ffi_law.specs.Stands.{AreRequests}
use Rattle.iscsi_ffi_law.specs.Uses.{count_functions, count_lists}
use Rattle.iscsi_ffi_law.proofs.items.Between.{IsBetween, held_same, pending_of}
use Rattle.iscsi_ffi_law.proofs.completions.DoneShape.{enables}
use Rattle.iscsi_ffi_law.proofs.requests.KeptCounts.{few_on, long_filter}
use Rattle.iscsi_ffi_law.proofs.requests.Kept.{count_nothing}
use Rattle.iscsi_ffi_law.proofs.general.Lists.{lists_set}
use Rattle.iscsi_ffi_law.proofs.general.Members.{each_in, in_counted, in_each}
use Rattle.iscsi_ffi_law.proofs.calls.Moved.{IsMoved, requests_moved}
use Rattle.iscsi_ffi_law.proofs.requests.NameLemmas.{Named, found_named, place_event}
use Rattle.iscsi_ffi_law.proofs.items.QuietBox.{quiet_item}
use Rattle.iscsi_ffi_law.proofs.items.QuietItems.{IsUnheld, is_held_on}
use Rattle.iscsi_ffi_law.proofs.items.QuietRequests.{entered_on, requests_on}
use Rattle.iscsi_ffi_law.proofs.arrivals.Slots.{slots_same}
use Rattle.iscsi_ffi_law.proofs.items.Stepping.{GoesOn, last_then, runs_then, stands_then, still_clear}
use Rattle.iscsi_ffi_law.proofs.items.Waited.{IsCid, cid_known}
use Rattle.iscsi_ffi_law.proofs.events.Unswept.{is_some_effect}
use Rattle.iscsi_ffi_law.proofs.items.Walking.{walk_at}

-- ---- one waits more

module _ (cids : List ℕ) (names : List Name) (v : WaitingFunctions) (ws : List Arrival) (h : AreFunctions cids names v ws) (long : length v.waiting ≡ length cids) (a : Arrival) (p : ℕ) (within : p < length cids) (at : get_or cids p 0 ≡ connection_of a.request)
    (apart : (q : ℕ) → q < length cids → get_or cids q 0 ≡ connection_of a.request → q ≡ p) (place : ℕ) (named : place_named names a.event ≡ Some place) (none : count_lists (λ (f : WaitingFunction). f.request == place) v.waiting ≡ 0) where
  abbrev f : WaitingFunction
  f = record { number = cmd_sn a.request; request = place }

  abbrev pub more : WaitingFunctions
  more = pushed p (record { number = cmd_sn a.request; request = place }) v

  -- one waits more
  pub one_more : count_lists (λ (g : WaitingFunction). true) more.waiting ≡ count_lists (λ (g : WaitingFunction). true) v.waiting + 1
  one_more =
      let put = lists_set (λ (g : WaitingFunction). true) v.waiting p (of_conn p v.waiting ++ f ∷ []) (omega (arith, within, long)) in
      let longer = count_by-push (λ (g : WaitingFunction). true) (of_conn p v.waiting) f in
      omega (arith, put, longer)

  pub count_more : (q : ℕ) → count_lists (λ (g : WaitingFunction). g.request == q) more.waiting ≡ count_lists (λ (g : WaitingFunction). g.request == q) v.waiting + one (place == q)
  count_more q =
      let put = lists_set (λ (g : WaitingFunction). g.request == q) v.waiting p (of_conn p v.waiting ++ f ∷ []) (omega (arith, within, long)) in
      let longer = sum_by-append (λ (g : WaitingFunction). cond (g.request == q) 1 0) (of_conn p v.waiting) (f ∷ []) in
      let last = count-cons (λ (g : WaitingFunction). g.request == q) f [] in
      omega (arith, put, longer, last)

  pub long_more : length more.waiting ≡ length v.waiting
  long_more = length-set v.waiting p (of_conn p v.waiting ++ f ∷ [])

  pub more_are : AreFunctions cids names more (ws ++ a ∷ [])
  more_are = record {
    each = λ q short. ⊎_elim (λ same. here q short same) (λ other. there q short other) (cases_eq q p);
    once = λ q. by_place q (place == q) refl;
    room = h.room;
  }
    where
      by_place : (q : ℕ) (u : Bool) → (place == q) ≡ u → count_lists (λ (g : WaitingFunction). g.request == q) more.waiting ≤ 1
      by_place q true is =
          let one_here : one (place == q) ≡ 1 = ap one is in
          let nothing : count_lists (λ (g : WaitingFunction). g.request == q) v.waiting ≡ 0 = subst (λ m. count_lists (λ (g : WaitingFunction). g.request == m) v.waiting ≡ 0) (eqb-true place q is) none in
          omega (arith, one_here, nothing, count_more q)
      by_place q false is = let none_here : one (place == q) ≡ 0 = ap one is in omega (arith, none_here, h.once q, count_more q)

      here : (q : ℕ) → q < length cids → q ≡ p → PairsOf (IsFunctionAt names) (of_conn q more.waiting) (filter (λ (b : Arrival). connection_of b.request == get_or cids q 0) (ws ++ a ∷ []))
      here q short same = subst (λ m. PairsOf (IsFunctionAt names) (of_conn m more.waiting) (filter (λ (b : Arrival). connection_of b.request == get_or cids m 0) (ws ++ a ∷ []))) (sym same)
          (subst (λ fs. PairsOf (IsFunctionAt names) fs (filter (λ (b : Arrival). connection_of b.request == get_or cids p 0) (ws ++ a ∷ []))) (sym (get_or-set_same v.waiting p (of_conn p v.waiting ++ f ∷ []) [] (omega (arith, within, long))))
          (subst (PairsOf (IsFunctionAt names) (of_conn p v.waiting ++ f ∷ []))
          (sym (filter-append (λ (b : Arrival). connection_of b.request == get_or cids p 0) ws (a ∷ []) ∙ ap (λ u. filter (λ (b : Arrival). connection_of b.request == get_or cids p 0) ws ++ cond u (a ∷ []) []) (eq-eqb (connection_of a.request) (get_or cids p 0) (sym at))))
          (pairs-append (IsFunctionAt names) (of_conn p v.waiting) (f ∷ []) (filter (λ (b : Arrival). connection_of b.request == get_or cids p 0) ws) (a ∷ []) (h.each p within) (record { number = refl; named = named }, tt))))

      there : (q : ℕ) → q < length cids → (q ≡ p → ⊥) → PairsOf (IsFunctionAt names) (of_conn q more.waiting) (filter (λ (b : Arrival). connection_of b.request == get_or cids q 0) (ws ++ a ∷ []))
      there q short other =
          subst (λ fs. PairsOf (IsFunctionAt names) fs (filter (λ (b : Arrival). connection_of b.request == get_or cids q 0) (ws ++ a ∷ []))) (sym (get_or-set_other v.waiting p q (of_conn p v.waiting ++ f ∷ []) [] other))
          (subst (PairsOf (IsFunctionAt names) (of_conn q v.waiting))
          (sym (filter-append (λ (b : Arrival). connection_of b.request == get_or cids q 0) ws (a ∷ [])
          ∙ ap (λ u. filter (λ (b : Arrival). connection_of b.request == get_or cids q 0) ws ++ cond u (a ∷ []) []) (ne_eqb (connection_of a.request) (get_or cids q 0) (λ same. other (apart q short (sym same))))
          ∙ append-nil (filter (λ (b : Arrival). connection_of b.request == get_or cids q 0) ws)))
          (h.each q short))

-- ---- there is room for it

all_few : {A : Type 0} (lists : List (List A)) → ((p : ℕ) → p < length lists → length (of_conn p lists) ≤ 4) → count_all lists ≤ 4 * length lists
all_few [] few = omega arith
all_few (xs ∷ lists) few = let here = few 0 (omega arith) in let rest = all_few lists (λ p short. few (suc p) (omega (arith, short))) in omega (arith, here, rest)

one_less : {A : Type 0} (lists : List (List A)) (p : ℕ) → p < length lists → length (of_conn p lists) < 4 → ((q : ℕ) → q < length lists → length (of_conn q lists) ≤ 4) → count_all lists < 4 * length lists
one_less [] p within less few = absurd (omega (arith, within))
one_less (xs ∷ lists) zero within less few = let rest = all_few lists (λ q short. few (suc q) (omega (arith, short))) in omega (arith, less, rest)
one_less (xs ∷ lists) (suc p) within less few = let here = few 0 (omega arith) in let rest = one_less lists p (omega (arith, within)) less (λ q short. few (suc q) (omega (arith, short))) in omega (arith, here, rest)

or_none : (u : Bool) → (u || false) ≡ u
or_none true = refl
or_none false = refl

or_some : (u : Bool) → (u || true) ≡ true
or_some true = refl
or_some false = refl

-- ---- the item

module _ (i : Interface) (names : List Name) (notes : List Note) (distinct : are_distinct i.outbox.session.conns ≡ true) (s : State) (r : Side) (place : ℕ) (k : IsBetween i names notes s r (Some place) []) (a : Arrival) (now : a.event ≡ r.both.event)
    (before : EachOf (λ (b : Arrival). b.event < r.both.event) (shown admitted_by r.both.trace)) (waits_before : EachOf (λ (b : Arrival). b.event < r.both.event) (waiting r.both.trace)) (known : is_known (connection_of a.request) i.outbox.session.conns ≡ true)
    (all_wait : EachOf (λ (b : Arrival). waiting_on (connection_of b.request) r.both.trace ≤ MOST_WAITING) (waiting r.both.trace)) (one_waits : waiting_on (connection_of a.request) r.both.trace < MOST_WAITING)
    (fit : IsStepFit i r (Waits a ∷ [])) (sound : IsSound i.outbox (side_behind i r (Waits a ∷ [])).both.box) where
  abbrev item : List Mark
  item = Waits a ∷ []

  u : Untouched (Waits a ∷ [])
  u = record { enters_none = refl; leaves_no = λ n. refl }

  unheld_item : IsUnheld (Waits a ∷ [])
  unheld_item = record { admits = refl; admits_none = λ n. refl; delivers = λ n. refl; empties = λ n. refl }

  effects_are : effects_by i r (Waits a ∷ []) ≡ Wait (a.request) ∷ []
  effects_are = ap (λ ns. Wait (a.request) ∷ enables ns) (newly-untouched i.outbox.session r.both.trace item u)

  box_same : after_item i.outbox r.both.box (effects_by i r (Waits a ∷ [])) ≡ r.both.box
  box_same = ap (after_item i.outbox r.both.box) effects_are
      ∙ quiet_item i.outbox r.both.box (Wait (a.request) ∷ []) None None (record { enables = refl; left = refl; entries = refl; entering = λ x. refl; closing = λ links. refl; executes = refl; sends = refl }) ∙ fit.fit.sound.settled

  at : (p : ℕ) × ((position (λ (c : ℕ). c == connection_of a.request) s.outbox.limits.cids ≡ Some p) × IsCid i (connection_of a.request) p)
  at = cid_known i names notes s r (Some place) [] k distinct (connection_of a.request) known

  its_name : place_named names a.event ≡ Some place
  its_name = ap (place_named names) now ∙ k.own_named place refl

  none_waits : count_functions place s ≡ 0
  none_waits = let none = k.own_unheld place refl in omega (arith, none)

  abbrev functions' : WaitingFunctions
  functions' = more (cids i) names s.functions (waiting r.both.trace) k.functions k.sizes.functions a at.0 at.1.1.within at.1.1.at at.1.1.apart place its_name none_waits

  counted : (q : ℕ) → count_lists (λ (g : WaitingFunction). g.request == q) functions'.waiting ≡ count_functions q s + one (place == q)
  counted q = count_more (cids i) names s.functions (waiting r.both.trace) k.functions k.sizes.functions a at.0 at.1.1.within at.1.1.at at.1.1.apart place its_name none_waits q

  has_room : nat_lt (count_all s.functions.waiting) s.functions.room ≡ true
  has_room = lt-ltb (count_all s.functions.waiting) s.functions.room
      (let less = one_less s.functions.waiting at.0 (omega (arith, at.1.1.within, k.sizes.functions)) (let here = long_on at.0 at.1.1.within in let same : waiting_on (get_or (cids i) at.0 0) r.both.trace ≡ waiting_on (connection_of a.request) r.both.trace = ap (λ c. waiting_on c r.both.trace) at.1.1.at in omega (arith, here, same, one_waits))
      (λ q short. let inside : q < length (cids i) = (let l = k.sizes.functions in omega (arith, short, l)) in let here = long_on q inside in let few = few_on (waiting r.both.trace) all_wait (get_or (cids i) q 0) in omega (arith, here, few)) in
      let room = k.functions.room in let l = k.sizes.functions in omega (arith, less, room, l))
    where
      long_on : (q : ℕ) → q < length (cids i) → length (of_conn q s.functions.waiting) ≡ waiting_on (get_or (cids i) q 0) r.both.trace
      long_on q inside = pairs-length (IsFunctionAt names) (of_conn q s.functions.waiting) (filter (λ (b : Arrival). connection_of b.request == get_or (cids i) q 0) (waiting r.both.trace)) (k.functions.each q inside)
          ∙ long_filter (λ (b : Arrival). connection_of b.request == get_or (cids i) q 0) (waiting r.both.trace)

  abbrev s1 : State
  s1 = record s { functions = functions' }

  abbrev r1 : Side
  r1 = record r { both = record r.both { trace = item ∷ r.both.trace } }

  note_apart : (n : Note) → In n notes → (place == n.place) ≡ false
  note_apart n there = by_test (place == n.place) refl
    where
      own : Named names a.event place
      own = found_named names a.event place its_name

      by_test : (v : Bool) → (place == n.place) ≡ v → v ≡ false
      by_test false is = refl
      by_test true is =
          let one_name : 1 ≤ count_by (λ (m : Name). m.place == place) names = in_counted (λ (m : Name). m.place == place) names own.name own.there (eq-eqb own.name.place place own.place_is) in
          let one_note : 1 ≤ count_by (λ (m : Note). m.place == place) notes = in_counted (λ (m : Note). m.place == place) notes n there (eq-eqb n.place place (sym (eqb-true place n.place is))) in
          absurd (let none : ⊥ = omega (arith, one_name, one_note, k.requests.apart.places place) in none)

  waits_now : (n : Name) → In n names → (v : Bool) → (a.event == n.event) ≡ v → is_waiting n.event ((Waits a ∷ []) ∷ r.both.trace) ≡ nat_lt 0 (count_lists (λ (g : WaitingFunction). g.request == n.place) functions'.waiting)
  waits_now n there true is =
      let here : one (place == n.place) ≡ 1 = ap one (place_event names notes k.requests.apart n a.event place there its_name ∙ is) in
      list_any-append (λ (b : Arrival). b.event == n.event) (waiting r.both.trace) (a ∷ []) ∙ ap (λ w. list_any (λ (b : Arrival). b.event == n.event) (waiting r.both.trace) || (w || false)) is ∙ or_some (list_any (λ (b : Arrival). b.event == n.event) (waiting r.both.trace))
      ∙ sym (lt-ltb 0 (count_lists (λ (g : WaitingFunction). g.request == n.place) functions'.waiting) (omega (arith, here, counted n.place)))
  waits_now n there false is =
      let elsewhere : one (place == n.place) ≡ 0 = ap one (place_event names notes k.requests.apart n a.event place there its_name ∙ is) in
      let same : count_functions n.place s ≡ count_lists (λ (g : WaitingFunction). g.request == n.place) functions'.waiting = omega (arith, elsewhere, counted n.place) in
      list_any-append (λ (b : Arrival). b.event == n.event) (waiting r.both.trace) (a ∷ []) ∙ ap (λ w. list_any (λ (b : Arrival). b.event == n.event) (waiting r.both.trace) || (w || false)) is ∙ or_none (list_any (λ (b : Arrival). b.event == n.event) (waiting r.both.trace))
      ∙ (each_in (IsRequest s r.both.trace) names n there k.requests.named).waiting ∙ ap (nat_lt 0) same

  requests1 : AreRequests names notes (pending_of k.unswept None []) k.gone s1 r1
  requests1 = requests_on names notes (pending_of k.unswept (Some place) []) k.gone s r k.requests item u r.both.event s.held functions' (pending_of k.unswept None []) (λ p. omega (arith, counted p))
      (in_each (IsRequest (record s { functions = functions' }) (item ∷ r.both.trace)) names
      (λ n there. record { held = is_held_on r.both.trace item unheld_item n.event ∙ (each_in (IsRequest s r.both.trace) names n there k.requests.named).held; waiting = waits_now n there (a.event == n.event) refl }))
      (in_each (IsNote (record s { functions = functions' }) r.both.box.links) notes (λ n there.
      let q : IsNote s r.both.box.links n = each_in (IsNote s r.both.box.links) notes n there k.requests.noted_apart in
      let apart : one (place == n.place) ≡ 0 = ap one (note_apart n there) in
      let none = q.waiting in
      record { held = q.held; waiting = omega (arith, apart, none, counted n.place); home = q.home }))

  moved : IsMoved names s1 r1 (after_item i.outbox r.both.box (effects_by i r (Waits a ∷ [])))
  moved = subst (IsMoved names s1 r1) (sym box_same) (record { long = refl; sent = refl; queued = λ q within. (requests1.conns q within).queued; undue = requests1.undue; conn = λ q within. refl; left = λ q within. refl })

  abbrev outbox' : OutboxState
  outbox' = steps_after_item (effects_by i r item) s.outbox

  abbrev state' : State
  state' = record s { functions = functions'; outbox = steps_after_item (effects_by i r item) s.outbox }

  requests2 : AreRequests names notes (pending_of k.unswept None []) k.gone state' (side_behind i r item)
  requests2 = subst (λ as'. AreRequests names notes (pending_of k.unswept None []) k.gone state' (record (side_behind i r item) { answers = as' })) (sym (append-nil r.answers))
      (requests_moved names notes (pending_of k.unswept None []) k.gone s1 r1 requests1 outbox' (after_item i.outbox r.both.box (effects_by i r item))
      (runs_then i names notes s r (Some place) [] k item fit.fit distinct sound (λ ticket. ap (λ (b : Box). is_running b ticket) box_same)) moved)

  distinct_now : AreDistinct ((Waits a ∷ []) ∷ r.both.trace)
  distinct_now = record {
    numbers = λ n. subst (λ bs. count_by (λ (x : Arrival). x.number == n) bs ≤ 1) (sym shown_same) (k.distinct.numbers n);
    events = λ e. by_event e (a.event == e) refl;
  }
    where
      shown_same : shown admitted_by ((Waits a ∷ []) ∷ r.both.trace) ≡ shown admitted_by r.both.trace
      shown_same = append-nil (shown admitted_by r.both.trace)

      earlier : (e : ℕ) (bs : List Arrival) → a.event ≡ e → EachOf (λ (b : Arrival). b.event < r.both.event) bs → count_by (λ (x : Arrival). x.event == e) bs ≡ 0
      earlier e bs is each = count_nothing (λ (x : Arrival). x.event == e) bs (λ b there. ne_eqb b.event e (λ same. let lt : b.event < r.both.event = each_in (λ (c : Arrival). c.event < r.both.event) bs b there each in let none : ⊥ = omega (arith, same, lt, is, now) in none))

      by_event : (e : ℕ) (v : Bool) → (a.event == e) ≡ v → count_by (λ (x : Arrival). x.event == e) (shown admitted_by ((Waits a ∷ []) ∷ r.both.trace)) + count_by (λ (x : Arrival). x.event == e) (waiting r.both.trace ++ a ∷ []) ≤ 1
      by_event e true is =
          let here : one (a.event == e) ≡ 1 = ap one is in
          let same = ap (count_by (λ (x : Arrival). x.event == e)) shown_same in
          let longer = sum_by-append (λ (x : Arrival). cond (x.event == e) 1 0) (waiting r.both.trace) (a ∷ []) in
          let last = count-cons (λ (x : Arrival). x.event == e) a [] in
          omega (arith, here, same, longer, last, earlier e (shown admitted_by r.both.trace) (eqb-true a.event e is) before, earlier e (waiting r.both.trace) (eqb-true a.event e is) waits_before)
      by_event e false is =
          let here : one (a.event == e) ≡ 0 = ap one is in
          let same = ap (count_by (λ (x : Arrival). x.event == e)) shown_same in
          let longer = sum_by-append (λ (x : Arrival). cond (x.event == e) 1 0) (waiting r.both.trace) (a ∷ []) in
          let last = count-cons (λ (x : Arrival). x.event == e) a [] in
          omega (arith, here, same, longer, last, k.distinct.events e)

  pub postponed_goes : GoesOn i names notes k.unswept s r (Some place) [] (Waits a ∷ [])
  postponed_goes = record {
    state = state';
    ended = [];
    between = record {
      requests = requests2;
      slots = slots_same (size_for i.outbox.session.window) s.commands.room names s.held r.both.trace (item ∷ r.both.trace) (held_same r.both.trace item unheld_item) k.slots;
      functions = more_are (cids i) names s.functions (waiting r.both.trace) k.functions k.sizes.functions a at.0 at.1.1.within at.1.1.at at.1.1.apart place its_name none_waits;
      unswept = k.unswept;
      gone = k.gone;
      long_replies = k.long_replies;
      long_noted = k.long_noted;
      clear = still_clear i names notes s r (Some place) [] k item fit.fit distinct sound;
      outbox = stands_then i names notes s r (Some place) [] k item fit.fit distinct sound;
      sizes = record {
        room = k.sizes.room;
        functions = long_more (cids i) names s.functions (waiting r.both.trace) k.functions k.sizes.functions a at.0 at.1.1.within at.1.1.at at.1.1.apart place its_name none_waits ∙ k.sizes.functions;
        replies = k.sizes.replies;
        noted = k.sizes.noted;
        unwritten = k.sizes.unwritten;
        noted_room = k.sizes.noted_room;
        unwritten_room = k.sizes.unwritten_room;
        replies_room = k.sizes.replies_room;
        slots = k.sizes.slots;
        few = k.sizes.few;
      };
      flags = record { awake = k.flags.awake; over = k.flags.over };
      counts = record { units = k.counts.units; last = (let same = ap length (entered_on r.both.trace item u) in let below = k.counts.last in omega (arith, same, below)); tracked = last_then i names notes s r (Some place) [] k item fit.fit distinct sound };
      withheld = k.withheld;
      distinct = distinct_now;
      over = λ p some. absurd (let no : ⊥ = omega (arith, some) in no);
      own_named = λ p none. absurd (let no : ⊥ = cc in no);
      own_unheld = λ p none. absurd (let no : ⊥ = cc in no);
      own_first = λ p none. absurd (let no : ⊥ = cc in no);
    };
    outbox = refl;
    room = refl;
    few = record { lives = (let more = one_more (cids i) names s.functions (waiting r.both.trace) k.functions k.sizes.functions a at.0 at.1.1.within at.1.1.at at.1.1.apart place its_name none_waits in omega (arith, more)); going = omega arith };
    same = refl;
    begins = ap is_some_effect effects_are;
    waits = omega arith;
    notes_kept = refl;
    walk = λ o limits acts first late rest led.
        ap (λ es. on_effects first (es ++ rest) (walk_at o s acts [] (Some place) r.both.box.sent)) effects_are
        ∙ ap (λ z. on_effects false rest (wait_on (a.request) z (Some place) (end_item (walk_at o s acts [] (Some place) r.both.box.sent)))) (ap (λ (l : Limits). position (λ (c : ℕ). c == connection_of a.request) l.cids) (limits.limits ∙ sym k.outbox.sizes.limits) ∙ at.1.0)
        ∙ ap (λ v. on_effects false rest (cond v (walk_at o (record s { functions = functions' }) acts [] None r.both.box.sent) (end_item (walk_at o s acts [] (Some place) r.both.box.sent)))) has_room
        ∙ ap (λ (b : Box). on_effects false rest (walk_at o state' acts [] None b.sent)) (sym box_same);
  }
