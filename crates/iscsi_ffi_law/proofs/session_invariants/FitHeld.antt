-- No more requests are held than the window has numbers.
use Rattle.std.proofs.Common.{◌≡◌, ℕ, ◌≤◌, ◌==◌, ◌&&◌, nat_lt, true, false, List, [], ◌∷◌, map, find, length, count_by, Option, Some, None, is_some, refl, ap, ◌∙◌, ⊎_elim, arith, eq-eqb}
use Rattle.std.specs.List.{range_with_len}
use Rattle.std.proofs.lemmas.Bool.{cases_lt, eqb-true, false≢true, lt-ltb}
use Rattle.std.proofs.lemmas.List.FromFn.{length-range_with_len}
use Rattle.std.proofs.lemmas.List.{length-map}
use Rattle.iscsi_rules.specs.rules.Execution.{exp_of}
use Rattle.iscsi_rules.specs.rules.Trace.{Arrival, Trace, held, shown}
use Rattle.iscsi_rules.proofs.general.BoolLemmas.{and_both, and_parts}
use Rattle.iscsi_rules.proofs.general.CountLemmas.{count-cons, one}
use Rattle.iscsi_rules.proofs.general.ElementLemmas.{In, range-in}
use Rattle.iscsi_rules.proofs.traces.HeldLemmas.{held-number}
use Rattle.iscsi_slots.specs.Slots.{times}
use Rattle.iscsi_requests.specs.Cookies.{Request, is_at, uses_at}
use Rattle.iscsi_ffi_rules.specs.rules.Calls.{Interface}
use Rattle.iscsi_ffi_rules.specs.rules.Needs.{admitted_by, is_held, is_of_event}
use Rattle.iscsi_ffi_rules.specs.rules.Sides.{Side}
use Rattle.iscsi_ffi_steps.specs.Steps.{Side as StepsSide}
use Rattle.iscsi_ffi_law.specs.Names.{Name, Note, count_words, place_named}
use Rattle.iscsi_ffi_law.specs.Parts.{IsNote, IsRequest}
use Rattle.iscsi_ffi_law.specs.Sides.{IsOpening}
use Rattle.iscsi_ffi_law.specs.Stands.{Stands}
use Rattle.iscsi_ffi_law.specs.Uses.{count_held, is_place}
use Rattle.iscsi_ffi_law.proofs.premises.FitFacts.{limits}
use Rattle.iscsi_ffi_law.proofs.side_invariants.FitFree.{few_somes, fewer_requests, somes, times_somes}
use Rattle.iscsi_ffi_law.proofs.side_invariants.FitHolds.{Holds}
use Rattle.iscsi_ffi_law.proofs.session_invariants.FitReceived.{distinct_forms, near_held}
use Rattle.iscsi_ffi_law.proofs.general.Members.{counted_in, each_in, find_in, in_counted}
use Rattle.iscsi_ffi_law.proofs.requests.NameLemmas.{name_place}
use Rattle.iscsi_ffi_law.proofs.arrivals.Slots.{held_in, same_number}

-- ---- fewer places

as_request : ℕ → Request
as_request p = record { place = p; cookie = 0; uses = 0 }

as_requests : (p : ℕ) (xs : List ℕ) → count_by (is_at p) (map as_request xs) ≡ times p xs
unfolding as_request
as_requests p [] = refl
as_requests p (x ∷ xs) = let rest = as_requests p xs in omega (arith, rest, count-cons (is_at p) (as_request x) (map as_request xs))

fewer_places : (ys xs : List ℕ) → ((p : ℕ) → times p xs ≤ 1) → ((p : ℕ) → times p xs ≤ times p ys) → length xs ≤ length ys
fewer_places ys xs once there =
    let few = fewer_requests ys (map as_request xs) (λ p. omega (arith, as_requests p xs, once p)) (λ p. omega (arith, as_requests p xs, there p)) in
    let long = length-map xs as_request in
    omega (arith, few, long)

-- ---- the places of what is held

module _ (i : Interface) (opening : IsOpening i) (n : ℕ) (s : StepsSide) (r : Side) (st : Stands i s r) (h : Holds i n r) where
  abbrev t : Trace
  t = r.both.trace

  abbrev numbers : List ℕ
  numbers = range_with_len (exp_of i.outbox.session r.both.trace) i.outbox.session.window

  -- the place of the request that is held at a number
  place_at : ℕ → Option ℕ
  place_at m = elim (held r.both.trace m) [ Some b ↦ place_named st.names b.event | None ↦ None ]

  -- a place that has a use is that of a request, or of an own PDU
  request_of_place : (p : ℕ) → 1 ≤ count_held p s.state → (x : Name) × In x st.names × (x.place ≡ p)
  request_of_place p some =
      let uses = st.requests.uses p in
      by_found (find (is_at p) s.state.cookies.requests) refl (omega (arith, uses, some))
    where
      named : (cookie : ℕ) → 1 ≤ count_words p cookie st.names st.notes → (x : Name) × In x st.names × (x.place ≡ p)
      named cookie few =
          ⊎_elim
          (λ here.
          let x = counted_in (λ (y : Name). y.place == p && y.cookie == cookie) st.names (omega (arith, here)) in
          (x.x, x.there, eqb-true x.x.place p (and_parts (x.x.place == p) (x.x.cookie == cookie) x.passes).0))
          (λ none.
          let x = counted_in (λ (y : Note). y.place == p && y.cookie == cookie) st.notes (omega (arith, few, none)) in
          let place = eqb-true x.x.place p (and_parts (x.x.place == p) (x.x.cookie == cookie) x.passes).0 in
          let unheld = (each_in (IsNote s.state r.both.box.links) st.notes x.x x.there st.requests.noted_apart).held in
          let same = ap (λ q. count_held q s.state) place in
          absurd (let z : ⊥ = omega (arith, unheld, same, some) in z))
          (cases_lt 0 (count_by (λ (y : Name). y.place == p && y.cookie == cookie) st.names))

      by_found : (x : Option Request) → find (is_at p) s.state.cookies.requests ≡ x → 1 ≤ uses_at p s.state.cookies → (y : Name) × In y st.names × (y.place ≡ p)
      by_found None is used = absurd (let same : uses_at p s.state.cookies ≡ 0 = ap (λ z. elim z [ Some q ↦ q.uses | None ↦ 0 ]) is in let z : ⊥ = omega (arith, same, used) in z)
      by_found (Some q) is used =
          let f = find_in (is_at p) s.state.cookies.requests q is in
          let some_kept = in_counted (λ (x : Request). x.place == p && x.cookie == q.cookie) s.state.cookies.requests q f.0 (and_both (q.place == p) (q.cookie == q.cookie) f.1 (eq-eqb q.cookie q.cookie refl)) in
          let same = st.requests.kept p q.cookie in
          named q.cookie (omega (arith, some_kept, same))

  held_there : (p : ℕ) → 1 ≤ count_held p s.state → 1 ≤ count_by (is_place p) (map place_at numbers)
  unfolding place_at
  held_there p some =
      let x = request_of_place p some in
      let there = each_in (IsRequest s.state r.both.trace) st.names x.0 x.1 st.requests.named in
      let is : is_held x.0.event r.both.trace ≡ true = there.held ∙ ap (λ q. nat_lt 0 (count_held q s.state)) x.2 ∙ lt-ltb 0 (count_held p s.state) (omega (arith, some)) in
      by_found x.0 x.1 x.2 (find (is_of_event x.0.event) (shown admitted_by r.both.trace)) refl is
    where
      by_held : (x : Name) → In x st.names → x.place ≡ p → (a : Arrival) → In a (shown admitted_by r.both.trace) → a.event ≡ x.event → (y : Option Arrival) → held r.both.trace a.number ≡ y → is_some y ≡ true → 1 ≤ count_by (is_place p) (map place_at numbers)
      by_held x at place a there event None is some' = absurd (false≢true some')
      by_held x at place a there event (Some b) is some' =
          let distinct = distinct_forms i.outbox.session r.both.trace r.both.event h.together.forms in
          let same : b ≡ a = same_number r.both.trace distinct b a (held_in r.both.trace a.number b is) there (held-number r.both.trace a.number b is) in
          let near = near_held i.outbox.session r.both.trace r.both.event h.together.forms h.turned h.together.sounds h.wires (limits i opening).window a.number b is in
          let low = near.low in
          let high = near.high in
          let here : place_at a.number ≡ Some p =
          ap (λ z. elim z [ Some c ↦ place_named st.names c.event | None ↦ None ]) is ∙ ap (λ (c : Arrival). place_named st.names c.event) same ∙ ap (place_named st.names) event ∙ name_place st.names st.notes st.requests.apart x at ∙ ap (λ q. Some q) place in
          counted_map a.number numbers (range-in (exp_of i.outbox.session r.both.trace) i.outbox.session.window a.number low high) here
        where
          counted_map : (m : ℕ) (ms : List ℕ) → In m ms → place_at m ≡ Some p → 1 ≤ count_by (is_place p) (map place_at ms)
          counted_map m [] inside e = absurd inside
          counted_map m (k ∷ ms) inside e =
              ⊎_elim
              (λ here. let one_here : one (is_place p (place_at k)) ≡ 1 = ap (λ z. one (is_place p (place_at z))) here ∙ ap (λ z. one (is_place p z)) e ∙ ap one (eq-eqb p p refl) in omega (arith, one_here, count-cons (is_place p) (place_at k) (map place_at ms)))
              (λ later. let rest = counted_map m ms later e in omega (arith, rest, count-cons (is_place p) (place_at k) (map place_at ms))) inside

      by_found : (x : Name) → In x st.names → x.place ≡ p → (y : Option Arrival) → find (is_of_event x.event) (shown admitted_by r.both.trace) ≡ y → elim y [ Some a ↦ is_some (held r.both.trace a.number) | None ↦ false ] ≡ true → 1 ≤ count_by (is_place p) (map place_at numbers)
      by_found x at place None is some' = absurd (false≢true some')
      by_found x at place (Some a) is some' =
          let f = find_in (is_of_event x.event) (shown admitted_by r.both.trace) a is in
          by_held x at place a f.0 (eqb-true a.event x.event f.1) (held r.both.trace a.number) refl some'

  pub held_few : length (somes s.state.held.places) ≤ i.outbox.session.window
  held_few =
      let few = fewer_places (somes (map place_at numbers)) (somes s.state.held.places) once there in
      let long = length-range_with_len (exp_of i.outbox.session r.both.trace) i.outbox.session.window in
      omega (arith, few, few_somes (map place_at numbers), length-map numbers place_at, long)
    where
      once : (p : ℕ) → times p (somes s.state.held.places) ≤ 1
      once p = omega (arith, times_somes p s.state.held.places, st.slots.once p)

      there : (p : ℕ) → times p (somes s.state.held.places) ≤ times p (somes (map place_at numbers))
      there p =
          ⊎_elim
          (λ some. let here = held_there p (omega (arith, some)) in omega (arith, here, times_somes p s.state.held.places, times_somes p (map place_at numbers), st.slots.once p))
          (λ none. omega (arith, none, times_somes p s.state.held.places)) (cases_lt 0 (count_held p s.state))
