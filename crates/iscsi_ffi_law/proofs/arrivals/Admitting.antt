-- A request is received at its number, and held from now on.
use Rattle.std.proofs.Common.{◌≡◌, ℕ, ◌+◌, ◌%◌, ◌<◌, ◌≤◌, ◌==◌, ◌&&◌, ◌||◌, ⊎_elim, inl, inr, cond, slice_index_or, Bool, true, false, List, [], ◌∷◌, ◌++◌, length, count_by, filter_map, find, Option, Some, None, is_some, nat_lt, refl, ap, sym, subst, ◌∙◌, arith, ne_eqb, lt-ltb, length-set}
use Rattle.std.proofs.lemmas.Bool.{and_from, cases_lt, eqb-true, eq-eqb, false≢true}
use Rattle.std.proofs.lemmas.List.{get_or-set_other, get_or-set_same}
use Rattle.std.proofs.lemmas.List.Sums.{sum_by-append}
use Rattle.iscsi_wire.specs.Fields.{cmd_sn}
use Rattle.iscsi_wire.specs.Serial.{wire}
use Rattle.iscsi_rules.specs.rules.Execution.{exp_of}
use Rattle.iscsi_rules.specs.rules.Settings.{Setting}
use Rattle.iscsi_rules.specs.rules.Trace.{Admits, Arrival, ClosesConn, ClosesSession, Delivers, Empties, Enters, Executes, Ignores, Leaves, Mark, Sends, Trace, Voids, Waits, held, is_delivered, is_emptied, is_received, number_received, shown, waiting}
use Rattle.iscsi_rules.proofs.general.BoolLemmas.{and_parts}
use Rattle.iscsi_rules.proofs.general.CountLemmas.{one, count-cons}
use Rattle.iscsi_rules.proofs.general.ElementLemmas.{In, append-in_first, append-in_second, in-append}
use Rattle.iscsi_rules.proofs.traces.HeldLemmas.{held-admits, held-here, held-number}
use Rattle.iscsi_outbox_law.specs.private.Pairs.{EachOf}
use Rattle.iscsi_requests.proofs.NumberLemmas.{is_whole, never_meet}
use Rattle.iscsi_requests.specs.Cookies as cookies
use Rattle.iscsi_requests.specs.Numbers.{HeldNumbers, index_of, size_for, with_held}
use Rattle.iscsi_ffi_rules.specs.rules.Needs.{admitted_by, is_held, is_of_event}
use Rattle.iscsi_ffi_rules.specs.rules.Sides.{Side}
use Rattle.iscsi_ffi_steps.specs.State.{State}
use Rattle.iscsi_ffi_law.specs.Arrived.{AreDistinct, IsReceivable}
use Rattle.iscsi_ffi_law.specs.Names.{Name, Note, place_named}
use Rattle.iscsi_ffi_law.specs.Parts.{AreHeld, IsHeldAt, IsNote, IsRequest}
use Rattle.iscsi_ffi_law.specs.Stands.{AreRequests}
use Rattle.iscsi_ffi_law.specs.Uses.{count_held, is_place}
use Rattle.iscsi_ffi_law.proofs.arrivals.Asked.{find_nothing}
use Rattle.iscsi_ffi_law.proofs.requests.Cookies.{used_there}
use Rattle.iscsi_ffi_law.proofs.requests.Kept.{count_nothing}
use Rattle.iscsi_ffi_law.proofs.general.Members.{Passing, counted_in, each_in, find_in, in_any, in_counted, in_each}
use Rattle.iscsi_ffi_law.proofs.requests.NameLemmas.{Named, found_named, place_event, same_event}
use Rattle.iscsi_ffi_law.proofs.items.QuietRequests.{requests_on}
use Rattle.iscsi_ffi_law.proofs.arrivals.Slots.{count_put, held_in, in_place, index_within, one_slot, same_number}

-- ---- what is received

received_both : (ms : List Mark) (a : Arrival) → In a (filter_map admitted_by ms) → In a.number (filter_map number_received ms)
received_both [] a at = absurd at
received_both (Admits b ∷ ms) a at = ⊎_elim (λ here. inl (ap (λ (x : Arrival). x.number) here)) (λ later. inr (received_both ms a later)) at
received_both (Delivers b ∷ ms) a at = received_both ms a at
received_both (Executes b ∷ ms) a at = received_both ms a at
received_both (Voids k ∷ ms) a at = inr (received_both ms a at)
received_both (Empties b ∷ ms) a at = received_both ms a at
received_both (Waits b ∷ ms) a at = received_both ms a at
received_both (Leaves c ∷ ms) a at = received_both ms a at
received_both (Enters c ∷ ms) a at = received_both ms a at
received_both (Sends conn reply ∷ ms) a at = received_both ms a at
received_both (ClosesConn conn ∷ ms) a at = received_both ms a at
received_both (ClosesSession ∷ ms) a at = received_both ms a at
received_both (Ignores why ∷ ms) a at = received_both ms a at

received_in : (t : Trace) (a : Arrival) → In a (shown admitted_by t) → In a.number (shown number_received t)
received_in [] a at = absurd at
received_in (item ∷ t) a at =
    ⊎_elim
    (λ before. append-in_first (shown number_received t) (filter_map number_received item) a.number (received_in t a before))
    (λ now. append-in_second (shown number_received t) (filter_map number_received item) a.number (received_both item a now))
    (in-append (shown admitted_by t) (filter_map admitted_by item) a at)

-- no other one has a number that isn't received yet
pub other_number : (t : Trace) (n : ℕ) → is_received t n ≡ false → (b : Arrival) → In b (shown admitted_by t) → (b.number == n) ≡ false
other_number t n new b there = by_test (b.number == n) refl
  where
    by_test : (v : Bool) → (b.number == n) ≡ v → v ≡ false
    by_test false is = refl
    by_test true is = absurd (false≢true (sym new ∙ in_any (λ k. k == n) (shown number_received t) b.number (received_in t b there) is))

find_last : {A : Type 0} (p : A → Bool) (xs : List A) (y : A) → find p xs ≡ None → p y ≡ true → find p (xs ++ y ∷ []) ≡ Some y
find_last p [] y none is = ap (λ v. cond v (Some y) None) is
find_last p (x ∷ xs) y none is = by_test (find_last p xs y) (p x) none
  where
    by_test : (find p xs ≡ None → p y ≡ true → find p (xs ++ y ∷ []) ≡ Some y) → (v : Bool) → cond v (Some x) (find p xs) ≡ None → cond v (Some x) (find p (xs ++ y ∷ [])) ≡ Some y
    by_test rest true k = absurd cc
    by_test rest false k = rest k is

find_other : {A : Type 0} (p : A → Bool) (xs : List A) (y : A) → p y ≡ false → find p (xs ++ y ∷ []) ≡ find p xs
find_other p [] y isnt = ap (λ v. cond v (Some y) None) isnt
find_other p (x ∷ xs) y isnt = ap (λ z. cond (p x) (Some x) z) (find_other p xs y isnt)

-- ---- it is received

module _ (o : Setting) (names : List Name) (notes : List Note) (pending : ℕ → ℕ) (gone : ℕ → List (Option ℕ)) (s : State) (r : Side) (k : AreRequests names notes pending gone s r) (h : AreHeld (size_for o.window) s.commands.room names s.held r.both.trace) (d : AreDistinct r.both.trace) (some : 0 < length s.held.places)
    (a : Arrival) (before : EachOf (λ (b : Arrival). b.event < a.event) (shown admitted_by r.both.trace)) (waits_before : EachOf (λ (b : Arrival). b.event < a.event) (waiting r.both.trace)) (new : is_received r.both.trace a.number ≡ false) (fit : IsReceivable o r.both.trace a) (place : ℕ) (named : place_named names a.event ≡ Some place) where
  abbrev t : Trace
  t = r.both.trace

  abbrev pub held_with : HeldNumbers
  held_with = with_held (cmd_sn a.request) (Some place) s.held

  abbrev pub admitted_trace : Trace
  admitted_trace = (Admits a ∷ []) ∷ r.both.trace

  abbrev slot_of : Arrival → ℕ
  slot_of b = index_of (cmd_sn b.request) s.held

  within : slot_of a < length s.held.places
  within = index_within (cmd_sn a.request) s.held some

  -- whoever is held has another slot
  apart_slots : (n : ℕ) (b : Arrival) → held t n ≡ Some b → slot_of b ≡ slot_of a → ⊥
  apart_slots n b is same =
      let y = fit.others n b is in
      y.1 (never_meet (size_for o.window) (is_whole o.window) (wire (exp_of o t)) (cmd_sn b.request) (cmd_sn a.request) y.0 fit.lies
      (ap (λ m. cmd_sn b.request % m) (sym h.size_is) ∙ same ∙ ap (λ m. cmd_sn a.request % m) h.size_is))

  -- a name whose place stands in a slot is that of a request that is held
  name_held : (n : Name) → In n names → 1 ≤ count_held n.place s → (b : Arrival) × ((m : ℕ) × (held t m ≡ Some b)) × (b.event ≡ n.event)
  name_held n there is_there =
      let q : IsRequest s t n = each_in (IsRequest s t) names n there k.named in
      by_found (find (is_of_event n.event) (shown admitted_by t)) refl (q.held ∙ lt-ltb 0 (count_held n.place s) (omega (arith, is_there)))
    where
      by_found : (x : Option Arrival) → find (is_of_event n.event) (shown admitted_by t) ≡ x → ◌≡◌ {A = Bool} (elim x [ Some b ↦ is_some (held t b.number) | None ↦ false ]) true
          → (b : Arrival) × ((m : ℕ) × (held t m ≡ Some b)) × (b.event ≡ n.event)
      by_found None found holds = absurd (false≢true holds)
      by_found (Some b) found holds = by_held (held t b.number) refl holds
        where
          by_held : (y : Option Arrival) → held t b.number ≡ y → is_some y ≡ true → (c : Arrival) × ((m : ℕ) × (held t m ≡ Some c)) × (c.event ≡ n.event)
          by_held None is none = absurd (false≢true none)
          by_held (Some c) is really =
              let at = find_in (is_of_event n.event) (shown admitted_by t) b found in
              let one_arrival : c ≡ b = same_number t d c b (held_in t b.number c is) at.0 (held-number t b.number c is) in
              (c, (b.number, is), ap (λ (x : Arrival). x.event) one_arrival ∙ eqb-true b.event n.event at.1)

  slot_free : slice_index_or s.held.places (slot_of a) None ≡ None
  slot_free = by_place (slice_index_or s.held.places (slot_of a) None) refl
    where
      of_name : (p : ℕ) (n : Name) → slice_index_or s.held.places (slot_of a) None ≡ Some p → In n names → n.place ≡ p → ⊥
      of_name p n is there same =
          let one_there : 1 ≤ count_held p s = in_place s.held.places (slot_of a) p within is in
          let b = name_held n there (subst (λ q. 1 ≤ count_held q s) (sym same) one_there) in
          let y : IsHeldAt names s.held b.0 = h.there b.1.0 b.0 b.1.1 in
          let f : Named names b.0.event y.place = found_named names b.0.event y.place y.named in
          let one_name : f.name ≡ n = same_event names notes k.apart f.name n f.there there (f.event_is ∙ b.2) in
          let place_is : y.place ≡ p = sym f.place_is ∙ ap (λ (m : Name). m.place) one_name ∙ same in
          apart_slots b.1.0 b.0 b.1.1 (one_slot s.held.places (slot_of b.0) (slot_of a) p (index_within (cmd_sn b.0.request) s.held some) within (y.slot ∙ ap (λ (m : ℕ). Some m) place_is) is (h.once p))

      by_place : (x : Option ℕ) → slice_index_or s.held.places (slot_of a) None ≡ x → x ≡ None
      by_place None is = refl
      by_place (Some p) is =
          let one_there : 1 ≤ count_held p s = in_place s.held.places (slot_of a) p within is in
          let used = used_there s.cookies k.counted p (let u = k.uses p in omega (arith, u, one_there)) in
          let at : cookies.Request = used.0 in
          let kept : 1 ≤ count_by (λ (q : cookies.Request). q.place == p && q.cookie == at.cookie) s.cookies.requests
          = in_counted (λ (q : cookies.Request). q.place == p && q.cookie == at.cookie) s.cookies.requests at used.1 (and_from (at.place == p) (at.cookie == at.cookie) (eq-eqb at.place p used.2) (eq-eqb at.cookie at.cookie refl)) in
          let words = k.kept p at.cookie in
          absurd (⊎_elim
          (λ is_name.
          let n : Passing (λ (m : Name). m.place == p && m.cookie == at.cookie) names = counted_in (λ (m : Name). m.place == p && m.cookie == at.cookie) names (omega (arith, is_name)) in
          of_name p n.x is n.there (eqb-true n.x.place p (and_parts (n.x.place == p) (n.x.cookie == at.cookie) n.passes).0))
          (λ unnamed.
          let n : Passing (λ (m : Note). m.place == p && m.cookie == at.cookie) notes = counted_in (λ (m : Note). m.place == p && m.cookie == at.cookie) notes (omega (arith, kept, words, unnamed)) in
          let same : n.x.place ≡ p = eqb-true n.x.place p (and_parts (n.x.place == p) (n.x.cookie == at.cookie) n.passes).0 in
          let q : IsNote s r.both.box.links n.x = each_in (IsNote s r.both.box.links) notes n.x n.there k.noted_apart in
          let zero_too : count_held p s ≡ 0 = ap (λ m. count_held m s) (sym same) ∙ q.held in
          let nothing : ⊥ = omega (arith, zero_too, one_there) in nothing)
          (cases_lt 0 (count_by (λ (m : Name). m.place == p && m.cookie == at.cookie) names)))

  pub count_with : (p : ℕ) → count_by (is_place p) held_with.places ≡ count_held p s + one (place == p)
  count_with p =
      let put = count_put (is_place p) s.held.places (slot_of a) (Some place) within in
      let none : one (is_place p (slice_index_or s.held.places (slot_of a) None)) ≡ 0 = ap (λ x. one (is_place p x)) slot_free in
      omega (arith, put, none)

  long_with : length held_with.places ≡ length s.held.places
  long_with = length-set s.held.places (slot_of a) (Some place)

  pub some_with : 0 < length held_with.places
  some_with = let long = long_with in omega (arith, long, some)

  none_yet : find (is_of_event a.event) (shown admitted_by t) ≡ None
  none_yet = find_nothing (is_of_event a.event) (shown admitted_by t) (λ b there. ne_eqb b.event a.event (λ same. let lt : b.event < a.event = each_in (λ (c : Arrival). c.event < a.event) (shown admitted_by t) b there before in let none : ⊥ = omega (arith, same, lt) in none))

  -- nothing is held of it before
  unheld_before : is_held a.event t ≡ false
  unheld_before = ap (λ (x : Option Arrival). elim x as (λ (y : Option Arrival). Bool) [ Some b ↦ is_some (held t b.number) | None ↦ false ]) none_yet

  own_unheld : count_held place s ≡ 0
  own_unheld =
      let f : Named names a.event place = found_named names a.event place named in
      let q : IsRequest s t f.name = each_in (IsRequest s t) names f.name f.there k.named in
      let none : nat_lt 0 (count_held f.name.place s) ≡ false = sym q.held ∙ ap (λ e. is_held e t) f.event_is ∙ unheld_before in
      ⊎_elim
      (λ more. absurd (false≢true (sym none ∙ lt-ltb 0 (count_held f.name.place s) (subst (λ p. 0 < count_held p s) (sym f.place_is) more))))
      (λ few. omega (arith, few)) (cases_lt 0 (count_held place s))

  held_now : held admitted_trace a.number ≡ Some a
  held_now = by_test (is_delivered t a.number) (is_emptied t a.number) refl refl fit.untaken
    where
      by_test : (u v : Bool) → is_delivered t a.number ≡ u → is_emptied t a.number ≡ v → (u || v) ≡ false → held admitted_trace a.number ≡ Some a
      by_test false false is too none = held-here t a new is too
      by_test false true is too none = absurd (false≢true (sym none))
      by_test true v is too none = absurd (false≢true (sym none))

  there_with : (n : ℕ) (b : Arrival) → held admitted_trace n ≡ Some b → IsHeldAt names held_with b
  there_with n b is = by_number (a.number == n) refl
    where
      at_length : (m : ℕ) → slice_index_or held_with.places (m % length held_with.places) None ≡ slice_index_or held_with.places (m % length s.held.places) None
      at_length m = ap (λ l. slice_index_or held_with.places (m % l) None) long_with

      by_number : (v : Bool) → (a.number == n) ≡ v → IsHeldAt names held_with b
      by_number true same =
          let both : Some a ≡ Some b = sym held_now ∙ ap (held admitted_trace) (eqb-true a.number n same) ∙ is in
          let one_arrival : a ≡ b = cc in
          subst (IsHeldAt names held_with) one_arrival (record { place = place; named = named; slot = at_length (cmd_sn a.request) ∙ get_or-set_same s.held.places (slot_of a) (Some place) None within })
      by_number false isnt =
          let old : held t n ≡ Some b = sym (held-admits t a n isnt) ∙ is in
          let y : IsHeldAt names s.held b = h.there n b old in
          record { place = y.place; named = y.named; slot = at_length (cmd_sn b.request) ∙ get_or-set_other s.held.places (slot_of a) (slot_of b) (Some place) None (apart_slots n b old) ∙ y.slot }

  pub slots_with : AreHeld (size_for o.window) s.commands.room names held_with admitted_trace
  slots_with = record { placed = h.placed; size_is = long_with ∙ h.size_is; there = there_with; once = λ p. by_place p (place == p) refl }
    where
      by_place : (p : ℕ) (v : Bool) → (place == p) ≡ v → count_by (is_place p) held_with.places ≤ 1
      by_place p true is =
          let here : one (place == p) ≡ 1 = ap one is in
          let none : count_held p s ≡ 0 = ap (λ m. count_held m s) (sym (eqb-true place p is)) ∙ own_unheld in
          omega (arith, here, none, count_with p)
      by_place p false is = let here : one (place == p) ≡ 0 = ap one is in omega (arith, here, h.once p, count_with p)

  pub distinct_with : AreDistinct admitted_trace
  distinct_with = record { numbers = λ n. by_number n (a.number == n) refl; events = λ e. by_event e (a.event == e) refl }
    where
      count_more : (p : Arrival → Bool) → count_by p (shown admitted_by t ++ a ∷ []) ≡ count_by p (shown admitted_by t) + one (p a)
      count_more p = omega (arith, sum_by-append (λ (x : Arrival). cond (p x) 1 0) (shown admitted_by t) (a ∷ []), count-cons p a [])

      by_number : (n : ℕ) (v : Bool) → (a.number == n) ≡ v → count_by (λ (x : Arrival). x.number == n) (shown admitted_by t ++ a ∷ []) ≤ 1
      by_number n true is =
          let here : one (a.number == n) ≡ 1 = ap one is in
          let none : count_by (λ (x : Arrival). x.number == n) (shown admitted_by t) ≡ 0 = count_nothing (λ (x : Arrival). x.number == n) (shown admitted_by t) (λ b there. ap (λ m. b.number == m) (sym (eqb-true a.number n is)) ∙ other_number t a.number new b there) in
          omega (arith, here, none, count_more (λ (x : Arrival). x.number == n))
      by_number n false is = let here : one (a.number == n) ≡ 0 = ap one is in omega (arith, here, d.numbers n, count_more (λ (x : Arrival). x.number == n))

      by_event : (e : ℕ) (v : Bool) → (a.event == e) ≡ v → count_by (λ (x : Arrival). x.event == e) (shown admitted_by t ++ a ∷ []) + count_by (λ (x : Arrival). x.event == e) (waiting t) ≤ 1
      by_event e true is =
          let here : one (a.event == e) ≡ 1 = ap one is in
          let at : a.event ≡ e = eqb-true a.event e is in
          let none : count_by (λ (x : Arrival). x.event == e) (shown admitted_by t) ≡ 0
          = count_nothing (λ (x : Arrival). x.event == e) (shown admitted_by t) (λ b there. ne_eqb b.event e (λ same. let lt : b.event < a.event = each_in (λ (c : Arrival). c.event < a.event) (shown admitted_by t) b there before in let none : ⊥ = omega (arith, same, lt, at) in none)) in
          let none_waits : count_by (λ (x : Arrival). x.event == e) (waiting t) ≡ 0
          = count_nothing (λ (x : Arrival). x.event == e) (waiting t) (λ b there. ne_eqb b.event e (λ same. let lt : b.event < a.event = each_in (λ (c : Arrival). c.event < a.event) (waiting t) b there waits_before in let no : ⊥ = omega (arith, same, lt, at) in no)) in
          omega (arith, here, none, none_waits, count_more (λ (x : Arrival). x.event == e))
      by_event e false is = let here : one (a.event == e) ≡ 0 = ap one is in omega (arith, here, d.events e, count_more (λ (x : Arrival). x.event == e))

  -- ---- what is kept of each request

  held_it : is_held a.event admitted_trace ≡ true
  held_it =
      ap (λ (x : Option Arrival). elim x as (λ (y : Option Arrival). Bool) [ Some b ↦ is_some (held admitted_trace b.number) | None ↦ false ]) (find_last (is_of_event a.event) (shown admitted_by t) a none_yet (eq-eqb a.event a.event refl))
      ∙ ap is_some held_now

  held_others : (e : ℕ) → (a.event == e) ≡ false → is_held e admitted_trace ≡ is_held e t
  held_others e other =
      ap (λ (x : Option Arrival). elim x as (λ (y : Option Arrival). Bool) [ Some b ↦ is_some (held admitted_trace b.number) | None ↦ false ]) (find_other (is_of_event e) (shown admitted_by t) a other)
      ∙ by_found (find (is_of_event e) (shown admitted_by t)) refl
    where
      by_found : (x : Option Arrival) → find (is_of_event e) (shown admitted_by t) ≡ x
          → ◌≡◌ {A = Bool} (elim x [ Some b ↦ is_some (held admitted_trace b.number) | None ↦ false ]) (elim x [ Some b ↦ is_some (held t b.number) | None ↦ false ])
      by_found None is = refl
      by_found (Some b) is =
          let there = (find_in (is_of_event e) (shown admitted_by t) b is).0 in
          ap is_some (held-admits t a b.number (ne_eqb a.number b.number (λ same. false≢true (sym (other_number t a.number new b there) ∙ eq-eqb b.number a.number (sym same)))))

  note_apart : (n : Note) → In n notes → (place == n.place) ≡ false
  note_apart n at = by_test (place == n.place) refl
    where
      own : Named names a.event place
      own = found_named names a.event place named

      by_test : (v : Bool) → (place == n.place) ≡ v → v ≡ false
      by_test false is = refl
      by_test true is =
          let one_name : 1 ≤ count_by (λ (m : Name). m.place == place) names = in_counted (λ (m : Name). m.place == place) names own.name own.there (eq-eqb own.name.place place own.place_is) in
          let one_note : 1 ≤ count_by (λ (m : Note). m.place == place) notes = in_counted (λ (m : Note). m.place == place) notes n at (eq-eqb n.place place (sym (eqb-true place n.place is))) in
          absurd (let none : ⊥ = omega (arith, one_name, one_note, k.apart.places place) in none)

  pub requests_with : (event : ℕ) (pending' : ℕ → ℕ) → ((p : ℕ) → pending p ≡ pending' p + one (place == p)) → AreRequests names notes pending' gone (record s { held = held_with }) (record r { both = record r.both { event = event; trace = (Admits a ∷ []) ∷ r.both.trace } })
  requests_with event pending' less = requests_on names notes pending gone s r k (Admits a ∷ []) (record { enters_none = refl; leaves_no = λ n. refl }) event held_with s.functions pending'
      (λ p. omega (arith, count_with p, less p))
      (in_each (IsRequest (record s { held = held_with }) admitted_trace) names
      (λ n at. record { held = by_event n at (a.event == n.event) refl; waiting = (each_in (IsRequest s r.both.trace) names n at k.named).waiting }))
      (in_each (IsNote (record s { held = held_with }) r.both.box.links) notes (λ n at.
      let q : IsNote s r.both.box.links n = each_in (IsNote s r.both.box.links) notes n at k.noted_apart in
      let apart : one (place == n.place) ≡ 0 = ap one (note_apart n at) in
      let none = q.held in
      record { held = omega (arith, apart, none, count_with n.place); waiting = q.waiting; home = q.home }))
    where
      by_event : (n : Name) → In n names → (v : Bool) → (a.event == n.event) ≡ v → is_held n.event admitted_trace ≡ nat_lt 0 (count_by (is_place n.place) held_with.places)
      by_event n at true is =
          let here : one (place == n.place) ≡ 1 = ap one (place_event names notes k.apart n a.event place at named ∙ is) in
          ap (λ e. is_held e admitted_trace) (sym (eqb-true a.event n.event is)) ∙ held_it ∙ sym (lt-ltb 0 (count_by (is_place n.place) held_with.places) (omega (arith, here, count_with n.place)))
      by_event n at false is =
          let elsewhere : one (place == n.place) ≡ 0 = ap one (place_event names notes k.apart n a.event place at named ∙ is) in
          let same : count_held n.place s ≡ count_by (is_place n.place) held_with.places = omega (arith, elsewhere, count_with n.place) in
          held_others n.event is ∙ (each_in (IsRequest s r.both.trace) names n at k.named).held ∙ ap (nat_lt 0) same
