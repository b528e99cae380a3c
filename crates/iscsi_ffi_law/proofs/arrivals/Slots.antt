-- The slots of what is held: what stands there as a request is received, and as its turn comes.
use Rattle.std.proofs.Common.{◌≡◌, ℕ, zero, suc, ◌+◌, ◌%◌, ◌<◌, ◌≤◌, ◌==◌, ⊎_elim, inl, inr, cond, get_or, slice_index_or, slice_set, Bool, true, false, List, [], ◌∷◌, ◌++◌, length, count_by, filter, filter_map, find, Option, Some, None, is_some, nat_lt, refl, ap, sym, subst, ◌∙◌, arith, le-ltb, length-set}
use Rattle.std.proofs.lemmas.Bool.{eqb-true, eq-eqb, false≢true}
use Rattle.std.proofs.lemmas.List.{append-nil, get_or-set_other}
use Rattle.std.proofs.lemmas.Nat.{mod_below}
use Rattle.iscsi_wire.specs.Fields.{cmd_sn, connection_of}
use Rattle.iscsi_rules.specs.rules.Trace.{Admits, Arrival, ClosesConn, ClosesSession, Delivers, Empties, Enters, Executes, Ignores, Leaves, Mark, Sends, Trace, Voids, Waits, admits_at, held, shown, waiting}
use Rattle.iscsi_rules.proofs.general.CountLemmas.{one, count-cons}
use Rattle.iscsi_rules.proofs.general.ElementLemmas.{In, append-in_first, append-in_second, first-in, in-append, in-cons}
use Rattle.iscsi_rules.proofs.traces.HeldLemmas.{admitted_of_held, held-number}
use Rattle.iscsi_outbox_law.specs.private.Pairs.{EachOf, PairsOf}
use Rattle.iscsi_outbox_law.proofs.general.PairLemmas.{each-append, each-filter, pairs-weaken}
use Rattle.iscsi_requests.specs.Conns.{of_conn}
use Rattle.iscsi_requests.specs.Functions.{WaitingFunctions}
use Rattle.iscsi_requests.specs.declared.functions.WaitingFunction.{WaitingFunction}
use Rattle.iscsi_requests.specs.Numbers.{HeldNumbers, index_of, with_held}
use Rattle.iscsi_ffi_rules.specs.rules.Needs.{admitted_by, is_held, is_of_event, is_waiting}
use Rattle.iscsi_ffi_steps.specs.State.{State}
use Rattle.iscsi_outbox_rules.specs.rules.Boxes.{Link}
use Rattle.iscsi_ffi_law.specs.Arrived.{AreDistinct}
use Rattle.iscsi_ffi_law.specs.Names.{Name, Note}
use Rattle.iscsi_ffi_law.specs.Parts.{AreApart, AreFunctions, AreHeld, IsFunctionAt, IsHeldAt, IsNote, IsRequest, IsWithin}
use Rattle.iscsi_ffi_law.specs.Uses.{count_held, count_lists, is_place}
use Rattle.iscsi_ffi_law.proofs.arrivals.Asked.{named_still}
use Rattle.iscsi_ffi_law.proofs.requests.Kept.{named_used}
use Rattle.iscsi_ffi_law.proofs.general.Lists.{lists_at}
use Rattle.iscsi_ffi_law.proofs.general.Members.{in_counted, each_in, find_in, in_each, two_counted}
use Rattle.iscsi_ffi_law.proofs.requests.NameLemmas.{Named, found_named, place_event, same_place}

-- ---- slots

-- another thing stands in a slot
pub count_put : (q : Option ℕ → Bool) (xs : List (Option ℕ)) (k : ℕ) (x : Option ℕ) → k < length xs → count_by q (slice_set xs k x) + one (q (slice_index_or xs k None)) ≡ count_by q xs + one (q x)
count_put q [] k x within = absurd (let none : ⊥ = omega (arith, within) in none)
count_put q (y ∷ xs) zero x within = omega (arith, count-cons q x xs, count-cons q y xs)
count_put q (y ∷ xs) (suc k) x within = let rest = count_put q xs k x (omega (arith, within)) in omega (arith, rest, count-cons q y (slice_set xs k x), count-cons q y xs)

pub in_place : (xs : List (Option ℕ)) (k place : ℕ) → k < length xs → slice_index_or xs k None ≡ Some place → 1 ≤ count_by (is_place place) xs
in_place [] k place within is = absurd (let none : ⊥ = omega (arith, within) in none)
in_place (y ∷ xs) zero place within is = let here : one (is_place place y) ≡ 1 = ap (λ z. one (is_place place z)) is ∙ ap one (eq-eqb place place refl) in omega (arith, here, count-cons (is_place place) y xs)
in_place (y ∷ xs) (suc k) place within is = let rest = in_place xs k place (omega (arith, within)) is in omega (arith, rest, count-cons (is_place place) y xs)

-- a place that stands once has one slot
pub one_slot : (xs : List (Option ℕ)) (k m place : ℕ) → k < length xs → m < length xs → slice_index_or xs k None ≡ Some place → slice_index_or xs m None ≡ Some place → count_by (is_place place) xs ≤ 1 → k ≡ m
one_slot [] k m place within too is same few = absurd (let none : ⊥ = omega (arith, within) in none)
one_slot (y ∷ xs) zero zero place within too is same few = refl
one_slot (y ∷ xs) zero (suc m) place within too is same few =
    let here : one (is_place place y) ≡ 1 = ap (λ z. one (is_place place z)) is ∙ ap one (eq-eqb place place refl) in
    let rest = in_place xs m place (omega (arith, too)) same in
    absurd (let none : ⊥ = omega (arith, here, rest, few, count-cons (is_place place) y xs) in none)
one_slot (y ∷ xs) (suc k) zero place within too is same few =
    let here : one (is_place place y) ≡ 1 = ap (λ z. one (is_place place z)) same ∙ ap one (eq-eqb place place refl) in
    let rest = in_place xs k place (omega (arith, within)) is in
    absurd (let none : ⊥ = omega (arith, here, rest, few, count-cons (is_place place) y xs) in none)
one_slot (y ∷ xs) (suc k) (suc m) place within too is same few = let rest = one_slot xs k m place (omega (arith, within)) (omega (arith, too)) is same (omega (arith, few, count-cons (is_place place) y xs)) in ap suc rest

pub index_within : (n : ℕ) (v : HeldNumbers) → 0 < length v.places → index_of n v < length v.places
index_within n v some = mod_below n (length v.places) (omega (arith, some))

-- ---- what is admitted

admits_both : (n : ℕ) (ms : List Mark) (a : Arrival) → In a (filter_map (admits_at n) ms) → In a (filter_map admitted_by ms)
admits_both n [] a at = absurd at
admits_both n (Admits b ∷ ms) a at = ⊎_elim (λ here. inl (by_number (b.number == n) here)) (λ later. inr (admits_both n ms a later)) (in-cons (cond (b.number == n) (Some b) None) (filter_map (admits_at n) ms) a at)
  where
    by_number : (v : Bool) → cond v (Some b) None ≡ Some a → b ≡ a
    by_number true is = cc
    by_number false is = absurd cc
admits_both n (Delivers b ∷ ms) a at = admits_both n ms a at
admits_both n (Executes b ∷ ms) a at = admits_both n ms a at
admits_both n (Voids k ∷ ms) a at = admits_both n ms a at
admits_both n (Empties b ∷ ms) a at = admits_both n ms a at
admits_both n (Waits b ∷ ms) a at = admits_both n ms a at
admits_both n (Leaves c ∷ ms) a at = admits_both n ms a at
admits_both n (Enters c ∷ ms) a at = admits_both n ms a at
admits_both n (Sends conn reply ∷ ms) a at = admits_both n ms a at
admits_both n (ClosesConn conn ∷ ms) a at = admits_both n ms a at
admits_both n (ClosesSession ∷ ms) a at = admits_both n ms a at
admits_both n (Ignores why ∷ ms) a at = admits_both n ms a at

admitted_in : (n : ℕ) (t : Trace) (a : Arrival) → In a (shown (admits_at n) t) → In a (shown admitted_by t)
admitted_in n [] a at = absurd at
admitted_in n (item ∷ t) a at =
    ⊎_elim
    (λ before. append-in_first (shown admitted_by t) (filter_map admitted_by item) a (admitted_in n t a before))
    (λ now. append-in_second (shown admitted_by t) (filter_map admitted_by item) a (admits_both n item a now))
    (in-append (shown (admits_at n) t) (filter_map (admits_at n) item) a at)

-- what is held was admitted
pub held_in : (t : Trace) (n : ℕ) (a : Arrival) → held t n ≡ Some a → In a (shown admitted_by t)
held_in t n a is = admitted_in n t a (first-in (shown (admits_at n) t) a (admitted_of_held t n a is))

module _ (t : Trace) (d : AreDistinct t) where
  pub same_arrival : (a b : Arrival) → In a (shown admitted_by t) → In b (shown admitted_by t) → a.event ≡ b.event → a ≡ b
  same_arrival a b at there same = two_counted (λ (x : Arrival). x.event == b.event) (shown admitted_by t) a b (let few = d.events b.event in omega (arith, few)) at there (eq-eqb a.event b.event same) (eq-eqb b.event b.event refl)

  pub same_number : (a b : Arrival) → In a (shown admitted_by t) → In b (shown admitted_by t) → a.number ≡ b.number → a ≡ b
  same_number a b at there same = two_counted (λ (x : Arrival). x.number == b.number) (shown admitted_by t) a b (d.numbers b.number) at there (eq-eqb a.number b.number same) (eq-eqb b.number b.number refl)

-- ---- where some requests are forgotten

pub slots_used : (size room : ℕ) (names : List Name) (notes : List Note) → AreApart names notes → (v : HeldNumbers) (t : Trace) → AreHeld size room names v t → (used : ℕ → Bool) → ((p : ℕ) → 1 ≤ count_by (is_place p) v.places → used p ≡ true) → 0 < length v.places
    → AreHeld size room (filter (λ (n : Name). used n.place) names) v t
slots_used size room names notes apart v t h used still some = record {
  placed = each-filter (IsWithin room) (λ (n : Name). used n.place) names h.placed;
  size_is = h.size_is;
  there = λ n a is.
      let k : IsHeldAt names v a = h.there n a is in
      record {
        place = k.place;
        named = named_used used names notes apart a.event k.place k.named (still k.place (in_place v.places (index_of (cmd_sn a.request) v) k.place (index_within (cmd_sn a.request) v some) k.slot));
        slot = k.slot;
      };
  once = h.once;
}

-- .. where one is asked more
pub slots_named : (size room : ℕ) (names : List Name) (v : HeldNumbers) (t : Trace) → AreHeld size room names v t → (n : Name) → IsWithin room n → AreHeld size room (names ++ n ∷ []) v t
slots_named size room names v t h n within = record {
  placed = each-append (IsWithin room) names (n ∷ []) h.placed (within, tt);
  size_is = h.size_is;
  there = λ m a is. let k : IsHeldAt names v a = h.there m a is in record { place = k.place; named = named_still names n a.event k.place k.named; slot = k.slot };
  once = h.once;
}

-- .. and where the trace holds the same
pub slots_same : (size room : ℕ) (names : List Name) (v : HeldNumbers) (t t' : Trace) → ((n : ℕ) → held t' n ≡ held t n) → AreHeld size room names v t → AreHeld size room names v t'
slots_same size room names v t t' same h = record {
  placed = h.placed;
  size_is = h.size_is;
  there = λ n a is. let k : IsHeldAt names v a = h.there n a (sym (same n) ∙ is) in record { place = k.place; named = k.named; slot = k.slot };
  once = h.once;
}

-- ---- functions that wait

pub functions_used : (cids : List ℕ) (names : List Name) (notes : List Note) → AreApart names notes → (v : WaitingFunctions) (ws : List Arrival) → AreFunctions cids names v ws → (used : ℕ → Bool) → ((p : ℕ) → 1 ≤ count_lists (λ (f : WaitingFunction). f.request == p) v.waiting → used p ≡ true)
    → AreFunctions cids (filter (λ (n : Name). used n.place) names) v ws
functions_used cids names notes apart v ws h used still = record {
  each = λ p within. all p (of_conn p v.waiting) (filter (λ (a : Arrival). connection_of a.request == get_or cids p 0) ws) (λ f there. there) (h.each p within);
  once = h.once;
  room = h.room;
}
  where
    all : (p : ℕ) (fs : List WaitingFunction) (as' : List Arrival) → ((f : WaitingFunction) → In f fs → In f (of_conn p v.waiting)) → PairsOf (IsFunctionAt names) fs as' → PairsOf (IsFunctionAt (filter (λ (n : Name). used n.place) names)) fs as'
    all p [] [] inside k = tt
    all p [] (a ∷ as') inside k = absurd k
    all p (f ∷ fs) [] inside k = absurd k
    all p (f ∷ fs) (a ∷ as') inside k =
        let some : 1 ≤ count_by (λ (g : WaitingFunction). g.request == f.request) (of_conn p v.waiting) = in_counted (λ (g : WaitingFunction). g.request == f.request) (of_conn p v.waiting) f (inside f (inl refl)) (eq-eqb f.request f.request refl) in
        (record { number = k.0.number; named = named_used used names notes apart a.event f.request k.0.named (still f.request (omega (arith, some, lists_at (λ (g : WaitingFunction). g.request == f.request) v.waiting p))) }, all p fs as' (λ g there. inside g (inr there)) k.1)

pub functions_named : (cids : List ℕ) (names : List Name) (v : WaitingFunctions) (ws : List Arrival) → AreFunctions cids names v ws → (n : Name) → AreFunctions cids (names ++ n ∷ []) v ws
functions_named cids names v ws h n = record {
  each = λ p within. pairs-weaken (IsFunctionAt names) (IsFunctionAt (names ++ n ∷ [])) (of_conn p v.waiting) (filter (λ (a : Arrival). connection_of a.request == get_or cids p 0) ws) (λ f a k. record { number = k.number; named = named_still names n a.event f.request k.named }) (h.each p within);
  once = h.once;
  room = h.room;
}

-- ---- its turn comes, or it is taken out

-- what an item does to what is held: this one isn't held any more
pub record IsTurnOf (t : Trace) (a : Arrival) (item : List Mark) : Type 0 where
  pub gone : held (item ∷ t) a.number ≡ None
  pub others : (n : ℕ) → (a.number == n) ≡ false → held (item ∷ t) n ≡ held t n
  pub admits : filter_map admitted_by item ≡ []

module _ (size room : ℕ) (names : List Name) (notes : List Note) (apart : AreApart names notes) (s : State) (t : Trace) (h : AreHeld size room names s.held t) (d : AreDistinct t) (some : 0 < length s.held.places) (a : Arrival) (is : held t a.number ≡ Some a) (item : List Mark) (turn : IsTurnOf t a item) where
  pub at : IsHeldAt names s.held a
  at = h.there a.number a is

  abbrev pub held_then : HeldNumbers
  held_then = with_held (cmd_sn a.request) None s.held

  abbrev slot_of : Arrival → ℕ
  slot_of b = index_of (cmd_sn b.request) s.held

  within : slot_of a < length s.held.places
  within = index_within (cmd_sn a.request) s.held some

  pub count_then : (p : ℕ) → count_by (is_place p) held_then.places + one (at.place == p) ≡ count_held p s
  count_then p =
      let put = count_put (is_place p) s.held.places (slot_of a) None within in
      let here : one (is_place p (slice_index_or s.held.places (slot_of a) None)) ≡ one (at.place == p) = ap (λ x. one (is_place p x)) at.slot in
      omega (arith, put, here)

  pub long_then : length held_then.places ≡ length s.held.places
  long_then = length-set s.held.places (slot_of a) None

  it_is_in : In a (shown admitted_by t)
  it_is_in = held_in t a.number a is

  other_slot : (n : ℕ) (b : Arrival) → held t n ≡ Some b → (a.number == n) ≡ false → (slot_of b ≡ slot_of a) → ⊥
  other_slot n b there isnt same =
      let y : IsHeldAt names s.held b = h.there n b there in
      let one_place : Some y.place ≡ Some at.place = sym y.slot ∙ ap (λ k. slice_index_or s.held.places k None) same ∙ at.slot in
      let place_is : y.place ≡ at.place = cc in
      let f : Named names a.event at.place = found_named names a.event at.place at.named in
      let g : Named names b.event y.place = found_named names b.event y.place y.named in
      let one_name : g.name ≡ f.name = same_place names notes apart g.name f.name g.there f.there (g.place_is ∙ place_is ∙ sym f.place_is) in
      let event_is : b.event ≡ a.event = sym g.event_is ∙ ap (λ (m : Name). m.event) one_name ∙ f.event_is in
      let one_arrival : b ≡ a = same_arrival t d b a (held_in t n b there) it_is_in event_is in
      false≢true (sym isnt ∙ eq-eqb a.number n (ap (λ (x : Arrival). x.number) (sym one_arrival) ∙ held-number t n b there))

  there_then : (n : ℕ) (b : Arrival) → held (item ∷ t) n ≡ Some b → IsHeldAt names held_then b
  there_then n b there = by_number (a.number == n) refl
    where
      by_number : (v : Bool) → (a.number == n) ≡ v → IsHeldAt names held_then b
      by_number true same = absurd (let none : None ≡ Some b = sym turn.gone ∙ ap (held (item ∷ t)) (eqb-true a.number n same) ∙ there in let no : ⊥ = cc in no)
      by_number false isnt =
          let before : held t n ≡ Some b = sym (turn.others n isnt) ∙ there in
          let y : IsHeldAt names s.held b = h.there n b before in
          record {
            place = y.place;
            named = y.named;
            slot = ap (λ k. slice_index_or held_then.places (cmd_sn b.request % k) None) long_then ∙ get_or-set_other s.held.places (slot_of a) (slot_of b) None None (other_slot n b before isnt) ∙ y.slot;
          }

  pub slots_then : AreHeld size room names held_then (item ∷ t)
  slots_then = record { placed = h.placed; size_is = long_then ∙ h.size_is; there = there_then; once = λ p. omega (arith, h.once p, count_then p) }

  shown_same : shown admitted_by (item ∷ t) ≡ shown admitted_by t
  shown_same = ap (λ xs. shown admitted_by t ++ xs) turn.admits ∙ append-nil (shown admitted_by t)

  pub distinct_then : waiting (item ∷ t) ≡ waiting t → AreDistinct (item ∷ t)
  distinct_then waits = record {
    numbers = λ n. subst (λ xs. count_by (λ (x : Arrival). x.number == n) xs ≤ 1) (sym shown_same) (d.numbers n);
    events = λ e. subst (λ ws. count_by (λ (x : Arrival). x.event == e) (shown admitted_by (item ∷ t)) + count_by (λ (x : Arrival). x.event == e) ws ≤ 1) (sym waits) (subst (λ xs. count_by (λ (x : Arrival). x.event == e) xs + count_by (λ (x : Arrival). x.event == e) (waiting t) ≤ 1) (sym shown_same) (d.events e));
  }

  by_shown : ℕ → Option Arrival → Bool
  by_shown e x = elim x [ Some b ↦ is_some (held (item ∷ t) b.number) | None ↦ false ]

  gone_held : (e : ℕ) → (a.event == e) ≡ true → is_held e (item ∷ t) ≡ false
  unfolding by_shown
  gone_held e same = ap (λ xs. by_shown e (find (is_of_event e) xs)) shown_same ∙ by_found (find (is_of_event e) (shown admitted_by t)) refl
    where
      by_found : (x : Option Arrival) → find (is_of_event e) (shown admitted_by t) ≡ x → ◌≡◌ {A = Bool} (elim x [ Some b ↦ is_some (held (item ∷ t) b.number) | None ↦ false ]) false
      by_found None found = refl
      by_found (Some b) found =
          let k = find_in (is_of_event e) (shown admitted_by t) b found in
          let one_arrival : a ≡ b = same_arrival t d a b it_is_in k.0 (eqb-true a.event e same ∙ sym (eqb-true b.event e k.1)) in
          ap (λ (x : Arrival). is_some (held (item ∷ t) x.number)) (sym one_arrival) ∙ ap is_some turn.gone

  held_still : (e : ℕ) → (a.event == e) ≡ false → is_held e (item ∷ t) ≡ is_held e t
  unfolding by_shown
  held_still e isnt = ap (λ xs. by_shown e (find (is_of_event e) xs)) shown_same ∙ by_found (find (is_of_event e) (shown admitted_by t)) refl
    where
      by_found : (x : Option Arrival) → find (is_of_event e) (shown admitted_by t) ≡ x
          → ◌≡◌ {A = Bool} (elim x [ Some b ↦ is_some (held (item ∷ t) b.number) | None ↦ false ]) (elim x [ Some b ↦ is_some (held t b.number) | None ↦ false ])
      by_found None found = refl
      by_found (Some b) found = ap is_some (turn.others b.number (other (a.number == b.number) refl))
        where
          other : (v : Bool) → (a.number == b.number) ≡ v → (a.number == b.number) ≡ false
          other false is = is
          other true same =
              let k = find_in (is_of_event e) (shown admitted_by t) b found in
              let one_arrival : a ≡ b = same_number t d a b it_is_in k.0 (eqb-true a.number b.number same) in
              absurd (false≢true (sym isnt ∙ eq-eqb a.event e (ap (λ (x : Arrival). x.event) one_arrival ∙ eqb-true b.event e k.1)))

  -- what is kept of each request
  pub named_then : ((e : ℕ) → is_waiting e (item ∷ t) ≡ is_waiting e t) → EachOf (IsRequest s t) names → EachOf (IsRequest (record s { held = held_then }) (item ∷ t)) names
  named_then waits before = in_each (IsRequest (record s { held = held_then }) (item ∷ t)) names
      (λ n in_names. let k : IsRequest s t n = each_in (IsRequest s t) names n in_names before in record { held = by_event n in_names k (a.event == n.event) refl; waiting = waits n.event ∙ k.waiting })
    where
      by_event : (n : Name) → In n names → IsRequest s t n → (v : Bool) → (a.event == n.event) ≡ v → is_held n.event (item ∷ t) ≡ nat_lt 0 (count_by (is_place n.place) held_then.places)
      by_event n in_names k true same =
          let here : one (at.place == n.place) ≡ 1 = ap one (place_event names notes apart n a.event at.place in_names at.named ∙ same) in
          gone_held n.event same ∙ sym (le-ltb 0 (count_by (is_place n.place) held_then.places) (omega (arith, here, h.once n.place, count_then n.place)))
      by_event n in_names k false isnt =
          let elsewhere : one (at.place == n.place) ≡ 0 = ap one (place_event names notes apart n a.event at.place in_names at.named ∙ isnt) in
          let same : count_held n.place s ≡ count_by (is_place n.place) held_then.places = omega (arith, elsewhere, count_then n.place) in
          held_still n.event isnt ∙ k.held ∙ ap (nat_lt 0) same

  pub noted_then : (links : List Link) → EachOf (IsNote s links) notes → EachOf (IsNote (record s { held = held_then }) links) notes
  noted_then links before = in_each (IsNote (record s { held = held_then }) links) notes
      (λ n there. let k : IsNote s links n = each_in (IsNote s links) notes n there before in let none = k.held in record { held = omega (arith, none, count_then n.place); waiting = k.waiting; home = k.home })
