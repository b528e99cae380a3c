-- The window: what a call changes of it, and that it agrees with what has happened after one item more.
use Rattle.iscsi_session.proofs.Names.{get_or-set_same, ◌≡◌, ◌⊎◌, ℕ, ◌+◌, ◌-◌, ◌<◌, cond, true, false, List, length, Option, Some, None, is_some, refl, arith, count_by, length-set, not, list_all, option_flatten, nat_tests, length_push, Core, is_held, is_place_known, next_waiting, comes_next, Request, HeldRequest, connection_of, is_immediate, Held, Place, Inside, NoPlace, Arrived, at_place, advanced, offer_to, place_in, IsInside, held_at, is_received_at, is_next, received_at, offered_in, voided, emptied, emptied_if, with_place, is_known, IsWindowSound, all_set, all_shift, some_within, count_replaced, count_set, count_shift, and_parts, not_true, is_none, filter_map, ne_eqb, ◌≤◌, [], ◌∷◌, ◌++◌, option_map, Bool, ap, sym, ◌∙◌, ◌==◌, ⊎_elim, drop, get_or, set, eq-eqb, ◌≢◌, length-drop, ◌^◌, ◌||◌, subst, append-nil, get_or-set_other, number_of_first, wire, lift, Setting, Arrival, Mark, Admits, Delivers, Trace, shown, received, contains, is_received, is_delivered, is_emptied, held, admits_at, admitted, Voids, Empties, first_of, delivers_number, request_at, executed_below, delivers, held_of, place_of, IsRegularRequest, WindowAgrees, cases_lt, cases_eq, eqb-true, elements, get_or-set_at, number_expected, room_of, with_unfinished, turned_on, exp_of, or_none, or_second, or_false, expected_is, expected_low, expected_gone, held-delivered, admitted-number, admitted-cases, held-admits, held-here, held-number, held-turned, request_at-turned, admitted_of_held, held_unemptied, received-admits, request_at-admits, held_received, unreceived_unheld, held-quiet, IsQuiet, same_range, received-quiet, executed_below-quiet, delivered-quiet, admitted-quiet, executed_below-more, has_first, last_none, list_any, EmptiesOne, VoidsOne, admitted-empties, admitted-voids, emptied-empties, empties-one, held-gone, held-other, held-voids, received-empties, received-voids, request_at-empties, request_at-voids, voids-one}

-- ---- a turn

-- the window has turned a number, at which this was kept
pub record Advanced (w : Arrived) (q : Option HeldRequest) : Type 0 where
  pub here : at_place w 0 ≡ Some q
  pub turned : (advanced w).turned ≡ w.turned + 1
  pub unfinished : (advanced w).unfinished ≡ w.unfinished
  pub long : length (advanced w).places ≡ length w.places
  pub held : count_by is_held (advanced w).places + cond (is_held (Some q)) 1 0 ≡ count_by is_held w.places
  pub counted : count_by is_some (advanced w).places + 1 ≡ count_by is_some w.places
  pub known : (conns : List (ℕ × ℕ)) → list_all (is_place_known conns) w.places ≡ true → (is_place_known conns (Some q) ≡ true) × (list_all (is_place_known conns) (advanced w).places ≡ true)

pub advanced_at : (w : Arrived) (q : Option HeldRequest) → at_place w 0 ≡ Some q → Advanced w q
advanced_at w q here =
    grind (arith, nat_tests, all_shift, length_push, count_shift is_held q w.places refl here, count_shift is_some q w.places refl here)

-- ---- a number that is emptied or voided

-- what the window has become: so many held requests fewer are counted in it, and so many received numbers more
pub record Changed (old new : Arrived) (fewer_held more : ℕ) : Type 0 where
  pub first : new.first ≡ old.first
  pub long : length new.places ≡ length old.places
  pub turned : new.turned ≡ old.turned
  pub unfinished : new.unfinished ≡ old.unfinished
  pub held_is : count_by is_held new.places + fewer_held ≡ count_by is_held old.places
  pub counted : count_by is_some new.places ≡ count_by is_some old.places + more
  pub known : (conns : List (ℕ × ℕ)) → list_all (is_place_known conns) old.places ≡ true → list_all (is_place_known conns) new.places ≡ true

same : (w : Arrived) → Changed w w 0 0
same w = record { first = refl; long = refl; turned = refl; unfinished = refl; held_is = omega arith; counted = omega arith; known = λ conns all. all }

-- nothing is held at a place any more
blanked : (w : Arrived) (k : ℕ) (p : Option (Option HeldRequest)) → at_place w k ≡ p → k < length w.places → Changed w (with_place w k (Some None)) (cond (is_held p) 1 0) (cond (is_some p) 0 1)
blanked w k p is within =
    grind (arith, nat_tests, length-set w.places k (Some None), count_replaced is_held w.places k (Some None) None within, count_replaced is_some w.places k (Some None) None within, all_set)

pub emptied_changes : (w : Arrived) (sn : ℕ) → Changed w (emptied w sn) (cond (is_some (held_at w (place_in w sn))) 1 0) 0
emptied_changes w sn = by_place (place_in w sn)
  where
    by_kept : (k : ℕ) (p : Option (Option HeldRequest)) → at_place w k ≡ p → Changed w (emptied_if w (Inside k) (option_flatten p)) (cond (is_some (option_flatten p)) 1 0) 0
    by_kept k None is = same w
    by_kept k (Some None) is = same w
    by_kept k (Some (Some r)) is = blanked w k (Some (Some r)) is (some_within w.places k (Some r) is)

    by_place : (p : Place) → Changed w (emptied_if w p (held_at w p)) (cond (is_some (held_at w p)) 1 0) 0
    by_place NoPlace = same w
    by_place (Inside k) = by_kept k (at_place w k) refl

-- a number inside the window has a place
pub place_within : (w : Arrived) (sn k : ℕ) → place_in w sn ≡ Inside k → k < length w.places
place_within w sn k h = grind (arith, nat_tests)

pub voided_changes : (w : Arrived) (sn : ℕ) → IsInside (place_in w sn) → Changed w (voided w sn) 0 (cond (is_received_at w (place_in w sn)) 0 1)
voided_changes w sn inside = by_place (place_in w sn) refl inside
  where
    by_kept : (k : ℕ) → k < length w.places → (p : Option (Option HeldRequest)) → at_place w k ≡ p → Changed w (cond (is_some p) w (with_place w k (Some None))) 0 (cond (is_some p) 0 1)
    by_kept k within (Some x) is = same w
    by_kept k within None is = blanked w k None is within

    by_place : (p : Place) → place_in w sn ≡ p → IsInside p → Changed w (received_at w p None) 0 (cond (is_received_at w p) 0 1)
    by_place NoPlace is out = absurd out
    by_place (Inside k) is there = by_kept k (place_within w sn k is) (at_place w k) refl

-- what the window has become, and what is counted in it
pub record Grown (old new : Arrived) (r : HeldRequest) : Type 0 where
  pub long : length new.places ≡ length old.places
  pub turned : new.turned ≡ old.turned
  pub unfinished : new.unfinished ≡ old.unfinished
  pub held : count_by is_held new.places ≡ count_by is_held old.places + 1
  pub counted : count_by is_some new.places ≡ count_by is_some old.places + 1
  pub known : (conns : List (ℕ × ℕ)) → list_all (is_place_known conns) old.places ≡ true → is_place_known conns (Some (Some r)) ≡ true → list_all (is_place_known conns) new.places ≡ true

pub grown : (old new : Arrived) (r : HeldRequest) → offer_to old r.request ≡ Held → new ≡ offered_in old r.request r.event → Grown old new r
grown old new r said is = grind (arith, nat_tests, length-set, count_set, all_set)

-- the request is held, or nothing changes
pub held_or_same : (old new : Arrived) (r : HeldRequest) → new ≡ offered_in old r.request r.event → Grown old new r ⊎ (new ≡ old)
held_or_same old new r is = grind (arith, nat_tests, grown old new r)

-- ---- a request that comes with the expected number

-- it is held with this event
abbrev pub held_now : Core → Request → HeldRequest
held_now s r = record { request = r; event = s.taken - 1 }

pub comes_first : (w : Arrived) (r : HeldRequest) → is_next w r.request ≡ true → (offer_to w r.request ≡ Held) × (at_place (offered_in w r.request r.event) 0 ≡ Some (Some r))
comes_first w r next = grind (arith, nat_tests, get_or-set_same, place_within, and_parts)

-- where it may be delivered as it comes, no function waits for its number
pub comes_alone : (s : Core) (r : Request) → comes_next s r ≡ true → (next_waiting s ≡ None) × (is_next s.window r ≡ true)
comes_alone s r next = let parts = and_parts (not (is_some (next_waiting s))) (is_next s.window r) next in (is_none (next_waiting s) (not_true (is_some (next_waiting s)) parts.0), parts.1)

-- such a request is received and turns at once
pub record Delivered (w : Arrived) (r : HeldRequest) : Type 0 where
  pub there : at_place (offered_in w r.request r.event) 0 ≡ Some (Some r)
  pub grown_is : Grown w (offered_in w r.request r.event) r
  pub advanced_is : Advanced (offered_in w r.request r.event) (Some r)

pub delivered : (w : Arrived) (r : HeldRequest) → is_next w r.request ≡ true → Delivered w r
delivered w r next =
    let x = comes_first w r next in
    let v : Arrived = offered_in w r.request r.event in
    record { there = x.1; grown_is = grown w v r x.0 refl; advanced_is = advanced_at v (Some r) x.1 }

-- what holds of the window holds on once it has received a request
pub grown_sound : {old new : Arrived} {count taken : ℕ} {conns : List (ℕ × ℕ)} {r : HeldRequest} → IsWindowSound old count taken conns → Grown old new r → old.turned + count_by is_some old.places < taken
    → count + count_by is_some old.places < taken → is_immediate r.request ≡ false → is_known (connection_of r.request) conns ≡ true → IsWindowSound new count taken conns
grown_sound {old} {new} {count} {taken} {conns} {r} w g room entered regular known = grind (arith, nat_tests)

-- ==== it agrees with what has happened after one item more

-- ---- the next number

-- a number that has no place isn't received
pub no_place : (t : Trace) (n : ℕ) → place_of t n ≡ None → is_received t n ≡ false
no_place t n none = grind arith

module _ (o : Setting) (w : Arrived) (t : Trace) (a : WindowAgrees o w t) where
  -- ExpCmdSN is the next number of the window, where its place is empty
  pub next_expected : at_place w 0 ≡ None → exp_of o t ≡ number_expected w
  next_expected none = expected_is o.first (number_expected w) t (omega (arith, a.first)) a.below (grind (arith, nat_tests, no_place))

  -- ExpCmdSN isn't below the next number of the window
  pub expected_past_next : number_expected w ≤ exp_of o t
  expected_past_next = ⊎_elim (λ lt. absurd (cc (expected_gone o.first t, a.below (exp_of o t) (expected_low o.first t) lt))) (λ ge. ge) (cases_lt (exp_of o t) (number_expected w))

-- ---- an item that receives, admits and delivers nothing

pub WindowAgrees-quiet : (o : Setting) (w : Arrived) (t : Trace) (item : List Mark) → IsQuiet item → WindowAgrees o w t → WindowAgrees o w (item ∷ t)
WindowAgrees-quiet o w t item q a = record {
  first = a.first;
  size = a.size;
  below = λ n low high. cc (received-quiet item t q, a.below n low high);
  inside = λ k lt. cc (a.inside k lt, received-quiet item t q, held-quiet item t (number_expected w + k) q);
  above = λ n high. cc (received-quiet item t q, a.above n high);
  past = λ n low. held-quiet item t n q ∙ a.past n low;
  undelivered = λ n high. cc (q.delivers_no n, a.undelivered n high);
  unemptied = λ n gone. let before : is_received t n ≡ false = cc (received-quiet item t q) in cc (q.empties_no n, a.unemptied n before);
  requests = λ n b found. a.requests n b (cc (admitted-quiet item t n q));
  delivered = delivered-quiet item t q ∙ a.delivered ∙ sym (executed_below-quiet o item t (number_expected w) q);
  few = a.few;
  free = a.free;
}

-- ---- an admission

-- the window with the request at its place
abbrev pub with_held : Arrived → Arrival → Arrived
with_held w a = with_place w (a.number - number_expected w) (Some (Some (held_of a)))

place_of-other : (t : Trace) (a : Arrival) (n : ℕ) → (a.number == n) ≡ false → place_of ((Admits a ∷ []) ∷ t) n ≡ place_of t n
place_of-other t a n apart = cc (received-admits t a n, or_false (is_received t n), held-admits t a n apart)

place_of-here : (t : Trace) (a : Arrival) → is_received t a.number ≡ false → is_delivered t a.number ≡ false → is_emptied t a.number ≡ false → place_of ((Admits a ∷ []) ∷ t) a.number ≡ Some (Some (held_of a))
place_of-here t a new undelivered unemptied = grind (arith, nat_tests, received-admits, or_second, eq-eqb, held-here)

pub WindowAgrees-admitted : (o : Setting) (w : Arrived) (t : Trace) (a : Arrival) → WindowAgrees o w t → number_expected w ≤ a.number → a.number < number_expected w + room_of w → is_received t a.number ≡ false → IsRegularRequest o a.number a.request
    → WindowAgrees o (with_held w a) ((Admits a ∷ []) ∷ t)
WindowAgrees-admitted o w t a h low high new regular =
    let e : ℕ = number_expected w in
    let k₀ : ℕ = a.number - e in
    let t' : Trace = (Admits a ∷ []) ∷ t in
    let x : Option (Option HeldRequest) = Some (Some (held_of a)) in
    let in_range : k₀ < length w.places = omega arith in
    let long : length (set w.places k₀ x) ≡ length w.places = length-set w.places k₀ x in
    let apart : (n : ℕ) → n ≢ a.number → (a.number == n) ≡ false = λ n other. ne_eqb a.number n (omega arith) in
    record {
      first = h.first;
      size = long ∙ h.size;
      below = λ n l u. cc (received-admits t a n, h.below n l u);
      inside = λ k lt. ⊎_elim
          (λ here.
          let at : e + k ≡ a.number = omega arith in
          cc (get_or-set_same w.places k₀ x None in_range, place_of-here t a new (h.undelivered a.number low) (h.unemptied a.number new)))
          (λ other. cc (get_or-set_other w.places k₀ k x None other, h.inside k (omega (arith, long)), place_of-other t a (e + k) (apart (e + k) (omega arith))))
          (cases_eq k k₀);
      above = λ n u. cc (received-admits t a n, h.above n (omega (arith, long)), apart n (omega (arith, long)));
      past = λ n before. held-admits t a n (apart n (omega arith)) ∙ h.past n before;
      undelivered = h.undelivered;
      unemptied = λ n gone. h.unemptied n (or_none (is_received t n) (a.number == n) (sym (received-admits t a n) ∙ gone)).0;
      requests = λ n b found. ⊎_elim (λ before. h.requests n b before) (λ this. subst (λ m. IsRegularRequest o m b.request) (admitted-number t' n b found) (subst (λ (c : Arrival). IsRegularRequest o c.number c.request) this regular)) (admitted-cases t a n b found);
      delivered = grind (arith, nat_tests, append-nil, same_range, request_at-admits, apart);
      few = omega (arith, h.few, long);
      free = λ k big. get_or-set_other w.places k₀ k x None (omega (arith, long, h.few)) ∙ h.free k (omega (arith, long));
    }

-- ---- a turn

-- the request at the next number
pub record Next (w : Arrived) (t : Trace) (r : HeldRequest) : Type 0 where
  pub arrival : Arrival
  pub held_is : held t (number_expected w) ≡ Some arrival
  pub request_is : held_of arrival ≡ r
  pub received_is : is_received t (number_expected w) ≡ true

some_held : (b : Bool) (x : Option Arrival) (r : HeldRequest) → cond b (Some (option_map held_of x)) None ≡ Some (Some r) → (b ≡ true) × ((a : Arrival) × ((x ≡ Some a) × (held_of a ≡ r)))
some_held b x r h = grind (arith, nat_tests)

pub next_request : (o : Setting) (w : Arrived) (t : Trace) (r : HeldRequest) → WindowAgrees o w t → at_place w 0 ≡ Some (Some r) → Next w t r
next_request o w t r a h =
    let e : ℕ = number_expected w in
    let at : e + 0 ≡ e = omega arith in
    let facts = some_held (is_received t e) (held t e) r (sym (ap (place_of t) at) ∙ sym (a.inside 0 (has_first w.places (Some r) h)) ∙ h) in
    record { arrival = facts.1.0; held_is = facts.1.1.0; request_is = facts.1.1.1; received_is = facts.0 }

pub record Turned (o : Setting) (w : Arrived) (t : Trace) : Type 0 where
  pub agrees : WindowAgrees o w t
  pub not_full : w.unfinished < length w.places
  pub last_free : (k : ℕ) → length w.places ≤ k + w.unfinished + 1 → get_or w.places k None ≡ None

-- the next number was received and has turned: nothing is held there any more, and all else is as it was
record Turns (o : Setting) (w : Arrived) (t t' : Trace) : Type 0 where
  here : is_received t (number_expected w) ≡ true
  none_here : held t' (number_expected w) ≡ None
  received_is : received t' ≡ received t
  held_is : (n : ℕ) → n ≢ number_expected w → held t' n ≡ held t n
  delivered_is : (n : ℕ) → number_expected w < n → is_delivered t' n ≡ is_delivered t n
  emptied_is : (n : ℕ) → is_emptied t' n ≡ is_emptied t n
  admitted_is : (n : ℕ) → admitted t' n ≡ admitted t n
  delivered : shown delivers t' ≡ executed_below o t' (number_expected w + 1)

-- the places move up
shifted : (old : List (Option (Option HeldRequest))) (k : ℕ) → k + 1 < length old → get_or (drop 1 old ++ None ∷ []) k None ≡ get_or old (k + 1) None
shifted old k lt = grind (arith, elements)

turned : (o : Setting) (w : Arrived) (t t' : Trace) (x : Option HeldRequest) → WindowAgrees o w t → at_place w 0 ≡ Some x → Turns o w t t' → Turned o (turned_on w) t'
turned o w t t' x h place s =
    let e : ℕ = number_expected w in
    let old : List (Option (Option HeldRequest)) = w.places in
    let new : List (Option (Option HeldRequest)) = drop 1 old ++ None ∷ [] in
    let some : 0 < length old = has_first old x place in
    let rest : length (drop 1 old) + 1 ≡ length old = omega (arith, length-drop 1 old) in
    let long : length new ≡ length old = length_push (drop 1 old) None ∙ rest in
    let not_full : w.unfinished < length old = grind (arith, h.free 0) in
    let free : (k : ℕ) → length old ≤ k + 1 + w.unfinished → get_or new k None ≡ None = λ k big.
    ⊎_elim (λ inner. shifted old k inner ∙ h.free (k + 1) big) (λ last. last_none (drop 1 old) k (omega arith)) (cases_lt (k + 1) (length old)) in
    let received_is : (n : ℕ) → is_received t' n ≡ is_received t n = λ n. ap (λ ns. contains ns n) s.received_is in
    record {
      agrees = record {
        first = h.first;
        size = long ∙ h.size;
        below = λ n l u. received_is n ∙ ⊎_elim (λ here. ap (is_received t) here ∙ s.here) (λ other. h.below n l (omega arith)) (cases_eq n e);
        inside = λ k lt.
            let n : ℕ = number_expected (turned_on w) + k in
            let at : e + (k + 1) ≡ n = omega arith in
            ⊎_elim (λ inner. cc (shifted old k inner, h.inside (k + 1) inner, received_is n, s.held_is n (omega arith)))
            (λ last. cc (last_none (drop 1 old) k (omega arith), received_is n, h.above n (omega arith)))
            (cases_lt (k + 1) (length old));
        above = λ n u. received_is n ∙ h.above n (omega (arith, long));
        past = λ n before. ⊎_elim (λ here. ap (held t') here ∙ s.none_here) (λ other. s.held_is n other ∙ h.past n (omega arith)) (cases_eq n e);
        undelivered = λ n u. s.delivered_is n (omega arith) ∙ h.undelivered n (omega arith);
        unemptied = λ n gone. s.emptied_is n ∙ h.unemptied n (sym (received_is n) ∙ gone);
        requests = λ n b found. h.requests n b (sym (s.admitted_is n) ∙ found);
        delivered = s.delivered ∙ ap (executed_below o t') (let z : e + 1 ≡ number_expected (turned_on w) = omega arith in z);
        few = omega (arith, long, h.few);
        free = λ k big. free k (omega (arith, long, big));
      };
      not_full = omega (arith, long, not_full);
      last_free = λ k big. free k (omega (arith, long, big));
    }

pub WindowAgrees-turned : (o : Setting) (w : Arrived) (t : Trace) (r : HeldRequest) (ms : List Mark) → WindowAgrees o w t → at_place w 0 ≡ Some (Some r) → (x : Next w t r) → IsQuiet ms
    → Turned o (turned_on w) ((Delivers x.arrival ∷ ms) ∷ t)
WindowAgrees-turned o w t r ms h place x q =
    let a : Arrival = x.arrival in
    let e : ℕ = number_expected w in
    let t' : Trace = (Delivers a ∷ ms) ∷ t in
    let number : a.number ≡ e = held-number t e a x.held_is in
    let apart : (n : ℕ) → n ≢ e → (a.number == n) ≡ false = λ n other. ne_eqb a.number n (omega arith) in
    turned o w t t' (Some r) h place (record {
      here = x.received_is;
      none_here = held-delivered t a ms e number;
      received_is = cc (q.receives, append-nil (received t));
      held_is = λ n other. held-turned t a ms n q (apart n other);
      delivered_is = λ n above. cc (apart n (omega arith), q.delivers_no n);
      emptied_is = λ n. cc (q.empties_no n);
      admitted_is = λ n. cc (q.admits n, append-nil (shown (admits_at n) t));
      delivered = cc (
        q.delivers_none,
        h.delivered,
        executed_below-more o t' e (omega (arith, h.first)),
        request_at-turned t a ms e q,
        held_unemptied t e a x.held_is,
        admitted_of_held t e a x.held_is,
        same_range t t' (number_of_first o.first) (e - number_of_first o.first) (λ k l u. sym (request_at-turned t a ms k q)),
      );
    })

-- nothing is held at the next number, which is received, where its place says so
pub passed_at : (o : Setting) (w : Arrived) (t : Trace) → WindowAgrees o w t → at_place w 0 ≡ Some None → (is_received t (number_expected w) ≡ true) × (held t (number_expected w) ≡ None)
passed_at o w t h place =
    let at : number_expected w + 0 ≡ number_expected w = omega arith in
    let none : place_of t (number_expected w) ≡ Some None = cc (h.inside 0 (has_first w.places None place)) in
    grind arith

-- a number that nothing is held at is passed
pub WindowAgrees-passed : (o : Setting) (w : Arrived) (t : Trace) → WindowAgrees o w t → at_place w 0 ≡ Some None → WindowAgrees o (turned_on w) t
WindowAgrees-passed o w t h place =
    let e : ℕ = number_expected w in
    let p = passed_at o w t h place in
    let none : request_at t e ≡ None = grind (arith, p.1, h.undelivered e) in
    let delivered : shown delivers t ≡ executed_below o t (e + 1) = cc (h.delivered, executed_below-more o t e (omega (arith, h.first)), none, append-nil (executed_below o t e)) in
    (turned o w t t None h place (search (p.0, p.1, delivered))).agrees

-- a command begins in a window that has turned
pub WindowAgrees-started : (o : Setting) (w : Arrived) (t : Trace) → Turned o w t → WindowAgrees o (with_unfinished w (w.unfinished + 1)) t
WindowAgrees-started o w t h = grind (arith, nat_tests)

-- ==== a number that is received without a request, and a held request that is taken out, in the window

-- ---- the place of a number becomes empty

-- after the item the number is received and nothing is held there, and the others are as they were
record Clears (item : List Mark) (t : Trace) (n : ℕ) : Type 0 where
  received_is : (k : ℕ) → is_received (item ∷ t) k ≡ (is_received t k || (n == k))
  here : held (item ∷ t) n ≡ None
  other : (k : ℕ) → (n == k) ≡ false → held (item ∷ t) k ≡ held t k
  emptied_is : (k : ℕ) → (n == k) ≡ false → is_emptied (item ∷ t) k ≡ is_emptied t k
  requested : (k : ℕ) → (n == k) ≡ false → request_at (item ∷ t) k ≡ request_at t k
  admitted_is : (k : ℕ) → shown (admits_at k) (item ∷ t) ≡ shown (admits_at k) t
  delivers_none : filter_map delivers item ≡ []
  delivers_no : (k : ℕ) → list_any (delivers_number k) item ≡ false

WindowAgrees-clears : (o : Setting) (w : Arrived) (item : List Mark) (t : Trace) (n : ℕ) → WindowAgrees o w t → Clears item t n → number_expected w ≤ n → n < number_expected w + room_of w
    → WindowAgrees o (with_place w (n - number_expected w) (Some None)) (item ∷ t)
WindowAgrees-clears o w item t n h v low high =
    let e : ℕ = number_expected w in
    let long : length (set w.places (n - e) (Some None)) ≡ length w.places = length-set w.places (n - e) (Some None) in
    let apart : (k : ℕ) → (n ≡ k → ⊥) → (n == k) ≡ false = λ k differ. ne_eqb n k differ in
    let here : (k : ℕ) → k ≡ n - e → get_or (set w.places (n - e) (Some None)) k None ≡ place_of (item ∷ t) (e + k) = λ k is.
    let at : e + k ≡ n = omega (arith, is, low) in
    let now : Some None ≡ place_of (item ∷ t) n = rw (v.here, v.received_is n, or_second (is_received t n) (n == n) (eq-eqb n n refl)) in
    get_or-set_at w.places (n - e) k (Some None) None is (omega arith) ∙ now ∙ ap (place_of (item ∷ t)) (sym at) in
    let other : (k : ℕ) → k < length w.places → (k ≡ n - e → ⊥) → get_or (set w.places (n - e) (Some None)) k None ≡ place_of (item ∷ t) (e + k) = λ k lt differ.
    grind (arith, nat_tests, apart, get_or-set_other, or_false) in
    record {
      first = h.first;
      size = long ∙ h.size;
      below = λ k l u. rw (v.received_is k, h.below k l u);
      inside = λ k lt. ⊎_elim (here k) (other k (omega (arith, lt, long))) (cases_eq k (n - e));
      above = λ k u. rw (v.received_is k, h.above k (omega (arith, u, long))) (apart k (λ same. omega (arith, same, u, long)));
      past = λ k before. v.other k (apart k (λ same. omega (arith, same, before, low))) ∙ h.past k before;
      undelivered = λ k u. rw (v.delivers_no k, h.undelivered k u);
      unemptied = grind (arith, nat_tests, or_none);
      requests = λ k b found. h.requests k b (sym (ap first_of (v.admitted_is k)) ∙ found);
      delivered = rw (v.delivers_none, append-nil, h.delivered)
          (same_range t (item ∷ t) (number_of_first o.first) (e - number_of_first o.first) (λ k l u. sym (v.requested k (apart k (λ same. omega (arith, same, u, low))))));
      few = omega (arith, h.few, long);
      free = λ k big. get_or-set_other w.places (n - e) k (Some None) None (λ same. omega (arith, same, big, long, h.few)) ∙ h.free k (omega (arith, big, long));
    }

-- a number is received without a request
pub WindowAgrees-voided : (o : Setting) (w : Arrived) (t : Trace) (m : Mark) (n : ℕ) (ms : List Mark) → WindowAgrees o w t → IsQuiet (m ∷ []) → IsQuiet ms → number_expected w ≤ n → n < number_expected w + room_of w → is_received t n ≡ false
    → WindowAgrees o (with_place w (n - number_expected w) (Some None)) ((m ∷ Voids n ∷ ms) ∷ t)
WindowAgrees-voided o w t m n ms h q qs low high new =
    let item : List Mark = m ∷ Voids n ∷ ms in
    let v : VoidsOne item n = voids-one m n ms q qs in
    WindowAgrees-clears o w item t n h (grind (arith, nat_tests, received-voids item t n v, held-voids item t n v, unreceived_unheld t n new, v.empties_no, request_at-voids item t n v, admitted-voids item t n v)) low high

-- what the window keeps of a number inside
pub read_inside : (o : Setting) (w : Arrived) (t : Trace) (n : ℕ) → WindowAgrees o w t → number_expected w ≤ n → n < number_expected w + length w.places → at_place w (n - number_expected w) ≡ place_of t n
read_inside o w t n h low high =
    let at : number_expected w + (n - number_expected w) ≡ n = omega arith in
    h.inside (n - number_expected w) (omega arith) ∙ rw at

-- a held request is in the part of the window that no live command takes
record HeldAt (w : Arrived) (t : Trace) (n : ℕ) (r : HeldRequest) : Type 0 where
  there : is_received t n ≡ true
  read : at_place w (n - number_expected w) ≡ Some (Some r)
  high : n < number_expected w + room_of w

held_inside : (o : Setting) (w : Arrived) (t : Trace) (n : ℕ) (h : Arrival) → WindowAgrees o w t → held t n ≡ Some h → number_expected w ≤ n → n < number_expected w + length w.places → HeldAt w t n (held_of h)
held_inside o w t n h a is low high =
    let k : ℕ = n - number_expected w in
    let there : is_received t n ≡ true = held_received t n h is in
    let read : at_place w k ≡ Some (Some (held_of h)) = read_inside o w t n a low high ∙ rw (there, is) in
    let not_last : k + w.unfinished < length w.places = ⊎_elim (λ lt. lt) (λ last. absurd (let free = a.free k last in cc)) (cases_lt (k + w.unfinished) (length w.places)) in
    record { there = there; read = read; high = omega (arith, not_last) }

-- it is taken out
pub WindowAgrees-emptied : (o : Setting) (w : Arrived) (t : Trace) (m : Mark) (n : ℕ) (h : Arrival) (ms : List Mark) → WindowAgrees o w t → IsQuiet (m ∷ []) → IsQuiet ms → held t n ≡ Some h → number_expected w ≤ n → n < number_expected w + length w.places
    → WindowAgrees o (with_place w (n - number_expected w) (Some None)) ((m ∷ Empties h ∷ ms) ∷ t)
WindowAgrees-emptied o w t m n h ms a q qs is low high =
    let item : List Mark = m ∷ Empties h ∷ ms in
    let at = held_inside o w t n h a is low high in
    let v = subst (EmptiesOne item) (held-number t n h is) (empties-one m h ms q qs) in
    let received : (k : ℕ) (b : Bool) → (n == k) ≡ b → is_received t k ≡ (is_received t k || b) = λ k.
    elim [
      | true ↦ λ same. rw (← eqb-true n k same, at.there)
      | false ↦ λ no. sym (or_false (is_received t k))
    ] in
    WindowAgrees-clears o w item t n a (grind (arith, nat_tests, received-empties item t n v, received, held-gone item t n v, held-other item t n v, emptied-empties item t n v, request_at-empties item t n v, admitted-empties item t n v)) low at.high

-- ---- what the window becomes, by the number that the wire shows

-- a place of the window is that of a number inside
pub inside_place : (w : Arrived) (n x : ℕ) → number_expected w ≤ n → n < number_expected w + room_of w → lift (number_expected w) x ≡ n → place_in w x ≡ Inside (n - number_expected w)
inside_place w n x low high is = grind (arith, nat_tests)

-- a number that has a place is in the window
pub inside_bounds : (w : Arrived) (x : ℕ) → IsInside (place_in w x) → (number_expected w ≤ lift (number_expected w) x) × (lift (number_expected w) x < number_expected w + room_of w)
inside_bounds w x = grind (arith, nat_tests)

-- a number inside is voided
pub record VoidedAt (w : Arrived) (t : Trace) (x n : ℕ) : Type 0 where
  pub new : is_received t n ≡ false → voided w x ≡ with_place w (n - number_expected w) (Some None)
  pub known : is_received t n ≡ true → voided w x ≡ w
  pub received_is : is_received_at w (place_in w x) ≡ is_received t n

pub voided_at : (o : Setting) (w : Arrived) (t : Trace) (x n : ℕ) → WindowAgrees o w t → number_expected w ≤ n → n < number_expected w + room_of w → lift (number_expected w) x ≡ n → VoidedAt w t x n
voided_at o w t x n h low high is = grind (arith, nat_tests, inside_place, read_inside)

-- a held request is taken out
pub emptied_at : (o : Setting) (w : Arrived) (t : Trace) (n : ℕ) (h : Arrival) → WindowAgrees o w t → n < number_expected w + 2 ^ 31 → held t n ≡ Some h → number_expected w ≤ n → n < number_expected w + length w.places
    → emptied w (wire n) ≡ with_place w (n - number_expected w) (Some None)
emptied_at o w t n h a near is low high =
    let at = held_inside o w t n h a is low high in
    let place = inside_place w n (wire n) low at.high (omega (arith, near, low)) in
    rw (place, at.read)
