-- The requests that are in being, as one enters, is used more or less, and goes.
use Rattle.std.proofs.Common.{◌≡◌, ◌≢◌, ℕ, zero, suc, ◌+◌, ◌<◌, ◌≤◌, ◌==◌, ◌||◌, not, cond, Bool, true, false, List, [], ◌∷◌, ◌++◌, length, map, filter, find, get_or, set, Some, None, refl, ap, sym, ◌∙◌, arith, ⊎_elim, eq-eqb, ne_eqb, lt-ltb, le-ltb}
use Rattle.std.specs.List.{AllPairs, list_any}
use Rattle.std.proofs.lemmas.Bool.{cases_Bool, cases_eq, cases_lt, false≢true}
use Rattle.std.proofs.lemmas.List.{get_or-map, get_or-set_other, get_or-set_same, length-map, length-set, map-append}
use Rattle.iscsi_slots.specs.Slots.{times}
use Rattle.iscsi_slots.proofs.SlotLemmas.{times_append, times_at}
use Rattle.iscsi_lists.specs.Lists.{AreApart, Listed, last_of, linked_in, times_in, total, with_last, without}
use Rattle.iscsi_lists.proofs.PlaceLemmas.{last_there}
use Rattle.iscsi_lists.proofs.WithoutLemmas.{none_behind, not_first, times_other, times_same, times_without, times_without_other}
use Rattle.iscsi_requests.specs.declared.cookies.Counted.{Counted}
use Rattle.iscsi_requests.specs.Cookies.{AreKnown, Cookies, Request, cookie_at, entered, has_place, is_at, is_used_on, removed, uses_at, with_uses}
use Rattle.iscsi_requests.specs.Kept.{AreCookies, NO_COOKIE, cookies_of, counted_at, request_in, requests_in, slots_at}
use Rattle.iscsi_requests.proofs.ValueLemmas.{times_there}

-- ---- the one list

only_list : (s : ℕ) (lists : List (List ℕ)) → length lists ≡ 1 → times_in s lists ≡ times s (get_or lists 0 [])
only_list s [] one = absurd (omega (arith, one))
only_list s (xs ∷ []) one = omega arith
only_list s (xs ∷ (ys ∷ lists)) one = absurd (omega (arith, one))

all_in_one : (lists : List (List ℕ)) → length lists ≡ 1 → total lists ≡ length (get_or lists 0 [])
all_in_one [] one = absurd (omega (arith, one))
all_in_one (xs ∷ []) one = omega arith
all_in_one (xs ∷ (ys ∷ lists)) one = absurd (omega (arith, one))

one_with : (s : ℕ) (lists : List (List ℕ)) → length lists ≡ 1 → get_or (with_last 0 s lists) 0 [] ≡ get_or lists 0 [] ++ s ∷ []
one_with s [] one = absurd (omega (arith, one))
one_with s (xs ∷ lists) one = refl

one_without : (s : ℕ) (lists : List (List ℕ)) → length lists ≡ 1 → get_or (map (without s) lists) 0 [] ≡ without s (get_or lists 0 [])
one_without s [] one = absurd (omega (arith, one))
one_without s (xs ∷ lists) one = refl

-- ---- what is found

module _ (xs : List Counted) where
  any_place : (place : ℕ) (places : List ℕ) → 1 ≤ times place places → list_any (is_at place) (requests_in xs places) ≡ true
  any_place place [] there = absurd (omega (arith, there))
  any_place place (s ∷ places) there = ⊎_elim
      (λ same. ap (λ b. b || list_any (is_at place) (requests_in xs places)) (eq-eqb s place same))
      (λ other.
      let a = times_other place s places other in
      ap (λ b. (s == place) || b) (any_place place places (omega (arith, a, there))) ∙ or_true (s == place))
      (cases_eq s place)
    where
      or_true : (b : Bool) → (b || true) ≡ true
      or_true true = refl
      or_true false = refl

  none_place : (place : ℕ) (places : List ℕ) → times place places ≡ 0 → list_any (is_at place) (requests_in xs places) ≡ false
  none_place place [] none = refl
  none_place place (s ∷ places) none =
      ap (λ b. b || list_any (is_at place) (requests_in xs places)) (ne_eqb s place (not_first place s places none)) ∙ none_place place places (none_behind place s places none)

  find_place : (place : ℕ) (places : List ℕ) → 1 ≤ times place places → find (is_at place) (requests_in xs places) ≡ Some (request_in xs place)
  find_place place [] there = absurd (omega (arith, there))
  find_place place (s ∷ places) there = ⊎_elim
      (λ same.
      ap (λ b. cond b (Some (request_in xs s)) (find (is_at place) (requests_in xs places))) (eq-eqb s place same) ∙ ap (λ n. Some (request_in xs n)) same)
      (λ other.
      let a = times_other place s places other in
      ap (λ b. cond b (Some (request_in xs s)) (find (is_at place) (requests_in xs places))) (ne_eqb s place other) ∙ find_place place places (omega (arith, a, there)))
      (cases_eq s place)

  -- ---- one changes in its place, and a value elsewhere changes nothing

  abbrev with_uses_in : ℕ → ℕ → List Request → List Request
  with_uses_in uses place requests = map (λ (r : Request). cond (is_at place r) (record r { uses = uses }) r) requests

  set_requests : (uses place : ℕ) (places : List ℕ) → place < length xs
      → requests_in (set xs place (record { cookie = (counted_at xs place).cookie; uses = uses })) places ≡ with_uses_in uses place (requests_in xs places)
  set_requests uses place [] within = refl
  set_requests uses place (s ∷ places) within =
      let value : Counted = record { cookie = (counted_at xs place).cookie; uses = uses } in
      let new : List Counted = set xs place value in
      let r : Request = request_in xs s in
      let here : request_in new s ≡ cond (is_at place r) (record r { uses = uses }) r = ⊎_elim
      (λ same.
      ap (λ n. record { place = s; cookie = (counted_at new n).cookie; uses = (counted_at new n).uses }) same
      ∙ ap (λ (c : Counted). record { place = s; cookie = c.cookie; uses = c.uses }) (get_or-set_same xs place value NO_COOKIE within)
      ∙ ap (λ n. record { place = s; cookie = (counted_at xs n).cookie; uses = uses }) (sym same)
      ∙ sym (ap (λ b. cond b (record r { uses = uses }) r) (eq-eqb s place same)))
      (λ other.
      ap (λ (c : Counted). record { place = s; cookie = c.cookie; uses = c.uses }) (get_or-set_other xs place s value NO_COOKIE other)
      ∙ sym (ap (λ b. cond b (record r { uses = uses }) r) (ne_eqb s place other)))
      (cases_eq s place) in
      ap (λ x. x ∷ requests_in new places) here ∙ ap (λ rs. cond (is_at place r) (record r { uses = uses }) r ∷ rs) (set_requests uses place places within)

  other_requests : (place : ℕ) (value : Counted) (places : List ℕ) → times place places ≡ 0 → requests_in (set xs place value) places ≡ requests_in xs places
  other_requests place value [] none = refl
  other_requests place value (s ∷ places) none =
      ap (λ (c : Counted). record { place = s; cookie = c.cookie; uses = c.uses } ∷ requests_in (set xs place value) places) (get_or-set_other xs place s value NO_COOKIE (not_first place s places none))
      ∙ ap (λ rs. request_in xs s ∷ rs) (other_requests place value places (none_behind place s places none))

  -- the requests without that of a place are those of the other places
  without_request : (place : ℕ) (places : List ℕ) → requests_in xs (without place places) ≡ filter (λ (r : Request). not (is_at place r)) (requests_in xs places)
  without_request place [] = refl
  without_request place (s ∷ places) =
      let others = filter (λ (r : Request). not (is_at place r)) (requests_in xs places) in
      elim (s == place) as (λ b. requests_in xs (cond b (without place places) (s ∷ without place places)) ≡ cond (not b) (request_in xs s ∷ others) others) [
        | true ↦ without_request place places
        | false ↦ ap (λ rs. request_in xs s ∷ rs) (without_request place places)
      ]

-- each once is all apart
apart_first : (s : ℕ) (places : List ℕ) → times s (s ∷ places) ≤ 1 → AllPairs (λ (a b : ℕ). a ≢ b) places → AllPairs (λ (a b : ℕ). a ≢ b) (s ∷ places)
apart_first s places once rest zero zero d lt l same = absurd (omega (arith, lt))
apart_first s places once rest (suc i) zero d lt l same = absurd (omega (arith, lt))
apart_first s places once rest zero (suc j) d lt l same =
    let a = times_there places j d (omega (arith, l)) in
    let b = ap (λ n. times n places) same in
    let c = times_same s s places refl in absurd (omega (arith, a, b, c, once))
apart_first s places once rest (suc i) (suc j) d lt l same = rest i j d (omega (arith, lt)) (omega (arith, l)) same

apart_all : (places : List ℕ) → ((s : ℕ) → times s places ≤ 1) → AllPairs (λ (a b : ℕ). a ≢ b) places
apart_all [] once = λ i j d lt l. absurd (omega (arith, l))
apart_all (s ∷ places) once = apart_first s places (once s) (apart_all places (λ t. let a = once t in omega (arith, a)))

module _ (kept : Listed Counted) (are : AreCookies kept) (apart : AreApart (linked_in kept)) where
  abbrev order : List ℕ
  order = slots_at kept 0

  abbrev here : ℕ → Counted
  here place = counted_at kept.values place

  abbrev shown : Cookies
  shown = cookies_of kept

  in_list : (place : ℕ) → times_in place kept.lists ≡ times place order
  in_list place = only_list place kept.lists are.one

  once : (place : ℕ) → times place order ≤ 1
  once place = ⊎_elim
      (λ some. let a = in_list place in let b = apart.some place (omega (arith, a, some)) in let c = apart.within place (omega (arith, a, some)) in let e = apart.once place b c in omega (arith, a, e))
      (λ none. omega (arith, none))
      (cases_lt 0 (times place order))

  pub has_there : (place : ℕ) → has_place place shown ≡ true → 1 ≤ times place order
  has_there place has = ⊎_elim
      (λ some. omega (arith, some))
      (λ none. absurd (false≢true (sym (none_place kept.values place order (omega (arith, none))) ∙ has)))
      (cases_lt 0 (times place order))

  pub there_has : (place : ℕ) → 1 ≤ times place order → has_place place shown ≡ true
  there_has place there = any_place kept.values place order there

  pub listed : (place : ℕ) → 1 ≤ times place order → 1 ≤ times_in place kept.lists
  listed place there = let a = in_list place in omega (arith, a, there)

  pub high : (place : ℕ) → 1 ≤ times place order → place ≤ kept.room
  high place there = apart.within place (let a = in_list place in omega (arith, a, there))

  low : (place : ℕ) → 1 ≤ times place order → 1 ≤ place
  low place there = apart.some place (let a = in_list place in omega (arith, a, there))

  pub has_is : (place : ℕ) (told : Bool) → (told ≡ true → 1 ≤ times_in place kept.lists) → (1 ≤ times_in place kept.lists → told ≡ true) → told ≡ has_place place shown
  has_is place told there back = ⊎_elim
      (λ is. is ∙ sym (there_has place (let a = in_list place in let b = there is in omega (arith, a, b))))
      (λ isnt. isnt ∙ sym (none_place kept.values place order (⊎_elim
      (λ some. absurd (false≢true (sym isnt ∙ back (let a = in_list place in omega (arith, a, some)))))
      (λ none. omega (arith, none))
      (cases_lt 0 (times place order)))))
      (cases_Bool told)

  pub its_cookie : (place : ℕ) → 1 ≤ times place order → (here place).cookie ≡ cookie_at place shown
  its_cookie place there = sym (ap (λ r. elim r [ Some q ↦ q.cookie | None ↦ 0 ]) (find_place kept.values place order there))

  pub its_uses : (place : ℕ) → 1 ≤ times place order → (here place).uses ≡ uses_at place shown
  its_uses place there = sym (ap (λ r. elim r [ Some q ↦ q.uses | None ↦ 0 ]) (find_place kept.values place order there))

  shown_at : (i : ℕ) (d : Request) → i < length shown.requests → get_or shown.requests i d ≡ request_in kept.values (get_or order i 0)
  shown_at i d l = get_or-map (request_in kept.values) order i 0 d (let a = length-map order (request_in kept.values) in omega (arith, l, a))

  place_at : (i : ℕ) → i < length shown.requests → 1 ≤ times (get_or order i 0) order
  place_at i l = times_at order i (let a = length-map order (request_in kept.values) in omega (arith, l, a))

  pub are_known : AreKnown shown
  are_known = record {
    apart = λ i j d lt l same.
        let a = ap (λ (r : Request). r.place) (shown_at i d (omega (arith, lt, l))) in
        let b = ap (λ (r : Request). r.place) (shown_at j d l) in
        apart_all order once i j 0 lt (let e = length-map order (request_in kept.values) in omega (arith, l, e)) (sym a ∙ same ∙ b);
    low = λ i d l. let a = ap (λ (r : Request). r.place) (shown_at i d l) in let b = low (get_or order i 0) (place_at i l) in omega (arith, a, b);
    high = λ i d l. let a = ap (λ (r : Request). r.place) (shown_at i d l) in let b = high (get_or order i 0) (place_at i l) in omega (arith, a, b);
    used = λ i d l. let a = ap (λ (r : Request). r.uses) (shown_at i d l) in let b = are.used (get_or order i 0) (place_at i l) in omega (arith, a, b);
    counted =
        let a = length-map order (request_in kept.values) in
        let b = all_in_one kept.lists are.one in
        let e = apart.all in omega (arith, a, b, e);
    unused = λ place is. ⊎_elim
        (λ has.
        let a = in_list place in
        let b = has_there place has in
        let one = apart.once place (low place b) (high place b) in absurd (omega (arith, a, b, one, is)))
        (λ hasnt. hasnt)
        (cases_Bool (has_place place shown));
  }

  -- ---- one enters

  module _ (slot cookie : ℕ) (last : last_of kept.free ≡ Some slot) (fresh : times_in slot kept.lists ≡ 0) (long : length kept.values ≡ kept.room + 1) where
    abbrev value : Counted
    value = record { cookie = cookie; uses = 1 }

    abbrev with_slot : Listed Counted
    with_slot = record kept { free = without slot kept.free; lists = with_last 0 slot kept.lists; values = set kept.values slot value }

    clear : times slot order ≡ 0
    clear = let a = in_list slot in omega (arith, a, fresh)

    within : slot < length kept.values
    within = let a = last_there slot kept.free last in let b = apart.within slot (omega (arith, a)) in omega (arith, b, long)

    order_with : slots_at with_slot 0 ≡ order ++ slot ∷ []
    order_with = one_with slot kept.lists are.one

    pub entered_state : cookies_of with_slot ≡ entered cookie slot shown
    entered_state =
        ap (λ rs. record { requests = rs; free = without slot kept.free; room = kept.room })
        (ap (requests_in with_slot.values) order_with
        ∙ map-append (request_in with_slot.values) order (slot ∷ [])
        ∙ ap (λ rs. rs ++ request_in with_slot.values slot ∷ []) (other_requests kept.values slot value order clear)
        ∙ ap (λ (c : Counted). requests_in kept.values order ++ record { place = slot; cookie = c.cookie; uses = c.uses } ∷ []) (get_or-set_same kept.values slot value NO_COOKIE within))

    pub entered_are : AreCookies with_slot
    entered_are = record {
      one = length-set kept.lists 0 (order ++ slot ∷ []) ∙ are.one;
      used = λ place there. ⊎_elim
          (λ same.
          let a = ap (λ (c : Counted). c.uses) (ap (counted_at with_slot.values) same ∙ get_or-set_same kept.values slot value NO_COOKIE within) in omega (arith, a))
          (λ other.
          let a = ap (times place) order_with ∙ times_append place order (slot ∷ []) in
          let b = times_other place slot [] (λ e. other (sym e)) in
          let u = are.used place (omega (arith, a, b, there)) in
          let v = ap (λ (c : Counted). c.uses) (get_or-set_other kept.values slot place value NO_COOKIE other) in omega (arith, u, v))
          (cases_eq place slot);
    }

  -- ---- one has other uses

  module _ (place uses : ℕ) (there : 1 ≤ times place order) (long : length kept.values ≡ kept.room + 1) where
    abbrev changed : Counted
    changed = record { cookie = (here place).cookie; uses = uses }

    abbrev with_value : Listed Counted
    with_value = record kept { values = set kept.values place changed }

    inside : place < length kept.values
    inside = let a = high place there in omega (arith, a, long)

    pub changed_state : cookies_of with_value ≡ with_uses uses place shown
    changed_state = ap (λ rs. record { requests = rs; free = kept.free; room = kept.room }) (set_requests kept.values uses place order inside)

    pub changed_are : 1 ≤ uses → AreCookies with_value
    changed_are some = record {
      one = are.one;
      used = λ p there. ⊎_elim
          (λ same.
          let a = ap (λ (c : Counted). c.uses) (ap (counted_at with_value.values) same ∙ get_or-set_same kept.values place changed NO_COOKIE inside) in omega (arith, a, some))
          (λ other.
          let u = are.used p there in
          let v = ap (λ (c : Counted). c.uses) (get_or-set_other kept.values place p changed NO_COOKIE other) in omega (arith, u, v))
          (cases_eq p place);
    }

  -- ---- one goes

  module _ (place : ℕ) where
    abbrev without_place : Listed Counted
    without_place = record kept { free = kept.free ++ place ∷ []; lists = map (without place) kept.lists }

    order_without : slots_at without_place 0 ≡ without place order
    order_without = one_without place kept.lists are.one

    pub removed_state : cookies_of without_place ≡ removed place shown
    removed_state =
        ap (λ rs. record { requests = rs; free = kept.free ++ place ∷ []; room = kept.room }) (ap (requests_in kept.values) order_without ∙ without_request kept.values place order)

    pub removed_are : AreCookies without_place
    removed_are = record {
      one = length-map kept.lists (without place) ∙ are.one;
      used = λ p there. are.used p (⊎_elim
          (λ same.
          let a = ap (times p) order_without in let b = ap (λ n. times n (without place order)) same in let e = times_without place order in absurd (omega (arith, a, b, e, there)))
          (λ other. let a = ap (times p) order_without in let b = times_without_other place p order other in omega (arith, a, b, there))
          (cases_eq p place));
    }

  -- ---- one use less

  module _ (place : ℕ) (there : 1 ≤ times place order) where
    pub more_left : 1 < (here place).uses → is_used_on place shown ≡ true
    more_left some = lt-ltb 1 (uses_at place shown) (let a = its_uses place there in omega (arith, a, some))

    pub none_left : (here place).uses ≤ 1 → is_used_on place shown ≡ false
    none_left few = le-ltb 1 (uses_at place shown) (let a = its_uses place there in omega (arith, a, few))
