-- The places of requests: each stands once at the most, free or with a request.
use Rattle.std.proofs.Common.{◌≡◌, ℕ, zero, suc, ◌+◌, ◌<◌, ◌≤◌, ◌==◌, ◌&&◌, not, cond, Bool, true, false, List, [], ◌∷◌, ◌++◌, length, map, filter, count_by, Some, is_some, refl, ap, sym, ◌∙◌, arith, length-append, eq-eqb, ⊎_elim, ◌||◌, ◌-◌}
use Rattle.std.proofs.lemmas.Bool.{and_parts, cases_lt, cond_both, eqb-true, false≢true}
use Rattle.std.proofs.lemmas.List.{length-map}
use Rattle.std.proofs.lemmas.List.Sums.{sum_by-append}
use Rattle.std.specs.List.{list_any}
use Rattle.iscsi_rules.proofs.general.CountLemmas.{count-cons, count-filter, count-weaker, one}
use Rattle.iscsi_lists.proofs.WithoutLemmas.{length_without, times_without, times_without_other}
use Rattle.iscsi_lists.proofs.PlaceLemmas.{counted_long}
use Rattle.iscsi_lists.specs.Lists.{counted, end_of, last_of, without}
use Rattle.iscsi_slots.proofs.SlotLemmas.{times_append}
use Rattle.iscsi_slots.specs.Slots.{times}
use Rattle.iscsi_requests.specs.Cookies.{Cookies, Request, entered, has_place, is_at, is_used_on, next_place, removed, used_less, uses_at, with_uses}

-- ---- places

-- each place stands once at the most, among the free ones or with a request; and it is one of those that there are
pub record ArePlaces (v : Cookies) : Type 0 where
  pub once : (p : ℕ) → times p v.free + count_by (is_at p) v.requests ≤ 1
  pub low : (p : ℕ) → 1 ≤ times p v.free + count_by (is_at p) v.requests → 1 ≤ p
  pub high : (p : ℕ) → 1 ≤ times p v.free + count_by (is_at p) v.requests → p ≤ v.room
  pub all : length v.requests + length v.free ≡ v.room

counted_low : (p n k : ℕ) → 1 ≤ times p (counted n k) → (n ≤ p) × (p < n + k)
counted_low p n zero some = absurd (let z : ⊥ = omega (arith, some) in z)
counted_low p n (suc k) some = by_first (counted_low p (suc n) k) (n == p) refl
  where
    by_first : (1 ≤ times p (counted (suc n) k) → (suc n ≤ p) × (p < suc n + k)) → (v : Bool) → (n == p) ≡ v → (n ≤ p) × (p < n + suc k)
    by_first further true is = let same : n ≡ p = eqb-true n p is in ((let z : n ≤ p = omega (arith, same) in z), (let z : p < n + suc k = omega (arith, same) in z))
    by_first further false is =
        let here : one (n == p) ≡ 0 = ap one is in
        let rest = further (omega (arith, some, here)) in
        ((let z : n ≤ p = let low = rest.0 in omega (arith, low) in z), (let z : p < n + suc k = let high = rest.1 in omega (arith, high) in z))

counted_once : (p n k : ℕ) → times p (counted n k) ≤ 1
counted_once p n zero = omega arith
counted_once p n (suc k) = by_first (counted_once p (suc n) k) (n == p) refl
  where
    by_first : times p (counted (suc n) k) ≤ 1 → (v : Bool) → (n == p) ≡ v → times p (counted n (suc k)) ≤ 1
    by_first rest true is =
        let same : n ≡ p = eqb-true n p is in
        let here : one (n == p) ≡ 1 = ap one is in
        ⊎_elim (λ some. absurd (let low = (counted_low p (suc n) k (omega (arith, some))).0 in let z : ⊥ = omega (arith, low, same) in z)) (λ none. omega (arith, here, none)) (cases_lt 0 (times p (counted (suc n) k)))
    by_first rest false is = let here : one (n == p) ≡ 0 = ap one is in omega (arith, here, rest)

pub last_there : (xs : List ℕ) (p : ℕ) → last_of xs ≡ Some p → 1 ≤ times p xs
last_there [] p is = absurd cc
last_there (x ∷ xs) p is = at_end x xs (let e : end_of x xs ≡ p = cc in e)
  where
    at_end : (y : ℕ) (ys : List ℕ) → end_of y ys ≡ p → 1 ≤ times p (y ∷ ys)
    at_end y [] e = let here : one (y == p) ≡ 1 = ap one (eq-eqb y p e) in omega (arith, here)
    at_end y (z ∷ ys) e = let rest = at_end z ys e in omega (arith, rest)

pub last_some : (xs : List ℕ) → 1 ≤ length xs → is_some (last_of xs) ≡ true
last_some [] some = absurd (let z : ⊥ = omega (arith, some) in z)
last_some (x ∷ xs) some = refl

push_counted : (p : ℕ) (rs : List Request) (r : Request) → count_by (is_at p) (rs ++ r ∷ []) ≡ count_by (is_at p) rs + one (r.place == p)
push_counted p rs r = let all = sum_by-append (λ (x : Request). cond (is_at p x) 1 0) rs (r ∷ []) in omega (arith, all, count-cons (is_at p) r [])

pub places_opened : (room : ℕ) → ArePlaces (record { requests = []; free = counted 1 room; room = room })
places_opened room = record {
  once = λ p. omega (arith, counted_once p 1 room);
  low = λ p some. (counted_low p 1 room (omega (arith, some))).0;
  high = λ p some. (let h = (counted_low p 1 room (omega (arith, some))).1 in omega (arith, h));
  all = omega (arith, counted_long 1 room);
}

pub places_entered : (cookie place : ℕ) (v : Cookies) → next_place v ≡ Some place → ArePlaces v → ArePlaces (entered cookie place v)
places_entered cookie place v is h = record {
  once = λ p. by_place p (place == p) refl;
  low = λ p some. h.low p (omega (arith, some, same p (place == p) refl));
  high = λ p some. h.high p (omega (arith, some, same p (place == p) refl));
  all = (let a = h.all in omega (arith, a, length-append v.requests (r ∷ []), length_without place v.free, last_there v.free place is, h.once place));
}
  where
    r : Request
    r = record { place = place; cookie = cookie; uses = 1 }

    -- no place stands oftener than before
    same : (p : ℕ) (w : Bool) → (place == p) ≡ w → times p (without place v.free) + count_by (is_at p) (v.requests ++ record { place = place; cookie = cookie; uses = 1 } ∷ []) ≤ times p v.free + count_by (is_at p) v.requests
    same p true e =
        let at : place ≡ p = eqb-true place p e in
        let here = ap one e in
        let gone = times_without place v.free in
        let none : times p (without place v.free) ≡ 0 = ap (λ q. times q (without place v.free)) (sym at) ∙ gone in
        let some = last_there v.free place is in
        let there : times p v.free ≡ times place v.free = ap (λ q. times q v.free) (sym at) in
        omega (arith, here, none, some, there, push_counted p v.requests r)
    same p false e =
        let here = ap one e in
        let kept = times_without_other place p v.free (λ at. false≢true (sym e ∙ eq-eqb place p (sym at))) in
        omega (arith, here, kept, push_counted p v.requests r)

    by_place : (p : ℕ) (w : Bool) → (place == p) ≡ w → times p (without place v.free) + count_by (is_at p) (v.requests ++ record { place = place; cookie = cookie; uses = 1 } ∷ []) ≤ 1
    by_place p w e = omega (arith, same p w e, h.once p)

-- the uses aside
uses_same : (uses place p : ℕ) (rs : List Request) → count_by (is_at p) (map (λ (r : Request). cond (is_at place r) (record r { uses = uses }) r) rs) ≡ count_by (is_at p) rs
uses_same uses place p [] = refl
uses_same uses place p (r ∷ rs) =
    let here : one (is_at p (cond (is_at place r) (record r { uses = uses }) r)) ≡ one (is_at p r) = cond_both (is_at place r) (record r { uses = uses }) r (λ (x : Request). one (is_at p x) ≡ one (is_at p r)) (λ is. refl) (λ is. refl) in
    omega (arith, here, uses_same uses place p rs, count-cons (is_at p) r rs, count-cons (is_at p) (cond (is_at place r) (record r { uses = uses }) r) (map (λ (x : Request). cond (is_at place x) (record x { uses = uses }) x) rs))

pub places_uses : (uses place : ℕ) (v : Cookies) → ArePlaces v → ArePlaces (with_uses uses place v)
places_uses uses place v h = record {
  once = λ p. omega (arith, uses_same uses place p v.requests, h.once p);
  low = λ p some. h.low p (omega (arith, some, uses_same uses place p v.requests));
  high = λ p some. h.high p (omega (arith, some, uses_same uses place p v.requests));
  all = (let a = h.all in let long = length-map v.requests (λ (r : Request). cond (is_at place r) (record r { uses = uses }) r) in omega (arith, a, long));
}

counted_any : (p : ℕ) (rs : List Request) → list_any (is_at p) rs ≡ true → 1 ≤ count_by (is_at p) rs
counted_any p [] is = absurd (false≢true is)
counted_any p (r ∷ rs) is = by_first (counted_any p rs) (is_at p r) refl is
  where
    by_first : (list_any (is_at p) rs ≡ true → 1 ≤ count_by (is_at p) rs) → (v : Bool) → is_at p r ≡ v → (v || list_any (is_at p) rs) ≡ true → 1 ≤ count_by (is_at p) (r ∷ rs)
    by_first further true e k = let here = ap one e in omega (arith, here, count-cons (is_at p) r rs)
    by_first further false e k = let rest = further k in omega (arith, rest, count-cons (is_at p) r rs)

pub parted : (p : ℕ) (rs : List Request) → length (filter (λ (r : Request). not (is_at p r)) rs) + count_by (is_at p) rs ≡ length rs
parted p [] = refl
parted p (r ∷ rs) = by_first (parted p rs) (is_at p r) refl
  where
    by_first : length (filter (λ (x : Request). not (is_at p x)) rs) + count_by (is_at p) rs ≡ length rs → (v : Bool) → is_at p r ≡ v
        → length (cond (not v) (r ∷ filter (λ (x : Request). not (is_at p x)) rs) (filter (λ (x : Request). not (is_at p x)) rs)) + count_by (is_at p) (r ∷ rs) ≡ length (r ∷ rs)
    by_first rest true e = let here = ap one e in omega (arith, rest, here, count-cons (is_at p) r rs)
    by_first rest false e = let here = ap one e in omega (arith, rest, here, count-cons (is_at p) r rs)

places_removed : (place : ℕ) (v : Cookies) → has_place place v ≡ true → ArePlaces v → ArePlaces (removed place v)
places_removed place v is h = record {
  once = λ p. omega (arith, no_more p (place == p) refl, h.once p);
  low = λ p some. h.low p (omega (arith, some, no_more p (place == p) refl));
  high = λ p some. h.high p (omega (arith, some, no_more p (place == p) refl));
  all = (let a = h.all in omega (arith, a, length-append v.free (place ∷ []), parted place v.requests, counted_any place v.requests is, h.once place));
}
  where
    no_more : (p : ℕ) (w : Bool) → (place == p) ≡ w → times p (v.free ++ place ∷ []) + count_by (is_at p) (filter (λ (r : Request). not (is_at place r)) v.requests) ≤ times p v.free + count_by (is_at p) v.requests
    no_more p true e =
        let at : place ≡ p = eqb-true place p e in
        let here : one (place == p) ≡ 1 = ap one e in
        let some = counted_any place v.requests is in
        let there = ap (λ q. count_by (is_at q) v.requests) at in
        let left : count_by (is_at p) (filter (λ (r : Request). not (is_at place r)) v.requests) ≡ count_by (λ (r : Request). not (is_at place r) && is_at p r) v.requests = count-filter (is_at p) (λ (r : Request). not (is_at place r)) v.requests in
        let none = none_both v.requests at in
        omega (arith, here, some, there, left, none, times_append p v.free (place ∷ []))
      where
        never : (u : Bool) → one (not u && u) ≡ 0
        never true = refl
        never false = refl

        none_both : (rs : List Request) → place ≡ p → count_by (λ (r : Request). not (is_at place r) && is_at p r) rs ≡ 0
        none_both [] at = refl
        none_both (r ∷ rs) at =
            let here : one (not (is_at place r) && is_at p r) ≡ 0 = ap (λ q. one (not (is_at place r) && is_at q r)) (sym at) ∙ never (is_at place r) in
            omega (arith, here, none_both rs at, count-cons (λ (x : Request). not (is_at place x) && is_at p x) r rs)
    no_more p false e =
        let here : one (place == p) ≡ 0 = ap one e in
        let left = count-filter (is_at p) (λ (r : Request). not (is_at place r)) v.requests in
        let fewer = count-weaker (λ (r : Request). not (is_at place r) && is_at p r) (is_at p) v.requests (λ r k. (and_parts (not (is_at place r)) (is_at p r) k).1) in
        omega (arith, here, left, fewer, times_append p v.free (place ∷ []))

pub places_less : (place : ℕ) (v : Cookies) → has_place place v ≡ true → ArePlaces v → ArePlaces (used_less place v)
places_less place v is h = cond_both (is_used_on place v) (with_uses (uses_at place v - 1) place v) (removed place v) ArePlaces (λ more. places_uses (uses_at place v - 1) place v h) (λ last. places_removed place v is h)
