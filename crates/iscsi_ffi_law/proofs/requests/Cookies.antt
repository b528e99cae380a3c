-- The requests in their places, as one of them is used less, or goes.
use Rattle.std.proofs.Common.{◌≡◌, ℕ, ◌+◌, ◌≤◌, ◌==◌, ◌&&◌, not, cond, Bool, true, false, List, [], ◌∷◌, map, count_by, filter, find, Option, Some, None, option_map, refl, ap, sym, ◌∙◌, arith, ne_eqb, ◌++◌}
use Rattle.std.proofs.lemmas.Bool.{and_from, cond_both, eq-eqb, eqb-false, eqb-true, false≢true, not-true}
use Rattle.iscsi_rules.proofs.general.CountLemmas.{one, count-split, count-filter, count-weaker, count-cons}
use Rattle.iscsi_rules.proofs.general.BoolLemmas.{and_first}
use Rattle.iscsi_rules.proofs.general.ElementLemmas.{In, in-filter}
use Rattle.iscsi_slots.specs.Slots.{times}
use Rattle.iscsi_slots.proofs.SlotLemmas.{times_append}
use Rattle.iscsi_rules.proofs.general.ListLemmas.{count_by-map, fewer_counted}
use Rattle.iscsi_outbox_law.proofs.general.PairLemmas.{each-filter, each-map, each-append}
use Rattle.iscsi_requests.specs.Cookies.{Cookies, Request, cookie_at, has_place, is_at, removed, uses_at, with_uses, entered, next_place}
use Rattle.iscsi_ffi_law.specs.Parts.{AreCounted}
use Rattle.iscsi_ffi_law.proofs.requests.Kept.{count_members, count_nothing, count_used}
use Rattle.iscsi_ffi_law.proofs.general.Members.{Passing, any_in, each_in, find_in, in_any, in_counted, in_find, two_counted}
use Rattle.iscsi_lists.specs.Lists.{end_of, last_of, without}
use Rattle.iscsi_lists.proofs.WithoutLemmas.{times_without, times_without_other}
use Rattle.std.proofs.lemmas.List.Folds.{find-append}
use Rattle.std.proofs.lemmas.List.Sums.{sum_by-append}
use Rattle.std.specs.Option.{option_or}

-- a request with a place and a word
abbrev pub is_word : ℕ → ℕ → Request → Bool
is_word place cookie r = r.place == place && r.cookie == cookie

module _ (v : Cookies) (c : AreCounted v) where
  pub found_there : (r : Request) → In r v.requests → find (is_at r.place) v.requests ≡ Some r
  found_there r there =
      let y = in_find (is_at r.place) v.requests r there (eq-eqb r.place r.place refl) in
      let at = find_in (is_at r.place) v.requests y.0 y.1 in
      y.1 ∙ ap (λ (x : Request). Some x) (two_counted (is_at r.place) v.requests y.0 r (c.once r.place) at.0 there at.1 (eq-eqb r.place r.place refl))

  pub uses_there : (r : Request) → In r v.requests → uses_at r.place v ≡ r.uses
  uses_there r there = ap (λ (x : Option Request). elim x [ Some q ↦ q.uses | None ↦ 0 ]) (found_there r there)

  pub cookie_there : (r : Request) → In r v.requests → cookie_at r.place v ≡ r.cookie
  cookie_there r there = ap (λ (x : Option Request). elim x [ Some q ↦ q.cookie | None ↦ 0 ]) (found_there r there)

  -- what has uses has a place
  pub used_there : (place : ℕ) → 1 ≤ uses_at place v → (r : Request) × In r v.requests × (r.place ≡ place)
  used_there place some = by_found (find (is_at place) v.requests) refl some
    where
      by_found : (x : Option Request) → find (is_at place) v.requests ≡ x → 1 ≤ elim x [ Some q ↦ q.uses | None ↦ 0 ] → (r : Request) × In r v.requests × (r.place ≡ place)
      by_found None is k = absurd (let none : ⊥ = omega (arith, k) in none)
      by_found (Some r) is k = let found = find_in (is_at place) v.requests r is in (r, found.0, eqb-true r.place place found.1)

  pub place_used : (place : ℕ) → 1 ≤ uses_at place v → has_place place v ≡ true
  place_used place some = let r = used_there place some in in_any (is_at place) v.requests r.0 r.1 (eq-eqb r.0.place place r.2)

  pub there_used : (r : Request) → In r v.requests → 1 ≤ uses_at r.place v
  there_used r there = let some : 1 ≤ r.uses = each_in (λ (q : Request). 1 ≤ q.uses) v.requests r there c.used in omega (arith, some, uses_there r there)

  -- where a place has no uses nothing stands there
  pub none_there : (place : ℕ) → uses_at place v ≡ 0 → (r : Request) → In r v.requests → (r.place == place) ≡ false
  none_there place none r there = ne_eqb r.place place (λ same. omega (arith, there_used r there, ap (λ p. uses_at p v) same, none))

  pub none_counted : (place : ℕ) (test : Request → Bool) → uses_at place v ≡ 0 → count_by (λ (r : Request). r.place == place && test r) v.requests ≡ 0
  none_counted place test none = count_nothing (λ (r : Request). r.place == place && test r) v.requests (λ r there. ap (λ w. w && test r) (none_there place none r there))

  -- ---- used otherwise

  module _ (uses q : ℕ) (some : 1 ≤ uses) where
    other_uses : Request → Request
    other_uses r = cond (is_at q r) (record r { uses = uses }) r

    same_place : (r : Request) → (cond (is_at q r) (record r { uses = uses }) r).place ≡ r.place
    same_place r = cond_both (is_at q r) (record r { uses = uses }) r (λ (x : Request). x.place ≡ r.place) (λ is. refl) (λ is. refl)

    same_cookie : (r : Request) → (cond (is_at q r) (record r { uses = uses }) r).cookie ≡ r.cookie
    same_cookie r = cond_both (is_at q r) (record r { uses = uses }) r (λ (x : Request). x.cookie ≡ r.cookie) (λ is. refl) (λ is. refl)

    abbrev change : Request → Request
    change r = cond (is_at q r) (record r { uses = uses }) r

    pub words_same : (test : ℕ → ℕ → Bool) → count_by (λ (r : Request). test r.place r.cookie) (with_uses uses q v).requests ≡ count_by (λ (r : Request). test r.place r.cookie) v.requests
    words_same test =
        count_by-map (λ (r : Request). test r.place r.cookie) change v.requests
        ∙ count_members (λ (r : Request). test (change r).place (change r).cookie) (λ (r : Request). test r.place r.cookie) v.requests (λ r there. ap (λ p. test p (change r).cookie) (same_place r) ∙ ap (test r.place) (same_cookie r))

    pub counted_with : AreCounted (with_uses uses q v)
    counted_with = record {
      unused = λ place free. words_same (λ p k. p == place) ∙ c.unused place free;
      once = λ place. omega (arith, words_same (λ p k. p == place), c.once place);
      used = each-map (λ (r : Request). 1 ≤ r.uses) (λ (r : Request). 1 ≤ r.uses) change v.requests (λ r k. cond_both (is_at q r) (record r { uses = uses }) r (λ (x : Request). 1 ≤ x.uses) (λ is. some) (λ is. k)) c.used;
    }

    find_with : (place : ℕ) (rs : List Request) → find (is_at place) (map change rs) ≡ option_map change (find (is_at place) rs)
    find_with place [] = refl
    find_with place (r ∷ rs) =
        ap (λ p. cond (p == place) (Some (change r)) (find (is_at place) (map change rs))) (same_place r)
        ∙ ap (λ x. cond (r.place == place) (Some (change r)) x) (find_with place rs) ∙ by_test (r.place == place)
      where
        by_test : (w : Bool) → cond w (Some (change r)) (option_map change (find (is_at place) rs)) ≡ option_map change (cond w (Some r) (find (is_at place) rs))
        by_test true = refl
        by_test false = refl

    pub uses_elsewhere : (place : ℕ) → (place == q) ≡ false → uses_at place (with_uses uses q v) ≡ uses_at place v
    uses_elsewhere place other = ap (λ (x : Option Request). elim x [ Some r ↦ r.uses | None ↦ 0 ]) (find_with place v.requests) ∙ by_found (find (is_at place) v.requests) refl
      where
        by_found : (x : Option Request) → find (is_at place) v.requests ≡ x → ◌≡◌ {A = ℕ} (elim (option_map change x) [ Some r ↦ r.uses | None ↦ 0 ]) (elim x [ Some r ↦ r.uses | None ↦ 0 ])
        by_found None is = refl
        by_found (Some r) is =
            let at : r.place ≡ place = eqb-true r.place place (find_in (is_at place) v.requests r is).1 in
            ap (λ w. (cond w (record r { uses = uses }) r).uses) (ap (λ p. p == q) at ∙ other)

    pub uses_here : has_place q v ≡ true → uses_at q (with_uses uses q v) ≡ uses
    uses_here has = ap (λ (x : Option Request). elim x [ Some r ↦ r.uses | None ↦ 0 ]) (find_with q v.requests) ∙ by_found (in_find (is_at q) v.requests there.x there.there there.passes)
      where
        there : Passing (is_at q) v.requests
        there = any_in (is_at q) v.requests has

        by_found : (y : Request) × (find (is_at q) v.requests ≡ Some y) → ◌≡◌ {A = ℕ} (elim (option_map change (find (is_at q) v.requests)) [ Some r ↦ r.uses | None ↦ 0 ]) uses
        by_found y =
            ap (λ (x : Option Request). elim (option_map change x) [ Some r ↦ r.uses | None ↦ 0 ]) y.1 ∙ ap (λ w. (cond w (record y.0 { uses = uses }) y.0).uses) (find_in (is_at q) v.requests y.0 y.1).1

  -- ---- gone

  module _ (q : ℕ) where
    pub words_left : (place cookie : ℕ) → count_by (is_word place cookie) (removed q v).requests ≡ cond (not (place == q)) (count_by (is_word place cookie) v.requests) 0
    words_left place cookie = count_used (λ (r : Request). r.place) (λ p. not (p == q)) (λ (r : Request). r.cookie == cookie) place v.requests

    pub counted_without : AreCounted (removed q v)
    counted_without = record {
      unused = λ place free. by_place place free (place == q) refl;
      once = λ place. omega (arith, c.once place, fewer_counted (is_at place) (λ (r : Request). not (is_at q r)) v.requests);
      used = each-filter (λ (r : Request). 1 ≤ r.uses) (λ (r : Request). not (is_at q r)) v.requests c.used;
    }
      where
        split : (place : ℕ) → times place (v.free ++ q ∷ []) ≡ times place v.free + (one (q == place) + 0)
        split place = times_append place v.free (q ∷ [])

        by_place : (place : ℕ) → 1 ≤ times place (v.free ++ q ∷ []) → (w : Bool) → (place == q) ≡ w → count_by (is_at place) (filter (λ (r : Request). not (is_at q r)) v.requests) ≡ 0
        by_place place free true is =
            count_nothing (is_at place) (filter (λ (r : Request). not (is_at q r)) v.requests) (λ r there. elsewhere r (in-filter (λ (x : Request). not (is_at q x)) v.requests r there).1)
          where
            elsewhere : (r : Request) → not (r.place == q) ≡ true → (r.place == place) ≡ false
            elsewhere r h = ap (λ p. r.place == p) (eqb-true place q is) ∙ not-true (r.place == q) h
        by_place place free false is =
            let none : one (q == place) ≡ 0 = ap one (ne_eqb q place (λ same. eqb-false place q is (sym same))) in
            let fewer = fewer_counted (is_at place) (λ (r : Request). not (is_at q r)) v.requests in
            omega (arith, fewer, c.unused place (omega (arith, free, split place, none)))

    find_without : (place : ℕ) (rs : List Request) → (place == q) ≡ false → find (is_at place) (filter (λ (r : Request). not (is_at q r)) rs) ≡ find (is_at place) rs
    find_without place [] other = refl
    find_without place (r ∷ rs) other = by_test (find_without place rs other) (r.place == q) refl
      where
        by_test : find (is_at place) (filter (λ (x : Request). not (is_at q x)) rs) ≡ find (is_at place) rs → (w : Bool) → (r.place == q) ≡ w
            → find (is_at place) (cond (not w) (r ∷ filter (λ (x : Request). not (is_at q x)) rs) (filter (λ (x : Request). not (is_at q x)) rs)) ≡ cond (r.place == place) (Some r) (find (is_at place) rs)
        by_test later false is = ap (λ x. cond (r.place == place) (Some r) x) later
        by_test later true is =
            let isnt : (r.place == place) ≡ false = ne_eqb r.place place (λ same. false≢true (sym other ∙ eq-eqb place q (sym same ∙ eqb-true r.place q is))) in
            later ∙ ap (λ w. cond w (Some r) (find (is_at place) rs)) (sym isnt)

    pub uses_others : (place : ℕ) → (place == q) ≡ false → uses_at place (removed q v) ≡ uses_at place v
    uses_others place other = ap (λ (x : Option Request). elim x [ Some r ↦ r.uses | None ↦ 0 ]) (find_without place v.requests other)

    find_nothing : (rs : List Request) → find (is_at q) (filter (λ (r : Request). not (is_at q r)) rs) ≡ None
    find_nothing [] = refl
    find_nothing (r ∷ rs) = by_test (find_nothing rs) (r.place == q) refl
      where
        by_test : find (is_at q) (filter (λ (x : Request). not (is_at q x)) rs) ≡ None → (w : Bool) → (r.place == q) ≡ w
            → find (is_at q) (cond (not w) (r ∷ filter (λ (x : Request). not (is_at q x)) rs) (filter (λ (x : Request). not (is_at q x)) rs)) ≡ None
        by_test later true is = later
        by_test later false is = ap (λ w. cond w (Some r) (find (is_at q) (filter (λ (x : Request). not (is_at q x)) rs))) is ∙ later

    pub uses_nothing : uses_at q (removed q v) ≡ 0
    uses_nothing = ap (λ (x : Option Request). elim x [ Some r ↦ r.uses | None ↦ 0 ]) (find_nothing v.requests)

    -- its word goes once
    pub word_gone : has_place q v ≡ true → (word : ℕ) → one (cookie_at q v == word) + count_by (λ (r : Request). r.cookie == word) (removed q v).requests ≡ count_by (λ (r : Request). r.cookie == word) v.requests
    word_gone has word =
        let at : Passing (is_at q) v.requests = any_in (is_at q) v.requests has in
        let place_is : at.x.place ≡ q = eqb-true at.x.place q at.passes in
        let cookie_is : cookie_at q v ≡ at.x.cookie = ap (λ p. cookie_at p v) (sym place_is) ∙ cookie_there at.x at.there in
        let split = count-split (λ (r : Request). r.cookie == word) (is_at q) v.requests in
        let rest = count-filter (λ (r : Request). r.cookie == word) (λ (r : Request). not (is_at q r)) v.requests in
        let here : count_by (λ (r : Request). is_at q r && r.cookie == word) v.requests ≡ one (cookie_at q v == word) = by_word at (cookie_at q v == word) (ap (λ k. k == word) (sym cookie_is)) in
        omega (arith, split, rest, here)
      where
        by_word : (at : Passing (is_at q) v.requests) → (w : Bool) → (at.x.cookie == word) ≡ w → count_by (λ (r : Request). is_at q r && r.cookie == word) v.requests ≡ one w
        by_word at true is =
            let some : 1 ≤ count_by (λ (r : Request). is_at q r && r.cookie == word) v.requests = in_counted (λ (r : Request). is_at q r && r.cookie == word) v.requests at.x at.there (and_from (is_at q at.x) (at.x.cookie == word) at.passes is) in
            let few : count_by (λ (r : Request). is_at q r && r.cookie == word) v.requests ≤ count_by (is_at q) v.requests = count-weaker (λ (r : Request). is_at q r && r.cookie == word) (is_at q) v.requests (λ r k. and_first (is_at q r) (r.cookie == word) k) in
            omega (arith, some, few, c.once q)
        by_word at false is = count_nothing (λ (r : Request). is_at q r && r.cookie == word) v.requests (λ r there. isnt r there (is_at q r) refl)
          where
            isnt : (r : Request) → In r v.requests → (w : Bool) → is_at q r ≡ w → (is_at q r && r.cookie == word) ≡ false
            isnt r there false k = ap (λ x. x && r.cookie == word) k
            isnt r there true k = ap (λ x. x && r.cookie == word) k ∙ ap (λ (x : Request). x.cookie == word) (two_counted (is_at q) v.requests r at.x (c.once q) there at.there k at.passes) ∙ is

  -- ---- one more

  module _ (place cookie : ℕ) (free : next_place v ≡ Some place) where
    pub fresh : count_by (is_at place) v.requests ≡ 0
    fresh = c.unused place (last_times v.free free)
      where
        end_times : (x : ℕ) (xs : List ℕ) → end_of x xs ≡ place → 1 ≤ times place (x ∷ xs)
        end_times x [] is = let here : one (x == place) ≡ 1 = ap one (eq-eqb x place is) in omega (arith, here)
        end_times x (y ∷ xs) is = let rest : 1 ≤ times place (y ∷ xs) = end_times y xs is in omega (arith, rest)

        last_times : (xs : List ℕ) → last_of xs ≡ Some place → 1 ≤ times place xs
        last_times [] is = absurd cc
        last_times (x ∷ xs) is = end_times x xs (let e : end_of x xs ≡ place = cc in e)

    pub none_used : uses_at place v ≡ 0
    none_used = by_found (find (is_at place) v.requests) refl
      where
        by_found : (x : Option Request) → find (is_at place) v.requests ≡ x → ◌≡◌ {A = ℕ} (elim x [ Some r ↦ r.uses | None ↦ 0 ]) 0
        by_found None is = refl
        by_found (Some r) is = absurd (let f = find_in (is_at place) v.requests r is in let some = in_counted (is_at place) v.requests r f.0 f.1 in let none : ⊥ = omega (arith, some, fresh) in none)

    pub uses_entered : (other : ℕ) → uses_at other (entered cookie place v) ≡ uses_at other v + one (place == other)
    uses_entered other =
        ap (λ (x : Option Request). elim x [ Some r ↦ r.uses | None ↦ 0 ]) (find-append (is_at other) v.requests (record { place = place; cookie = cookie; uses = 1 } ∷ []))
        ∙ by_found (find (is_at other) v.requests) refl (place == other) refl
      where
        by_found : (x : Option Request) → find (is_at other) v.requests ≡ x → (w : Bool) → (place == other) ≡ w
            → ◌≡◌ {A = ℕ} (elim (option_or x (cond w (Some (record { place = place; cookie = cookie; uses = 1 })) None)) [ Some r ↦ r.uses | None ↦ 0 ]) (elim x [ Some r ↦ r.uses | None ↦ 0 ] + one w)
        by_found None is true same = refl
        by_found None is false same = refl
        by_found (Some r) is true same = absurd (let f = find_in (is_at other) v.requests r is in let some = in_counted (is_at other) v.requests r f.0 f.1 in let none : ⊥ = omega (arith, some, fresh, ap (λ p. count_by (is_at p) v.requests) (eqb-true place other same)) in none)
        by_found (Some r) is false same = omega arith

    pub words_entered : (p k : ℕ) → count_by (is_word p k) (entered cookie place v).requests ≡ count_by (is_word p k) v.requests + one (place == p && cookie == k)
    words_entered p k = omega (arith, sum_by-append (λ (r : Request). cond (is_word p k r) 1 0) v.requests (record { place = place; cookie = cookie; uses = 1 } ∷ []), count-cons (is_word p k) (record { place = place; cookie = cookie; uses = 1 }) [])

    at_entered : (p : ℕ) → count_by (is_at p) (entered cookie place v).requests ≡ count_by (is_at p) v.requests + one (place == p)
    at_entered p = omega (arith, sum_by-append (λ (r : Request). cond (is_at p r) 1 0) v.requests (record { place = place; cookie = cookie; uses = 1 } ∷ []), count-cons (is_at p) (record { place = place; cookie = cookie; uses = 1 }) [])

    pub counted_entered : AreCounted (entered cookie place v)
    counted_entered = record {
      once = λ p. by_place p (place == p) refl;
      used = each-append (λ (r : Request). 1 ≤ r.uses) v.requests (record { place = place; cookie = cookie; uses = 1 } ∷ []) c.used (omega arith, tt);
      unused = λ p some. still p some (place == p) refl;
    }
      where
        by_place : (p : ℕ) (w : Bool) → (place == p) ≡ w → count_by (is_at p) (entered cookie place v).requests ≤ 1
        by_place p true is = let here : one (place == p) ≡ 1 = ap one is in omega (arith, at_entered p, here, fresh, ap (λ q. count_by (is_at q) v.requests) (eqb-true place p is))
        by_place p false is = let none : one (place == p) ≡ 0 = ap one is in omega (arith, at_entered p, none, c.once p)

        still : (p : ℕ) → 1 ≤ times p (without place v.free) → (w : Bool) → (place == p) ≡ w → count_by (is_at p) (entered cookie place v).requests ≡ 0
        still p some true is = absurd (let none : ⊥ = omega (arith, some, times_without place v.free, ap (λ q. times q (without place v.free)) (eqb-true place p is)) in none)
        still p some false is =
            let none : one (place == p) ≡ 0 = ap one is in
            let same = times_without_other place p v.free (λ at. eqb-false place p is (sym at)) in
            omega (arith, at_entered p, none, c.unused p (omega (arith, some, same)))
