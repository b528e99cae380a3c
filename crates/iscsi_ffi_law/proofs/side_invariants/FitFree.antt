-- There is a place for a request, and for a PDU of the target's own: each place that is taken has a use, and there are fewer uses than places.
use Rattle.std.proofs.Common.{◌≡◌, ℕ, ◌+◌, ◌<◌, ◌≤◌, ◌==◌, ◌&&◌, not, cond, Bool, true, false, List, [], ◌∷◌, ◌++◌, length, map, filter, find, count_by, Option, Some, None, is_some, refl, ap, sym, subst, ◌∙◌, arith, length-append, eq-eqb, ⊎_elim}
use Rattle.std.proofs.lemmas.Bool.{cases_lt, eqb-true}
use Rattle.std.proofs.lemmas.List.{length-map}
use Rattle.iscsi_rules.proofs.general.CountLemmas.{count-cons, one}
use Rattle.iscsi_rules.proofs.general.ListLemmas.{fewer_counted}
use Rattle.iscsi_slots.proofs.SlotLemmas.{times_append}
use Rattle.iscsi_slots.specs.Slots.{times}
use Rattle.iscsi_ffi_commands.specs.declared.command.Command.{Command}
use Rattle.iscsi_ffi_steps.specs.State.{State}
use Rattle.iscsi_outbox_law.specs.private.Pairs.{EachOf}
use Rattle.iscsi_requests.specs.Conns.{count_all}
use Rattle.iscsi_requests.specs.Cookies.{Cookies, Request, is_at, next_place, uses_at}
use Rattle.iscsi_requests.specs.declared.functions.WaitingFunction.{WaitingFunction}
use Rattle.iscsi_requests.specs.declared.replies.WaitingReply.{WaitingReply}
use Rattle.iscsi_ffi_law.specs.Parts.{AreCounted}
use Rattle.iscsi_ffi_law.specs.Uses.{count_lists, is_place, is_used, uses_of}
use Rattle.iscsi_ffi_law.proofs.side_invariants.FitPlaced.{ArePlaces, last_some, parted}
use Rattle.iscsi_ffi_law.proofs.general.Members.{counted_in, in_find}

-- ---- fewer than places

none_left : (p q : ℕ) (rs : List Request) → q ≡ p → count_by (is_at p) (filter (λ (r : Request). not (is_at q r)) rs) ≡ 0
none_left p q [] same = refl
none_left p q (r ∷ rs) same = by_first (none_left p q rs same) (is_at q r) refl
  where
    by_first : count_by (is_at p) (filter (λ (x : Request). not (is_at q x)) rs) ≡ 0 → (v : Bool) → is_at q r ≡ v → count_by (is_at p) (cond (not v) (r ∷ filter (λ (x : Request). not (is_at q x)) rs) (filter (λ (x : Request). not (is_at q x)) rs)) ≡ 0
    by_first rest true is = rest
    by_first rest false is =
        let here : one (is_at p r) ≡ 0 = ap one (ap (λ k. is_at k r) (sym same) ∙ is) in
        omega (arith, rest, here, count-cons (is_at p) r (filter (λ (x : Request). not (is_at q x)) rs))

pub fewer_requests : (places : List ℕ) (rs : List Request) → ((p : ℕ) → count_by (is_at p) rs ≤ 1) → ((p : ℕ) → count_by (is_at p) rs ≤ times p places) → length rs ≤ length places
fewer_requests [] [] once there = omega arith
fewer_requests [] (r ∷ rs) once there =
    absurd (let here : one (is_at r.place r) ≡ 1 = ap one (eq-eqb r.place r.place refl) in let none = there r.place in let z : ⊥ = omega (arith, here, none, count-cons (is_at r.place) r rs) in z)
fewer_requests (q ∷ places) rs once there =
    let rest = fewer_requests places (filter (λ (r : Request). not (is_at q r)) rs) (λ p. omega (arith, fewer_counted (is_at p) (λ (r : Request). not (is_at q r)) rs, once p)) (λ p. by_place p (q == p) refl) in
    omega (arith, rest, parted q rs, once q)
  where
    by_place : (p : ℕ) (v : Bool) → (q == p) ≡ v → count_by (is_at p) (filter (λ (r : Request). not (is_at q r)) rs) ≤ times p places
    by_place p true is = let none = none_left p q rs (eqb-true q p is) in omega (arith, none)
    by_place p false is = let here = ap one is in omega (arith, here, there p, fewer_counted (is_at p) (λ (r : Request). not (is_at q r)) rs)

-- ---- the places of uses

pub somes : List (Option ℕ) → List ℕ
somes [] = []
somes (Some p ∷ xs) = p ∷ somes xs
somes (None ∷ xs) = somes xs

all_somes : List (List (Option ℕ)) → List ℕ
all_somes [] = []
all_somes (xs ∷ lists) = somes xs ++ all_somes lists

all_mapped : {X : Type 0} → (X → ℕ) → List (List X) → List ℕ
all_mapped f [] = []
all_mapped f (xs ∷ lists) = map f xs ++ all_mapped f lists

pub times_somes : (p : ℕ) (xs : List (Option ℕ)) → times p (somes xs) ≡ count_by (is_place p) xs
unfolding somes
times_somes p [] = refl
times_somes p (Some q ∷ xs) = omega (arith, times_somes p xs, count-cons (is_place p) (Some q) xs)
times_somes p (None ∷ xs) = omega (arith, times_somes p xs, count-cons (is_place p) None xs)

times_all : (p : ℕ) (lists : List (List (Option ℕ))) → times p (all_somes lists) ≡ count_lists (is_place p) lists
unfolding all_somes
times_all p [] = refl
times_all p (xs ∷ lists) = omega (arith, times_all p lists, times_somes p xs, times_append p (somes xs) (all_somes lists))

times_map : {X : Type 0} (f : X → ℕ) (p : ℕ) (xs : List X) → times p (map f xs) ≡ count_by (λ x. f x == p) xs
times_map f p [] = refl
times_map f p (x ∷ xs) = omega (arith, times_map f p xs, count-cons (λ y. f y == p) x xs)

times_mapped : {X : Type 0} (f : X → ℕ) (p : ℕ) (lists : List (List X)) → times p (all_mapped f lists) ≡ count_lists (λ x. f x == p) lists
unfolding all_mapped
times_mapped f p [] = refl
times_mapped f p (xs ∷ lists) = omega (arith, times_mapped f p lists, times_map f p xs, times_append p (map f xs) (all_mapped f lists))

times_filtered : (p : ℕ) (q : Command → Bool) (cs : List Command) → times p (map (λ (c : Command). c.request) (filter q cs)) ≡ count_by (λ (c : Command). c.request == p && q c) cs
times_filtered p q [] = refl
times_filtered p q (c ∷ cs) = by_first (times_filtered p q cs) (q c) refl
  where
    both : (u v : Bool) → v ≡ true → one (u && v) ≡ one u
    both true v is = ap one is
    both false v is = refl

    neither : (u v : Bool) → v ≡ false → one (u && v) ≡ 0
    neither true v is = ap one is
    neither false v is = refl

    by_first : times p (map (λ (d : Command). d.request) (filter q cs)) ≡ count_by (λ (d : Command). d.request == p && q d) cs → (v : Bool) → q c ≡ v
        → times p (map (λ (d : Command). d.request) (cond v (c ∷ filter q cs) (filter q cs))) ≡ count_by (λ (d : Command). d.request == p && q d) (c ∷ cs)
    by_first rest true is = let here = both (c.request == p) (q c) is in omega (arith, rest, here, count-cons (λ (d : Command). d.request == p && q d) c cs)
    by_first rest false is = let here = neither (c.request == p) (q c) is in omega (arith, rest, here, count-cons (λ (d : Command). d.request == p && q d) c cs)

pub few_somes : (xs : List (Option ℕ)) → length (somes xs) ≤ length xs
unfolding somes
few_somes [] = omega arith
few_somes (Some p ∷ xs) = omega (arith, few_somes xs)
few_somes (None ∷ xs) = omega (arith, few_somes xs)

few_all : (lists : List (List (Option ℕ))) → length (all_somes lists) ≤ count_all lists
unfolding all_somes
few_all [] = omega arith
few_all (xs ∷ lists) = omega (arith, few_all lists, few_somes xs, length-append (somes xs) (all_somes lists))

long_mapped : {X : Type 0} (f : X → ℕ) (lists : List (List X)) → length (all_mapped f lists) ≡ count_all lists
unfolding all_mapped
long_mapped f [] = refl
long_mapped f (xs ∷ lists) = let here = length-map xs f in omega (arith, long_mapped f lists, here, length-append (map f xs) (all_mapped f lists))

long_filtered : (q : Command → Bool) (cs : List Command) → length (map (λ (c : Command). c.request) (filter q cs)) ≡ count_by q cs
long_filtered q [] = refl
long_filtered q (c ∷ cs) = by_first (long_filtered q cs) (q c) refl
  where
    by_first : length (map (λ (d : Command). d.request) (filter q cs)) ≡ count_by q cs → (v : Bool) → q c ≡ v → length (map (λ (d : Command). d.request) (cond v (c ∷ filter q cs) (filter q cs))) ≡ count_by q (c ∷ cs)
    by_first rest true is = let here = ap one is in omega (arith, rest, here, count-cons q c cs)
    by_first rest false is = let here = ap one is in omega (arith, rest, here, count-cons q c cs)

-- all of them
uses_list : State → List ℕ
uses_list s =
    somes s.held.places ++ (all_mapped (λ (f : WaitingFunction). f.request) s.functions.waiting ++ (map (λ (c : Command). c.request) (filter (is_used s.outbox) s.commands.items)
    ++ (all_mapped (λ (x : WaitingReply). x.request) s.replies.waiting ++ (all_somes s.noted.handed ++ all_somes s.unwritten.handed))))

module _ (s : State) where
  abbrev functions : List ℕ
  functions = all_mapped (λ (f : WaitingFunction). f.request) s.functions.waiting

  abbrev used : List ℕ
  used = map (λ (c : Command). c.request) (filter (is_used s.outbox) s.commands.items)

  abbrev replies : List ℕ
  replies = all_mapped (λ (x : WaitingReply). x.request) s.replies.waiting

  uses_listed : (p : ℕ) → times p (uses_list s) ≡ uses_of p s
  unfolding uses_list
  uses_listed p =
      let a = times_append p (somes s.held.places) (functions ++ (used ++ (replies ++ (all_somes s.noted.handed ++ all_somes s.unwritten.handed)))) in
      let b = times_append p functions (used ++ (replies ++ (all_somes s.noted.handed ++ all_somes s.unwritten.handed))) in
      let c = times_append p used (replies ++ (all_somes s.noted.handed ++ all_somes s.unwritten.handed)) in
      let d = times_append p replies (all_somes s.noted.handed ++ all_somes s.unwritten.handed) in
      let e = times_append p (all_somes s.noted.handed) (all_somes s.unwritten.handed) in
      let k = times_somes p s.held.places in
      let l = times_mapped (λ (f : WaitingFunction). f.request) p s.functions.waiting in
      let m = times_filtered p (is_used s.outbox) s.commands.items in
      let n = times_mapped (λ (x : WaitingReply). x.request) p s.replies.waiting in
      let q = times_all p s.noted.handed in
      let r = times_all p s.unwritten.handed in
      omega (arith, a, b, c, d, e, k, l, m, n, q, r)

  uses_few : length (uses_list s) ≤ length (somes s.held.places) + count_all s.functions.waiting + count_by (is_used s.outbox) s.commands.items + count_all s.replies.waiting + count_all s.noted.handed + count_all s.unwritten.handed
  unfolding uses_list
  uses_few =
      let a = length-append (somes s.held.places) (functions ++ (used ++ (replies ++ (all_somes s.noted.handed ++ all_somes s.unwritten.handed)))) in
      let b = length-append functions (used ++ (replies ++ (all_somes s.noted.handed ++ all_somes s.unwritten.handed))) in
      let c = length-append used (replies ++ (all_somes s.noted.handed ++ all_somes s.unwritten.handed)) in
      let d = length-append replies (all_somes s.noted.handed ++ all_somes s.unwritten.handed) in
      let e = length-append (all_somes s.noted.handed) (all_somes s.unwritten.handed) in
      let l = long_mapped (λ (f : WaitingFunction). f.request) s.functions.waiting in
      let m = long_filtered (is_used s.outbox) s.commands.items in
      let n = long_mapped (λ (x : WaitingReply). x.request) s.replies.waiting in
      let q = few_all s.noted.handed in
      let r = few_all s.unwritten.handed in
      omega (arith, a, b, c, d, e, l, m, n, q, r)

  -- no request has more uses than that
  pub uses_most : (p : ℕ) → uses_of p s ≤ length (somes s.held.places) + count_all s.functions.waiting + count_by (is_used s.outbox) s.commands.items + count_all s.replies.waiting + count_all s.noted.handed + count_all s.unwritten.handed
  uses_most p = omega (arith, uses_listed p, uses_few, as_many p (uses_list s))
    where
      as_many : (q : ℕ) (xs : List ℕ) → times q xs ≤ length xs
      as_many q [] = omega arith
      as_many q (x ∷ xs) = omega (arith, as_many q xs, small (x == q))
        where
          small : (v : Bool) → one v ≤ 1
          small true = omega arith
          small false = omega arith

  -- each request that is kept has a use
  pub requests_few : AreCounted s.cookies → ArePlaces s.cookies → ((p : ℕ) → uses_at p s.cookies ≡ uses_of p s)
      → length s.cookies.requests ≤ length (somes s.held.places) + count_all s.functions.waiting + count_by (is_used s.outbox) s.commands.items + count_all s.replies.waiting + count_all s.noted.handed + count_all s.unwritten.handed
  requests_few counted places uses = omega (arith, fewer_requests (uses_list s) s.cookies.requests counted.once there, uses_few)
    where
      there : (p : ℕ) → count_by (is_at p) s.cookies.requests ≤ times p (uses_list s)
      there p = ⊎_elim some (λ none. omega (arith, none)) (cases_lt 0 (count_by (is_at p) s.cookies.requests))
        where
          some : 0 < count_by (is_at p) s.cookies.requests → count_by (is_at p) s.cookies.requests ≤ times p (uses_list s)
          some lt =
              let x = counted_in (is_at p) s.cookies.requests (omega (arith, lt)) in
              let y = in_find (is_at p) s.cookies.requests x.x x.there x.passes in
              let at = found_used p s.cookies.requests counted.used y.0 y.1 in
              let same : uses_at p s.cookies ≡ y.0.uses = ap (λ z. elim z [ Some r ↦ r.uses | None ↦ 0 ]) y.1 in
              let e = uses p in
              omega (arith, at, same, e, uses_listed p, counted.once p)
            where
              found_used : (q : ℕ) (rs : List Request) → EachOf (λ (r : Request). 1 ≤ r.uses) rs → (r : Request) → find (is_at q) rs ≡ Some r → 1 ≤ r.uses
              found_used q [] each r is = absurd cc
              found_used q (x ∷ rs) each r is = by_first (found_used q rs each.1 r) (is_at q x) is
                where
                  by_first : (find (is_at q) rs ≡ Some r → 1 ≤ r.uses) → (v : Bool) → cond v (Some x) (find (is_at q) rs) ≡ Some r → 1 ≤ r.uses
                  by_first further true e = let same : x ≡ r = cc in subst (λ (z : Request). 1 ≤ z.uses) same each.0
                  by_first further false e = further e

-- so there is a free one
pub place_free : (v : Cookies) → ArePlaces v → length v.requests < v.room → is_some (next_place v) ≡ true
place_free v h lt = last_some v.free (let all = h.all in omega (arith, all, lt))
