-- The slots of a queue, and the values in them.
use Rattle.std.proofs.Common.{◌≡◌, ◌≢◌, ℕ, zero, suc, ◌+◌, ◌<◌, ◌≤◌, cond, false, List, [], ◌∷◌, ◌++◌, length, map, take, drop, drop-drop, get_or, set, refl, ap, sym, subst, ◌∙◌, arith, ⊎_elim, eq-eqb, ne_eqb}
use Rattle.std.specs.List.{remove, insert}
use Rattle.std.proofs.lemmas.Bool.{cases_eq}
use Rattle.std.proofs.lemmas.List.{length-drop, get_or-set_other}
use Rattle.std.proofs.lemmas.Bool.Decides.{nat_tests}
use Rattle.iscsi_slots.specs.Slots.{times, values}

-- a slot that stands first is counted
times_first : (slot : ℕ) (order : List ℕ) → times slot (slot ∷ order) ≡ 1 + times slot order
times_first slot order = ap (λ b. cond b 1 0 + times slot order) (eq-eqb slot slot refl)

times_apart : (slot s : ℕ) (order : List ℕ) → s ≢ slot → times slot (s ∷ order) ≡ times slot order
times_apart slot s order ne = let step : times slot (s ∷ order) ≡ cond false 1 0 + times slot order = ap (λ b. cond b 1 0 + times slot order) (ne_eqb s slot ne) in omega (arith, step)

-- a slot that stands somewhere is counted
pub times_at : (order : List ℕ) (k : ℕ) → k < length order → 1 ≤ times (get_or order k 0) order
times_at (s ∷ order) (suc k) within = grind (arith, nat_tests, times_at order k (omega arith), times_first, times_apart)
times_at order k within = grind (arith, nat_tests, times_first)

module _ {X : Type 0} (blank : X) (slots : List X) where
  -- what is written into a slot isn't seen by the others
  pub values_other : (slot : ℕ) (value : X) (order : List ℕ) → times slot order ≡ 0 → values blank (set slots slot value) order ≡ values blank slots order
  values_other slot value [] none = refl
  values_other slot value (s ∷ order) none = ⊎_elim
      (λ same. absurd (let first = times_first s order in let is : times s (s ∷ order) ≡ 0 = subst (λ n. times n (s ∷ order) ≡ 0) (sym same) none in omega (arith, first, is)))
      (λ apart. let more = times_apart slot s order apart in
      ap (λ x. x ∷ values blank (set slots slot value) order) (get_or-set_other slots slot s value blank apart) ∙ ap (λ xs. get_or slots s blank ∷ xs) (values_other slot value order (omega (arith, more, none))))
      (cases_eq s slot)

-- ---- lists of slots

pub times_append : (slot : ℕ) (xs ys : List ℕ) → times slot (xs ++ ys) ≡ times slot xs + times slot ys
times_append slot [] ys = omega arith
times_append slot (x ∷ xs) ys = let rest = times_append slot xs ys in omega (arith, rest)

pub times_remove : (slot : ℕ) (xs : List ℕ) (k : ℕ) → k < length xs → times slot xs ≡ times slot (remove xs k) + times slot (get_or xs k 0 ∷ [])
times_remove slot (x ∷ xs) (suc k) within = let rest = times_remove slot xs k (omega arith) in omega (arith, rest)
times_remove slot xs k within = grind (arith, nat_tests)

pub map-remove : {X Y : Type 0} (f : X → Y) (xs : List X) (k : ℕ) → map f (remove xs k) ≡ remove (map f xs) k
map-remove f [] zero = refl
map-remove f [] (suc k) = refl
map-remove f (x ∷ xs) zero = refl
map-remove f (x ∷ xs) (suc k) = ap (λ ys. f x ∷ ys) (map-remove f xs k)

pub drop-remove : {X : Type 0} (xs : List X) (n k : ℕ) → n + k < length xs → drop n (remove xs (n + k)) ≡ remove (drop n xs) k
drop-remove (x ∷ xs) (suc n) k within =
    let same : suc n + k ≡ suc (n + k) = omega arith in
    ap (λ i. drop (suc n) (remove (x ∷ xs) i)) same ∙ drop-remove xs n k (omega arith)
drop-remove xs n k within = grind (arith, nat_tests)

-- those before a place move over it
pub drop-moved_down : {X : Type 0} (xs : List X) (n k i : ℕ) → n + k < length xs → i ≡ n + 1 + k → drop (suc n) ((take (suc n) xs ++ take k (drop n xs)) ++ drop i xs) ≡ remove (drop n xs) k
drop-moved_down [] n k i within is = absurd (omega arith)
drop-moved_down (x ∷ xs) n k zero within is = absurd (omega arith)
drop-moved_down (x ∷ xs) zero k (suc i) within is = let same : i ≡ k = omega arith in ap (λ j. take k (x ∷ xs) ++ drop j xs) same
drop-moved_down (x ∷ xs) (suc n) k (suc i) within is = drop-moved_down xs n k i (omega arith) (omega arith)

-- so do some that stand before `n`, of which nobody asks
pub drop-moved_block : {X : Type 0} (xs : List X) (m f n k i : ℕ) → n ≡ m + f → n + k < length xs → i ≡ n + 1 + k
    → drop (suc n) ((take (suc m) xs ++ take (f + k) (drop m xs)) ++ drop i xs) ≡ remove (drop n xs) k
drop-moved_block xs m f n k i sum within is =
    let moved = (take (suc m) xs ++ take (f + k) (drop m xs)) ++ drop i xs in
    let cut : suc n ≡ suc m + f = omega (arith, sum) in
    ap (λ j. drop j moved) cut ∙ sym (drop-drop f (suc m) moved)
    ∙ ap (drop f) (drop-moved_down xs m (f + k) i (omega (arith, sum, within)) (omega (arith, sum, is)))
    ∙ drop-remove (drop m xs) f k (omega (arith, length-drop m xs, sum, within))
    ∙ ap (λ ys. remove ys k) (drop-drop f m xs ∙ ap (λ j. drop j xs) (sym sum))

pub drop-insert : {X : Type 0} (xs : List X) (n k : ℕ) (x : X) → n + k ≤ length xs → drop n (insert xs (n + k) x) ≡ insert (drop n xs) k x
drop-insert (y ∷ xs) (suc n) k x within =
    let same : suc n + k ≡ suc (n + k) = omega arith in
    ap (λ i. drop (suc n) (insert (y ∷ xs) i x)) same ∙ drop-insert xs n k x (omega arith)
drop-insert xs n k x within = grind (arith, nat_tests)

pub times_insert : (slot : ℕ) (xs : List ℕ) (k s : ℕ) → k ≤ length xs → times slot (insert xs k s) ≡ times slot xs + times slot (s ∷ [])
times_insert slot (x ∷ xs) (suc k) s within = let rest = times_insert slot xs k s (omega (arith, within)) in omega (arith, rest)
times_insert slot xs k s within = grind (arith, nat_tests)

pub map-insert : {X Y : Type 0} (f : X → Y) (xs : List X) (k : ℕ) (x : X) → map f (insert xs k x) ≡ insert (map f xs) k (f x)
map-insert f xs zero x = refl
map-insert f [] (suc k) x = refl
map-insert f (y ∷ xs) (suc k) x = ap (λ ys. f y ∷ ys) (map-insert f xs k x)

-- a slot that is counted stands at a place
pub record StandsAt (slot : ℕ) (order : List ℕ) : Type 0 where
  pub place : ℕ
  pub inside : place < length order
  pub there : get_or order place 0 ≡ slot

pub stands : (slot : ℕ) (order : List ℕ) → 1 ≤ times slot order → StandsAt slot order
stands slot [] some = absurd (omega (arith, some))
stands slot (s ∷ order) some = ⊎_elim
    (λ same. record { place = 0; inside = omega arith; there = same })
    (λ apart. let more = times_apart slot s order apart in let rest = stands slot order (omega (arith, more, some)) in record { place = suc rest.place; inside = let l = rest.inside in omega (arith, l); there = rest.there })
    (cases_eq s slot)
